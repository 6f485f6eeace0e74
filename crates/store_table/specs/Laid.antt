-- What a store of bytes in turn leaves: those before it, then these; and a table whose lists have their lengths, as one by value always has.
-- Assumes nothing.
use Rattle.std.specs.Prelude.{ℕ, ◌+◌, ◌<◌, ◌≡◌, List, ◌++◌, length, get_or, take}
use Rattle.label.specs.declared.Label.{Label}
use Rattle.label.specs.Label.{no_label}
use Rattle.table_item.specs.declared.Item.{Item}
use Rattle.table_item.specs.Item.{no_item}
use Rattle.table_whole.specs.declared.SiteTable.{SiteTable}

-- n bytes from `at` on are these, those before as they were
pub record Laid (xs : List ℕ) (at n : ℕ) (bs ys : List ℕ) : Type 0 where
  pub upto : take (at + n) ys ≡ take at xs ++ bs

abbrev pub LabelFits : Label → Type 0
LabelFits l = length l.bytes ≡ 32

pub record ItemFits (x : Item) : Type 0 where
  pub code : LabelFits x.code
  pub name : LabelFits x.name

pub record TableFits (x : SiteTable) : Type 0 where
  pub site : LabelFits x.site
  pub sxl : LabelFits x.sxl
  pub components : length x.components ≡ 8
  pub alarms : length x.alarms ≡ 32
  pub statuses : length x.statuses ≡ 32
  pub commands : length x.commands ≡ 16
  pub component : (k : ℕ) → k < 8 → LabelFits (get_or x.components k no_label)
  pub alarm : (k : ℕ) → k < 32 → ItemFits (get_or x.alarms k no_item)
  pub status : (k : ℕ) → k < 32 → ItemFits (get_or x.statuses k no_item)
  pub command : (k : ℕ) → k < 16 → ItemFits (get_or x.commands k no_item)
