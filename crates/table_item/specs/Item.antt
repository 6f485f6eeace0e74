-- A row of the alarms, of the statuses or of the commands as it is kept, and what it is called.
-- Assumes nothing.
use Rattle.std.specs.Prelude.{ℕ, Bool, List, eqb}
use Rattle.basis.specs.Pick.{both}
use Rattle.basis.specs.Lists.{same_bytes}
use Rattle.label.specs.Label.{no_label, text_of}
use Rattle.table_item.specs.declared.Item.{Item}

abbrev pub no_item : Item
no_item = record { code = no_label; name = no_label; component = 0; priority = 0; category = 0; lowest = 0; highest = 0 }

-- a row is called by its component, code and name, byte for byte; an alarm's name is empty
unfoldable pub is_item : ℕ → List ℕ → List ℕ → Item → Bool
is_item component code name row =
    both (eqb row.component component) (both (same_bytes (text_of row.code) code) (same_bytes (text_of row.name) name))
