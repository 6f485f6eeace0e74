-- What reading rows gives: the rows in place and the place behind them, or a place that is far behind every table.
-- Assumes nothing.
use Rattle.std.specs.Prelude.{ℕ, zero, suc, ◌+◌, Bool, List, ltb, leb, eqb, length, get_or, take, drop, set, replicate}
use Rattle.basis.specs.Pick.{pick, both}
use Rattle.bits.specs.Fields.{field_of, number_of}
use Rattle.number.specs.Signed.{signed16_of, at_most}
use Rattle.label.specs.declared.LabelRead.{LabelRead}
use Rattle.label.specs.Label.{no_label}
use Rattle.label.specs.Reading.{far, read_at}
use Rattle.table_item.specs.declared.Item.{Item}
use Rattle.table_item.specs.Item.{no_item}
use Rattle.table_row.specs.declared.Kind.{Kind}
use Rattle.table_row.specs.declared.Kind.TheVariants.{Alarm, Status, Command}
use Rattle.table_row.specs.declared.ItemRead.{ItemRead}
use Rattle.table_row.specs.declared.ItemsRead.{ItemsRead}
use Rattle.table_row.specs.declared.LabelsRead.{LabelsRead}

abbrev pub missed_item : ItemRead
missed_item = record { item = no_item; next = far }

-- an alarm's first byte: component 3, priority 2, category 1, zero 2
unfoldable pub good_alarm : ℕ → ℕ → Bool
good_alarm components b = both (eqb (field_of b 0 2) 0) (both (leb 1 (field_of b 3 2)) (ltb (field_of b 5 3) components))

abbrev pub alarm_with : ℕ → LabelRead → ItemRead
alarm_with b code =
    record {
      item = record { code = code.label; name = no_label; component = field_of b 5 3; priority = field_of b 3 2; category = field_of b 2 1; lowest = 0; highest = 0 };
      next = code.next;
    }

unfoldable pub alarm_at : List ℕ → ℕ → ℕ → ItemRead
alarm_at s components at =
    pick (ltb at (length s))
    (pick (good_alarm components (get_or s at 0)) (alarm_with (get_or s at 0) (read_at s (at + 1))) missed_item)
    missed_item

-- a status' first byte: component 3, zero 5
unfoldable pub good_status : ℕ → ℕ → Bool
good_status components b = both (eqb (field_of b 0 5) 0) (ltb (field_of b 5 3) components)

abbrev pub status_with : ℕ → LabelRead → LabelRead → ItemRead
status_with b code name =
    record {
      item = record { code = code.label; name = name.label; component = field_of b 5 3; priority = 0; category = 0; lowest = 0; highest = 0 };
      next = name.next;
    }

unfoldable pub status_at : List ℕ → ℕ → ℕ → ItemRead
status_at s components at =
    pick (ltb at (length s))
    (pick (good_status components (get_or s at 0)) (status_with (get_or s at 0) (read_at s (at + 1)) (read_at s (read_at s (at + 1)).next)) missed_item)
    missed_item

-- the 32 bits at a place
abbrev pub range_at : List ℕ → ℕ → ℕ
range_at s at = number_of (take 4 (drop at s))

abbrev pub ranged : Item → ℕ → Item
ranged i n =
    record {
      code = i.code;
      name = i.name;
      component = i.component;
      priority = i.priority;
      category = i.category;
      lowest = field_of n 16 16;
      highest = field_of n 0 16;
    }

-- lowest 16, highest 16, each in two's complement
unfoldable pub good_range : ℕ → Bool
good_range n = at_most (signed16_of (field_of n 16 16)) (signed16_of (field_of n 0 16))

unfoldable pub with_range : List ℕ → ItemRead → ItemRead
with_range s r =
    pick (leb (r.next + 4) (length s))
    (pick (good_range (range_at s r.next)) (record { item = ranged r.item (range_at s r.next); next = r.next + 4 }) missed_item)
    missed_item

unfoldable pub command_at : List ℕ → ℕ → ℕ → ItemRead
command_at s components at = with_range s (status_at s components at)

abbrev pub item_at : List ℕ → Kind → ℕ → ℕ → ItemRead
item_at s Alarm components at = alarm_at s components at
item_at s Status components at = status_at s components at
item_at s Command components at = command_at s components at

-- one row more, at place i
abbrev pub more_items : List ℕ → Kind → ℕ → ℕ → ItemsRead → ItemsRead
more_items s kind components i r =
    record { items = set r.items i (item_at s kind components r.next).item; next = (item_at s kind components r.next).next }

abbrev pub no_items : ℕ → ItemsRead
no_items at = record { items = replicate 32 no_item; next = at }

unfoldable pub items_to : List ℕ → Kind → ℕ → ℕ → ℕ → ItemsRead
items_to s kind components at zero = no_items at
items_to s kind components at (suc i) = more_items s kind components i (items_to s kind components at i)

-- one string more, at place i
abbrev pub more_labels : List ℕ → ℕ → LabelsRead → LabelsRead
more_labels s i r = record { labels = set r.labels i (read_at s r.next).label; next = (read_at s r.next).next }

abbrev pub no_labels : ℕ → LabelsRead
no_labels at = record { labels = replicate 8 no_label; next = at }

unfoldable pub labels_to : List ℕ → ℕ → ℕ → LabelsRead
labels_to s at zero = no_labels at
labels_to s at (suc i) = more_labels s i (labels_to s at i)
