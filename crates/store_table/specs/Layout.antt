-- Where each part of the site table stands in its bytes, the table that they are, and the bytes that a table is.
-- 0 components, 2 alarms, 4 statuses, 6 commands: how many, in 2 bytes each, the high one first; 8 site, 41 sxl, 74 component ids: labels of 33 bytes;
-- 338 alarms, 2674 statuses, 5010 commands: rows of 73 bytes.
-- Assumes nothing.
use Rattle.std.specs.Prelude.{ℕ, ◌+◌, ◌*◌, ◌/◌, ◌%◌, List, [], ◌∷◌, ◌++◌}
use Rattle.label.specs.declared.Label.{Label}
use Rattle.table_item.specs.declared.Item.{Item}
use Rattle.table_whole.specs.declared.SiteTable.{SiteTable}
use Rattle.table_whole.specs.Bytes.{in_turn}
use Rattle.store_words.specs.Words.{word, list_of}

abbrev pub table_bytes : ℕ
table_bytes = 6178

abbrev pub count_in : List ℕ → ℕ → ℕ
count_in bs i = 256 * word bs i + word bs (i + 1)

-- 32 bytes and how many of them are its text
unfoldable pub label_in : List ℕ → ℕ → Label
label_in bs i = record { bytes = list_of (λ (j : ℕ). word bs (i + j)) 32; length = word bs (i + 32) }

unfoldable pub item_in : List ℕ → ℕ → Item
item_in bs i =
    record {
      code = label_in bs i;
      name = label_in bs (i + 33);
      component = word bs (i + 66);
      priority = word bs (i + 67);
      category = word bs (i + 68);
      lowest = count_in bs (i + 69);
      highest = count_in bs (i + 71);
    }

unfoldable pub labels_in : List ℕ → ℕ → List Label
labels_in bs i = list_of (λ (k : ℕ). label_in bs (i + 33 * k)) 8

unfoldable pub items_in : List ℕ → ℕ → ℕ → List Item
items_in bs i n = list_of (λ (k : ℕ). item_in bs (i + 73 * k)) n

unfoldable pub table_of : List ℕ → SiteTable
table_of bs =
    record {
      componentcount = count_in bs 0;
      alarmcount = count_in bs 2;
      statuscount = count_in bs 4;
      commandcount = count_in bs 6;
      site = label_in bs 8;
      sxl = label_in bs 41;
      components = labels_in bs 74;
      alarms = items_in bs 338 32;
      statuses = items_in bs 2674 32;
      commands = items_in bs 5010 16;
    }

abbrev pub count_bytes : ℕ → List ℕ
count_bytes n = n / 256 ∷ n % 256 ∷ []

unfoldable pub label_bytes : Label → List ℕ
label_bytes l = l.bytes ++ (l.length ∷ [])

unfoldable pub item_bytes : Item → List ℕ
item_bytes x =
    label_bytes x.code
    ++ (label_bytes x.name
    ++ (x.component ∷ x.priority ∷ x.category ∷ (count_bytes x.lowest ++ count_bytes x.highest)))

-- how many of each, and what the site is called
unfoldable pub head_bytes : SiteTable → List ℕ
head_bytes x =
    count_bytes x.componentcount
    ++ (count_bytes x.alarmcount
    ++ (count_bytes x.statuscount
    ++ (count_bytes x.commandcount
    ++ (label_bytes x.site
    ++ label_bytes x.sxl))))

unfoldable pub layout_of : SiteTable → List ℕ
layout_of x =
    head_bytes x
    ++ (in_turn label_bytes x.components
    ++ (in_turn item_bytes x.alarms
    ++ (in_turn item_bytes x.statuses
    ++ in_turn item_bytes x.commands)))
