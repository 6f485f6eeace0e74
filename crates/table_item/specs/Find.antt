-- The first place that passes a test, and whether every place is found as itself.
-- Assumes nothing.
use Rattle.std.specs.Prelude.{ℕ, zero, suc, Bool, true, false, List, eqb, get_or}
use Rattle.basis.specs.Pick.{pick, both}
use Rattle.basis.specs.Lists.{same_bytes}
use Rattle.label.specs.declared.Label.{Label}
use Rattle.label.specs.Label.{no_label, text_of}
use Rattle.table_item.specs.declared.Item.{Item}
use Rattle.table_item.specs.declared.Found.{Found}
use Rattle.table_item.specs.declared.Found.TheVariants.{At, Nothing}
use Rattle.table_item.specs.Item.{no_item, is_item}

-- the first of the n places from i on that passes
abbrev pub first_from : (ℕ → Bool) → ℕ → ℕ → Found
first_from f i zero = Nothing
first_from f i (suc n) = pick (f i) (At i) (first_from f (suc i) n)

-- whether each of the first n places passes
abbrev pub each : (ℕ → Bool) → ℕ → Bool
each f zero = true
each f (suc n) = both (each f n) (f n)

abbrev pub found_at : ℕ → Found → Bool
found_at i (At j) = eqb i j
found_at i Nothing = false

-- place i holds this text
abbrev pub label_at : List Label → List ℕ → ℕ → Bool
label_at labels text i = same_bytes (text_of (get_or labels i no_label)) text

abbrev pub find_label : List Label → ℕ → List ℕ → Found
find_label labels count text = first_from (label_at labels text) 0 count

-- place i holds the row that is called so
abbrev pub item_at : List Item → ℕ → List ℕ → List ℕ → ℕ → Bool
item_at items component code name i = is_item component code name (get_or items i no_item)

abbrev pub find_item : List Item → ℕ → ℕ → List ℕ → List ℕ → Found
find_item items count component code name = first_from (item_at items component code name) 0 count

-- a place is found by what it is called
abbrev pub own_label : List Label → ℕ → ℕ → Bool
own_label labels count i = found_at i (find_label labels count (text_of (get_or labels i no_label)))

abbrev pub item_like : List Item → ℕ → Item → Found
item_like items count row = find_item items count row.component (text_of row.code) (text_of row.name)

abbrev pub own_item : List Item → ℕ → ℕ → Bool
own_item items count i = found_at i (item_like items count (get_or items i no_item))

-- none of the first count places is called like another
abbrev pub own_labels : List Label → ℕ → Bool
own_labels labels count = each (own_label labels count) count

abbrev pub own_items : List Item → ℕ → Bool
own_items items count = each (own_item items count) count
