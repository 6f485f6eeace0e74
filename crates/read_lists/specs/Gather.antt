-- A list read item by item.
-- Assumes nothing.
use Rattle.std.specs.Prelude.{List, [], ◌∷◌}
use Rattle.read_lists.specs.Items.{Item, Items, absent, other, items}

-- each item in turn changes what was gathered before it
unfoldable pub gather : {A : Type 0} → (A → Item → A) → A → List Item → A
gather push a [] = a
gather push a (x ∷ xs) = gather push (push a x) xs

-- what is gathered from an element; else what stands for a missing one, and for one that is no list
abbrev pub gathered : {A : Type 0} → (A → Item → A) → A → A → A → Items → A
gathered push start none bad absent = none
gathered push start none bad other = bad
gathered push start none bad (items xs) = gather push start xs
