-- The records that a call issues, place by place upwards: "Several records in a call: links upwards, statuses upwards".
-- Assumes nothing.
use Rattle.std.specs.Prelude.{ℕ, zero, suc, Bool, List, [], ◌∷◌, ◌++◌}
use Rattle.basis.specs.Pick.{pick}
use Rattle.entry.specs.declared.Entry.{Entry}

-- those of the places 0 to n - 1, where f says those of a place
abbrev pub entries_to : (ℕ → List Entry) → ℕ → List Entry
entries_to f zero = []
entries_to f (suc k) = entries_to f k ++ f k

-- one record where b, else none
abbrev pub entry_if : Bool → Entry → List Entry
entry_if b e = pick b (e ∷ []) []
