-- A status' value, and when setting it is a first or changed value.
-- Assumes nothing.
use Rattle.std.specs.Prelude.{ℕ, Bool, true, not, eqb}
use Rattle.basis.specs.Pick.{pick}
use Rattle.status.specs.declared.Status.{Status}
use Rattle.status.specs.declared.Set.{Set}

abbrev pub unknown : Status
unknown = record { value = 0; known = 0 }

-- the status that holds a value, in two's complement
abbrev pub holding : ℕ → Status
holding value = record { value = value; known = 1 }

-- the value is kept; it is news where it is the first, or not the one before
abbrev pub news : Status → ℕ → Bool
news s value = pick (eqb s.known 1) (not (eqb s.value value)) true

abbrev pub set_of : Status → ℕ → Set
set_of s value = record { status = holding value; changed = news s value }

-- the value, or 0 where there is none
abbrev pub held_of : Status → ℕ
held_of s = pick (eqb s.known 1) s.value 0
