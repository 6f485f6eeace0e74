-- The aggregated value: document 01, "Alarms and subscriptions".
-- Assumes nothing.
use Rattle.std.specs.Prelude.{ℕ, true, false, eqb}
use Rattle.basis.specs.Pick.{pick}
use Rattle.aggregated.specs.declared.Aggregated.{Aggregated}
use Rattle.aggregated.specs.declared.Set.{Set}

-- it starts all false at the start time
abbrev pub beginning : ℕ → Aggregated
beginning time = record { time = time; value = 0 }

-- only a changed one counts, and its time is kept
unfoldable pub set_of : Aggregated → ℕ → ℕ → Set
set_of a value time =
    pick (eqb a.value value)
    (record { aggregated = a; changed = false })
    (record { aggregated = record { time = time; value = value }; changed = true })
