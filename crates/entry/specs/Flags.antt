-- The flags of a record: six bits, most significant first.
-- Assumes nothing.
use Rattle.std.specs.Prelude.{Bool, List, [], ◌∷◌, ℕ, eqb}
use Rattle.basis.specs.Pick.{bit}
use Rattle.bits.specs.Fields.{joined, field_of}

-- the bit of flags that has s bits behind it
abbrev pub is_set : ℕ → ℕ → Bool
is_set flags s = eqb (field_of flags s 1) 1

-- of an alarm: aSp 2, acknowledged, active, suspended, 0
abbrev pub alarm_widths : List ℕ
alarm_widths = 2 ∷ 1 ∷ 1 ∷ 1 ∷ 1 ∷ []

unfoldable pub alarm_flags : ℕ → Bool → Bool → Bool → ℕ
alarm_flags event acknowledged active suspended =
    joined 0 alarm_widths (event ∷ bit acknowledged ∷ bit active ∷ bit suspended ∷ 0 ∷ [])

abbrev pub event_of : ℕ → ℕ
event_of flags = field_of flags 4 2

abbrev pub is_acknowledged : ℕ → Bool
is_acknowledged flags = is_set flags 3

abbrev pub is_active : ℕ → Bool
is_active flags = is_set flags 2

abbrev pub is_suspended : ℕ → Bool
is_suspended flags = is_set flags 1

-- of a status: known, old, four zeros
abbrev pub status_widths : List ℕ
status_widths = 1 ∷ 1 ∷ 4 ∷ []

unfoldable pub status_flags : Bool → Bool → ℕ
status_flags known old = joined 0 status_widths (bit known ∷ bit old ∷ 0 ∷ [])

abbrev pub is_known : ℕ → Bool
is_known flags = is_set flags 5

abbrev pub is_old : ℕ → Bool
is_old flags = is_set flags 4
