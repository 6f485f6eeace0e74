-- A choice by a test. Definitions go by `pick` over `ltb`, `leb` and `eqb`, so that a reader sees which test comes first.
-- Assumes nothing.
use Rattle.std.specs.Prelude.{Bool, true, false, ℕ}

abbrev pub pick : {A : Type 0} → Bool → A → A → A
pick true a b = a
pick false a b = b

abbrev pub both : Bool → Bool → Bool
both true b = b
both false b = false

abbrev pub bit : Bool → ℕ
bit true = 1
bit false = 0
