-- What a place of a slice means.
-- Assumes nothing.
use Rattle.std.specs.Prelude.{ℕ, List, drop}
use Rattle.json_value.specs.Grammar.{Json, Value}

-- "nesting to eight levels"
abbrev pub depth : ℕ
depth = 8

-- at the place p of s stands a value, which means j
pub record Means (s : List ℕ) (p : ℕ) (j : Json) : Type 0 where
  pub rest : List ℕ
  pub stands : Value depth (drop p s) rest j
