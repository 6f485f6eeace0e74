-- Hexadecimal digits: the small ones are written, either case is read.
-- Assumes nothing.
use Rattle.std.specs.Prelude.{List, map, ℕ, ◌+◌, ◌-◌, ltb}
use Rattle.basis.specs.Pick.{pick}

-- the small digit of a number below 16: 0 to 9, a to f
unfoldable pub hex_digit : ℕ → ℕ
hex_digit n = pick (ltb n 10) (48 + n) (87 + n)

-- the number of a small digit; 0 of any other byte
unfoldable pub hex_value : ℕ → ℕ
hex_value c = pick (ltb c 48) 0 (pick (ltb c 58) (c - 48) (pick (ltb c 97) 0 (pick (ltb c 103) (c - 87) 0)))

-- A to F become a to f; any other byte stays
unfoldable pub lower_hex : ℕ → ℕ
lower_hex c = pick (ltb c 65) c (pick (ltb c 71) (c + 32) c)

-- a text with its letters A to F made small
abbrev pub lowered : List ℕ → List ℕ
lowered s = map lower_hex s
