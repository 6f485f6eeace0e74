-- The text of an identity: 36 characters, small hexadecimal digits 8-4-4-4-12.
-- Assumes nothing.
use Rattle.std.specs.Prelude.{List, [], ◌∷◌, ◌++◌, ℕ, zero, suc, ◌/◌, ◌%◌, get_or}
use Rattle.basis.specs.Text.{text}
use Rattle.identity.specs.Hex.{hex_digit}

-- the n bytes from index i on, two digits each
abbrev pub hex_bytes : List ℕ → ℕ → ℕ → List ℕ
hex_bytes bs i zero = []
hex_bytes bs i (suc n) = hex_digit (get_or bs i 0 / 16) ∷ hex_digit (get_or bs i 0 % 16) ∷ hex_bytes bs (suc i) n

unfoldable pub identity_text : List ℕ → List ℕ
identity_text bs =
    hex_bytes bs 0 4 ++ text "-" ++ hex_bytes bs 4 2 ++ text "-" ++ hex_bytes bs 6 2 ++ text "-" ++ hex_bytes bs 8 2 ++ text "-" ++ hex_bytes bs 10 6
