-- The plain characters that a text begins with: each is one byte, and stands for itself.
-- Assumes nothing.
use Rattle.std.specs.Prelude.{ℕ, zero, suc, List, [], ◌∷◌}
use Rattle.basis.specs.Pick.{pick}
use Rattle.json_character.specs.Char.{is_plain}

-- how many there are
unfoldable pub run : List ℕ → ℕ
run [] = zero
run (b ∷ t) = pick (is_plain b) (suc (run t)) zero
