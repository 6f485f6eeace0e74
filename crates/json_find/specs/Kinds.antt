-- A boolean that is true; a string that is a fixed one, on its text and on its meaning. The laws of proofs/Meaning say that these agree.
-- Assumes nothing.
use Rattle.std.specs.Prelude.{ℕ, Bool, false, List, [], ◌∷◌, eqb}
use Rattle.basis.specs.Lists.{same_bytes}
use Rattle.basis.specs.Pick.{pick}
use Rattle.json_text.specs.Decoded.{decoded, is_text}
use Rattle.json_value.specs.Grammar.{Json}
use Rattle.json_value.specs.Grammar.Json.{null, bool, num, str, arr, obj}

abbrev pub is_true : Json → Bool
is_true null = false
is_true (bool b) = b
is_true (num d) = false
is_true (str d) = false
is_true (arr js) = false
is_true (obj ms) = false

unfoldable pub string_at : List ℕ → List ℕ → Bool
string_at fixed [] = false
string_at fixed (b ∷ t) = pick (eqb b 0x22) (is_text (decoded t) fixed) false

-- a string, after decoding, is the fixed one
abbrev pub is_str : List ℕ → Json → Bool
is_str fixed null = false
is_str fixed (bool b) = false
is_str fixed (num d) = false
is_str fixed (str d) = same_bytes d fixed
is_str fixed (arr js) = false
is_str fixed (obj ms) = false
