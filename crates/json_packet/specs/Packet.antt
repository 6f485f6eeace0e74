-- "A packet is one JSON object, valid UTF-8, nesting to eight levels (the object is level 1), escapes resolved before
-- comparing, no lone surrogate, no name twice in an object."
-- Assumes nothing.
use Rattle.std.specs.Prelude.{ℕ, ◌≡◌, Bool, true, false, List, [], ◌∷◌}
use Rattle.basis.specs.Pick.{both}
use Rattle.json_text.specs.Decoded.{Parsed}
use Rattle.json_text.specs.Decoded.Parsed.{ok, none}
use Rattle.json_value.specs.Grammar.{Json, Members, Ws, Value}
use Rattle.json_value.specs.Grammar.Json.{null, bool, num, str, arr, obj}
use Rattle.json_value.specs.Reader.{skip_ws, read_value}
use Rattle.json_value.specs.Means.{depth}
use Rattle.json_packet.specs.Names.{no_twice}

-- ws object ws, and no name twice
pub data Packet : List ℕ → Json → Type 0 where
  packet : {s u v : List ℕ} {ms : Members} → Ws s u → Value depth u v (obj ms) → Ws v [] → no_twice (obj ms) ≡ true → Packet s (obj ms)

abbrev pub is_object : Json → Bool
is_object null = false
is_object (bool b) = false
is_object (num d) = false
is_object (str d) = false
is_object (arr js) = false
is_object (obj ms) = true

abbrev pub is_empty : List ℕ → Bool
is_empty [] = true
is_empty (b ∷ t) = false

abbrev pub accepted : Parsed Json → Bool
accepted (ok j r) = both (is_object j) (both (is_empty (skip_ws r)) (no_twice j))
accepted none = false

-- the executable form of `Packet`, and the meaning of one
unfoldable pub is_packet : List ℕ → Bool
is_packet s = accepted (read_value depth (skip_ws s))

abbrev pub json_of : Parsed Json → Json
json_of (ok j r) = j
json_of none = null

unfoldable pub meaning_of : List ℕ → Json
meaning_of s = json_of (read_value depth (skip_ws s))
