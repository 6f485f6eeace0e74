-- A string of the site table: its bytes there, and how it is kept.
-- Assumes nothing.
use Rattle.std.specs.Prelude.{ℕ, List, ◌∷◌, length, take, replicate}
use Rattle.label.specs.declared.Label.{Label}
use Rattle.label.specs.Padded.{padded}

-- a length byte and that many bytes
abbrev pub string : List ℕ → List ℕ
string s = length s ∷ s

-- a text of at most 32 bytes as it is kept
abbrev pub label_of : List ℕ → Label
label_of s = record { bytes = padded 32 0 s; length = length s }

abbrev pub no_label : Label
no_label = record { bytes = replicate 32 0; length = 0 }

abbrev pub text_of : Label → List ℕ
text_of l = take l.length l.bytes
