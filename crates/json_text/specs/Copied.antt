-- A string copied out of a text: at most n code points, and at most 36, all of them ASCII, so that each is one byte of UTF-8.
-- A longer string, another one, and no string at all give the same answer.
-- Assumes nothing.
use Rattle.std.specs.Prelude.{ℕ, ◌-◌, Bool, true, false, List, [], ◌∷◌, ◌++◌, length, replicate, ltb, leb}
use Rattle.basis.specs.Pick.{pick, both}
use Rattle.json_text.specs.Decoded.{Parsed}
use Rattle.json_text.specs.Decoded.Parsed.{ok, none}
use Rattle.json_text.specs.declared.Copied.{Copied}

-- every code point is below 128
unfoldable pub ascii : List ℕ → Bool
ascii [] = true
ascii (c ∷ d) = both (ltb c 128) (ascii d)

unfoldable pub no_copy : Copied
no_copy = record { length = 0; bytes = replicate 36 0; ok = false }

-- the code points as bytes, and zeros after them
unfoldable pub copied : ℕ → List ℕ → Copied
copied n d =
    pick (both (leb (length d) n) (both (leb (length d) 36) (ascii d)))
    (record { length = length d; bytes = d ++ replicate (36 - length d) 0; ok = true })
    no_copy

abbrev pub copy_of : ℕ → Parsed (List ℕ) → Copied
copy_of n (ok d r) = copied n d
copy_of n none = no_copy
