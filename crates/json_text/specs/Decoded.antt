-- A string's characters, up to the closing quotation mark, as a list of code points; and two comparisons of them.
-- Assumes nothing.
use Rattle.std.specs.Prelude.{ℕ, zero, suc, ◌+◌, Bool, false, List, [], ◌∷◌, length, drop}
use Rattle.basis.specs.Lists.{same_bytes}
use Rattle.json_character.specs.Char.{char_of}
use Rattle.json_character.specs.declared.Char.{Char}
use Rattle.json_character.specs.declared.Char.TheVariants.{One, Close, Bad}

-- what was read, and what follows it; or nothing
pub data Parsed (A : Type 0) : Type 0 where
  ok : A → List ℕ → Parsed A
  none : Parsed A

abbrev pub push : ℕ → Parsed (List ℕ) → Parsed (List ℕ)
push c (ok d r) = ok (c ∷ d) r
push c none = none

abbrev pub by_char : (List ℕ → Parsed (List ℕ)) → Char → List ℕ → Parsed (List ℕ)
by_char more (One c w) t = push c (more (drop (1 + w) t))
by_char more Close t = ok [] (drop 1 t)
by_char more Bad t = none

-- at most n characters and the closing quotation mark
unfoldable pub read_chars : ℕ → List ℕ → Parsed (List ℕ)
read_chars zero t = none
read_chars (suc n) t = by_char (λ u. read_chars n u) (char_of t) t

-- the characters up to the closing quotation mark, fewer than there are bytes
unfoldable pub decoded : List ℕ → Parsed (List ℕ)
decoded t = read_chars (length t) t

-- a string is read, and its code points are the numbers n: a name of ASCII is given by its bytes
abbrev pub is_text : Parsed (List ℕ) → List ℕ → Bool
is_text (ok d r) n = same_bytes d n
is_text none n = false

-- two strings are read, and have the same code points
abbrev pub same_text : Parsed (List ℕ) → Parsed (List ℕ) → Bool
same_text (ok d r) q = is_text q d
same_text none q = false
