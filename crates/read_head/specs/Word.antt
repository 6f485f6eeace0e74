-- The strings among the elements of an object. No string that is used is longer than 36 characters, and all of them are of ASCII.
-- Assumes nothing.
use Rattle.std.specs.Prelude.{Bool, true, false, List, [], ◌∷◌, ℕ, leb, eqb, length, take, drop}
use Rattle.basis.specs.Pick.{pick, both}
use Rattle.json_text.specs.declared.Read.{Read}
use Rattle.json_text.specs.declared.Read.TheVariants.{End, Bad}
use Rattle.json_text.specs.Decoded.{Parsed, decoded}
use Rattle.json_text.specs.Decoded.Parsed.{ok, none}
use Rattle.json_text.specs.Copied.{ascii, no_copy, copied}
use Rattle.json_value.specs.Grammar.{Json}
use Rattle.json_value.specs.Grammar.Json.{null, bool, num, str, arr, obj}
use Rattle.json_find.specs.Lookup.{Found, member}
use Rattle.json_find.specs.Lookup.Found.{found, missing}
use Rattle.json_find.specs.Entries.{member_at}
use Rattle.read_head.specs.declared.Element.{Element}

-- what an element is: not there; there, and no string that can be used; a string of these characters
pub data Word : Type 0 where
  absent : Word
  other : Word
  word : List ℕ → Word

abbrev pub word_for : List ℕ → Word
word_for d = pick (both (leb (length d) 36) (ascii d)) (word d) other

abbrev pub said : Json → Word
said null = other
said (bool b) = other
said (num d) = other
said (str d) = word_for d
said (arr js) = other
said (obj ms) = other

abbrev pub said_of : Found → Word
said_of (found j) = said j
said_of missing = absent

-- the element of a name
unfoldable pub word_in : Json → List ℕ → Word
word_in j name = said_of (member name j)

-- the same on the text of an object, as the code looks it up; the claims say that it is the same

abbrev pub read_word : Parsed (List ℕ) → Word
read_word (ok d r) = word_for d
read_word none = other

unfoldable pub word_here : List ℕ → Word
word_here [] = other
word_here (b ∷ t) = pick (eqb b 0x22) (read_word (decoded t)) other

abbrev pub word_behind : Parsed (List ℕ) → Word
word_behind (ok x t) = word_here t
word_behind none = absent

unfoldable pub word_at : List ℕ → List ℕ → Word
word_at t name = word_behind (member_at name t)

-- the element whose value a lookup in s found
unfoldable pub word_found : List ℕ → Read → Word
word_found s (End v) = word_here (drop v s)
word_found s Bad = absent

-- an element as it is copied, and what the copy says
abbrev pub element_of : Word → Element
element_of absent = record { there = false; copy = no_copy }
element_of other = record { there = true; copy = no_copy }
element_of (word d) = record { there = true; copy = copied 36 d }

abbrev pub word_of : Element → Word
word_of e = pick e.there (pick e.copy.ok (word (take e.copy.length e.copy.bytes)) other) absent
