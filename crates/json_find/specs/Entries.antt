-- The entries of an array or an object as places of its text: an entry is the text that begins where it begins.
-- Assumes nothing.
use Rattle.std.specs.Prelude.{ℕ, zero, suc, List, [], ◌∷◌, length, eqb}
use Rattle.basis.specs.Pick.{pick}
use Rattle.json_text.specs.Decoded.{Parsed}
use Rattle.json_text.specs.Decoded.Parsed.{ok, none}
use Rattle.json_value.specs.Reader.{skip_ws, read_start, Entry, Named, read_entry, read_value}
use Rattle.json_find.specs.Kinds.{string_at}

abbrev pub goes_on : Parsed Entry → Parsed Named
goes_on (ok e r) = pick e.last none (ok e.item r)
goes_on none = none

-- after an entry and its comma
unfoldable pub next_entry : ℕ → List ℕ → Parsed Named
next_entry close t = goes_on (read_entry close (λ v. read_value 7 v) t)

abbrev pub after_next : (List ℕ → List (List ℕ)) → Parsed Named → List (List ℕ)
after_next more (ok x r) = more r
after_next more none = []

-- at most n entries
unfoldable pub entries_from : ℕ → ℕ → List ℕ → List (List ℕ)
entries_from close zero t = []
entries_from close (suc n) t = t ∷ after_next (λ u. entries_from close n u) (next_entry close t)

-- an entry and all that follow it
unfoldable pub entries : ℕ → List ℕ → List (List ℕ)
entries close t = entries_from close (suc (length t)) t

abbrev pub unless_closed : ℕ → List ℕ → List ℕ → Parsed (List ℕ)
unless_closed close t [] = none
unless_closed close t (b ∷ u) = pick (eqb b close) none (ok [] t)

-- after the opening byte, unless the closing one follows
unfoldable pub inside_at : ℕ → ℕ → List ℕ → Parsed (List ℕ)
inside_at first close [] = none
inside_at first close (b ∷ t) = pick (eqb b first) (unless_closed close t (skip_ws t)) none

abbrev pub entries_of : ℕ → Parsed (List ℕ) → List (List ℕ)
entries_of close (ok x r) = entries close r
entries_of close none = []

-- the entries of the array or object that a text begins with
unfoldable pub entries_at : ℕ → ℕ → List ℕ → List (List ℕ)
entries_at first close t = entries_of close (inside_at first close t)

-- the value of the first entry that has the name
abbrev pub first_named : List ℕ → List (List ℕ) → Parsed (List ℕ)
first_named name [] = none
first_named name (t ∷ ts) = pick (string_at name (skip_ws t)) (read_start 0x7d t) (first_named name ts)

unfoldable pub member_at : List ℕ → List ℕ → Parsed (List ℕ)
member_at name t = first_named name (entries_at 0x7b 0x7d t)
