-- No name twice, as the code finds it: from string to string, each compared with the names after it in its object.
-- The laws of proofs/Names say that in a text of the grammar this is `no_twice` of its meaning.
-- Assumes nothing.
use Rattle.std.specs.Prelude.{ℕ, zero, suc, Bool, true, false, List, [], ◌∷◌, length, eqb}
use Rattle.basis.specs.Pick.{pick}
use Rattle.json_text.specs.Decoded.{Parsed, decoded, same_text}
use Rattle.json_text.specs.Decoded.Parsed.{ok, none}
use Rattle.json_value.specs.Reader.{skip_ws}
use Rattle.json_find.specs.Entries.{entries}

-- a text begins with a string that is x
unfoldable pub same_string : Parsed (List ℕ) → List ℕ → Bool
same_string x [] = false
same_string x (b ∷ u) = pick (eqb b 0x22) (same_text x (decoded u)) false

-- an entry has the name x
abbrev pub any_same : Parsed (List ℕ) → List (List ℕ) → Bool
any_same x [] = false
any_same x (t ∷ ts) = pick (same_string x (skip_ws t)) true (any_same x ts)

abbrev pub later : List (List ℕ) → List (List ℕ)
later [] = []
later (t ∷ ts) = ts

-- the string whose characters are u is the name of an entry after the one that it is the name of, at t
unfoldable pub again : List ℕ → List ℕ → Bool
again u t = any_same (decoded u) (later (entries 0x7d t))

-- the rest after a string that is no name again, or after another byte
unfoldable pub read_token : List ℕ → Parsed (List ℕ)
read_token [] = none
read_token (b ∷ t) = pick (eqb b 0x22) (pick (again t (b ∷ t)) none (decoded t)) (ok [] t)

abbrev pub after_token : (List ℕ → Bool) → Parsed (List ℕ) → Bool
after_token more (ok d r) = more r
after_token more none = false

unfoldable pub scan_from : ℕ → List ℕ → Bool
scan_from zero t = true
scan_from (suc n) [] = true
scan_from (suc n) (b ∷ t) = after_token (λ u. scan_from n u) (read_token (b ∷ t))

-- every string passes, of no more than there are bytes
unfoldable pub scan : List ℕ → Bool
scan t = scan_from (length t) t
