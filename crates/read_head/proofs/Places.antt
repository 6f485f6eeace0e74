-- The element at a place.
-- Assumes nothing.
use Rattle.basis.proofs.Std.{◌≡◌, refl, sym, ◌∙◌, true, List, ℕ, ◌+◌, ◌≤◌, ◌<◌, length, drop, get_or, eq-eqb, ne_eqb}
use Rattle.json_text.specs.declared.Read.{Read}
use Rattle.json_text.specs.Decoded.{Parsed, decoded}
use Rattle.json_text.specs.Ends.{Ends}
use Rattle.json_text.specs.Ends.Ends.{ends, fails}
use Rattle.json_text.specs.Copied.{no_copy, copy_of}
use Rattle.json_character.proofs.Lists.{next, past}
use Rattle.json_find.specs.Entries.{member_at}
use Rattle.read_head.specs.Word.{word_here, word_behind, word_found, word_at, element_of}
use Rattle.read_head.proofs.Copies.{copied_read}

module _ (s : List ℕ) (i : ℕ) where
  pub value_past : length s ≤ i → record { there = true; copy = no_copy } ≡ element_of (word_here (drop i s))
  unfolding word_here
  value_past h = sym (rw (past s i h))

  module _ (h : i < length s) where
    pub value_other : (get_or s i 0 ≡ 0x22 → ⊥) → record { there = true; copy = no_copy } ≡ element_of (word_here (drop i s))
    unfolding word_here
    value_other n = sym (rw (next s i h, ne_eqb (get_or s i 0) 0x22 n))

    pub value_string : get_or s i 0 ≡ 0x22 → record { there = true; copy = copy_of 36 (decoded (drop (i + 1) s)) } ≡ element_of (word_here (drop i s))
    unfolding word_here
    value_string e = copied_read (decoded (drop (i + 1) s)) ∙ sym (rw (next s i h, eq-eqb (get_or s i 0) 0x22 e))

-- what is found of a name in a text that stands behind place i

found_behind : {s : List ℕ} {i : ℕ} {p : Parsed (List ℕ)} {r : Read} → Ends s i p r → word_found s r ≡ word_behind p
unfolding word_found
found_behind (ends e a b) = refl
found_behind fails = refl

pub found_word : (s t : List ℕ) (i : ℕ) (name : List ℕ) (r : Read) → Ends s i (member_at name t) r → word_found s r ≡ word_at t name
unfolding word_at
found_word s t i name r x = found_behind x
