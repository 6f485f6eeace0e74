-- An element's copy says what the element is.
-- Assumes nothing.
use Rattle.basis.proofs.Std.{◌≡◌, refl, sym, ap, ◌∙◌, Bool, true, false, List, [], ◌∷◌, ◌++◌, ℕ, ◌-◌, min, sub-zero, leb, eqb, length, take, drop, replicate, take_at, pick, both}
use Rattle.json_text.specs.declared.Copied.{Copied}
use Rattle.json_text.specs.declared.Read.{Read}
use Rattle.json_text.specs.declared.Read.TheVariants.{End, Bad}
use Rattle.json_text.specs.Decoded.{Parsed, decoded}
use Rattle.json_text.specs.Decoded.Parsed.{ok, none}
use Rattle.json_text.specs.Copied.{ascii, no_copy, copied, copy_of}
use Rattle.json_find.specs.Entries.{member_at}
use Rattle.label.proofs.Padded.{take_short}
use Rattle.read_head.specs.declared.Element.{Element}
use Rattle.read_head.specs.Word.{Word, absent, other, word, word_for, read_word, word_here, word_behind, word_found, word_at, element_of, word_of}
use Rattle.read_head.specs.Head.{characters}

abbrev usable : List ℕ → Bool
usable d = both (leb (length d) 36) (ascii d)

-- a word that is found: its string can be used
pub data Found : Word → Type 0 where
  nowhere : Found absent
  no_string : Found other
  string : (d : List ℕ) → usable d ≡ true → Found (word d)

found_for : (d : List ℕ) → Found (word_for d)
found_for d = by (usable d) refl
  where
    by : (b : Bool) → usable d ≡ b → Found (pick b (word d) other)
    by true e = string d e
    by false e = no_string

found_read : (p : Parsed (List ℕ)) → Found (read_word p)
found_read (ok d r) = found_for d
found_read none = no_string

pub found_here : (t : List ℕ) → Found (word_here t)
unfolding word_here
found_here [] = no_string
found_here (b ∷ t) = by (eqb b 0x22)
  where
    by : (q : Bool) → Found (pick q (read_word (decoded t)) other)
    by true = found_read (decoded t)
    by false = no_string

found_behind : (p : Parsed (List ℕ)) → Found (word_behind p)
found_behind (ok x t) = found_here t
found_behind none = nowhere

pub found_from : (s : List ℕ) (r : Read) → Found (word_found s r)
unfolding word_found
found_from s (End v) = found_here (drop v s)
found_from s Bad = nowhere

pub found_at : (t name : List ℕ) → Found (word_at t name)
unfolding word_at
found_at t name = found_behind (member_at name t)

twice : (a b : Bool) → both a b ≡ true → both a (both a b) ≡ true
twice true b e = e
twice false b e = e

copy_of_lem : (d : List ℕ) → usable d ≡ true → copied 36 d ≡ record { length = length d; bytes = d ++ replicate (36 - length d) 0; ok = true }
unfolding copied
copy_of_lem d e = rw (twice (leb (length d) 36) (ascii d) e)

-- a copy says the word, and has its characters
pub says : {w : Word} → Found w → word_of (element_of w) ≡ w
unfolding no_copy
says nowhere = refl
says no_string = refl
says (string d e) = rw (copy_of_lem d e) (ap word (take_at d (replicate (36 - length d) 0) (length d) refl))

pub has_characters : {w : Word} → Found w → (element_of w).copy.bytes ≡ characters w
unfolding no_copy
has_characters nowhere = refl
has_characters no_string = refl
has_characters (string d e) = rw (copy_of_lem d e)

-- a string copied is the element
not_copied : (a b : Bool) → both a b ≡ false → both a (both a b) ≡ false
not_copied true b e = e
not_copied false b e = refl

none_of : (d : List ℕ) → usable d ≡ false → copied 36 d ≡ no_copy
unfolding copied
none_of d e = rw (not_copied (leb (length d) 36) (ascii d) e)

copied_for : (d : List ℕ) → record { there = true; copy = copied 36 d } ≡ element_of (word_for d)
copied_for d = by (usable d) refl
  where
    by : (b : Bool) → usable d ≡ b → record { there = true; copy = copied 36 d } ≡ element_of (pick b (word d) other)
    by true e = refl
    by false e = ap (λ (c : Copied). record { there = true; copy = c }) (none_of d e)

pub copied_read : (p : Parsed (List ℕ)) → record { there = true; copy = copy_of 36 p } ≡ element_of (read_word p)
copied_read (ok d r) = copied_for d
copied_read none = refl

-- what is lent of a copy
pub lent : (e : Element) → length e.copy.bytes ≡ 36 → (n : ℕ) → n ≡ min e.copy.length 36 → take (n - 0) e.copy.bytes ≡ take e.copy.length e.copy.bytes
lent e z n h = ap (λ (m : ℕ). take m e.copy.bytes) (sub-zero n ∙ h ∙ ap (min e.copy.length) (sym z)) ∙ take_short e.copy.length e.copy.bytes

-- what an element is, by its copy
module _ (e : Element) where
  pub not_there : e.there ≡ false → word_of e ≡ absent
  not_there h = rw h

  pub not_copy : e.there ≡ true → e.copy.ok ≡ false → word_of e ≡ other
  not_copy h k = rw (h, k)

  pub is_copy : e.there ≡ true → e.copy.ok ≡ true → word_of e ≡ word (take e.copy.length e.copy.bytes)
  is_copy h k = rw (h, k)

  pub is_lent : e.there ≡ true → e.copy.ok ≡ true → length e.copy.bytes ≡ 36 → (n : ℕ) → n ≡ min e.copy.length 36 → word (take (n - 0) e.copy.bytes) ≡ word_of e
  is_lent h k z n m = ap word (lent e z n m) ∙ sym (is_copy h k)
