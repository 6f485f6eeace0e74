-- What reading the head gives, case by case.
-- Assumes nothing.
use Rattle.basis.proofs.Std.{◌≡◌, true, false, List, ℕ, ◌≤◌, ◌<◌, length, take, le-leb, lt-leb}
use Rattle.bits.specs.Fields.{field_of, number_of}
use Rattle.table_row.specs.Head.{good_first, good_second, no_head, counted, first_head, second_head, head_of}

module _ (s : List ℕ) where
  pub first_short : length s < 3 → first_head s ≡ no_head
  unfolding first_head
  first_short h = simp (lt-leb 3 (length s) h)

  pub second_short : length s < 4 → second_head s ≡ no_head
  unfolding second_head
  second_short h = simp (lt-leb 4 (length s) h)

  module _ (h : 3 ≤ length s) where
    pub first_bad : good_first (number_of (take 3 s)) ≡ false → first_head s ≡ no_head
    unfolding first_head
    first_bad e = simp (le-leb 3 (length s) h, e)

    pub first_good : good_first (number_of (take 3 s)) ≡ true → first_head s ≡ counted 4 (number_of (take 3 s)) 0 3
    unfolding first_head
    first_good e = simp (le-leb 3 (length s) h, e)

  module _ (h : 4 ≤ length s) where
    pub second_bad : good_second (number_of (take 4 s)) ≡ false → second_head s ≡ no_head
    unfolding second_head
    second_bad e = simp (le-leb 4 (length s) h, e)

    pub second_good : good_second (number_of (take 4 s)) ≡ true
        → second_head s ≡ counted 12 (number_of (take 4 s)) (field_of (number_of (take 4 s)) 7 5) 4
    unfolding second_head
    second_good e = simp (le-leb 4 (length s) h, e)

module _ (s : List ℕ) where
  pub head_first : 3 ≤ length s → good_first (number_of (take 3 s)) ≡ true → head_of s ≡ counted 4 (number_of (take 3 s)) 0 3
  unfolding head_of
  head_first h g = simp (first_good s h g)

  pub head_second : first_head s ≡ no_head → head_of s ≡ second_head s
  unfolding head_of
  head_second e = simp e
