-- Laws of insertion into a list of records in the order of their numbers.
-- Assumes nothing.
use Rattle.basis.proofs.Std.{ℕ, suc, ◌+◌, ◌≤◌, ◌<◌, ◌≡◌, refl, sym, ◌∙◌, ap, List, [], ◌∷◌, ◌++◌, map, Bool, true, false, ◌⊎◌, inl, inr, length, ltb, leb, eqb, arith, le-leb, lt-leb, eq-eqb, pick, bit, count, lt_or_ge, not_both}
use Rattle.pool.specs.declared.Place.{Place}
use Rattle.pool_laws.specs.View.{insert, insert_if, without}
use Rattle.pool_laws.proofs.Counts.{bit_lt, bit_ge, count_le}

abbrev pub number : Place → ℕ
number x = x.entry.sequence

abbrev pub under : ℕ → Place → Bool
under k y = ltb (number y) k

pub under_more : (j k : ℕ) → j ≤ k → (l : List Place) → count (under j) l ≤ count (under k) l
under_more j k h l = count_le (under j) (under k) (λ x. tri (number x) (lt_or_ge (number x) j)) l
  where
    tri : (i : ℕ) → (i < j) ⊎ (j ≤ i) → bit (ltb i j) ≤ bit (ltb i k)
    tri i (inl a) = omega (arith, bit_lt i j a, bit_lt i k (omega arith))
    tri i (inr a) = omega (arith, bit_ge i j a)

module _ (x : Place) where
  pub insert_before : (z : Place) (l : List Place) → number x ≤ number z → insert x (z ∷ l) ≡ x ∷ z ∷ l
  unfolding insert
  insert_before z l h = rw (le-leb (number x) (number z) h)

  pub insert_behind : (z : Place) (l : List Place) → number z < number x → insert x (z ∷ l) ≡ z ∷ insert x l
  unfolding insert
  insert_behind z l h = rw (lt-leb (number x) (number z) h)

  pub insert_count : (g : Place → Bool) (l : List Place) → count g (insert x l) ≡ bit (g x) + count g l
  unfolding insert
  insert_count g [] = refl
  insert_count g (z ∷ l) = go (leb (number x) (number z)) (insert_count g l)
    where
      go : (t : Bool) → count g (insert x l) ≡ bit (g x) + count g l → count g (pick t (x ∷ z ∷ l) (z ∷ insert x l)) ≡ bit (g x) + count g (z ∷ l)
      go true r = refl
      go false r = omega arith

  pub insert_length : (l : List Place) → length (insert x l) ≡ suc (length l)
  unfolding insert
  insert_length [] = refl
  insert_length (z ∷ l) = go (leb (number x) (number z)) (insert_length l)
    where
      go : (t : Bool) → length (insert x l) ≡ suc (length l) → length (pick t (x ∷ z ∷ l) (z ∷ insert x l)) ≡ suc (suc (length l))
      go true r = refl
      go false r = ap suc r

  -- behind all, where none has as high a number
  pub insert_last : (l : List Place) → count (λ (y : Place). leb (number x) (number y)) l ≡ 0 → insert x l ≡ l ++ (x ∷ [])
  unfolding insert
  insert_last [] h = refl
  insert_last (z ∷ l) h = go (leb (number x) (number z)) h (insert_last l)
    where
      go : (t : Bool) → bit t + count (λ (y : Place). leb (number x) (number y)) l ≡ 0 → (count (λ (y : Place). leb (number x) (number y)) l ≡ 0 → insert x l ≡ l ++ (x ∷ []))
          → pick t (x ∷ z ∷ l) (z ∷ insert x l) ≡ z ∷ (l ++ (x ∷ []))
      go true e r = absurd (omega arith)
      go false e r = ap (λ (s : List Place). z ∷ s) (r (omega arith))

  -- before all, where none has a lower number
  pub insert_first : (l : List Place) → count (under (number x)) l ≡ 0 → insert x l ≡ x ∷ l
  unfolding insert
  insert_first [] h = refl
  insert_first (z ∷ l) h = rw (le-leb (number x) (number z) (go (lt_or_ge (number z) (number x))))
    where
      go : (number z < number x) ⊎ (number x ≤ number z) → number x ≤ number z
      go (inl a) = absurd (omega (arith, bit_lt (number z) (number x) a))
      go (inr a) = a

  pub without_insert : (k : ℕ) → number x ≡ k → (l : List Place) → without k (insert x l) ≡ without k l
  unfolding insert without
  without_insert k e [] = rw (eq-eqb (number x) k e)
  without_insert k e (z ∷ l) = go (leb (number x) (number z)) (without_insert k e l)
    where
      go : (t : Bool) → without k (insert x l) ≡ without k l → without k (pick t (x ∷ z ∷ l) (z ∷ insert x l)) ≡ without k (z ∷ l)
      go true r = rw (eq-eqb (number x) k e)
      go false r = rw r

  pub insert_map : (g : Place → Place) → ((y : Place) → number (g y) ≡ number y) → (l : List Place) → insert (g x) (map g l) ≡ map g (insert x l)
  unfolding insert
  insert_map g h [] = refl
  insert_map g h (z ∷ l) =
      go (leb (number (g x)) (number (g z))) (leb (number x) (number z)) (ap (λ (k : ℕ). leb k (number (g z))) (h x) ∙ ap (λ (k : ℕ). leb (number x) k) (h z)) (insert_map g h l)
    where
      go : (s t : Bool) → s ≡ t → insert (g x) (map g l) ≡ map g (insert x l) → pick s (g x ∷ g z ∷ map g l) (g z ∷ insert (g x) (map g l)) ≡ map g (pick t (x ∷ z ∷ l) (z ∷ insert x l))
      go true true e r = refl
      go false false e r = ap (λ (s : List Place). g z ∷ s) r
      go true false e r = not_both refl e
      go false true e r = not_both refl (sym e)

-- two records of different numbers go in in either order
swap_less : (x y : Place) → number x < number y → (l : List Place) → insert x (insert y l) ≡ insert y (insert x l)
unfolding insert
swap_less x y h [] = rw (le-leb (number x) (number y) (omega arith), lt-leb (number y) (number x) h)
swap_less x y h (z ∷ l) = go (lt_or_ge (number z) (number x)) (lt_or_ge (number z) (number y)) (swap_less x y h l)
  where
    go : (number z < number x) ⊎ (number x ≤ number z) → (number z < number y) ⊎ (number y ≤ number z) → insert x (insert y l) ≡ insert y (insert x l)
        → insert x (insert y (z ∷ l)) ≡ insert y (insert x (z ∷ l))
    go (inl a) (inl b) r = rw (insert_behind y z l b, insert_behind x z l a, insert_behind x z (insert y l) a, insert_behind y z (insert x l) b, r)
    go (inl a) (inr b) r = absurd (omega arith)
    go (inr a) (inl b) r = rw (insert_behind y z l b, insert_before x z l a, insert_before x z (insert y l) a, insert_behind y x (z ∷ l) h, insert_behind y z l b)
    go (inr a) (inr b) r =
        ap (insert x) (insert_before y z l b) ∙ insert_before x y (z ∷ l) (omega arith)
        ∙ sym (ap (insert y) (insert_before x z l a) ∙ insert_behind y x (z ∷ l) h ∙ ap (λ (s : List Place). x ∷ s) (insert_before y z l b))

pub insert_swap : (x y : Place) → (number x ≡ number y → ⊥) → (l : List Place) → insert x (insert y l) ≡ insert y (insert x l)
insert_swap x y d l = go (lt_or_ge (number x) (number y)) (lt_or_ge (number y) (number x))
  where
    go : (number x < number y) ⊎ (number y ≤ number x) → (number y < number x) ⊎ (number x ≤ number y) → insert x (insert y l) ≡ insert y (insert x l)
    go (inl a) s = swap_less x y a l
    go (inr a) (inl b) = sym (swap_less y x b l)
    go (inr a) (inr b) = absurd (d (omega arith))

pub insert_if_swap : (s t : Bool) (x y : Place) → (s ≡ true → t ≡ true → number x ≡ number y → ⊥) → (l : List Place) → insert_if s x (insert_if t y l) ≡ insert_if t y (insert_if s x l)
insert_if_swap true true x y d l = insert_swap x y (d refl refl) l
insert_if_swap true false x y d l = refl
insert_if_swap false t x y d l = refl

pub without_none : (k : ℕ) (l : List Place) → count (λ (y : Place). eqb (number y) k) l ≡ 0 → without k l ≡ l
unfolding without
without_none k [] h = refl
without_none k (z ∷ l) h = go (eqb (number z) k) h (without_none k l)
  where
    go : (t : Bool) → bit t + count (λ (y : Place). eqb (number y) k) l ≡ 0 → (count (λ (y : Place). eqb (number y) k) l ≡ 0 → without k l ≡ l) → pick t (without k l) (z ∷ without k l) ≡ z ∷ l
    go true e r = absurd (omega arith)
    go false e r = ap (λ (s : List Place). z ∷ s) (r (omega arith))
