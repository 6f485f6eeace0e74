-- Laws of a link's records: how many they are, what a store at a place does to them, and that they stand in the order of their numbers.
-- Assumes nothing.
use Rattle.basis.proofs.Std.{ℕ, suc, zero, ◌+◌, ◌≤◌, ◌<◌, ◌≡◌, refl, sym, ◌∙◌, ap, List, [], ◌∷◌, map, Bool, true, false, length, get_or, set, leb, arith, leb-true, leb-false, eq-eqb, pick, both, bit, count, not_both, both_of}
use Rattle.pool.specs.declared.Place.{Place}
use Rattle.pool.specs.declared.Wanted.TheVariants.{Numbered}
use Rattle.pool.specs.Places.{no_place, of, fits}
use Rattle.pool.specs.Pool.{held_in}
use Rattle.pool_laws.specs.View.{insert, insert_if, records_in}
use Rattle.pool_laws.proofs.Counts.{bit_true, bit_le, bit_ge, count_pos}
use Rattle.pool_laws.proofs.Insert.{number, under, under_more, insert_count, insert_length, insert_map, insert_if_swap}

-- counts over a link's records are counts over the places
pub records_count : (g : Place → Bool) (p : List Place) (m : ℕ) → count g (records_in p m) ≡ count (λ (x : Place). both (of m x) (g x)) p
unfolding records_in
records_count g [] m = refl
records_count g (x ∷ p) m = go (of m x) (records_count g p m)
  where
    go : (t : Bool) → count g (records_in p m) ≡ count (λ (y : Place). both (of m y) (g y)) p
        → count g (insert_if t x (records_in p m)) ≡ bit (both t (g x)) + count (λ (y : Place). both (of m y) (g y)) p
    go true r = omega (arith, insert_count x g (records_in p m))
    go false r = omega arith

pub records_length : (p : List Place) (m : ℕ) → length (records_in p m) ≡ held_in p m
unfolding records_in
records_length [] m = refl
records_length (x ∷ p) m = go (of m x) (records_length p m)
  where
    go : (t : Bool) → length (records_in p m) ≡ held_in p m → length (insert_if t x (records_in p m)) ≡ bit t + held_in p m
    go true r = omega (arith, insert_length x (records_in p m))
    go false r = omega arith

-- ---- a store at a place: what stood there and the records after are what is stored and the records before
module _ (m : ℕ) (x : Place) where
  differ : (y z : Place) (p : List Place) (i : ℕ) → i < length p → get_or p i no_place ≡ z → count (fits (Numbered m (number y))) (y ∷ p) ≤ 1
      → of m y ≡ true → of m z ≡ true → number z ≡ number y → ⊥
  differ y z p i h s o a b e =
      omega (
        arith,
        bit_true (fits (Numbered m (number y)) y) (both_of a (eq-eqb (number y) (number y) refl)),
        count_pos (fits (Numbered m (number y))) p i no_place h (rw s (both_of b (eq-eqb (number z) (number y) e))),
      )

  apart : (y : Place) (p : List Place) → count (fits (Numbered m (number x))) (y ∷ p) ≡ 0 → of m y ≡ true → number y ≡ number x → ⊥
  apart y p o a e = omega (arith, bit_true (fits (Numbered m (number x)) y) (both_of a (eq-eqb (number y) (number x) e)))

  pub records_set : (p : List Place) (i : ℕ) → i < length p → ((k : ℕ) → count (fits (Numbered m k)) p ≤ 1) → (of m x ≡ true → count (fits (Numbered m (number x))) p ≡ 0)
      → insert_if (of m (get_or p i no_place)) (get_or p i no_place) (records_in (set p i x) m) ≡ insert_if (of m x) x (records_in p m)
  unfolding records_in
  records_set [] i h o f = absurd (omega arith)
  records_set (a ∷ p) zero h o f = insert_if_swap (of m a) (of m x) a x (λ s t e. apart a p (f t) s e) (records_in p m)
  records_set (a ∷ p) (suc i) h o f =
      insert_if_swap (of m y) (of m a) y a (λ s t e. differ a y p i (omega arith) refl (o (number a)) t s e) (records_in (set p i x) m)
      ∙ ap (insert_if (of m a) a) (records_set p i (omega arith) (λ k. omega (arith, o k, bit_le (fits (Numbered m k) a))) (λ t. omega (arith, f t)))
      ∙ insert_if_swap (of m a) (of m x) a x (λ s t e. apart a p (f t) s e) (records_in p m)
    where
      y : Place
      y = get_or p i no_place

-- ---- a map that changes neither whose a record is nor its number
pub records_map : (m : ℕ) (g h : Place → Place) → ((x : Place) → of m (g x) ≡ of m x) → ((x : Place) → number (h x) ≡ number x) → ((x : Place) → of m x ≡ true → g x ≡ h x)
    → (p : List Place) → records_in (map g p) m ≡ map h (records_in p m)
unfolding records_in
records_map m g h a b c [] = refl
records_map m g h a b c (x ∷ p) = go (of m (g x)) (of m x) (a x) refl (records_map m g h a b c p)
  where
    go : (s t : Bool) → s ≡ t → of m x ≡ t → records_in (map g p) m ≡ map h (records_in p m) → insert_if s (g x) (records_in (map g p) m) ≡ map h (insert_if t x (records_in p m))
    go true true e o r = ap (insert (g x)) r ∙ ap (λ (y : Place). insert y (map h (records_in p m))) (c x o) ∙ insert_map x h b (records_in p m)
    go false false e o r = r
    go true false e o r = not_both refl e
    go false true e o r = not_both refl (sym e)

-- ---- the order
abbrev pub Sorted : List Place → Type 0
Sorted [] = Unit {0}
Sorted (x ∷ l) = (count (under (number x)) l ≡ 0) × Sorted l

insert_sorted : (x : Place) (l : List Place) → Sorted l → Sorted (insert x l)
unfolding insert
insert_sorted x [] s = (refl, tt)
insert_sorted x (z ∷ l) (a, s) = go (leb (number x) (number z)) refl (insert_sorted x l s)
  where
    go : (t : Bool) → leb (number x) (number z) ≡ t → Sorted (insert x l) → Sorted (pick t (x ∷ z ∷ l) (z ∷ insert x l))
    go true e r =
        let h = leb-true (number x) (number z) e in
        (omega (arith, bit_ge (number z) (number x) h, under_more (number x) (number z) h l), (a, s))
    go false e r =
        let h = leb-false (number x) (number z) e in
        (omega (arith, insert_count x (under (number z)) l, bit_ge (number x) (number z) (omega arith)), r)

pub records_sorted : (p : List Place) (m : ℕ) → Sorted (records_in p m)
unfolding records_in
records_sorted [] m = tt
records_sorted (x ∷ p) m = go (of m x) (records_sorted p m)
  where
    go : (t : Bool) → Sorted (records_in p m) → Sorted (insert_if t x (records_in p m))
    go true s = insert_sorted x (records_in p m) s
    go false s = s
