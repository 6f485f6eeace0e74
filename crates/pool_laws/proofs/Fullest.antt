-- What the links hold together, and what the fullest holds: in a full pool of n links, 16 n at most 128, a link below 16 leaves another above 16.
-- Assumes nothing.
use Rattle.basis.proofs.Std.{ℕ, suc, zero, ◌+◌, ◌-◌, ◌*◌, ◌≤◌, ◌<◌, ◌≡◌, refl, ap, List, [], ◌∷◌, Bool, true, false, ◌⊎◌, inl, inr, length, ltb, leb, eqb, arith, lt-ltb, le-leb, lt-leb, both, lt_or_ge, eq_or_ne, bit, count}
use Rattle.pool.specs.declared.Place.{Place}
use Rattle.pool.specs.declared.Wanted.TheVariants.{Free}
use Rattle.pool.specs.Places.{of, fits}
use Rattle.pool.specs.Shares.{fullest}
use Rattle.pool.specs.Pool.{held_in, free_in}
use Rattle.pool.proofs.Fixed.{fullest_is}
use Rattle.pool_laws.specs.View.{total}
use Rattle.pool_laws.proofs.Counts.{bit_true, bit_false, bit_lt, bit_ge, bit_eq, bit_ne, count_cons, count_nil}

module _ (held : ℕ → ℕ) where
  at_most_lem : (n : ℕ) → ((j : ℕ) → j < n → held j ≤ 16) → total held n ≤ 16 * n
  unfolding total
  at_most_lem zero h = omega arith
  at_most_lem (suc k) h = omega (arith, at_most_lem k (λ j g. h j (omega arith)), h k (omega arith))

  -- n links of which none holds more than 16 and one fewer hold fewer than 16 n
  pub fewer : (n l : ℕ) → l < n → held l < 16 → ((j : ℕ) → j < n → held j ≤ 16) → total held n < 16 * n
  unfolding total
  fewer zero l g f h = absurd (omega arith)
  fewer (suc k) l g f h = go (eq_or_ne l k) (fewer k l)
    where
      go : (l ≡ k) ⊎ (l ≡ k → ⊥) → (l < k → held l < 16 → ((j : ℕ) → j < k → held j ≤ 16) → total held k < 16 * k) → total held k + held k < 16 * suc k
      go (inl e) r = omega (arith, at_most_lem k (λ j i. h j (omega arith)), ap held e)
      go (inr e) r = omega (arith, r (omega arith) f (λ j i. h j (omega arith)), h k (omega arith))

  pub another : (n l : ℕ) → 16 * n ≤ 128 → total held n ≡ 128 → l < n → held l < 16 → 16 < held (fullest held (n - 1))
  another n l m t g f = go (lt_or_ge 16 (held (fullest held (n - 1))))
    where
      go : (16 < held (fullest held (n - 1))) ⊎ (held (fullest held (n - 1)) ≤ 16) → 16 < held (fullest held (n - 1))
      go (inl a) = a
      go (inr a) = absurd (omega (arith, fewer n l g f (λ j i. omega (arith, (fullest_is held (n - 1)).most j (omega arith)))))

-- a record is of a link outside the n
abbrev pub outside : ℕ → Place → Bool
outside n x = both (ltb 0 x.mark) (leb n x.entry.link)

one_link : (k n : ℕ) (t : Bool) (h : ℕ → ℕ) → total (λ (l : ℕ). bit (both t (eqb k l)) + h l) n ≡ bit (both t (ltb k n)) + total h n
unfolding total
one_link k zero true h = omega (arith, bit_ge k 0 (omega arith))
one_link k zero false h = refl
one_link k (suc n) false h = omega (arith, one_link k n false h)
one_link k (suc n) true h = go (lt_or_ge k n) (eq_or_ne k n) (one_link k n true h)
  where
    go : (k < n) ⊎ (n ≤ k) → (k ≡ n) ⊎ (k ≡ n → ⊥) → total (λ (l : ℕ). bit (eqb k l) + h l) n ≡ bit (ltb k n) + total h n
        → total (λ (l : ℕ). bit (eqb k l) + h l) n + (bit (eqb k n) + h n) ≡ bit (ltb k (suc n)) + (total h n + h n)
    go (inl a) (inl b) r = absurd (omega arith)
    go (inl a) (inr b) r = omega (arith, bit_lt k n a, bit_lt k (suc n) (omega arith), bit_ne k n b)
    go (inr a) (inl b) r = omega (arith, bit_ge k n a, bit_lt k (suc n) (omega arith), bit_eq k n b)
    go (inr a) (inr b) r = omega (arith, bit_ge k n a, bit_ge k (suc n) (omega arith), bit_ne k n b)

pub total_same : (g h : ℕ → ℕ) → ((l : ℕ) → g l ≡ h l) → (n : ℕ) → total g n ≡ total h n
unfolding total
total_same g h e zero = refl
total_same g h e (suc k) = omega (arith, total_same g h e k, e k)

total_none : (h : ℕ → ℕ) → ((l : ℕ) → h l ≡ 0) → (n : ℕ) → total h n ≡ 0
unfolding total
total_none h e zero = refl
total_none h e (suc k) = omega (arith, total_none h e k, e k)

-- a place is free, or of a link outside the n, or of one of them
one_place : (m k n : ℕ) → 1 ≡ bit (eqb m 0) + (bit (both (ltb 0 m) (leb n k)) + bit (both (ltb 0 m) (ltb k n)))
one_place zero k n = omega (arith, bit_eq 0 0 refl, bit_ge 0 0 (omega arith))
one_place (suc m) k n = go (lt_or_ge k n)
  where
    u : ltb 0 (suc m) ≡ true
    u = lt-ltb 0 (suc m) (omega arith)

    go : (k < n) ⊎ (n ≤ k) → 1 ≡ bit (eqb (suc m) 0) + (bit (both (ltb 0 (suc m)) (leb n k)) + bit (both (ltb 0 (suc m)) (ltb k n)))
    go (inl a) = rw u (omega (arith, bit_ne (suc m) 0 (λ e. omega arith), bit_lt k n a, bit_false (leb n k) (lt-leb n k a)))
    go (inr a) = rw u (omega (arith, bit_ne (suc m) 0 (λ e. omega arith), bit_ge k n a, bit_true (leb n k) (le-leb n k a)))

pub every_place : (n : ℕ) (p : List Place) → length p ≡ free_in p + (count (outside n) p + total (held_in p) n)
every_place n [] = omega (arith, count_nil (fits Free), count_nil (outside n), total_none (held_in []) (λ l. count_nil (of l)) n)
every_place n (x ∷ p) =
    omega (
      arith,
      every_place n p,
      count_cons (fits Free) x p,
      count_cons (outside n) x p,
      total_same (held_in (x ∷ p)) (λ (l : ℕ). bit (of l x) + held_in p l) (λ l. count_cons (of l) x p) n,
      one_link x.entry.link n (ltb 0 x.mark) (held_in p),
      one_place x.mark x.entry.link n,
    )
