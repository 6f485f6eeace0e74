-- A test of every place below a count, as a chain over the places makes it.
-- Assumes nothing.
use Rattle.std.specs.Bool.{MatchBool}
use Rattle.std.specs.List.{range_with_len, AllWithin, HoldsAt}
use Rattle.std.proofs.lemmas.List.FromFn.{length-range_with_len, get_or-range_with_len}
use Rattle.basis.proofs.Std.{ℕ, zero, suc, ◌<◌, ◌≤◌, ◌≡◌, refl, sym, subst, ◌∙◌, Bool, true, false, ◌⊎◌, inl, inr, arith, length, zero-add, both, both_of, both_no, lt_or_ge}
use Rattle.table_item.specs.Find.{each}

all_pass : (f : ℕ → Bool) (n : ℕ) → ((k : ℕ) → k < n → f k ≡ true) → true ≡ each f n
all_pass f zero h = refl
all_pass f (suc n) h = sym (both_of (sym (all_pass f n (λ k g. h k (omega arith)))) (h n (omega arith)))

one_fails : (f : ℕ → Bool) (n k : ℕ) → k < n → f k ≡ false → false ≡ each f n
one_fails f zero k h e = absurd (omega (arith, h))
one_fails f (suc n) k h e = by (λ g. one_fails f n k g e) (lt_or_ge k n)
  where
    by : (k < n → false ≡ each f n) → (k < n) ⊎ (n ≤ k) → false ≡ both (each f n) (f n)
    by below (inl g) = rw (← below g) refl
    by below (inr g) = let q : k ≡ n = omega arith in sym (both_no (each f n) (f n) (subst (λ (i : ℕ). f i ≡ false) q e))

pub every : (f : ℕ → Bool) (n : ℕ) (r : Bool)
    → MatchBool r (AllWithin (λ i. f i ≡ true) (range_with_len 0 n) 0 (length (range_with_len 0 n))) ((k : ℕ) × (k < length (range_with_len 0 n)) × HoldsAt (λ i. f i ≡ false) (range_with_len 0 n) k)
    → r ≡ each f n
every f n true h =
    all_pass f n
    (λ k g. let p : k < length (range_with_len 0 n) = omega (arith, length-range_with_len 0 n) in subst (λ (i : ℕ). f i ≡ true) (get_or-range_with_len 0 n k 0 g ∙ zero-add k) (h k 0 (omega arith) p))
every f n false h =
    let g : h.0 < n = omega (arith, length-range_with_len 0 n, h.1) in
    one_fails f n h.0 g (subst (λ (i : ℕ). f i ≡ false) (get_or-range_with_len 0 n h.0 0 g ∙ zero-add h.0) (h.2 0))
