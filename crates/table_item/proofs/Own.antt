-- What a search from the first place on finds; every place is found as itself exactly when no two are called the same.
-- Assumes nothing.
use Rattle.std.specs.List.{list_all, range_with_len}
use Rattle.basis.proofs.Std.{add-zero, zero-add, both, ◌∙◌, ◌≡◌, refl, sym, subst, Bool, true, false, true≢false, ⊎_elim, ℕ, zero, suc, ◌+◌, ◌≤◌, ◌<◌, le_antisymm, arith, eqb-true, eq-eqb, pick, bool_cases, lt_or_ge, both_true, both_of, not_both}
use Rattle.table_item.specs.declared.Found.{Found}
use Rattle.table_item.specs.declared.Found.TheVariants.{At, Nothing}
use Rattle.table_item.specs.Find.{first_from, each, found_at}

-- the n places from i on were looked at
pub data Looked (f : ℕ → Bool) (i n : ℕ) : Found → Type 0 where
  hit : {k : ℕ} → i ≤ k → k < i + n → f k ≡ true → ((j : ℕ) → i ≤ j → j < k → f j ≡ false) → Looked f i n (At k)
  miss : ((j : ℕ) → i ≤ j → j < i + n → f j ≡ false) → Looked f i n Nothing

-- a place more, before them, that does not pass
further : (f : ℕ → Bool) (i n : ℕ) → f i ≡ false → {r : Found} → Looked f (suc i) n r → Looked f i (suc n) r
further f i n e (hit {k} l h t none) =
    hit {k = k} (omega arith) (omega arith) t
    (λ j p q. ⊎_elim (λ (a : i < j). none j a q) (λ (a : j ≤ i). subst (λ (m : ℕ). f m ≡ false) (le_antisymm p a) e) (lt_or_ge i j))
further f i n e (miss none) =
    miss (λ j p q. ⊎_elim (λ (a : i < j). none j a (omega arith)) (λ (a : j ≤ i). subst (λ (m : ℕ). f m ≡ false) (le_antisymm p a) e) (lt_or_ge i j))

pub looked : (f : ℕ → Bool) (i n : ℕ) → Looked f i n (first_from f i n)
looked f i zero = miss (λ j p q. absurd (omega arith))
looked f i (suc n) =
    bool_cases (f i)
    (λ e. subst (λ (b : Bool). Looked f i (suc n) (pick b (At i) (first_from f (suc i) n))) (sym e) (hit {k = i} (omega arith) (omega arith) e (λ j p q. absurd (omega arith))))
    (λ e. subst (λ (b : Bool). Looked f i (suc n) (pick b (At i) (first_from f (suc i) n))) (sym e) (further f i n e (looked f (suc i) n)))

-- each place passes
pub each_is : (f : ℕ → Bool) (n : ℕ) → each f n ≡ true → (i : ℕ) → i < n → f i ≡ true
each_is f zero e i h = absurd (omega arith)
each_is f (suc n) e i h =
    let p = both_true (each f n) (f n) e in
    ⊎_elim (λ (a : i < n). each_is f n p.0 i a) (λ (a : n ≤ i). let k : n ≡ i = omega arith in subst (λ (m : ℕ). f m ≡ true) k p.1) (lt_or_ge i n)

pub each_of : (f : ℕ → Bool) (n : ℕ) → ((i : ℕ) → i < n → f i ≡ true) → each f n ≡ true
each_of f zero h = refl
each_of f (suc n) h = both_of (each_of f n (λ i l. h i (omega arith))) (h n (omega arith))

all_more : (f : ℕ → Bool) (a n : ℕ) → list_all f (range_with_len a (suc n)) ≡ both (list_all f (range_with_len a n)) (f (a + n))
all_more f a zero = rw add-zero (bool_cases (f a) (λ e. rw e) (λ e. rw e))
all_more f a (suc n) =
    let k : a + 1 + n ≡ a + suc n = omega arith in
    bool_cases (f a) (λ e. rw e (rw k at (all_more f (a + 1) n))) (λ e. rw e)

-- `all` over the first n places
pub all_each : (f : ℕ → Bool) (n : ℕ) → list_all f (range_with_len 0 n) ≡ each f n
all_each f zero = refl
all_each f (suc n) = all_more f 0 n ∙ rw (all_each f n, zero-add)

-- same i j: place j is called like place i
module _ (same : ℕ → ℕ → Bool) (n : ℕ) where
  abbrev pub own : ℕ → Bool
  own i = found_at i (first_from (same i) 0 n)

  -- found as itself: no place before it is called so
  before : (i j : ℕ) (r : Found) → Looked (same i) 0 n r → found_at i r ≡ true → same i j ≡ true → i ≤ j
  before i j (At k) (hit l h t none) e s =
      ⊎_elim
      (λ (a : j < k). not_both s (none j (omega arith) a))
      (λ (a : k ≤ j). let p : i ≡ k = eqb-true i k e in omega arith)
      (lt_or_ge j k)
  before i j Nothing (miss none) e s = absurd (true≢false (sym e))

  pub own_once : each own n ≡ true → (i j : ℕ) → i < n → j < n → same i j ≡ true → same j i ≡ true → i ≡ j
  own_once e i j hi hj s t =
      le_antisymm
      (before i j (first_from (same i) 0 n) (looked (same i) 0 n) (each_is own n e i hi) s)
      (before j i (first_from (same j) 0 n) (looked (same j) 0 n) (each_is own n e j hj) t)

  itself : (i : ℕ) (r : Found) → i < n → Looked (same i) 0 n r → ((j : ℕ) → j < n → same i j ≡ true → i ≡ j) → same i i ≡ true → found_at i r ≡ true
  itself i (At k) h (hit l m t none) o s = eq-eqb i k (o k (omega arith) t)
  itself i Nothing h (miss none) o s = not_both s (none i (omega arith) (omega arith))

  pub once_own : ((i j : ℕ) → i < n → j < n → same i j ≡ true → i ≡ j) → ((i : ℕ) → i < n → same i i ≡ true) → each own n ≡ true
  once_own o r = each_of own n (λ i h. itself i (first_from (same i) 0 n) h (looked (same i) 0 n) (λ j l s. o i j h l s) (r i h))
