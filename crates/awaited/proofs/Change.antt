-- Counting, and looking after the first that passes a test was changed.
-- Assumes nothing.
use Rattle.basis.proofs.Std.{ℕ, zero, suc, ◌+◌, ◌≤◌, ◌<◌, ◌≡◌, refl, sym, ap, Bool, true, false, List, [], ◌∷◌, arith, zero-add, ltb, lt-ltb, length, replicate, bit, bool_cases, count}
use Rattle.awaited.specs.Lists.{change_first, some}

pub bit_true : (b : Bool) → b ≡ true → bit b ≡ 1
bit_true b e = rw e

pub bit_false : (b : Bool) → b ≡ false → bit b ≡ 0
bit_false b e = rw e

module _ {A : Type 0} (g : A → Bool) (a : A) where
  -- none passes: nothing changes
  pub change_none : (l : List A) → count g l ≡ 0 → change_first g a l ≡ l
  unfolding change_first
  change_none [] h = refl
  change_none (x ∷ l) h =
      bool_cases (g x) (λ t. absurd (omega (arith, bit_true (g x) t)))
      (λ t. rw t (ap (λ (k : List A). x ∷ k) (change_none l (omega (arith, bit_false (g x) t)))))

  module _ (f : A → Bool) where
    -- each that passes g counts k for f: the changed one is exchanged for a
    pub count_change : (k : ℕ) → ((x : A) → g x ≡ true → bit (f x) ≡ k) → (l : List A) → 0 < count g l
        → count f (change_first g a l) + k ≡ count f l + bit (f a)
    unfolding change_first
    count_change k e [] h = absurd (omega arith)
    count_change k e (x ∷ l) h =
        bool_cases (g x) (λ t. rw t (omega (arith, e x t)))
        (λ t. rw t (omega (arith, count_change k e l (omega (arith, bit_false (g x) t)))))

    pub count_less : f a ≡ false → (l : List A) → count f (change_first g a l) ≤ count f l
    unfolding change_first
    count_less e [] = omega arith
    count_less e (x ∷ l) =
        bool_cases (g x) (λ t. rw t (omega (arith, bit_false (f a) e))) (λ t. rw t (omega (arith, count_less e l)))

    -- a change that f sees neither before nor after
    pub count_kept : ((x : A) → g x ≡ true → f x ≡ false) → f a ≡ false → (l : List A) → count f (change_first g a l) ≡ count f l
    unfolding change_first
    count_kept e n [] = refl
    count_kept e n (x ∷ l) = bool_cases (g x) (λ t. rw (t, n, e x t)) (λ t. rw t (ap (λ (k : ℕ). bit (f x) + k) (count_kept e n l)))

module _ {A : Type 0} (f g : A → Bool) where
  pub count_same : ((x : A) → f x ≡ g x) → (l : List A) → count f l ≡ count g l
  count_same e [] = refl
  count_same e (x ∷ l) = cc (e x, count_same e l)

  pub count_both : ((x : A) → bit (f x) + bit (g x) ≡ 1) → (l : List A) → count f l + count g l ≡ length l
  count_both e [] = refl
  count_both e (x ∷ l) = omega (arith, e x, count_both e l)

pub count_replicate : {A : Type 0} (f : A → Bool) (n : ℕ) (a : A) → f a ≡ false → count f (replicate n a) ≡ 0
count_replicate f zero a e = refl
count_replicate f (suc n) a e = omega (arith, bit_false (f a) e, count_replicate f n a e)

-- where none passes k, two tests that agree on the others count the same
pub count_where : {A : Type 0} (k f g : A → Bool) → ((x : A) → k x ≡ false → f x ≡ g x) → (l : List A) → count k l ≡ 0 → count f l ≡ count g l
count_where k f g e [] h = refl
count_where k f g e (x ∷ l) h =
    bool_cases (k x) (λ t. absurd (omega (arith, bit_true (k x) t)))
    (λ t. rw (e x t) (ap (λ (n : ℕ). bit (g x) + n) (count_where k f g e l (omega (arith, bit_false (k x) t)))))

pub some_count : {A : Type 0} (f : A → Bool) (l : List A) → some f l ≡ ltb 0 (count f l)
unfolding some
some_count f [] = refl
some_count f (x ∷ l) =
    bool_cases (f x) (λ t. rw t (sym (lt-ltb 0 (1 + count f l) (omega arith)))) (λ t. rw (t, zero-add) (some_count f l))
