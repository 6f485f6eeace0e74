-- The machine's first place that passes, and the only one that the code finds.
-- Assumes nothing.
use Rattle.basis.proofs.Std.{ℕ, zero, suc, ◌+◌, ◌≤◌, ◌<◌, le_of_suc-le-suc, not-suc-le-zero, arith, ◌≡◌, refl, ap, Bool, true, false, List, [], ◌∷◌, Option, some, none, length, get_or, lt-ltb, picked, not_both}
use Rattle.table_item.specs.declared.Found.{Found}
use Rattle.table_item.specs.declared.Found.TheVariants.{At, Nothing}
use Rattle.table_whole.specs.Lookup.{Finds}
use Rattle.table_whole.specs.Lookup.Finds.{only, absent}
use Rattle.packet_lookup.specs.declared.Sought.TheVariants.{Is}
use Rattle.packet_lookup.specs.Sought.{numbered}
use Rattle.machine.specs.Words.{place_from}
use Rattle.refine_packet.specs.Lookups.{sought_for}

pub data Placed {A : Type 0} (f : A → Bool) (d : A) (xs : List A) (i : ℕ) : Option ℕ → Type 0 where
  there : {n : ℕ} (k : ℕ) → k < length xs → f (get_or xs k d) ≡ true → n ≡ i + k → Placed f d xs i (some n)
  nowhere : ((k : ℕ) → k < length xs → f (get_or xs k d) ≡ false) → Placed f d xs i none

module _ {A : Type 0} (f : A → Bool) (d : A) where
  further : (x : A) (xs : List A) (i : ℕ) → f x ≡ false → (o : Option ℕ) → Placed f d xs (suc i) o → Placed f d (x ∷ xs) i o
  further x xs i e (some n) (there k h t q) = there {n = n} (suc k) (omega (arith, h)) t (omega (arith, q))
  further x xs i e none (nowhere g) = nowhere by
    where
      by : (k : ℕ) → k < length (x ∷ xs) → f (get_or (x ∷ xs) k d) ≡ false
      by zero h = e
      by (suc k) h = g k (le_of_suc-le-suc h)

  pub placed : (xs : List A) (i : ℕ) → Placed f d xs i (place_from i f xs)
  placed [] i = nowhere (λ k h. absurd (not-suc-le-zero h))
  placed (x ∷ xs) i =
      picked (Placed f d (x ∷ xs) i) (f x) (some i) (place_from (suc i) f xs)
      (λ t. there {n = i} 0 (omega arith) t (omega arith))
      (λ e. further x xs i e (place_from (suc i) f xs) (placed xs (suc i)))

  pub within : (xs : List A) (o : Option ℕ) → Placed f d xs 0 o → (n : ℕ) → o ≡ some n → n < length xs
  within xs (some q) (there k h t e) n c = let z : q ≡ n = cc in omega (arith, h, e, z)
  within xs none (nowhere g) n c = absurd (let z : ◌≡◌ {A = ℕ} 0 1 = cc in omega arith)

  module _ (xs : List A) (few : length xs ≤ 32) (P : ℕ → Type 0) (is : (i : ℕ) → i < length xs → f (get_or xs i d) ≡ true → P i) (so : (i : ℕ) → i < length xs → P i → f (get_or xs i d) ≡ true) where
    pub same_place : (r : Found) → Finds (length xs) P r → (o : Option ℕ) → Placed f d xs 0 o → numbered r ≡ sought_for o
    same_place (At i) (only b p one) (some n) (there k h t e) =
        let z : k ≡ i = one k h (is k h t) in
        rw (lt-ltb i 32 (omega (arith, b, few))) (ap Is (omega (arith, z, e)))
    same_place (At i) (only b p one) none (nowhere g) = not_both (so i b p) (g i b)
    same_place Nothing (absent void) (some n) (there k h t e) = absurd (void k h (is k h t))
    same_place Nothing (absent void) none (nowhere g) = refl
