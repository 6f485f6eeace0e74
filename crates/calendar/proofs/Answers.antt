-- An answer by a guess that is the number wherever there is one; and there is one answer only.
-- Assumes nothing.
use Rattle.basis.proofs.Std.{◌≡◌, sym, ap, subst, ◌∙◌, true, List, ℕ, ◌≤◌, ◌<◌, arith, leb, leb-true, le-leb, both, picked, same_bytes, same_true, same_self, not_both, both_true, both_of}
use Rattle.calendar.specs.declared.Second.TheVariants.{Is, No}
use Rattle.calendar.specs.Read.{Answers, checked}

pub no_is : {X : Type 0} (n : ℕ) → No ≡ Is n → X
no_is n e = absurd (let z : ◌≡◌ {A = ℕ} 0 1 = cc in omega arith)

is_no : {X : Type 0} (n : ℕ) → Is n ≡ No → X
is_no n e = no_is n (sym e)

pub is_number_lem : (a b : ℕ) → Is a ≡ Is b → a ≡ b
is_number_lem a b e = cc

module _ (text_of : ℕ → List ℕ) (last : ℕ) (s : List ℕ) where
  pub nothing : ((n : ℕ) → n ≤ last → s ≡ text_of n → ⊥) → Answers text_of last s No
  nothing f = record { accepted = λ n e. no_is n e; refused = λ _. f }

  pub this : (n : ℕ) → n ≤ last → s ≡ text_of n → Answers text_of last s (Is n)
  this n h e = record { accepted = λ k i. subst (λ (m : ℕ). (m ≤ last) × (s ≡ text_of m)) (is_number_lem n k i) (h, e); refused = λ i. is_no n i }

  module _ (guess : ℕ) (only : (n : ℕ) → n ≤ last → s ≡ text_of n → guess ≡ n) where
    pub too_large : last < guess → Answers text_of last s No
    too_large h = nothing (λ n b e. let g = only n b e in omega arith)

    pub another : (s ≡ text_of guess → ⊥) → Answers text_of last s No
    another f = nothing (λ n b e. f (e ∙ ap text_of (sym (only n b e))))

    pub checked_answers : Answers text_of last s (checked text_of last s guess)
    checked_answers =
        picked (Answers text_of last s) (both (leb guess last) (same_bytes s (text_of guess))) (Is guess) No
        (λ t. this guess (leb-true guess last (both_true (leb guess last) (same_bytes s (text_of guess)) t).0) (same_true s (text_of guess) (both_true (leb guess last) (same_bytes s (text_of guess)) t).1))
        (λ f. nothing (λ n b e.
        let g = only n b e in
        let k : s ≡ text_of guess = e ∙ ap text_of (sym g) in
        let l : guess ≤ last = omega arith in
        not_both (both_of (le-leb guess last l) (subst (λ (x : List ℕ). same_bytes s x ≡ true) k (same_self s))) f))
