-- A list in a place of n elements, and the first bytes of a text.
-- Assumes nothing.
use Rattle.basis.proofs.Std.{drop, length-take, ◌≡◌, refl, sym, ap, ◌∙◌, List, ◌++◌, ⊎_elim, ℕ, ◌+◌, ◌-◌, ◌≤◌, ◌<◌, min, arith, length, take, replicate, length-append, length-replicate, take_all, take_at, le_or_lt}
use Rattle.std.proofs.lemmas.List.{drop-replicate}
use Rattle.label.specs.declared.Label.{Label}
use Rattle.label.specs.Label.{label_of}
use Rattle.label.specs.Padded.{padded}

pub length_padded : {A : Type 0} (n : ℕ) (z : A) (xs : List A) → length xs ≤ n → length (padded n z xs) ≡ n
length_padded n z xs h = length-append xs _ ∙ ap (λ (m : ℕ). length xs + m) (length-replicate (n - length xs) z) ∙ omega arith

-- the list again
pub take_padded : {A : Type 0} (n : ℕ) (z : A) (xs : List A) → take (length xs) (padded n z xs) ≡ xs
take_padded n z xs = take_at xs _ (length xs) refl

-- the first n bytes of a text, or all of them
pub take_min : (n : ℕ) (s : List ℕ) → take (min (length s) n) s ≡ take n s
take_min n s =
    ⊎_elim
    (λ (h : length s ≤ n). take_all (min (length s) n) s (omega arith) ∙ sym (take_all n s h))
    (λ (h : n < length s). let e : min (length s) n ≡ n = omega arith in ap (λ (m : ℕ). take m s) e)
    (le_or_lt (length s) n)

-- they are put over zeros
pub first_32 : (s : List ℕ) (n : ℕ) → n ≡ min (length s) 32 → ◌≡◌ {A = Label} (record { bytes = take n s ++ drop n (replicate 32 0); length = n }) (label_of (take 32 s))
first_32 s n e =
    let t : take n s ≡ take 32 s = ap (λ (m : ℕ). take m s) e ∙ take_min 32 s in
    let k : n ≡ length (take 32 s) = omega (arith, length-take 32 s) in
    rw (t, drop-replicate {X = ℕ} n 32 0) (ap (λ (m : ℕ). record { bytes = take 32 s ++ replicate (32 - m) 0; length = m }) k)

-- no more than there are
pub take_short : (n : ℕ) (s : List ℕ) → take (min n (length s)) s ≡ take n s
take_short n s =
    ⊎_elim
    (λ (h : n ≤ length s). let e : min n (length s) ≡ n = omega arith in ap (λ (m : ℕ). take m s) e)
    (λ (h : length s < n). take_all (min n (length s)) s (omega arith) ∙ sym (take_all n s (omega arith)))
    (le_or_lt n (length s))
