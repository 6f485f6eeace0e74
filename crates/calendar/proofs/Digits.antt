-- Digits put into a text from the last to the first, and read back.
-- Assumes nothing.
use Rattle.basis.proofs.Std.{◌≡◌, refl, sym, ap, ap₂, ◌∙◌, List, [], ◌∷◌, ◌++◌, append_assoc, ℕ, zero, suc, ◌+◌, ◌-◌, ◌*◌, ◌/◌, ◌%◌, ◌≤◌, ◌<◌, arith, length, take, drop, set, get_or, length-append, take-set-le, drop-cons, drop-set-lt, get_or-set_same, lt-length-set}
use Rattle.output.specs.Put.{put}
use Rattle.calendar.specs.Text.{decimals}

decimals_length : (w n : ℕ) → length (decimals w n) ≡ w
decimals_length zero n = refl
decimals_length (suc w) n = omega (arith, length-append (decimals w (n / 10)) ((48 + n % 10) ∷ []), decimals_length w (n / 10))

-- the last digit is set, and the others are put before it
pub put_digit : (t : List ℕ) (at i m : ℕ) → at + i < length t → put (set t (at + i) (48 + m % 10)) at (decimals i (m / 10)) ≡ put t at (decimals (suc i) m)
unfolding put
put_digit t at i m h =
    let D = decimals i (m / 10) in
    let x = 48 + m % 10 in
    let n = at + i in
    let l = decimals_length i (m / 10) in
    let a : at + length D ≡ n = ap (λ (k : ℕ). at + k) l in
    let b : at + length (D ++ (x ∷ [])) ≡ suc n = omega (arith, length-append D (x ∷ []), l) in
    let g : get_or (set t n x) n 0 ≡ x = get_or-set_same t n x 0 h in
    let f : drop (suc n) (set t n x) ≡ drop (suc n) t = drop-set-lt (suc n) t n x (omega arith) in
    let d : drop n (set t n x) ≡ x ∷ drop (suc n) t = drop-cons (set t n x) n 0 (lt-length-set t n x h) ∙ ap₂ (λ (y : ℕ) (r : List ℕ). y ∷ r) g f in
    let left : take at (set t n x) ++ D ++ drop (at + length D) (set t n x) ≡ take at t ++ D ++ (x ∷ drop (suc n) t) = ap₂ (λ (p q : List ℕ). p ++ D ++ q) (take-set-le at t n x (omega arith)) (ap (λ (k : ℕ). drop k (set t n x)) a ∙ d) in
    let mid : take at t ++ D ++ (x ∷ drop (suc n) t) ≡ take at t ++ (D ++ (x ∷ [])) ++ drop (suc n) t = simp append_assoc in
    let right : take at t ++ (D ++ (x ∷ [])) ++ drop (at + length (D ++ (x ∷ []))) t ≡ take at t ++ (D ++ (x ∷ [])) ++ drop (suc n) t = ap (λ (k : ℕ). take at t ++ (D ++ (x ∷ [])) ++ drop k t) b in
    left ∙ mid ∙ sym right

pub two_digits : (n : ℕ) → n ≤ 99 → (48 + n / 10 % 10 - 48) * 10 + (48 + n % 10 - 48) ≡ n
two_digits n h = omega arith

pub three_digits : (n : ℕ) → n ≤ 999 → (48 + n / 10 / 10 % 10 - 48) * 100 + ((48 + n / 10 % 10 - 48) * 10 + (48 + n % 10 - 48)) ≡ n
three_digits n h = omega arith

pub four_digits : (n : ℕ) → n ≤ 9999 → ((48 + n / 10 / 10 / 10 % 10 - 48) * 10 + (48 + n / 10 / 10 % 10 - 48)) * 100 + ((48 + n / 10 % 10 - 48) * 10 + (48 + n % 10 - 48)) ≡ n
four_digits n h = omega arith
