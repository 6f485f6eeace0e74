-- The leap rule: a year is 365 or 366 days long, and what a year adds to the counts of fourth, hundredth and four hundredth years.
-- Assumes nothing.
use Rattle.basis.proofs.Std.{◌≡◌, ◌⊎◌, ⊎_elim, ℕ, ◌+◌, ◌/◌, ◌%◌, ◌≤◌, arith, eqb, lit≤, eq-eqb, ne_eqb, eqb-true, eqb-false, picked}
use Rattle.calendar.specs.Days.{leap_of}

pub leap_le : (y : ℕ) → leap_of y ≤ 1
unfolding leap_of
leap_le y =
    let P : ℕ → Type 0 = λ (n : ℕ). n ≤ 1 in
    picked P (eqb (y % 4) 0) _ _ (λ e. picked P (eqb (y % 100) 0) _ _ (λ f. picked P (eqb (y % 400) 0) _ _ (λ g. lit≤ tt) (λ g. lit≤ tt)) (λ f. lit≤ tt)) (λ e. lit≤ tt)

next4 : (p : ℕ) → (p + 1) % 4 ≡ 0 → (p + 1) / 4 ≡ p / 4 + 1
next4 p h = omega arith

same4 : (p : ℕ) → ((p + 1) % 4 ≡ 0 → ⊥) → (p + 1) / 4 ≡ p / 4
same4 p h = omega arith

next100 : (p : ℕ) → (p + 1) % 100 ≡ 0 → (p + 1) / 100 ≡ p / 100 + 1
next100 p h = omega arith

same100 : (p : ℕ) → ((p + 1) % 100 ≡ 0 → ⊥) → (p + 1) / 100 ≡ p / 100
same100 p h = omega arith

next400 : (p : ℕ) → (p + 1) % 400 ≡ 0 → (p + 1) / 400 ≡ p / 400 + 1
next400 p h = omega arith

same400 : (p : ℕ) → ((p + 1) % 400 ≡ 0 → ⊥) → (p + 1) / 400 ≡ p / 400
same400 p h = omega arith

not100 : (y : ℕ) → (y % 4 ≡ 0 → ⊥) → y % 100 ≡ 0 → ⊥
not100 y n h = n (omega arith)

not400 : (y : ℕ) → (y % 100 ≡ 0 → ⊥) → y % 400 ≡ 0 → ⊥
not400 y n h = n (omega arith)

pub leap_adds : (p : ℕ) → leap_of (p + 1) + p / 4 + (p + 1) / 100 + p / 400 ≡ (p + 1) / 4 + p / 100 + (p + 1) / 400
unfolding leap_of
leap_adds p =
    let y = p + 1 in
    let P : ℕ → Type 0 = λ (n : ℕ). n + p / 4 + y / 100 + p / 400 ≡ y / 4 + p / 100 + y / 400 in
    picked P (eqb (y % 4) 0) _ _
    (λ e. let f4 = next4 p (eqb-true (y % 4) 0 e) in
    picked P (eqb (y % 100) 0) _ _
    (λ f. let f100 = next100 p (eqb-true (y % 100) 0 f) in
    picked P (eqb (y % 400) 0) _ _
    (λ g. rw (f4, f100, next400 p (eqb-true (y % 400) 0 g)) (all_three (p / 4) (p / 100) (p / 400)))
    (λ g. rw (f4, f100, same400 p (eqb-false (y % 400) 0 g)) (only_two (p / 4) (p / 100) (p / 400))))
    (λ f. let n = eqb-false (y % 100) 0 f in rw (f4, same100 p n, same400 p (not400 y n)) (only_fourth (p / 4) (p / 100) (p / 400))))
    (λ e. let n = eqb-false (y % 4) 0 e in rw (same4 p n, same100 p (not100 y n), same400 p (not400 y (not100 y n))) (nothing (p / 4) (p / 100) (p / 400)))
  where
    nothing : (a b c : ℕ) → 0 + a + b + c ≡ a + b + c
    nothing a b c = omega arith

    all_three : (a b c : ℕ) → 1 + a + (b + 1) + c ≡ a + 1 + b + (c + 1)
    all_three a b c = omega arith

    only_two : (a b c : ℕ) → 0 + a + (b + 1) + c ≡ a + 1 + b + c
    only_two a b c = omega arith

    only_fourth : (a b c : ℕ) → 1 + a + b + c ≡ a + 1 + b + c
    only_fourth a b c = omega arith

hundredth : (y : ℕ) → y % 400 ≡ 0 → y % 100 ≡ 0
hundredth y h = omega arith

-- a fourth year that is no hundredth, or a four hundredth
pub leap_year : (y : ℕ) → y % 4 ≡ 0 → ((y % 100 ≡ 0 → ⊥) ⊎ (y % 400 ≡ 0)) → leap_of y ≡ 1
unfolding leap_of
leap_year y f c =
    rw (eq-eqb (y % 4) 0 f)
    (⊎_elim (λ n. rw (ne_eqb (y % 100) 0 n)) (λ e. rw (eq-eqb (y % 100) 0 (hundredth y e), eq-eqb (y % 400) 0 e)) c)
