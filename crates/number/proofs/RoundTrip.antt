-- A signed value to its 32 bits, its four bytes or its 16 bits and back.
-- Assumes nothing.
use Rattle.basis.proofs.Std.{◌≡◌, refl, sym, ap, ◌∙◌, ℕ, suc, ◌-◌, ◌^◌, ◌≤◌, ◌<◌, arith, ℤ, pos, negsuc, ltb, lt-ltb, le-ltb, ltb-true, ltb-false, picked}
use mir.Syntax.{w32}
use mir.Val.{to_z, of_z}
use mir.Facts.{to_z-of_z, sfits_to_z}
use Rattle.number.specs.Signed.{Signed32, word_of, signed_of, Signed16, word16_of, signed16_of}
use Rattle.number.proofs.Sign.{word_is, signed_is, signed_fits, fits_signed}

pub signed_word : (v : ℤ) → Signed32 v → signed_of (word_of v) ≡ v
signed_word v h = sym (signed_is (word_of v)) ∙ ap (to_z w32) (sym (word_is v)) ∙ to_z-of_z (fits_signed v h)

pub word_lt : (v : ℤ) → Signed32 v → word_of v < 2 ^ 32
word_lt (pos n) h = omega arith
word_lt (negsuc n) h = omega arith

pub signed_range : (w : ℕ) → w < 2 ^ 32 → Signed32 (signed_of w)
signed_range w h = signed_fits (signed_of w) (rw signed_is at (sfits_to_z {w = w32} {n = w} (record { fits = h })))

-- a value as a signed function hands it on
pub passed_on : (w : ℕ) → w < 2 ^ 32 → to_z w32 (of_z w32 (signed_of w)) ≡ signed_of w
passed_on w h = to_z-of_z (fits_signed (signed_of w) (signed_range w h))

pub signed_word_16 : (v : ℤ) → Signed16 v → signed16_of (word16_of v) ≡ v
signed_word_16 (pos n) h = simp (lt-ltb n (2 ^ 15) h)
signed_word_16 (negsuc n) h =
    let l : 2 ^ 15 ≤ 2 ^ 16 - suc n = omega arith in
    let e : 2 ^ 16 - suc (2 ^ 16 - suc n) ≡ n = omega arith in
    simp (le-ltb (2 ^ 16 - suc n) (2 ^ 15) l, e)

pub word_lt_16 : (v : ℤ) → Signed16 v → word16_of v < 2 ^ 16
word_lt_16 (pos n) h = omega arith
word_lt_16 (negsuc n) h = omega arith

module _ (w : ℕ) (h : w < 2 ^ 16) where
  pub word_signed_16 : word16_of (signed16_of w) ≡ w
  word_signed_16 = picked (λ (z : ℤ). word16_of z ≡ w) (ltb w (2 ^ 15)) (pos w) (negsuc (2 ^ 16 - suc w)) (λ e. refl) (λ e. omega arith)

  pub signed_range_16 : Signed16 (signed16_of w)
  signed_range_16 =
      picked Signed16 (ltb w (2 ^ 15)) (pos w) (negsuc (2 ^ 16 - suc w))
      (λ e. ltb-true w (2 ^ 15) e)
      (λ e. let l = ltb-false w (2 ^ 15) e in omega arith)

pub signed_wide : (v : ℤ) → Signed16 v → Signed32 v
signed_wide (pos n) h = omega arith
signed_wide (negsuc n) h = omega arith

pub passed_on_16 : (w : ℕ) → w < 2 ^ 16 → to_z w32 (of_z w32 (signed16_of w)) ≡ signed16_of w
passed_on_16 w h = to_z-of_z (fits_signed (signed16_of w) (signed_wide (signed16_of w) (signed_range_16 w h)))
