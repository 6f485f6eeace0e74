-- A signed number and its bits: the machine's reading of them is that of the definitions.
-- Assumes nothing.
use Rattle.basis.proofs.Std.{◌≡◌, refl, Bool, true, false, ℕ, suc, ◌-◌, ◌^◌, ltb, ℤ, pos, negsuc, pick}
use mir.Syntax.{w32}
use mir.Val.{SFits, to_z, of_z, sel}
use Rattle.number.specs.Signed.{Signed32, word_of, signed_of}

-- the machine's reading of bits is that of the definitions
pub word_is : (v : ℤ) → of_z w32 v ≡ word_of v
word_is (pos n) = refl
word_is (negsuc n) = refl

pub signed_is : (w : ℕ) → to_z w32 w ≡ signed_of w
signed_is w = same (ltb w (2 ^ 31))
  where
    same : (b : Bool) → sel b (pos w) (negsuc (2 ^ 32 - suc w)) ≡ pick b (pos w) (negsuc (2 ^ 32 - suc w))
    same true = refl
    same false = refl

pub signed_fits : (v : ℤ) → SFits w32 v → Signed32 v
signed_fits (pos n) h = h.sfits
signed_fits (negsuc n) h = h.sfits

pub fits_signed : (v : ℤ) → Signed32 v → SFits w32 v
fits_signed (pos n) h = record { sfits = h }
fits_signed (negsuc n) h = record { sfits = h }
