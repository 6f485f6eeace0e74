-- A link's bit is at most 8.
-- Assumes nothing.
use Rattle.basis.proofs.Std.{ℕ, ◌≤◌, Bool, true, false, arith, eqb, pick}
use Rattle.site.specs.declared.Site.{Site}
use Rattle.site.specs.Site.{mask_of}
use Rattle.call_tick.specs.Closing.{late_at, late_mask}

picked : (b : Bool) (x y : ℕ) → x ≤ 8 → y ≤ 8 → pick b x y ≤ 8
picked true x y f g = f
picked false x y f g = g

mask_most : (l : ℕ) → mask_of l ≤ 8
mask_most l =
    picked (eqb l 0) 1 _ (omega arith)
    (picked (eqb l 1) 2 _ (omega arith)
    (picked (eqb l 2) 4 _ (omega arith)
    (picked (eqb l 3) 8 0 (omega arith) (omega arith))))

pub late_most : (s : Site) (l time : ℕ) → late_mask s l time ≤ 8
unfolding late_mask
late_most s l time = picked (late_at s l time) (mask_of l) 0 (mask_most l) (omega arith)
