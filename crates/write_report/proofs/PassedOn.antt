-- A signed value that is passed on is the value, in whatever is written of it.
-- Assumes nothing.
use Rattle.basis.proofs.Std.{subst, List, ℕ, ℤ}
use mir.Syntax.{w32}
use mir.Val.{to_z, of_z, SFits}
use mir.Facts.{to_z-of_z}
use Rattle.output.specs.Put.{Wrote}

pub passed : {xs : List ℕ} {at : ℕ} {v : ℤ} {ys : List ℕ} {r : ℕ} (f : ℤ → List (List ℕ)) → SFits w32 v → Wrote xs at (f (to_z w32 (of_z w32 v))) ys r → Wrote xs at (f v) ys r
passed {xs} {at} {v} {ys} {r} f h w = subst (λ (z : ℤ). Wrote xs at (f z) ys r) (to_z-of_z h) w
