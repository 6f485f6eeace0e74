-- A verdict on two elements is good where both are.
-- Assumes nothing.
use Rattle.basis.proofs.Std.{◌≡◌, refl, ℕ, arith}
use Rattle.read_head.specs.declared.Verdict.{Verdict}
use Rattle.read_head.specs.declared.Verdict.TheVariants.{Good, Missing, Bad}
use Rattle.read_head.specs.Values.{worst}

pub not_missing : Missing ≡ Good → ⊥
not_missing e = let z : ◌≡◌ {A = ℕ} 0 1 = cc in omega arith

pub not_bad : Bad ≡ Good → ⊥
not_bad e = let z : ◌≡◌ {A = ℕ} 0 1 = cc in omega arith

pub both_good : (v w : Verdict) → worst v w ≡ Good → (v ≡ Good) × (w ≡ Good)
both_good Good w e = (refl, e)
both_good Missing w e = absurd (not_missing e)
both_good Bad Good e = absurd (not_bad e)
both_good Bad Missing e = absurd (not_missing e)
both_good Bad Bad e = absurd (not_bad e)
