use Rattle.basis.proofs.Std.{◌≡◌, length}
use Rattle.output.specs.Put.{put}
use Rattle.calendar.specs.Text.{decimals}
use Rattle.calendar.proofs.put_digits.Given as goal

abbrev pub invariant-loop-i : goal.invariant-loop-i
invariant-loop-i l = (length l.t ≡ 24) × (put l.t l.at (decimals l.i l.m) ≡ put l.initial.t l.at (decimals l.w l.n))
