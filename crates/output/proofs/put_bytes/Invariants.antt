use Rattle.basis.proofs.Std.{◌≡◌, length, paste}
use Rattle.output.proofs.put_bytes.Given as goal

abbrev pub invariant-loop-k : goal.invariant-loop-k
invariant-loop-k l = (length l.out ≡ length l.initial.out) × (l.out ≡ paste l.initial.out l.at l.b l.k)
