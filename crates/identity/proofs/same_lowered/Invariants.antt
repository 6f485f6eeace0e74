use Rattle.basis.proofs.Std.{◌≡◌, length, same_bytes, both}
use Rattle.identity.specs.Hex.{lowered}
use Rattle.identity.proofs.same_lowered.Given as goal

abbrev pub invariant-loop-c : goal.invariant-loop-c
invariant-loop-c l =
    let s = l.c-iterator.a.rest.now in
    let t = l.c-iterator.b.rest.now in
    (length s ≡ length t) × (same_bytes (lowered l.s) l.t ≡ both l.same (same_bytes (lowered s) t))
