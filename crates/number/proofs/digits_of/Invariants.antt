use Rattle.basis.proofs.Std.{◌≡◌, ◌++◌, ◌+◌, ◌^◌, ◌≤◌, ◌<◌, length, drop}
use Rattle.number.specs.Decimal.{digits}
use Rattle.number.proofs.digits_of.Given as goal

abbrev pub invariant-loop-left : goal.invariant-loop-left
invariant-loop-left l =
    (length l.bytes ≡ 21) × (1 ≤ l.from) × (l.from ≤ 20) × (l.left < 10 ^ l.from) × (digits l.n ≡ digits l.left ++ drop (l.from + 1) l.bytes)

abbrev pub decreases-loop-left : goal.decreases-loop-left
decreases-loop-left l = l.left
