use Rattle.basis.proofs.Std.{◌≡◌, ◌+◌, ◌*◌, ◌^◌, ◌≤◌, drop}
use Rattle.number.specs.Reading.{says}
use Rattle.csv_entry.proofs.guess.said.Given as goal

abbrev pub invariant-loop-b : goal.invariant-loop-b
invariant-loop-b l = (l.n + 23 ≤ 23 * 10 ^ l.b-index) × (says 0 l.f ≡ says l.n (drop l.b-index l.f))
