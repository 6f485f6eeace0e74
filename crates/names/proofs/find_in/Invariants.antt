use Rattle.basis.proofs.Std.{◌≡◌, ◌-◌}
use Rattle.names.specs.Names.{find_in}
use Rattle.names.proofs.find_in.Given as goal

abbrev pub invariant-loop-i : goal.invariant-loop-i
invariant-loop-i l = find_in l.s l.first (l.end - l.first) ≡ find_in l.s l.i (l.end - l.i)
