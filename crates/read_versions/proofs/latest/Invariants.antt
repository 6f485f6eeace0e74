use Rattle.basis.proofs.Std.{◌≡◌, take}
use Rattle.read_versions.specs.Judge.{latest as latest_of}
use Rattle.read_versions.proofs.latest.Given as goal

abbrev pub invariant-loop-n : goal.invariant-loop-n
invariant-loop-n l = l.best ≡ latest_of (take l.n-index l.n-items) (take l.theirs.count l.theirs.list)
