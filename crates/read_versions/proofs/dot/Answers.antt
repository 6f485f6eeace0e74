use Rattle.basis.proofs.Std.{◌≡◌, length, arith, rules}
use Rattle.read_versions.proofs.Dots.{at_start, passes, stops, ends}
use Rattle.read_versions.proofs.dot.Goals as goal

pub loop-i-init : goal.loop-i-init
loop-i-init c = at_start _

pub returns-then-b-eq46 : goal.returns-then-b-eq46
returns-then-b-eq46 c = stops _ _ c.loop-i.invariant (search rules) (search rules)

pub loop-i-preserved : goal.loop-i-preserved
loop-i-preserved c = passes _ _ c.loop-i.invariant (search rules) (search rules)

pub returns : goal.returns
returns c =
    let e : c.loop-i.i ≡ length c.args.s.now = omega arith in
    ends _ _ (rw e at c.loop-i.invariant) (omega arith)
