use Rattle.basis.proofs.Std.{refl, sym, ap₂, ◌∙◌, add-one, take-suc}
use Rattle.read_versions.specs.Judge.{later as later_of, latest as latest_of}
use Rattle.read_versions.proofs.Searches.{latest_more}
use Rattle.read_versions.proofs.latest.Goals as goal

pub loop-n-init : goal.loop-n-init
unfolding latest_of
loop-n-init c = refl

pub loop-n-preserved : goal.loop-n-preserved
loop-n-preserved c =
    let l = c.loop-n in
    rw (add-one, take-suc c.known-n-items.result.now l.n-index 0 c.loop-n-test.true) (c.later-best.ensures ∙ ap₂ later_of l.invariant c.shared.ensures ∙ sym (latest_more _ _ _))
