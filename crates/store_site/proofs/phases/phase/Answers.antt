-- `store_site::phases::phase` meets its contract.
-- Assumes nothing.
use Rattle.store_site.proofs.HeadLaws.{phase_is}
use Rattle.basis.proofs.Std.{refl, sym, ◌∙◌, lt-ltb, le-ltb, rules}
use Rattle.store_site.proofs.phases.phase.Goals as goal

pub returns-then-all_three-2 : goal.returns-then-all_three-2
returns-then-all_three-2 c =
    λ ps t. phase_is ps c.args.w.now t c.args.l (search rules) (lt-ltb 0 _ c.if-w-i-gt0.true) (sym c.all_three.ensures ∙ c.if-all_three.true) (sym c.all_three-then-all_three.ensures ∙ c.if-all_three-2.true)

pub returns-then-all_three : goal.returns-then-all_three
returns-then-all_three c =
    λ ps t. phase_is ps c.args.w.now t c.args.l (search rules) (lt-ltb 0 _ c.if-w-i-gt0.true) (sym c.all_three.ensures ∙ c.if-all_three.true) (sym c.all_three-then-all_three.ensures ∙ c.if-all_three-2.false)

pub returns-then-w-i-gt0 : goal.returns-then-w-i-gt0
returns-then-w-i-gt0 c =
    λ ps t. phase_is ps c.args.w.now t c.args.l (search rules) (lt-ltb 0 _ c.if-w-i-gt0.true) (sym c.all_three.ensures ∙ c.if-all_three.false) (refl)

pub returns : goal.returns
returns c =
    λ ps t. phase_is ps c.args.w.now t c.args.l (search rules) (le-ltb 0 _ c.if-w-i-gt0.false) (refl) (refl)
