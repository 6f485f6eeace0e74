-- `call_input::aggregated` meets its contract.
-- Assumes nothing.
use Rattle.basis.proofs.Std.{sym, ◌∙◌}
use Rattle.answer.specs.declared.Refusal.TheVariants.{BadTime}
use Rattle.store_site.specs.Layout.{site_of}
use Rattle.store_call.proofs.CallLaws.{steps_refused, steps_as}
use Rattle.call_input.specs.Inputs.{aggregated_plan}
use Rattle.call_input.proofs.Ends.{late, on_time}
use Rattle.call_input.proofs.aggregated.Goals as goal

pub returns-then-bad_time : goal.returns-then-bad_time
returns-then-bad_time c =
    λ t.
    let s = site_of c.args.p.now c.args.w.now t in
    steps_refused t c.args.p.now c.args.w.now BadTime (late s c.args.time (aggregated_plan s c.args.value c.args.time) (sym (c.bad_time.ensures c.args.p.now t) ∙ c.if-bad_time.true))

pub returns : goal.returns
returns c =
    λ t.
    let s = site_of c.args.p.now c.args.w.now t in
    steps_as t c.args.p.now c.args.w.now (c.aggregated.ensures t) (on_time s c.args.time (aggregated_plan s c.args.value c.args.time) (sym (c.bad_time.ensures c.args.p.now t) ∙ c.if-bad_time.false))
