-- `call_tick::tick` meets its contract.
-- Assumes nothing.
use Rattle.basis.proofs.Std.{◌≡◌, sym, ◌∙◌, true, false}
use Rattle.answer.specs.declared.Refusal.TheVariants.{BadTime, SequenceSpent}
use Rattle.site.specs.Site.{bad_time_at}
use Rattle.site.specs.Call.{batch_of}
use Rattle.store_site.specs.Layout.{site_of}
use Rattle.store_call.proofs.CallLaws.{steps_refused, steps_done}
use Rattle.call_tick.specs.Tick.{site_after, issued_at, tick_plan}
use Rattle.call_tick.proofs.Judged.{tick_late, tick_spent, tick_done}
use Rattle.call_tick.proofs.InPlace.{spent_before}
use Rattle.call_tick.proofs.tick.Goals as goal

pub returns-then-bad_time : goal.returns-then-bad_time
returns-then-bad_time c =
    λ t. steps_refused t c.args.p.now c.args.w.now BadTime (tick_late (site_of c.args.p.now c.args.w.now t) c.args.time (sym (c.bad_time.ensures c.args.p.now t) ∙ c.if-bad_time.true))

pub returns-then-spent : goal.returns-then-spent
returns-then-spent c =
    λ t.
    let s = site_of c.args.p.now c.args.w.now t in
    let on_time : bad_time_at s c.args.time ≡ false = sym (c.bad_time.ensures c.args.p.now t) ∙ c.if-bad_time.false in
    let spent : (batch_of (tick_plan s c.args.time)).spent ≡ true =
    sym (spent_before s c.args.time) ∙ sym (c.spent.ensures c.args.p.now t (issued_at s c.args.time) (sym (c.how_many.ensures c.args.p.now t (site_after s c.args.time).links))) ∙ c.if-spent.true in
    steps_refused t c.args.p.now c.args.w.now SequenceSpent (tick_spent s c.args.time on_time spent)

pub returns : goal.returns
returns c =
    let pass = c.pass-closed in
    λ t.
    let s = site_of c.args.p.now c.args.w.now t in
    let on_time : bad_time_at s c.args.time ≡ false = sym (c.bad_time.ensures c.args.p.now t) ∙ c.if-bad_time.false in
    let lasts : (batch_of (tick_plan s c.args.time)).spent ≡ false =
    sym (spent_before s c.args.time) ∙ sym (c.spent.ensures c.args.p.now t (issued_at s c.args.time) (sym (c.how_many.ensures c.args.p.now t (site_after s c.args.time).links))) ∙ c.if-spent.false in
    steps_done t c.args.p.now c.args.w.now _ pass.ensures.0 (rw (pass.ensures.1 t) (tick_done s c.args.time on_time lasts))
