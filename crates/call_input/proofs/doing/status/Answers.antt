-- `call_input::doing::status` meets its contract.
-- Assumes nothing.
use Rattle.basis.proofs.Std.{◌≡◌, sym, ap, ◌∙◌, true, false}
use Rattle.answer.specs.declared.Refusal.TheVariants.{SequenceSpent}
use mir.Facts.{to_z-of_z}
use Rattle.status.specs.declared.Set.{Set}
use Rattle.site.specs.Call.{batch_of}
use Rattle.store_site.specs.Layout.{site_of}
use Rattle.store_call.specs.Issued.{batch_in}
use Rattle.store_call.proofs.CallLaws.{steps_refused, steps_done}
use Rattle.call_input.specs.Inputs.{status_entries, status_change, status_plan}
use Rattle.call_input.proofs.Ends.{planned_spent, planned_done}
use Rattle.call_input.proofs.doing.status.Goals as goal

pub returns-then-spent : goal.returns-then-spent
returns-then-spent c =
    λ t.
    let s = site_of c.args.p.now c.args.w.now t in
    let e : c.set-x.result ≡ status_change s c.args.number c.args.value = rw (c.status-before.ensures c.args.p.now t, to_z-of_z c.ranges.value) at c.set-x.ensures in
    let spent : (batch_of (status_plan s c.args.number c.args.value c.args.time)).spent ≡ true =
    ap (λ (x : Set). (batch_in s (status_entries s c.args.number x c.args.time)).spent) (sym e)
    ∙ sym (c.spent.ensures c.args.p.now t (status_entries s c.args.number c.set-x.result c.args.time) (sym (c.of_status.ensures c.args.p.now t c.args.time)))
    ∙ c.if-spent.true in
    steps_refused t c.args.p.now c.args.w.now SequenceSpent (planned_spent s c.args.time (status_plan s c.args.number c.args.value c.args.time) spent)

pub returns : goal.returns
returns c =
    λ t.
    let s = site_of c.args.p.now c.args.w.now t in
    let e : c.set-x.result ≡ status_change s c.args.number c.args.value = rw (c.status-before.ensures c.args.p.now t, to_z-of_z c.ranges.value) at c.set-x.ensures in
    let lasts : (batch_of (status_plan s c.args.number c.args.value c.args.time)).spent ≡ false =
    ap (λ (x : Set). (batch_in s (status_entries s c.args.number x c.args.time)).spent) (sym e)
    ∙ sym (c.spent.ensures c.args.p.now t (status_entries s c.args.number c.set-x.result c.args.time) (sym (c.of_status.ensures c.args.p.now t c.args.time)))
    ∙ c.if-spent.false in
    steps_done t c.args.p.now c.args.w.now _ c.change_status.ensures
    (rw (c.nothing.ensures, e) (planned_done s c.args.time (status_plan s c.args.number c.args.value c.args.time) lasts))
