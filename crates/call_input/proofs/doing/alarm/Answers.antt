-- `call_input::doing::alarm` meets its contract.
-- Assumes nothing.
use Rattle.basis.proofs.Std.{◌≡◌, sym, ap, ◌∙◌, true, false}
use Rattle.answer.specs.declared.Refusal.TheVariants.{SequenceSpent}
use Rattle.alarm.specs.declared.Alarm.{Alarm}
use Rattle.alarm.specs.declared.Changed.{Changed}
use Rattle.alarm.specs.Alarm.{input_of}
use Rattle.site.specs.Call.{batch_of}
use Rattle.store_site.specs.Layout.{site_of}
use Rattle.store_call.specs.Issued.{batch_in}
use Rattle.store_call.proofs.CallLaws.{steps_refused, steps_done}
use Rattle.call_input.specs.Inputs.{alarm_entries, alarm_change, alarm_plan}
use Rattle.call_input.proofs.Ends.{planned_spent, planned_done}
use Rattle.call_input.proofs.doing.alarm.Goals as goal

pub returns-then-spent : goal.returns-then-spent
returns-then-spent c =
    λ t.
    let s = site_of c.args.p.now c.args.w.now t in
    let e : c.input-c.result ≡ alarm_change s c.args.number c.args.active c.args.time =
    c.input-c.ensures ∙ ap (λ (x : Alarm). input_of x c.args.active c.args.time) (c.alarm-before.ensures c.args.p.now t) in
    let spent : (batch_of (alarm_plan s c.args.number c.args.active c.args.time)).spent ≡ true =
    ap (λ (x : Changed). (batch_in s (alarm_entries s c.args.number x)).spent) (sym e)
    ∙ sym (c.spent.ensures c.args.p.now t (alarm_entries s c.args.number c.input-c.result) (sym (c.of_alarm.ensures c.args.p.now t c.args.number)))
    ∙ c.if-spent.true in
    steps_refused t c.args.p.now c.args.w.now SequenceSpent (planned_spent s c.args.time (alarm_plan s c.args.number c.args.active c.args.time) spent)

pub returns : goal.returns
returns c =
    λ t.
    let s = site_of c.args.p.now c.args.w.now t in
    let e : c.input-c.result ≡ alarm_change s c.args.number c.args.active c.args.time =
    c.input-c.ensures ∙ ap (λ (x : Alarm). input_of x c.args.active c.args.time) (c.alarm-before.ensures c.args.p.now t) in
    let lasts : (batch_of (alarm_plan s c.args.number c.args.active c.args.time)).spent ≡ false =
    ap (λ (x : Changed). (batch_in s (alarm_entries s c.args.number x)).spent) (sym e)
    ∙ sym (c.spent.ensures c.args.p.now t (alarm_entries s c.args.number c.input-c.result) (sym (c.of_alarm.ensures c.args.p.now t c.args.number)))
    ∙ c.if-spent.false in
    steps_done t c.args.p.now c.args.w.now _ c.change_alarm.ensures
    (rw (c.nothing.ensures, e) (planned_done s c.args.time (alarm_plan s c.args.number c.args.active c.args.time) lasts))
