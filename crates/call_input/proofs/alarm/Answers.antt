-- `call_input::alarm` meets its contract.
-- Assumes nothing.
use Rattle.basis.proofs.Std.{◌≤◌, ◌<◌, sym, ◌∙◌}
use Rattle.answer.specs.declared.Refusal.TheVariants.{NoSuchItem, BadTime}
use Rattle.store_table.specs.Layout.{table_of}
use Rattle.store_site.specs.Layout.{site_of}
use Rattle.store_site.proofs.SiteLaws.{table_of_lem}
use Rattle.store_call.proofs.CallLaws.{steps_refused, steps_as}
use Rattle.call_input.specs.Inputs.{planned, alarm_plan}
use Rattle.call_input.proofs.Ends.{no_item, item_late, item_on_time}
use Rattle.call_input.proofs.alarm.Goals as goal

pub returns-then-alarm_count-number : goal.returns-then-alarm_count-number
returns-then-alarm_count-number c =
    let t = table_of c.args.t.now in
    let s = site_of c.args.p.now c.args.w.now t in
    let past : s.table.alarmcount ≤ c.args.number = rw (table_of_lem c.args.p.now c.args.w.now t, ← c.alarm_count.ensures) c.if-alarm_count-number.true in
    steps_refused t c.args.p.now c.args.w.now NoSuchItem (no_item s c.args.time (alarm_plan s c.args.number c.args.active c.args.time) s.table.alarmcount c.args.number past)

pub returns-then-bad_time : goal.returns-then-bad_time
returns-then-bad_time c =
    let t = table_of c.args.t.now in
    let s = site_of c.args.p.now c.args.w.now t in
    let is : c.args.number < s.table.alarmcount = rw (table_of_lem c.args.p.now c.args.w.now t, ← c.alarm_count.ensures) c.if-alarm_count-number.false in
    steps_refused t c.args.p.now c.args.w.now BadTime
    (item_late s c.args.time (alarm_plan s c.args.number c.args.active c.args.time) s.table.alarmcount c.args.number is (sym (c.bad_time.ensures c.args.p.now t) ∙ c.if-bad_time.true))

pub returns : goal.returns
returns c =
    let t = table_of c.args.t.now in
    let s = site_of c.args.p.now c.args.w.now t in
    let is : c.args.number < s.table.alarmcount = rw (table_of_lem c.args.p.now c.args.w.now t, ← c.alarm_count.ensures) c.if-alarm_count-number.false in
    steps_as t c.args.p.now c.args.w.now {x = planned s c.args.time (alarm_plan s c.args.number c.args.active c.args.time)} (c.alarm.ensures t)
    (item_on_time s c.args.time (alarm_plan s c.args.number c.args.active c.args.time) s.table.alarmcount c.args.number is (sym (c.bad_time.ensures c.args.p.now t) ∙ c.if-bad_time.false))
