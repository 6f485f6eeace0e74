-- `call_input::status` meets its contract.
-- Assumes nothing.
use Rattle.basis.proofs.Std.{◌≤◌, ◌<◌, sym, ap, ◌∙◌, ℤ}
use mir.Facts.{to_z-of_z}
use Rattle.answer.specs.declared.Refusal.TheVariants.{NoSuchItem, BadTime}
use Rattle.store_table.specs.Layout.{table_of}
use Rattle.store_site.specs.Layout.{site_of}
use Rattle.store_site.proofs.SiteLaws.{table_of_lem}
use Rattle.store_call.proofs.CallLaws.{steps_refused, steps_as}
use Rattle.call_input.specs.Inputs.{planned, status_plan}
use Rattle.call_input.proofs.Ends.{no_item, item_late, item_on_time}
use Rattle.call_input.proofs.status.Goals as goal

pub returns-then-status_count-number : goal.returns-then-status_count-number
returns-then-status_count-number c =
    let t = table_of c.args.t.now in
    let s = site_of c.args.p.now c.args.w.now t in
    let past : s.table.statuscount ≤ c.args.number = rw (table_of_lem c.args.p.now c.args.w.now t, ← c.status_count.ensures) c.if-status_count-number.true in
    steps_refused t c.args.p.now c.args.w.now NoSuchItem (no_item s c.args.time (status_plan s c.args.number c.args.value c.args.time) s.table.statuscount c.args.number past)

pub returns-then-bad_time : goal.returns-then-bad_time
returns-then-bad_time c =
    let t = table_of c.args.t.now in
    let s = site_of c.args.p.now c.args.w.now t in
    let is : c.args.number < s.table.statuscount = rw (table_of_lem c.args.p.now c.args.w.now t, ← c.status_count.ensures) c.if-status_count-number.false in
    steps_refused t c.args.p.now c.args.w.now BadTime
    (item_late s c.args.time (status_plan s c.args.number c.args.value c.args.time) s.table.statuscount c.args.number is (sym (c.bad_time.ensures c.args.p.now t) ∙ c.if-bad_time.true))

pub returns : goal.returns
returns c =
    let t = table_of c.args.t.now in
    let s = site_of c.args.p.now c.args.w.now t in
    let is : c.args.number < s.table.statuscount = rw (table_of_lem c.args.p.now c.args.w.now t, ← c.status_count.ensures) c.if-status_count-number.false in
    steps_as t c.args.p.now c.args.w.now (c.status.ensures t)
    (ap (λ (v : ℤ). planned s c.args.time (status_plan s c.args.number v c.args.time)) (to_z-of_z c.ranges.value)
    ∙ item_on_time s c.args.time (status_plan s c.args.number c.args.value c.args.time) s.table.statuscount c.args.number is (sym (c.bad_time.ensures c.args.p.now t) ∙ c.if-bad_time.false))
