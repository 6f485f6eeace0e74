-- `store_call::records::add_alarm` meets its contract.
-- Assumes nothing.
use Rattle.basis.proofs.Std.{sym, ◌∙◌}
use Rattle.store_site.specs.Layout.{site_of}
use Rattle.store_site.proofs.TurnsLaws.{moves_none, moves_as}
use Rattle.store_call.proofs.IssuedLaws.{alarm_none, alarm_one}
use Rattle.store_call.proofs.records.add_alarm.Goals as goal

pub returns-then-of_alarm-eq0 : goal.returns-then-of_alarm-eq0
returns-then-of_alarm-eq0 c =
    moves_none c.args.p.now c.args.w.now (λ t. alarm_none (site_of c.args.p.now c.args.w.now t) c.args.number c.args.c (sym (c.of_alarm.ensures c.args.p.now t c.args.number) ∙ c.if-of_alarm-eq0.true))

pub returns : goal.returns
returns c =
    moves_as c.add.ensures
    (λ t.
    rw (c.issued.ensures, c.owner-owner.ensures c.args.p.now t, c.primary.ensures c.args.p.now t)
    (alarm_one (site_of c.args.p.now c.args.w.now t) c.args.number c.args.c (λ e. c.if-of_alarm-eq0.false (c.of_alarm.ensures c.args.p.now t c.args.number ∙ e))))
