-- `packet_subscribe::issue` meets its contract.
-- Assumes nothing.
use Rattle.basis.proofs.Std.{sym, ◌∙◌}
use Rattle.packet_subscribe.proofs.Loops.{record_like, not_issued}
use Rattle.packet_subscribe.proofs.issue.Goals as goal

pub returns-in-Is : goal.returns-in-Is
returns-in-Is c =
    record_like c.args.p.now c.args.w.now c.args.l c.args.time (sym c.in-Is.is ∙ c.status-status.ensures) c.issue_of.ensures

pub returns-in-Nothing : goal.returns-in-Nothing
returns-in-Nothing c =
    record_like c.args.p.now c.args.w.now c.args.l c.args.time (sym c.in-Nothing.is ∙ c.status-status.ensures) (not_issued c.args.p.now c.args.w.now c.args.l c.args.time)
