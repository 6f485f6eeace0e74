-- `call_input::records::add_status` meets its contract.
-- Assumes nothing.
use Rattle.basis.proofs.Std.{sym, ◌∙◌}
use Rattle.store_site.specs.Layout.{site_of}
use Rattle.store_site.proofs.TurnsLaws.{moves_none, moves_as}
use Rattle.call_input.proofs.InPlace.{status_issues, status_silent}
use Rattle.call_input.proofs.records.add_status.Goals as goal

pub returns-then-issues : goal.returns-then-issues
returns-then-issues c =
    moves_as c.add.ensures
    (λ t.
    rw (c.status-e.ensures c.args.p.now t)
    (status_issues c.args.number c.args.x c.args.time (site_of c.args.p.now c.args.w.now t) c.args.l (sym (c.issues.ensures c.args.p.now t) ∙ c.if-issues.true)))

pub returns : goal.returns
returns c =
    moves_none c.args.p.now c.args.w.now
    (λ t. status_silent c.args.number c.args.x c.args.time (site_of c.args.p.now c.args.w.now t) c.args.l (sym (c.issues.ensures c.args.p.now t) ∙ c.if-issues.false))
