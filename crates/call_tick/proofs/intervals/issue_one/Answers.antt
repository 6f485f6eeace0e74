-- `call_tick::intervals::issue_one` meets its contract.
-- Assumes nothing.
use Rattle.basis.proofs.Std.{sym, ◌∙◌}
use Rattle.store_site.specs.Layout.{site_of}
use Rattle.store_site.proofs.TurnsLaws.{moves_none, moves_as}
use Rattle.call_tick.proofs.InPlace.{place_issues, place_silent}
use Rattle.call_tick.proofs.intervals.issue_one.Goals as goal

pub returns-then-issues : goal.returns-then-issues
returns-then-issues c =
    moves_as c.add.ensures
    (λ t. rw (c.status-e.ensures c.args.p.now t, c.status-k.ensures c.args.p.now t) (place_issues (site_of c.args.p.now c.args.w.now t) c.args.time c.args.i (sym (c.issues.ensures c.args.p.now t) ∙ c.if-issues.true)))

pub returns : goal.returns
returns c =
    moves_none c.args.p.now c.args.w.now (λ t. place_silent (site_of c.args.p.now c.args.w.now t) c.args.time c.args.i (sym (c.issues.ensures c.args.p.now t) ∙ c.if-issues.false))
