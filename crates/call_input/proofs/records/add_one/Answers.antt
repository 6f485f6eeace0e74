-- `call_input::records::add_one` meets its contract.
-- Assumes nothing.
use Rattle.store_site.specs.Layout.{site_of}
use Rattle.store_site.proofs.TurnsLaws.{moves_none, moves_as}
use Rattle.call_input.proofs.InPlace.{aggregated_issues, aggregated_silent}
use Rattle.call_input.proofs.records.add_one.Goals as goal

pub returns-then-x : goal.returns-then-x
returns-then-x c =
    moves_as c.add.ensures (λ t. rw (c.issued.ensures, c.owner-owner.ensures c.args.p.now t) (aggregated_issues c.args.x (site_of c.args.p.now c.args.w.now t) c.args.l c.if-x.true))

pub returns : goal.returns
returns c =
    moves_none c.args.p.now c.args.w.now (λ t. aggregated_silent c.args.x (site_of c.args.p.now c.args.w.now t) c.args.l c.if-x.false)
