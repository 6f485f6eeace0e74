-- `call_tick::pass` meets its contract.
-- Assumes nothing.
use Rattle.store_site.specs.Layout.{site_of}
use Rattle.store_site.proofs.TurnsLaws.{turns_moves, moves_then, moves_as}
use Rattle.call_tick.proofs.InPlace.{passed}
use Rattle.call_tick.proofs.pass.Goals as goal

pub returns : goal.returns
returns c =
    let close = c.close_all-closed in (
      moves_as (moves_then (moves_then (moves_then close.ensures.0 c.issue_all.ensures) (turns_moves c.issue_all.new.p c.renew_all.ensures)) (turns_moves c.issue_all.new.p c.put_last.ensures))
          (λ t. passed (site_of c.args.p.now c.args.w.now t) c.args.time),
      close.ensures.1,
    )
