-- `store_call::add` meets its contract.
-- Assumes nothing.
use Rattle.pool.specs.declared.Pool.{Pool}
use Rattle.pool.specs.Pool.{issue_of}
use Rattle.store_site.specs.Layout.{site_of}
use Rattle.store_site.proofs.SiteLaws.{pool_moves}
use Rattle.store_site.proofs.TurnsLaws.{turns_moves, moves_then, moves_as}
use Rattle.store_call.proofs.IssuedLaws.{issued_one}
use Rattle.store_call.proofs.add.Goals as goal

pub returns : goal.returns
returns c =
    let pool = pool_moves (λ (p : Pool). issue_of 8 p c.numbered.result) c.args.p.now c.issue.new.w c.args.w.now c.issue.ensures in
    moves_as (moves_then pool (turns_moves c.issue.new.w c.put_next.ensures))
    (λ t. rw (c.numbered.ensures, c.more.ensures, c.next-next.ensures c.args.p.now t) (issued_one (site_of c.args.p.now c.args.w.now t) c.args.e))
