-- `store_call::close` meets its contract.
-- Assumes nothing.
use Rattle.basis.proofs.Std.{refl}
use Rattle.pool.specs.declared.Pool.{Pool}
use Rattle.pool.specs.Pool.{unmark_of}
use Rattle.store_site.proofs.SiteLaws.{pool_moves}
use Rattle.store_site.proofs.TurnsLaws.{turns_moves, moves_then, moves_as}
use Rattle.store_call.proofs.close.Goals as goal

pub returns : goal.returns
returns c =
    let pool = pool_moves (λ (p : Pool). unmark_of p c.owner.result) c.args.p.now c.unmark.new.w c.args.w.now c.unmark.ensures in
    moves_as (moves_then pool (turns_moves c.unmark.new.w c.put_link.ensures))
    (λ t. rw (c.closed.ensures, c.owner.ensures c.args.p.now t) refl)
