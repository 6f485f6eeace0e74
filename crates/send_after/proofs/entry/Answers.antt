-- `send_after::entry` meets its contract.
-- Assumes nothing.
use Rattle.basis.proofs.Std.{refl}
use Rattle.pool.specs.declared.Pool.{Pool}
use Rattle.pool.specs.Pool.{mark_of}
use Rattle.store_site.proofs.SiteLaws.{pool_moves}
use Rattle.store_site.proofs.TurnsLaws.{turns_moves, moves_then, moves_as}
use Rattle.send_after.proofs.entry.Goals as goal

pub returns : goal.returns
returns c =
    let owner = c.owner in
    let pool = pool_moves (λ (p : Pool). mark_of p owner.result c.args.sequence) c.args.p.now c.mark_sent.new.w c.args.w.now c.mark_sent.ensures in
    moves_as (moves_then pool (turns_moves c.mark_sent.new.w c.put_link.ensures))
    (λ t. rw (c.entry_out.ensures, c.link-k.ensures c.args.p.now t, owner.ensures c.args.p.now t) refl)
