-- `send_after::alarm_with` meets its contract.
-- Assumes nothing.
use Rattle.basis.proofs.Std.{refl}
use Rattle.pool.specs.declared.Pool.{Pool}
use Rattle.store_site.proofs.SiteLaws.{pool_moves}
use Rattle.store_site.proofs.TurnsLaws.{turns_moves, moves_then, moves_as}
use Rattle.send_after.specs.Outgoing.{marked}
use Rattle.send_after.proofs.alarm_with.Goals as goal

pub returns : goal.returns
returns c =
    let owner = c.owner in
    let pool = pool_moves (λ (p : Pool). marked p owner.result c.args.c) c.args.p.now c.mark.new.p c.args.w.now c.mark.ensures in
    moves_as (moves_then pool (turns_moves c.mark.new.p c.put_link.ensures))
    (λ t. rw (c.alarm_passed.ensures, c.message_out-next.ensures, c.link-k.ensures c.args.p.now t, owner.ensures c.args.p.now t) refl)
