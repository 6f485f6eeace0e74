-- `store_whole::lists::fill_statuses` meets its contract.
-- Assumes nothing.
use Rattle.basis.proofs.Std.{sym, arith, replicate, length-replicate, get_or-replicate}
use Rattle.status.specs.Status.{unknown}
use Rattle.store_whole.proofs.FillLaws.{upto_none, upto_next, upto_all}
use Rattle.store_whole.proofs.ListLaws.{statuses_part}
use Rattle.store_whole.proofs.lists.fill_statuses.Goals as goal

pub loop-k-init : goal.loop-k-init
loop-k-init c = upto_none statuses_part unknown c.args.w.now (replicate 32 c.args.x)

pub loop-k-preserved : goal.loop-k-preserved
loop-k-preserved c =
    let l = c.loop-k in
    upto_next statuses_part unknown c.args.w.now l.w c.put_status.new.w (replicate 32 c.args.x) l.k l.invariant (omega arith) (length-replicate 32 c.args.x) c.args.x (sym (get_or-replicate 32 l.k c.args.x unknown (omega arith))) c.put_status.ensures

pub returns : goal.returns
returns c =
    let l = c.loop-k in
    upto_all statuses_part unknown c.args.w.now l.w (replicate 32 c.args.x) l.k (omega arith) (length-replicate 32 c.args.x) l.invariant
