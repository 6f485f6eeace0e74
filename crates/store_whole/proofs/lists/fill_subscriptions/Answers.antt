-- `store_whole::lists::fill_subscriptions` meets its contract.
-- Assumes nothing.
use Rattle.basis.proofs.Std.{sym, arith, replicate, length-replicate, get_or-replicate}
use Rattle.subscription.specs.Subscription.{none}
use Rattle.store_whole.proofs.FillLaws.{upto_none, upto_next, upto_all}
use Rattle.store_whole.proofs.ListLaws.{subscriptions_part}
use Rattle.store_whole.proofs.lists.fill_subscriptions.Goals as goal

pub loop-k-init : goal.loop-k-init
loop-k-init c = upto_none subscriptions_part none c.args.w.now (replicate 128 c.args.x)

pub loop-k-preserved : goal.loop-k-preserved
loop-k-preserved c =
    let l = c.loop-k in
    upto_next subscriptions_part none c.args.w.now l.w c.put_subscription.new.w (replicate 128 c.args.x) l.k l.invariant (omega arith) (length-replicate 128 c.args.x) c.args.x (sym (get_or-replicate 128 l.k c.args.x none (omega arith))) c.put_subscription.ensures

pub returns : goal.returns
returns c =
    let l = c.loop-k in
    upto_all subscriptions_part none c.args.w.now l.w (replicate 128 c.args.x) l.k (omega arith) (length-replicate 128 c.args.x) l.invariant
