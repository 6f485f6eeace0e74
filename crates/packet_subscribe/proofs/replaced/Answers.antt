-- `packet_subscribe::replaced` meets its contract.
-- Assumes nothing.
use Rattle.basis.proofs.Std.{◌≡◌, rules}
use Rattle.store_table.specs.Layout.{table_of}
use Rattle.packet_subscribe.proofs.Loops.{none_replaced, one_more_replaced}
use Rattle.packet_subscribe.proofs.replaced.Goals as goal

pub loop-i-init : goal.loop-i-init
loop-i-init c = λ ps. none_replaced (table_of c.args.t.now) c.args.subscribing c.args.l c.args.time c.args.component c.args.entries

pub loop-i-preserved : goal.loop-i-preserved
loop-i-preserved c =
    let n = c.loop-i in
    λ ps. one_more_replaced (table_of c.args.t.now) c.args.subscribing c.args.l c.args.time c.args.component c.args.entries n.i (n.invariant ps) c.entry_in-e.ensures c.replace.ensures

pub returns : goal.returns
returns c =
    let n = c.loop-i in
    let e : n.i ≡ c.args.count = search rules in
    λ ps. rw (← e) (n.invariant ps)
