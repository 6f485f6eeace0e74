-- `packet_subscribe::records` meets its contract.
-- Assumes nothing.
use Rattle.basis.proofs.Std.{◌≡◌, rules}
use Rattle.store_table.specs.Layout.{table_of}
use Rattle.packet_subscribe.proofs.Loops.{no_record, one_more_record}
use Rattle.packet_subscribe.proofs.records.Goals as goal

pub loop-i-init : goal.loop-i-init
loop-i-init c = no_record (table_of c.args.t.now) c.args.l c.args.time c.args.component c.args.entries

pub loop-i-preserved : goal.loop-i-preserved
loop-i-preserved c =
    let n = c.loop-i in
    one_more_record (table_of c.args.t.now) c.args.l c.args.time c.args.component c.args.entries n.i n.invariant c.entry_in-e.ensures c.issue.ensures

pub returns : goal.returns
returns c =
    let n = c.loop-i in
    let e : n.i ≡ c.args.count = search rules in
    rw (← e) n.invariant
