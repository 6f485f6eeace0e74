-- `call_pump::checks::later_verdict` meets its contract.
-- Assumes nothing.
use Rattle.store_table.specs.Layout.{table_of}
use Rattle.call_pump.proofs.checks.later_verdict.Goals as goal

pub returns : goal.returns
returns c =
    let x = table_of c.args.t.now in
    rw (← c.down-down.ensures c.args.p.now x, ← c.due_at.ensures.due, ← c.is_nothing-nothing.ensures, ← c.link-k.ensures c.args.p.now x, ← c.crowded.ensures, ← c.awaits.ensures, ← c.is_awaited.ensures) c.in_order.ensures
