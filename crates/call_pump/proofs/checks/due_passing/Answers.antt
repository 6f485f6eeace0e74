-- `call_pump::checks::due_passing` meets its contract.
-- Assumes nothing.
use Rattle.basis.proofs.Std.{lt-ltb, le-ltb, refl, rules}
use Rattle.store_site.proofs.SiteLaws.{pool_of}
use Rattle.store_table.specs.Layout.{table_of}
use Rattle.call_pump.proofs.checks.due_passing.Goals as goal

pub returns-then-k-alarms_for : goal.returns-then-k-alarms_for
returns-then-k-alarms_for c =
    let x = table_of c.args.t.now in record { due = λ s e. rw (← c.alarms_for.ensures c.args.p.now s e, e, ← c.alarm_next-k.ensures c.args.p.now x, lt-ltb _ _ c.if-k-alarms_for.true) refl; small = search rules }

pub returns-then-is_held : goal.returns-then-is_held
returns-then-is_held c =
    let x = table_of c.args.t.now in record { due = λ s e. rw (← c.alarms_for.ensures c.args.p.now s e, e, ← c.alarm_next-k.ensures c.args.p.now x, le-ltb _ _ c.if-k-alarms_for.false, pool_of c.args.p.now c.args.w.now x, ← c.owner.ensures c.args.p.now x, ← c.oldest_unsent.ensures, ← c.is_held.ensures, c.if-is_held.true) refl; small = tt }

pub returns : goal.returns
returns c =
    let x = table_of c.args.t.now in record { due = λ s e. rw (← c.alarms_for.ensures c.args.p.now s e, e, ← c.alarm_next-k.ensures c.args.p.now x, le-ltb _ _ c.if-k-alarms_for.false, pool_of c.args.p.now c.args.w.now x, ← c.owner.ensures c.args.p.now x, ← c.oldest_unsent.ensures, ← c.is_held.ensures, c.if-is_held.false) refl; small = tt }
