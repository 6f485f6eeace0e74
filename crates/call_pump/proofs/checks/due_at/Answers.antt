-- `call_pump::checks::due_at` meets its contract.
-- Assumes nothing.
use Rattle.link.specs.Due.{due_of}
use Rattle.basis.proofs.Std.{refl}
use Rattle.store_table.specs.Layout.{table_of}
use Rattle.store_site.specs.Layout.{site_of}
use Rattle.call_pump.proofs.checks.due_at.Goals as goal

pub returns-in-Down : goal.returns-in-Down
unfolding due_of
returns-in-Down c =
    let x = table_of c.args.t.now in record { due = rw (← c.phase.ensures c.args.p.now x, c.in-Down.is) refl; small = tt }

pub returns-in-Greeting : goal.returns-in-Greeting
unfolding due_of
returns-in-Greeting c =
    let x = table_of c.args.t.now in record { due = rw (← c.phase.ensures c.args.p.now x, c.in-Greeting.is, ← c.version_out.ensures c.args.p.now x) c.due_greeting.ensures.due; small = c.due_greeting.ensures.small }

pub returns-in-Beating : goal.returns-in-Beating
unfolding due_of
returns-in-Beating c =
    let x = table_of c.args.t.now in record { due = rw (← c.phase.ensures c.args.p.now x, c.in-Beating.is, ← c.watchdog_out.ensures c.args.p.now x) c.due_beating.ensures.due; small = c.due_beating.ensures.small }

pub returns-in-Up : goal.returns-in-Up
unfolding due_of
returns-in-Up c =
    let x = table_of c.args.t.now in record { due = rw (← c.phase.ensures c.args.p.now x, c.in-Up.is) (c.due_up.ensures.due (site_of c.args.p.now c.args.w.now x) refl); small = c.due_up.ensures.small }
