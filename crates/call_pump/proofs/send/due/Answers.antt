-- `call_pump::send::due` meets its contract.
-- Assumes nothing.
use Rattle.call_pump.proofs.Laws.{alarm_below, quiet}
use Rattle.store_table.specs.Layout.{table_of}
use Rattle.basis.proofs.Std.{rules}
use Rattle.call_pump.proofs.send.due.Goals as goal

pub overflow_cast-k : goal.overflow_cast-k
overflow_cast-k c = let h = alarm_below c.due_at.ensures.small c.in-Alarm.is in search rules

pub returns-in-Nothing : goal.returns-in-Nothing
returns-in-Nothing c = rw (← c.due_at.ensures.due, c.in-Nothing.is) (quiet c.args.p.now (c.finish.ensures.report, c.finish.ensures.turns))

pub returns-in-Version : goal.returns-in-Version
returns-in-Version c = rw (← c.due_at.ensures.due, c.in-Version.is) (c.version.ensures c.args.p.now)

pub returns-in-Watchdog : goal.returns-in-Watchdog
returns-in-Watchdog c = rw (← c.due_at.ensures.due, c.in-Watchdog.is) (c.watchdog.ensures c.args.p.now (table_of c.args.t.now))

pub returns-in-Aggregated : goal.returns-in-Aggregated
returns-in-Aggregated c = rw (← c.due_at.ensures.due, c.in-Aggregated.is) (c.aggregated.ensures c.args.p.now)

pub returns-in-Alarm : goal.returns-in-Alarm
returns-in-Alarm c = rw (← c.due_at.ensures.due, c.in-Alarm.is) c.alarm.ensures

pub returns-in-Entry : goal.returns-in-Entry
returns-in-Entry c = rw (← c.due_at.ensures.due, c.in-Entry.is) c.oldest.ensures
