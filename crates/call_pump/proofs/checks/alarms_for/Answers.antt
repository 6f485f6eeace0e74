-- `call_pump::checks::alarms_for` meets its contract.
-- Assumes nothing.
use Rattle.basis.proofs.Std.{refl}
use Rattle.send_message.proofs.Read.{table_of_lem}
use Rattle.store_table.specs.Layout.{table_of}
use Rattle.call_pump.proofs.checks.alarms_for.Goals as goal

pub returns-in-Primary : goal.returns-in-Primary
returns-in-Primary c =
    let x = table_of c.args.t.now in
    λ ps s e. rw (e, ← c.role.ensures ps x, c.in-Primary.is, table_of_lem ps c.args.w.now x) c.alarm_count.ensures

pub returns-in-Secondary : goal.returns-in-Secondary
returns-in-Secondary c =
    let x = table_of c.args.t.now in
    λ ps s e. rw (e, ← c.role.ensures ps x, c.in-Secondary.is) refl
