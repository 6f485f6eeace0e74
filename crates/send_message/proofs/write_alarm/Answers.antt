-- `send_message::write_alarm` meets its contract.
-- Assumes nothing.
use Rattle.send_message.proofs.Read.{table_of_lem, alarm_row_of}
use Rattle.store_site.specs.Layout.{site_of}
use Rattle.store_table.specs.Layout.{table_of}
use Rattle.send_message.proofs.write_alarm.Goals as goal

pub returns : goal.returns
returns c =
    λ ps.
    let s = site_of ps c.args.w.now (table_of c.args.t.now) in
    let e = table_of_lem ps c.args.w.now (table_of c.args.t.now) in
    rw (← alarm_row_of s c.args.k e c.alarm_row-row.ensures, ← c.alarm.ensures ps (table_of c.args.t.now), ← c.state_of-state.ensures) (c.tell_alarm.ensures s e)
