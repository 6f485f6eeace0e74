-- `send_message::write_aggregated` meets its contract.
-- Assumes nothing.
use Rattle.store_table.specs.Layout.{table_of}
use Rattle.store_site.specs.Layout.{site_of}
use Rattle.send_message.proofs.Read.{table_of_lem}
use Rattle.send_message.proofs.write_aggregated.Goals as goal

pub returns : goal.returns
returns c =
    λ ps.
    let s = site_of ps c.args.w.now (table_of c.args.t.now) in
    rw (← c.aggregated-a.ensures ps (table_of c.args.t.now)) (c.tell_aggregated.ensures s (table_of_lem ps c.args.w.now (table_of c.args.t.now)))
