use Rattle.store_table.specs.Layout.{table_of}
use Rattle.store_site.specs.Layout.{site_of}
use Rattle.packet_status.proofs.Entries.{one_told}
use Rattle.packet_status.proofs.write_entry.Goals as goal

pub returns : goal.returns
returns c ps =
    one_told (site_of ps c.args.w.now (table_of c.args.t.now)) c.args.component c.args.e c.args.first (c.value_in-v.ensures ps) c.entry.ensures
