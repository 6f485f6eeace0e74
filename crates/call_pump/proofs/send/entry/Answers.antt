-- `call_pump::send::entry` meets its contract.
-- Assumes nothing.
use Rattle.send_after.specs.Outgoing.{entry_sent}
use Rattle.site.specs.declared.Site.{Site}
use Rattle.send_message.proofs.Read.{table_of_lem}
use Rattle.store_table.specs.Layout.{table_of}
use Rattle.store_site.specs.Layout.{site_of}
use Rattle.call_pump.proofs.Laws.{sent}
use Rattle.call_pump.proofs.send.entry.Goals as goal

pub returns : goal.returns
returns c =
    let x = table_of c.args.t.now in
    let s = site_of c.args.p.now c.args.w.now x in
    sent {f = λ (s : Site). entry_sent s c.args.l c.args.time c.args.id c.args.e.sequence} (c.write_entry-end.ensures s (table_of_lem c.args.p.now c.args.w.now x)) c.entry.ensures (c.finish.ensures.report, c.finish.ensures.turns)
