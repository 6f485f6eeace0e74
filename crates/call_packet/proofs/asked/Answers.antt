-- `call_packet::asked` meets its contract.
-- Assumes nothing.
use Rattle.packet_answer.proofs.Choices.{good, missing, bad}
use Rattle.store_table.specs.Layout.{table_of}
use Rattle.store_site.specs.Layout.{site_of}
use Rattle.call_packet.specs.Packet.{expected_taken}
use Rattle.call_packet.proofs.asked.Goals as goal

pub returns-in-Good : goal.returns-in-Good
returns-in-Good c =
    let t = table_of c.args.t.now in
    good t c.args.p.now c.args.w.now c.args.q c.args.v (expected_taken (site_of c.args.p.now c.args.w.now t) c.args.q c.args.packet.now c.args.kind) c.in-Good.is c.expect.ensures

pub returns-in-Missing : goal.returns-in-Missing
returns-in-Missing c =
    let t = table_of c.args.t.now in
    missing t c.args.p.now c.args.w.now c.args.q c.args.v (expected_taken (site_of c.args.p.now c.args.w.now t) c.args.q c.args.packet.now c.args.kind) c.in-Missing.is (c.not_ack.ensures c.args.p.now t)

pub returns-in-Bad : goal.returns-in-Bad
returns-in-Bad c =
    let t = table_of c.args.t.now in
    bad t c.args.p.now c.args.w.now c.args.q c.args.v (expected_taken (site_of c.args.p.now c.args.w.now t) c.args.q c.args.packet.now c.args.kind) c.in-Bad.is (c.not_ack-in-Bad.ensures c.args.p.now t)
