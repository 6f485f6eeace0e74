-- `call_packet::expect` meets its contract.
-- Assumes nothing.
use Rattle.basis.proofs.Std.{sym, ◌∙◌}
use Rattle.store_table.specs.Layout.{table_of}
use Rattle.call_packet.proofs.Laws.{not_expected, not_ready_lem, ready}
use Rattle.call_packet.proofs.expect.Goals as goal

pub returns-then-unready : goal.returns-then-unready
returns-then-unready c =
    let t = table_of c.args.t.now in
    not_ready_lem t c.args.p.now c.args.w.now c.args.q c.args.packet.now c.args.kind (sym (c.expected.ensures c.args.p.now t) ∙ c.if-expected.true) (sym (c.unready.ensures c.args.p.now t) ∙ c.if-unready.true) (c.not_ack.ensures c.args.p.now t)

pub returns-then-expected : goal.returns-then-expected
returns-then-expected c =
    let t = table_of c.args.t.now in
    ready t c.args.p.now c.args.w.now c.args.q c.args.packet.now c.args.kind (sym (c.expected.ensures c.args.p.now t) ∙ c.if-expected.true) (sym (c.unready.ensures c.args.p.now t) ∙ c.if-unready.false) c.by_kind.ensures

pub returns : goal.returns
returns c =
    let t = table_of c.args.t.now in
    not_expected t c.args.p.now c.args.w.now c.args.q c.args.packet.now c.args.kind (sym (c.expected.ensures c.args.p.now t) ∙ c.if-expected.false) (c.not_ack-2.ensures c.args.p.now t)
