-- `call_packet::heed` meets its contract.
-- Assumes nothing.
use Rattle.basis.proofs.Std.{sym, ◌∙◌}
use Rattle.store_table.specs.Layout.{table_of}
use Rattle.store_site.specs.Layout.{site_of}
use Rattle.site.specs.Site.{link_at}
use Rattle.call_packet.specs.Packet.{ignored_by, question_of, head_taken}
use Rattle.call_packet.proofs.Laws.{is_ignored, is_heeded}
use Rattle.call_packet.proofs.heed.Goals as goal

pub returns-then-ignored : goal.returns-then-ignored
returns-then-ignored c =
    let t = table_of c.args.t.now in
    let s = site_of c.args.p.now c.args.w.now t in
    is_ignored t c.args.p.now c.args.w.now (question_of c.args.l c.args.time c.args.id c.args.h) (head_taken s c.args.l c.args.time c.args.id c.args.packet.now c.args.h) (ignored_by (link_at s c.args.l) c.args.h.identity c.args.h.class) (sym (c.ignored.ensures c.args.p.now t) ∙ c.if-ignored.true)

pub returns : goal.returns
returns c =
    let t = table_of c.args.t.now in
    let s = site_of c.args.p.now c.args.w.now t in
    is_heeded t c.args.p.now c.args.w.now (question_of c.args.l c.args.time c.args.id c.args.h) (head_taken s c.args.l c.args.time c.args.id c.args.packet.now c.args.h) (ignored_by (link_at s c.args.l) c.args.h.identity c.args.h.class) (sym (c.ignored.ensures c.args.p.now t) ∙ c.if-ignored.false) c.by_class.ensures
