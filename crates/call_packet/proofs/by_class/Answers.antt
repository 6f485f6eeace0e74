-- `call_packet::by_class` meets its contract.
-- Assumes nothing.
use Rattle.basis.proofs.Std.{true, false}
use Rattle.store_site.proofs.TurnsLaws.{turns_moves}
use Rattle.packet_answer.proofs.Choices.{like}
use Rattle.packet_greet.specs.Answered.{answered_plan}
use Rattle.store_table.specs.Layout.{table_of}
use Rattle.store_site.specs.Layout.{site_of}
use Rattle.read_head.specs.declared.Class.{Class}
use Rattle.call_packet.specs.Packet.{class_taken}
use Rattle.call_packet.proofs.Laws.{quiet, keeps_time, answers_quietly}
use Rattle.call_packet.proofs.by_class.Goals as goal

pub returns-in-Ignored : goal.returns-in-Ignored
returns-in-Ignored c =
    let t = table_of c.args.t.now in
    let s = site_of c.args.p.now c.args.w.now t in
    like t c.args.p.now c.args.w.now c.args.q (λ (x : Class). class_taken s c.args.q c.args.answered c.args.packet.now x) c.in-Ignored.is
    (keeps_time t c.args.q c.done.ensures.0 (turns_moves c.args.p.now c.done.ensures.1))

pub returns-in-Acked : goal.returns-in-Acked
returns-in-Acked c =
    let t = table_of c.args.t.now in
    let s = site_of c.args.p.now c.args.w.now t in
    like t c.args.p.now c.args.w.now c.args.q (λ (x : Class). class_taken s c.args.q c.args.answered c.args.packet.now x) c.in-Acked.is
    (quiet t c.args.q (answered_plan s c.args.q.link c.args.answered true) (answers_quietly s c.args.q.link c.args.answered true) (c.answered.ensures t))

pub returns-in-NotAcked : goal.returns-in-NotAcked
returns-in-NotAcked c =
    let t = table_of c.args.t.now in
    let s = site_of c.args.p.now c.args.w.now t in
    like t c.args.p.now c.args.w.now c.args.q (λ (x : Class). class_taken s c.args.q c.args.answered c.args.packet.now x) c.in-NotAcked.is
    (quiet t c.args.q (answered_plan s c.args.q.link c.args.answered false) (answers_quietly s c.args.q.link c.args.answered false) (c.answered-in-NotAcked.ensures t))

pub returns-in-Asked : goal.returns-in-Asked
returns-in-Asked c =
    let t = table_of c.args.t.now in
    let s = site_of c.args.p.now c.args.w.now t in
    like t c.args.p.now c.args.w.now c.args.q (λ (x : Class). class_taken s c.args.q c.args.answered c.args.packet.now x) c.in-Asked.is
    c.asked.ensures
