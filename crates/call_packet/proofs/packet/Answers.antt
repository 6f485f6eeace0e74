-- `call_packet::packet` meets its contract.
-- Assumes nothing.
use Rattle.basis.proofs.Std.{arith, sym, ◌∙◌, ltb, length, lt-ltb, le-ltb, rules}
use Rattle.identity.specs.Version.{identity_of}
use Rattle.read_head.specs.Head.{head_at}
use Rattle.site.specs.Site.{no_link_at, bad_time_at, down_at, link_at}
use Rattle.site.proofs.Checks.{link_below}
use Rattle.store_site.specs.Layout.{site_of}
use Rattle.store_table.specs.Layout.{table_of}
use Rattle.call_packet.specs.Packet.{ignored_by, question_of, packet_taken}
use Rattle.call_packet.proofs.Laws.{no_link, short, long, late, closed, through}
use Rattle.call_packet.proofs.packet.Goals as goal

pub returns-then-no_link : goal.returns-then-no_link
returns-then-no_link c =
    let t = table_of c.args.t.now in
    let s = site_of c.args.p.now c.args.w.now t in
    let id = identity_of c.args.random in
    no_link t c.args.p.now c.args.w.now (question_of c.args.link c.args.time id (head_at c.args.packet.now)) (packet_taken s c.args.link c.args.time id c.args.packet.now)
    (no_link_at s c.args.link) (ltb (length c.args.out.now) 4096) (ltb 4096 (length c.args.packet.now)) (bad_time_at s c.args.time) (down_at s c.args.link)
    (ignored_by (link_at s c.args.link) (head_at c.args.packet.now).identity (head_at c.args.packet.now).class)
    (sym (c.no_link.ensures c.args.p.now t) ∙ c.if-no_link.true)

pub returns-then-out-lt4096 : goal.returns-then-out-lt4096
returns-then-out-lt4096 c =
    let t = table_of c.args.t.now in
    let s = site_of c.args.p.now c.args.w.now t in
    let id = identity_of c.args.random in
    short t c.args.p.now c.args.w.now (question_of c.args.link c.args.time id (head_at c.args.packet.now)) (packet_taken s c.args.link c.args.time id c.args.packet.now)
    (no_link_at s c.args.link) (ltb (length c.args.out.now) 4096) (ltb 4096 (length c.args.packet.now)) (bad_time_at s c.args.time) (down_at s c.args.link)
    (ignored_by (link_at s c.args.link) (head_at c.args.packet.now).identity (head_at c.args.packet.now).class)
    (sym (c.no_link.ensures c.args.p.now t) ∙ c.if-no_link.false) (lt-ltb _ _ c.if-out-lt4096.true)

pub returns-then-packet-gt4096 : goal.returns-then-packet-gt4096
returns-then-packet-gt4096 c =
    let t = table_of c.args.t.now in
    let s = site_of c.args.p.now c.args.w.now t in
    let id = identity_of c.args.random in
    long t c.args.p.now c.args.w.now (question_of c.args.link c.args.time id (head_at c.args.packet.now)) (packet_taken s c.args.link c.args.time id c.args.packet.now)
    (no_link_at s c.args.link) (ltb (length c.args.out.now) 4096) (ltb 4096 (length c.args.packet.now)) (bad_time_at s c.args.time) (down_at s c.args.link)
    (ignored_by (link_at s c.args.link) (head_at c.args.packet.now).identity (head_at c.args.packet.now).class)
    (sym (c.no_link.ensures c.args.p.now t) ∙ c.if-no_link.false) (le-ltb _ _ c.if-out-lt4096.false) (lt-ltb _ _ c.if-packet-gt4096.true)

pub returns-then-bad_time : goal.returns-then-bad_time
returns-then-bad_time c =
    let t = table_of c.args.t.now in
    let s = site_of c.args.p.now c.args.w.now t in
    let id = identity_of c.args.random in
    late t c.args.p.now c.args.w.now (question_of c.args.link c.args.time id (head_at c.args.packet.now)) (packet_taken s c.args.link c.args.time id c.args.packet.now)
    (no_link_at s c.args.link) (ltb (length c.args.out.now) 4096) (ltb 4096 (length c.args.packet.now)) (bad_time_at s c.args.time) (down_at s c.args.link)
    (ignored_by (link_at s c.args.link) (head_at c.args.packet.now).identity (head_at c.args.packet.now).class)
    (sym (c.no_link.ensures c.args.p.now t) ∙ c.if-no_link.false) (le-ltb _ _ c.if-out-lt4096.false) (le-ltb _ _ c.if-packet-gt4096.false) (sym (c.bad_time.ensures c.args.p.now t) ∙ c.if-bad_time.true)

pub overflow_cast-l : goal.overflow_cast-l
overflow_cast-l c = omega (arith, link_below (site_of c.args.p.now c.args.w.now (table_of c.args.t.now)) c.args.link (sym (c.no_link.ensures c.args.p.now (table_of c.args.t.now)) ∙ c.if-no_link.false))

pub down-requires : goal.down-requires
down-requires c = (search rules, link_below (site_of c.args.p.now c.args.w.now (table_of c.args.t.now)) c.args.link (sym (c.no_link.ensures c.args.p.now (table_of c.args.t.now)) ∙ c.if-no_link.false))

pub returns-then-down : goal.returns-then-down
returns-then-down c =
    let t = table_of c.args.t.now in
    let s = site_of c.args.p.now c.args.w.now t in
    let id = identity_of c.args.random in
    closed t c.args.p.now c.args.w.now (question_of c.args.link c.args.time id (head_at c.args.packet.now)) (packet_taken s c.args.link c.args.time id c.args.packet.now)
    (no_link_at s c.args.link) (ltb (length c.args.out.now) 4096) (ltb 4096 (length c.args.packet.now)) (bad_time_at s c.args.time) (down_at s c.args.link)
    (ignored_by (link_at s c.args.link) (head_at c.args.packet.now).identity (head_at c.args.packet.now).class)
    (sym (c.no_link.ensures c.args.p.now t) ∙ c.if-no_link.false) (le-ltb _ _ c.if-out-lt4096.false) (le-ltb _ _ c.if-packet-gt4096.false) (sym (c.bad_time.ensures c.args.p.now t) ∙ c.if-bad_time.false) (sym (c.down.ensures c.args.p.now t) ∙ c.if-down.true)

pub judged-requires : goal.judged-requires
judged-requires c = (search rules, search rules, search rules, link_below (site_of c.args.p.now c.args.w.now (table_of c.args.t.now)) c.args.link (sym (c.no_link.ensures c.args.p.now (table_of c.args.t.now)) ∙ c.if-no_link.false))

pub returns : goal.returns
returns c =
    let t = table_of c.args.t.now in
    let s = site_of c.args.p.now c.args.w.now t in
    let id = identity_of c.args.random in
    through t c.args.p.now c.args.w.now (question_of c.args.link c.args.time id (head_at c.args.packet.now)) (packet_taken s c.args.link c.args.time id c.args.packet.now)
    (no_link_at s c.args.link) (ltb (length c.args.out.now) 4096) (ltb 4096 (length c.args.packet.now)) (bad_time_at s c.args.time) (down_at s c.args.link)
    (ignored_by (link_at s c.args.link) (head_at c.args.packet.now).identity (head_at c.args.packet.now).class)
    (sym (c.no_link.ensures c.args.p.now t) ∙ c.if-no_link.false) (le-ltb _ _ c.if-out-lt4096.false) (le-ltb _ _ c.if-packet-gt4096.false) (sym (c.bad_time.ensures c.args.p.now t) ∙ c.if-bad_time.false) (sym (c.down.ensures c.args.p.now t) ∙ c.if-down.false)
    (rw c.own_identity-id.ensures at c.judged.ensures)
