use Rattle.basis.proofs.Std.{rules, ◌≡◌, sym, ◌∙◌}
use Rattle.json_packet.specs.Packet.{is_packet}
use Rattle.read_head.specs.Head.{head_at}
use Rattle.read_head.proofs.read_head.Goals as goal

pub returns-then-packet : goal.returns-then-packet
unfolding head_at
returns-then-packet c =
    let e : c.args.packet ≡ is_packet c.args.s.now = search rules in
    c.head_by.ensures ∙ sym (rw (sym e ∙ c.if-packet.true))

pub returns-else-packet : goal.returns-else-packet
unfolding head_at
returns-else-packet c =
    let e : c.args.packet ≡ is_packet c.args.s.now = search rules in
    c.ignored.ensures ∙ sym (rw (sym e ∙ c.if-packet.false))
