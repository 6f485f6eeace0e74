use Rattle.basis.proofs.Std.{sym, ◌∙◌}
use Rattle.store_table.specs.Layout.{table_of}
use Rattle.packet_command.proofs.Orders.{outside, all_pass, one_fails}
use Rattle.packet_command.proofs.ordered.Goals as goal

pub returns-then-passes : goal.returns-then-passes
returns-then-passes c =
    λ ps.
    let t = table_of c.args.t.now in
    let ws = c.args.w.now in
    all_pass t ps ws c.args.q c.args.f c.component-component.ensures (sym c.keeps_ranges.ensures ∙ c.if-keeps_ranges.true) (sym c.passes.ensures ∙ c.if-passes.true) (c.reply.ensures ps)

pub returns-then-keeps_ranges : goal.returns-then-keeps_ranges
returns-then-keeps_ranges c =
    λ ps.
    let t = table_of c.args.t.now in
    let ws = c.args.w.now in
    one_fails t ps ws c.args.q c.args.f c.component-component.ensures (sym c.keeps_ranges.ensures ∙ c.if-keeps_ranges.true) (sym c.passes.ensures ∙ c.if-passes.false) (c.not_ack.ensures ps t)

pub returns : goal.returns
returns c =
    λ ps.
    let t = table_of c.args.t.now in
    let ws = c.args.w.now in
    outside t ps ws c.args.q c.args.f c.component-component.ensures (sym c.keeps_ranges.ensures ∙ c.if-keeps_ranges.false) (c.not_ack-2.ensures ps t)
