use Rattle.basis.proofs.Std.{sym, ◌∙◌}
use Rattle.store_table.specs.Layout.{table_of}
use Rattle.store_site.specs.Layout.{site_of}
use Rattle.store_site.proofs.SiteLaws.{table_of_lem}
use Rattle.packet_status.proofs.Asked.{all_pass, one_fails}
use Rattle.packet_status.proofs.requested.Goals as goal

pub returns-then-passes : goal.returns-then-passes
returns-then-passes c ps =
    let t = table_of c.args.t.now in
    let ws = c.args.w.now in
    all_pass t ps ws c.args.q c.args.f c.component-component.ensures (sym (c.passes.ensures (site_of ps ws t) (table_of_lem ps ws t)) ∙ c.if-passes.true) (c.reply.ensures ps)

pub returns : goal.returns
returns c ps =
    let t = table_of c.args.t.now in
    let ws = c.args.w.now in
    one_fails t ps ws c.args.q c.args.f c.component-component.ensures (sym (c.passes.ensures (site_of ps ws t) (table_of_lem ps ws t)) ∙ c.if-passes.false) (c.not_ack.ensures ps t)
