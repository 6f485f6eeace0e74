use Rattle.basis.proofs.Std.{sym, ap, ◌∙◌}
use Rattle.packet_lookup.specs.declared.Sought.{Sought}
use Rattle.send_message.specs.Sending.{status_value}
use Rattle.store_table.specs.Layout.{table_of}
use Rattle.store_site.specs.Layout.{site_of}
use Rattle.packet_status.specs.StatusReply.{value_of}
use Rattle.packet_status.proofs.value_of.Goals as goal

pub returns-in-Is : goal.returns-in-Is
returns-in-Is c ps =
    let t = table_of c.args.t.now in
    let ws = c.args.w.now in
    c.status_value.ensures ∙ ap status_value (c.status.ensures ps t) ∙ ap (λ (x : Sought). value_of (site_of ps ws t) x) (sym c.in-Is.is ∙ c.status-k.ensures)

pub returns-in-Nothing : goal.returns-in-Nothing
returns-in-Nothing c ps =
    let t = table_of c.args.t.now in
    let ws = c.args.w.now in
    ap (λ (x : Sought). value_of (site_of ps ws t) x) (sym c.in-Nothing.is ∙ c.status-k.ensures)
