-- `call_pump::send::version` meets its contract.
-- Assumes nothing.
use Rattle.table_whole.specs.declared.SiteTable.{SiteTable}
use Rattle.basis.proofs.Std.{sym, ap, ◌∙◌}
use Rattle.store_site.proofs.TurnsLaws.{turns_moves}
use Rattle.call_pump.proofs.Laws.{sent}
use Rattle.send_message.proofs.Read.{table_of_lem}
use Rattle.store_table.specs.Layout.{table_of}
use Rattle.call_pump.proofs.send.version.Goals as goal

pub returns : goal.returns
returns c =
    let x = table_of c.args.t.now in
    λ ps.
    let e = table_of_lem ps c.args.w.now x in
    rw (← c.site_id-own.ensures ∙ sym (ap (λ (y : SiteTable). y.site) e), ← c.sxl-sxl.ensures ∙ sym (ap (λ (y : SiteTable). y.sxl) e)) (sent c.version-end.ensures (turns_moves ps c.version.ensures) (c.finish.ensures.report, c.finish.ensures.turns))
