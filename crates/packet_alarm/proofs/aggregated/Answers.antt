use Rattle.basis.proofs.Std.{sym}
use Rattle.read_head.specs.declared.GotLabel.{GotLabel}
use Rattle.store_table.specs.Layout.{table_of}
use Rattle.store_site.specs.Layout.{site_of}
use Rattle.packet_answer.proofs.Choices.{like}
use Rattle.packet_alarm.specs.Orders.{aggregated_taken}
use Rattle.packet_alarm.proofs.aggregated.Goals as goal

pub returns : goal.returns
returns c ps =
    let t = table_of c.args.t.now in
    let ws = c.args.w.now in
    like t ps ws c.args.q (λ (x : GotLabel). aggregated_taken (site_of ps ws t) c.args.q x) (sym c.read_aggregated-f.ensures) (c.judge_aggregated.ensures ps)
