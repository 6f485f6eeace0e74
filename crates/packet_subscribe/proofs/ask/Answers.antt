-- `packet_subscribe::ask` meets its contract.
-- Assumes nothing.
use Rattle.basis.proofs.Std.{sym, ◌∙◌}
use Rattle.store_table.specs.Layout.{table_of}
use Rattle.packet_subscribe.proofs.Changes.{asks}
use Rattle.packet_subscribe.proofs.ask.Goals as goal

pub returns-in-Is : goal.returns-in-Is
returns-in-Is c =
    asks c.args.subscribing (table_of c.args.t.now) c.args.q c.args.f c.args.p.now c.args.w.now (sym c.in-Is.is ∙ c.component-component.ensures) c.judge.ensures

pub returns-in-Nothing : goal.returns-in-Nothing
returns-in-Nothing c =
    asks c.args.subscribing (table_of c.args.t.now) c.args.q c.args.f c.args.p.now c.args.w.now (sym c.in-Nothing.is ∙ c.component-component.ensures) (c.not_ack.ensures c.args.p.now (table_of c.args.t.now))
