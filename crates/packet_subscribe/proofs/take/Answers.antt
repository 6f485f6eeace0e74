-- `packet_subscribe::take` meets its contract.
-- Assumes nothing.
use Rattle.store_table.specs.Layout.{table_of}
use Rattle.packet_subscribe.specs.Subscribing.{subscribing_taken}
use Rattle.packet_subscribe.proofs.Changes.{takes}
use Rattle.packet_subscribe.proofs.take.Goals as goal

pub returns-in-Good : goal.returns-in-Good
returns-in-Good c =
    takes c.args.subscribing (table_of c.args.t.now) c.args.q c.args.f c.args.p.now c.args.w.now c.in-Good.is c.ask.ensures

pub returns-in-Missing : goal.returns-in-Missing
unfolding subscribing_taken
returns-in-Missing c = rw c.in-Missing.is (c.not_ack.ensures c.args.p.now (table_of c.args.t.now))

pub returns-in-Bad : goal.returns-in-Bad
unfolding subscribing_taken
returns-in-Bad c = rw c.in-Bad.is (c.not_ack-in-Bad.ensures c.args.p.now (table_of c.args.t.now))
