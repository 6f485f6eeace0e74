-- `packet_greet::version_by` meets its contract.
-- Assumes nothing.
use Rattle.store_table.specs.Layout.{table_of}
use Rattle.packet_greet.proofs.Judges.{judges}
use Rattle.packet_greet.proofs.version_by.Goals as goal

pub returns-in-Good : goal.returns-in-Good
returns-in-Good c =
    judges (table_of c.args.t.now) c.args.q c.args.f c.in-Good.is c.own.ensures c.judge.ensures (c.version_judged.ensures (table_of c.args.t.now))

pub returns-in-Missing : goal.returns-in-Missing
returns-in-Missing c = rw c.in-Missing.is (c.not_ack.ensures c.args.p.now (table_of c.args.t.now))

pub returns-in-Bad : goal.returns-in-Bad
returns-in-Bad c = rw c.in-Bad.is (c.not_ack-in-Bad.ensures c.args.p.now (table_of c.args.t.now))
