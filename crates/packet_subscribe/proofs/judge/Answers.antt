-- `packet_subscribe::judge` meets its contract.
-- Assumes nothing.
use Rattle.basis.proofs.Std.{sym, ◌∙◌, rules}
use Rattle.store_table.specs.Layout.{table_of}
use Rattle.packet_subscribe.proofs.Changes.{passes, fails}
use Rattle.packet_subscribe.proofs.judge.Goals as goal

pub change-requires : goal.change-requires
change-requires c = (search rules, search rules, search rules, sym c.all_statuses.ensures ∙ c.if-all_statuses.true)

pub returns-then-all_statuses : goal.returns-then-all_statuses
returns-then-all_statuses c =
    passes c.args.subscribing (table_of c.args.t.now) c.args.q c.args.f c.args.component c.args.p.now c.args.w.now (sym c.all_statuses.ensures ∙ c.if-all_statuses.true) c.change.ensures

pub returns : goal.returns
returns c =
    fails c.args.subscribing (table_of c.args.t.now) c.args.q c.args.f c.args.component c.args.p.now c.args.w.now (sym c.all_statuses.ensures ∙ c.if-all_statuses.false) (c.not_ack.ensures c.args.p.now (table_of c.args.t.now))
