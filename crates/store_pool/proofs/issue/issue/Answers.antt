-- `store_pool::issue::issue` meets its contract.
-- Assumes nothing.
use Rattle.basis.proofs.Std.{rules}
use Rattle.store_pool.proofs.PoolLaws.{room_there, issue_none, issue_full, issue_one}
use Rattle.store_pool.proofs.issue.issue.Goals as goal

pub returns-then-e-ge8 : goal.returns-then-e-ge8
returns-then-e-ge8 c = issue_none c.args.w.now c.args.e c.if-e-ge8.true

pub put_place-requires : goal.put_place-requires
put_place-requires c = (search rules, room_there c.args.w.now c.loser_for-who.result c.in-At.ensures)

pub returns-in-At : goal.returns-in-At
returns-in-At c =
    issue_one c.args.w.now c.args.e c.loser_for-who.result c.if-e-ge8.false c.loser_for-who.ensures c.put_place.new.w c.lose.new.w c.in-At.ensures c.put_place.ensures c.lose.ensures

pub returns-in_default : goal.returns-in_default
returns-in_default c = issue_full c.args.w.now c.args.e c.loser_for-who.result c.if-e-ge8.false c.loser_for-who.ensures c.in_default.ensures
