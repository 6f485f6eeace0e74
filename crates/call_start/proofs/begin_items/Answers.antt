-- `call_start::begin_items` meets its contract.
-- Assumes nothing.
use Rattle.store_site.proofs.TurnsLaws.{turns_then}
use Rattle.call_start.proofs.begin_items.Goals as goal

pub returns : goal.returns
returns c =
    let a = rw c.none.ensures at c.fill_subscriptions.ensures in
    let b = rw c.begin.ensures at c.fill_alarms.ensures in
    let d = rw c.unknown.ensures at c.fill_statuses.ensures in
    turns_then (turns_then a b) d
