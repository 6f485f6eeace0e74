-- `json_find::four` meets its contract.
-- Assumes nothing.
use Rattle.json_find.proofs.Once.{walk_begins, walk_ends, walk_goes_on}
use Rattle.json_find.proofs.four.Goals as goal

pub loop-v-init : goal.loop-v-init
loop-v-init c = rw c.nothing_yet-found.ensures (walk_begins _ _ _ _ _ _ _ (rw c.in-End.is at c.inside.ensures))

pub returns-in-Last : goal.returns-in-Last
returns-in-Last c = rw c.with_entry.ensures (walk_ends _ _ _ _ _ _ _ _ c.loop-v.invariant _ _ (rw c.in-Last.is at c.take_turn.ensures))

pub loop-v-preserved : goal.loop-v-preserved
loop-v-preserved c = rw c.with_entry-found.ensures (walk_goes_on _ _ _ _ _ _ _ _ c.loop-v.invariant _ _ (rw c.in-Next.is at c.take_turn.ensures))
