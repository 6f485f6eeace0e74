use Rattle.basis.proofs.Std.{◌≡◌, ◌-◌, length, drop}
use Rattle.json_find.specs.Entries.{entries, entries_at}
use Rattle.read_head.specs.declared.Verdict.TheVariants.{Good}
use Rattle.read_lists.specs.Items.{items_at}
use Rattle.read_lists.specs.Gather.{gather}
use Rattle.read_lists.specs.Status.{push_entry, entry_of_item, no_statuses}
use Rattle.read_lists.proofs.statuses_in.Given as goal

abbrev pub invariant-loop-count : goal.invariant-loop-count
invariant-loop-count l = gather (λ y x. push_entry y (entry_of_item l.asking x)) (record { verdict = l.verdict; count = l.count; entries = l.entries }) (items_at (entries 0x5d (drop l.i l.s))) ≡ gather (λ y x. push_entry y (entry_of_item l.asking x)) (no_statuses Good) (items_at (entries_at 0x5b 0x5d (drop l.at l.s)))

abbrev pub decreases-loop-count : goal.decreases-loop-count
decreases-loop-count l = length l.s - l.i
