use Rattle.basis.proofs.Std.{◌≡◌, ◌-◌, length, drop}
use Rattle.json_find.specs.Entries.{entries, entries_at}
use Rattle.read_head.specs.declared.Verdict.TheVariants.{Good}
use Rattle.read_lists.specs.Items.{items_at}
use Rattle.read_lists.specs.Gather.{gather}
use Rattle.read_lists.specs.Version.{push_version, version_of_item, no_versions}
use Rattle.read_lists.proofs.versions_in.Given as goal

abbrev pub invariant-loop-list : goal.invariant-loop-list
invariant-loop-list l = gather (λ l x. push_version l (version_of_item x)) l.list (items_at (entries 0x5d (drop l.i l.s))) ≡ gather (λ l x. push_version l (version_of_item x)) (no_versions Good) (items_at (entries_at 0x5b 0x5d (drop l.at l.s)))

abbrev pub decreases-loop-list : goal.decreases-loop-list
decreases-loop-list l = length l.s - l.i
