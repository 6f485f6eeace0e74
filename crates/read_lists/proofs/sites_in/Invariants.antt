use Rattle.basis.proofs.Std.{◌≡◌, ◌-◌, length, drop}
use Rattle.json_find.specs.Entries.{entries, entries_at}
use Rattle.read_head.specs.declared.Verdict.TheVariants.{Good}
use Rattle.read_lists.specs.Items.{items_at}
use Rattle.read_lists.specs.Gather.{gather}
use Rattle.read_lists.specs.Version.{push_site, site_of_item, no_sites}
use Rattle.read_lists.proofs.sites_in.Given as goal

abbrev pub invariant-loop-list : goal.invariant-loop-list
invariant-loop-list l = gather (λ l x. push_site l (site_of_item x)) l.list (items_at (entries 0x5d (drop l.i l.s))) ≡ gather (λ l x. push_site l (site_of_item x)) (no_sites Good) (items_at (entries_at 0x5b 0x5d (drop l.at l.s)))

abbrev pub decreases-loop-list : goal.decreases-loop-list
decreases-loop-list l = length l.s - l.i
