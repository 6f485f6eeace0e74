-- `call_input::records::of_status` meets its contract.
-- Assumes nothing.
use Rattle.basis.proofs.Std.{ℕ, ◌≤◌, ◌≡◌, List, length}
use Rattle.table_whole.specs.declared.SiteTable.{SiteTable}
use Rattle.pool_laws.specs.Upwards.{entries_to}
use Rattle.store_site.specs.Layout.{site_of}
use Rattle.call_input.proofs.InPlace.{entry_of}
use Rattle.call_input.proofs.records.of_status.Given as goal

abbrev pub invariant-loop-l : goal.invariant-loop-l
invariant-loop-l l = (l.n ≤ l.l) × ((ps : List ℕ) (t : SiteTable) (time : ℕ) → l.n ≡ length (entries_to (entry_of l.number l.x time (site_of ps l.w t)) l.l))
