-- `call_tick::intervals::how_many` meets its contract.
-- Assumes nothing.
use Rattle.basis.proofs.Std.{ℕ, ◌≤◌, ◌≡◌, List, length}
use Rattle.link.specs.declared.Link.{Link}
use Rattle.table_whole.specs.declared.SiteTable.{SiteTable}
use Rattle.pool_laws.specs.Upwards.{entries_to}
use Rattle.store_site.specs.Layout.{site_of}
use Rattle.call_tick.specs.Intervals.{record_at}
use Rattle.call_tick.proofs.intervals.how_many.Given as goal

abbrev pub invariant-loop-i : goal.invariant-loop-i
invariant-loop-i l = (l.n ≤ l.i) × ((ps : List ℕ) (t : SiteTable) (ns : List Link) → l.n ≡ length (entries_to (record_at (site_of ps l.w t).site (site_of ps l.w t).subscriptions (site_of ps l.w t).statuses ns l.time) l.i))
