-- `store_whole::lists::fill_statuses` meets its contract.
-- Assumes nothing.
use Rattle.basis.proofs.Std.{replicate}
use Rattle.status.specs.Status.{unknown}
use Rattle.site.specs.Site.{with_statuses}
use Rattle.store_site.specs.Layout.{statuses_in}
use Rattle.store_whole.proofs.FillLaws.{Upto}
use Rattle.store_whole.proofs.lists.fill_statuses.Given as goal

abbrev pub invariant-loop-k : goal.invariant-loop-k
invariant-loop-k l = Upto statuses_in with_statuses unknown l.initial.w l.w (replicate 32 l.x) l.k
