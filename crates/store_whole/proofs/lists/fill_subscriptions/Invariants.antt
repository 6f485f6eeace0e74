-- `store_whole::lists::fill_subscriptions` meets its contract.
-- Assumes nothing.
use Rattle.basis.proofs.Std.{replicate}
use Rattle.subscription.specs.Subscription.{none}
use Rattle.site.specs.Site.{with_subscriptions}
use Rattle.store_site.specs.Layout.{subscriptions_in}
use Rattle.store_whole.proofs.FillLaws.{Upto}
use Rattle.store_whole.proofs.lists.fill_subscriptions.Given as goal

abbrev pub invariant-loop-k : goal.invariant-loop-k
invariant-loop-k l = Upto subscriptions_in with_subscriptions none l.initial.w l.w (replicate 128 l.x) l.k
