-- `store_whole::lists::fill_alarms` meets its contract.
-- Assumes nothing.
use Rattle.basis.proofs.Std.{replicate}
use Rattle.alarm.specs.Alarm.{beginning}
use Rattle.site.specs.Site.{with_alarms}
use Rattle.store_site.specs.Layout.{alarms_in}
use Rattle.store_whole.proofs.FillLaws.{Upto}
use Rattle.store_whole.proofs.lists.fill_alarms.Given as goal

abbrev pub invariant-loop-k : goal.invariant-loop-k
invariant-loop-k l = Upto alarms_in with_alarms (beginning 0) l.initial.w l.w (replicate 32 l.x) l.k
