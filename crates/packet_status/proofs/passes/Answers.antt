use Rattle.basis.proofs.Std.{sym, ap}
use Rattle.packet_lookup.specs.declared.Sought.{Sought}
use Rattle.store_table.specs.Layout.{table_of}
use Rattle.packet_status.specs.StatusReply.{passes}
use Rattle.packet_status.proofs.Asked.{known_passes}
use Rattle.packet_status.proofs.passes.Goals as goal

pub returns-in-Is : goal.returns-in-Is
returns-in-Is c =
    λ s e. known_passes (table_of c.args.t.now) _ c.args.f s c.in-Is.is c.all_statuses.ensures e

pub returns-in-Nothing : goal.returns-in-Nothing
returns-in-Nothing c =
    λ s e. ap (λ (x : Sought). passes s c.args.f x) (sym c.in-Nothing.is)
