use Rattle.store_table.specs.Layout.{table_of}
use Rattle.packet_status.proofs.Asked.{known_value_lem}
use Rattle.basis.proofs.Std.{sym, ap}
use Rattle.packet_lookup.specs.declared.Sought.{Sought}
use Rattle.store_site.specs.Layout.{site_of}
use Rattle.packet_status.specs.StatusReply.{value_in}
use Rattle.packet_status.proofs.value_in.Goals as goal

pub returns-in-Is : goal.returns-in-Is
returns-in-Is c ps =
    known_value_lem ps c.args.w.now (table_of c.args.t.now) _ c.args.e c.in-Is.is (c.value_of.ensures ps)

pub returns-in-Nothing : goal.returns-in-Nothing
returns-in-Nothing c ps =
    ap (λ (x : Sought). value_in (site_of ps c.args.w.now (table_of c.args.t.now)) x c.args.e) (sym c.in-Nothing.is)
