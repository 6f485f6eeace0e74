use Rattle.store_table.specs.Layout.{table_of}
use Rattle.store_site.specs.Layout.{site_of}
use Rattle.packet_status.proofs.Entries.{whole_told}
use Rattle.basis.proofs.Std.{ℕ, ◌≡◌, arith}
use Rattle.packet_status.proofs.write_response.Goals as goal

pub begin-end-requires : goal.begin-end-requires
begin-end-requires c e = absurd (let z : ◌≡◌ {A = ℕ} 0 1 = cc in omega arith)

pub returns : goal.returns
returns c ps =
    whole_told (site_of ps c.args.w.now (table_of c.args.t.now)) c.args.component c.args.q c.args.f c.begin-end.ensures (c.write_entries-end.ensures ps) c.finish.ensures
