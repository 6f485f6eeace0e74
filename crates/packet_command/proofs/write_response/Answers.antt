use Rattle.packet_command.proofs.Entries.{whole_told}
use Rattle.basis.proofs.Std.{ℕ, ◌≡◌, arith}
use Rattle.packet_command.proofs.write_response.Goals as goal

pub begin-end-requires : goal.begin-end-requires
begin-end-requires c e = absurd (let z : ◌≡◌ {A = ℕ} 0 1 = cc in omega arith)

pub returns : goal.returns
returns c =
    whole_told c.args.component c.args.q c.args.f c.begin-end.ensures c.write_entries-end.ensures c.finish.ensures
