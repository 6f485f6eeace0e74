use Rattle.packet_command.proofs.Entries.{one_told}
use Rattle.packet_command.proofs.write_entry.Goals as goal

pub returns : goal.returns
returns c =
    one_told c.args.component c.args.e c.args.first c.value_in-v.ensures c.entry.ensures
