use Rattle.basis.proofs.Std.{true}
use Rattle.output.specs.Put.{Wrote}
use Rattle.write_message.specs.declared.Told.TheVariants.{Command as CommandResponse}
use Rattle.write_message.specs.Pieces.{entries_pieces}
use Rattle.packet_command.specs.Commanding.{told_to}
use Rattle.packet_command.proofs.write_entries.Given as goal

abbrev pub invariant-loop-i : goal.invariant-loop-i
invariant-loop-i l = Wrote l.initial.out l.at (entries_pieces CommandResponse true (told_to l.component l.entries l.i)) l.out l.end
