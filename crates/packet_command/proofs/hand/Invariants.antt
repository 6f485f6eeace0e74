use Rattle.basis.proofs.Std.{◌≡◌}
use Rattle.store_table.specs.Layout.{table_of}
use Rattle.packet_command.specs.Commanding.{commands_to}
use Rattle.packet_command.specs.Handing.{handed_over}
use Rattle.packet_command.proofs.hand.Given as goal

abbrev pub invariant-loop-i : goal.invariant-loop-i
invariant-loop-i l = l.commands ≡ handed_over (commands_to (table_of l.t) l.component l.entries l.i) l.initial.commands
