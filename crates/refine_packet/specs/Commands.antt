-- Their CommandRequest, by either type, comes to what it comes to in the machine. proofs/Commands.antt proves it.
-- Assumes nothing.
use Rattle.read_commands.specs.Command.{command_at}
use Rattle.packet_command.specs.Commanding.{command_taken}
use Rattle.refine_packet.specs.Taken.{SameRequested}
use Rattle.refine_packet.specs.Ordered.{IsUp}

abbrev pub SameCommandRequest : Type 0
SameCommandRequest = SameRequested "CommandRequest" IsUp (λ s q p. command_taken s q (command_at p))
