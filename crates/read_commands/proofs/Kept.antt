-- The claims about a CommandRequest's fields are kept.
-- Assumes nothing.
use Rattle.basis.proofs.Std.{◌≡◌, List, ℕ}
use Rattle.json_value.specs.Grammar.{Json}
use Rattle.json_packet.specs.Packet.{Packet}
use Rattle.read_head.proofs.Kept.{words}
use Rattle.read_lists.proofs.Kept.{lists}
use Rattle.read_commands.specs.Command.{command_in, command_at}
use Rattle.read_commands.specs.Claims.{Claims}
use Rattle.read_commands.proofs.Counts.{commands, most}

command : {s : List ℕ} {j : Json} → Packet s j → command_at s ≡ command_in j
unfolding command_at command_in
command p = rw (words p, lists p)

pub kept : Claims
kept = record { command = command; commands = commands; most = most }
