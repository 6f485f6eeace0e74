-- What is claimed of a CommandRequest's fields. proofs/Kept.antt proves it.
-- Assumes nothing.
use Rattle.std.specs.Prelude.{ℕ, ◌≤◌, ◌≡◌, List}
use Rattle.basis.specs.Text.{text}
use Rattle.json_value.specs.Grammar.{Json}
use Rattle.json_find.specs.Lookup.{member}
use Rattle.json_packet.specs.Packet.{Packet}
use Rattle.read_head.specs.declared.Verdict.TheVariants.{Good}
use Rattle.read_lists.specs.Claims.{Counted}
use Rattle.read_commands.specs.Command.{command_in, command_at}

pub record Claims : Type 0 where
  -- the code's answers are those that the packet's meaning gives
  pub command : {s : List ℕ} {j : Json} → Packet s j → command_at s ≡ command_in j
  -- a good verdict's list is the packet's, whole
  pub commands : (j : Json) → (command_in j).verdict ≡ Good → Counted (member (text "arg") j) (command_in j).count
  -- never more than sixteen
  pub most : (s : List ℕ) → (command_at s).count ≤ 16
