-- Demand 2: every message that is written reads back to the same fields.
-- Assumes nothing.
use Rattle.std.specs.Prelude.{◌≡◌, List}
use Rattle.basis.specs.Lists.{Among}
use Rattle.json_packet.specs.Packet.{Packet}
use Rattle.json_write.specs.Text.{text_of}
use Rattle.write_message.specs.Message.{Message}
use Rattle.write_message.specs.Listing.{json_of}
use Rattle.write_laws.specs.Fields.{fields_of}
use Rattle.machine.specs.State.{Start, Machine, Call}
use Rattle.machine.specs.Step.{step}
use Rattle.machine.specs.Run.{Past, Run}
use Rattle.demand_told.specs.Demand.{messages_of}
use Rattle.demand_told.specs.Typed.{Typed, EachTyped}

-- its text is one packet, which means its listing, and its fields are read from that
pub record ReadsBack (w : Message) : Type 0 where
  pub packet : Packet (text_of (json_of w)) (json_of w)
  pub fields : fields_of (json_of w) ≡ w

pub record DemandRead : Type 0 where
  pub of_every_run : (s : Start) (h : List Past) (m : Machine) → Run s h m → EachTyped h
      → (c : Call) → Typed c.act → (w : Message) → Among w (messages_of (step m c).0) → ReadsBack w
