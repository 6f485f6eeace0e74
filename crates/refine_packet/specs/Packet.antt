-- Packet.
-- Assumes nothing.
use Rattle.std.specs.Prelude.{ℕ, List}
use Rattle.identity.specs.declared.Identity.{Identity}
use Rattle.call_laws.specs.Calls.{Call}
use Rattle.call_laws.specs.Calls.Call.{packet}
use Rattle.refine_calls.specs.Calls.{SameFor}

pub data OfPacket : Call → Type 0 where
  packets : (l t : ℕ) (random : Identity) (received out : List ℕ) → OfPacket (packet l t random received out)

abbrev pub PacketCalls : Type 0
PacketCalls = SameFor OfPacket
