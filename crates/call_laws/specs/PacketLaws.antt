-- The calls packet and pump, whole: a done one writes exactly its messages' bytes, 4,096 at most, each of
-- which reads back to its message. Statements only: their proof is `kept`.
-- Assumes nothing.
use Rattle.std.specs.Prelude.{ℕ, ◌≡◌, List, length}
use Rattle.answer.specs.declared.Report.{Report}
use Rattle.answer.specs.declared.Answer.TheVariants.{Done}
use Rattle.identity.specs.declared.Identity.{Identity}
use Rattle.identity.specs.Read.{SixteenBytes}
use Rattle.site.specs.declared.Site.{Site}
use Rattle.site.specs.declared.Step.{Step}
use Rattle.site.specs.Call.{Gives}
use Rattle.call_pump.specs.Pump.{pump_refuses, pump_plan}
use Rattle.call_packet.specs.Packet.{packet_taken, packet_refuses}
use Rattle.call_laws.specs.Sound.{SoundAt, Sound}
use Rattle.call_laws.specs.Formedness.{Sendable, Wrote}

-- p is the packet, id the identity to be sent; room is the length of the output
pub record PacketLaws : Type 0 where
  pub sends : (time : ℕ) (s : Site) → SoundAt time s → (l : ℕ) (id : Identity) → SixteenBytes id.bytes → (p : List ℕ)
      → Sendable (packet_taken s l time id p).plan.messages
  pub packet_writes : (s : Site) → Sound s → (l time : ℕ) (id : Identity) → SixteenBytes id.bytes → (p xs ys : List ℕ) (r : Step) (d : Report)
      → Gives s time (packet_refuses s l time id (length xs) p) (packet_taken s l time id p).plan xs ys r → r.answer ≡ Done d
      → Wrote (packet_taken s l time id p).plan.messages xs ys d
  pub pump_writes : (s : Site) → Sound s → (l time : ℕ) (id : Identity) → SixteenBytes id.bytes → (xs ys : List ℕ) (r : Step) (d : Report)
      → Gives s time (pump_refuses s l time id (length xs)) (pump_plan s l time id) xs ys r → r.answer ≡ Done d
      → Wrote (pump_plan s l time id).messages xs ys d
