-- "In Greeting, all but type Version and the two answers" is ignored, and in Beating all but Watchdog is "Not ready"; anything else is heard.
-- Assumes nothing.
use Rattle.std.specs.Prelude.{ℕ, ◌≡◌, true, false, List, ◌∷◌}
use Rattle.std.proofs.Math.Option.{some}
use Rattle.basis.specs.Lists.{Among}
use Rattle.identity.specs.Read.{Says}
use Rattle.json_value.specs.Grammar.{Json}
use Rattle.write_message.specs.Message.Message.{ack}
use Rattle.machine.specs.Words.{Bytes}
use Rattle.machine.specs.State.{Command, Start, Machine, life_at}
use Rattle.machine.specs.State.Act.{packet}
use Rattle.machine.specs.State.Outcome.{refused}
use Rattle.machine.specs.Json.{read_packet, string_of, is_type}
use Rattle.machine.specs.Life.{is_greeting}
use Rattle.machine.specs.Step.{step}
use Rattle.machine.specs.Run.{Past, Run}
use Rattle.demand_told.specs.Demand.{messages_of, link_of}
use Rattle.demand_told.specs.Life.{this_life}
use Rattle.demand_told.specs.Greeted.{Came, Greeted}
use Rattle.demand_happens.specs.Pumped.{at}
use Rattle.demand_taken.specs.Commands.{commands_of}

pub record DemandTaken : Type 0 where
  -- a MessageAck to a packet other than Version and Watchdog is written on a link that was greeted in the life that the call finds
  pub taken : (s : Start) (p : Past) (h : List Past) (m : Machine) → Run s (p ∷ h) m
      → (l : ℕ) (j : Json) → Came l j p → is_type "Version" j ≡ false → is_type "Watchdog" j ≡ false
      → (id : Bytes) → Among (ack id) (messages_of p.gave) → Greeted m l (this_life l h)
  -- and so it is with a command that is handed over
  pub handed : (s : Start) (p : Past) (h : List Past) (m : Machine) → Run s (p ∷ h) m
      → (x : Command) → Among x (commands_of p.gave) → (l : ℕ) → link_of p.call.act ≡ some l → Greeted m l (this_life l h)
  -- a packet that is no answer, its mId the text of sixteen bytes, is never ignored but in Greeting, and there not if it is of type Version
  pub heard : (m : Machine) (t l room : ℕ) (random bytes : Bytes) (j : Json) → read_packet bytes ≡ some j
      → is_type "MessageAck" j ≡ false → is_type "MessageNotAck" j ≡ false → (id : Bytes) → Says (string_of "mId" j) id
      → (is_greeting (life_at m l) ≡ true → is_type "Version" j ≡ true) → (step m (at t (packet l random bytes room))).0 ≡ refused 1 → ⊥
