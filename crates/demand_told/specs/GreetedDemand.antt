-- Demand 2: "No alarm or status leaves on a link before versions are agreed and watchdogs exchanged."
-- Assumes nothing.
use Rattle.std.specs.Prelude.{ℕ, ◌≡◌, true, List, ◌∷◌}
use Rattle.std.proofs.Math.Option.{some}
use Rattle.basis.specs.Lists.{Among}
use Rattle.write_message.specs.Message.{Message}
use Rattle.machine.specs.State.{Start, Machine}
use Rattle.machine.specs.Run.{Past, Run}
use Rattle.demand_told.specs.Demand.{messages_of, link_of, is_told}
use Rattle.demand_told.specs.Life.{this_life}
use Rattle.demand_told.specs.Greeted.{Greeted}

-- wherever a call stands in a history: what it tells on link l, Alarm, AggregatedStatus, StatusResponse or StatusUpdate, it tells to one that was
-- greeted in the life that it finds
pub record DemandGreeted : Type 0 where
  pub of_every_run : (s : Start) (p : Past) (h : List Past) (m : Machine) → Run s (p ∷ h) m
      → (l : ℕ) → link_of p.call.act ≡ some l → (w : Message) → Among w (messages_of p.gave) → is_told w ≡ true → Greeted m l (this_life l h)
