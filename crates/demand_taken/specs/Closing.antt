-- "A failure of these three sends MessageNotAck and closes the link." "A MessageNotAck to our Version, or to our Watchdog while Beating, closes the link."
-- "The latest common one is chosen."
-- Assumes nothing.
use Rattle.std.specs.Prelude.{ℕ, ◌<◌, ◌≡◌, true, List, [], ◌∷◌}
use Prim.Native.String.{String}
use Rattle.std.proofs.Math.Option.{none}
use Rattle.basis.specs.Text.{text}
use Rattle.basis.specs.Lists.{Among}
use Rattle.json_value.specs.Grammar.{Json}
use Rattle.write_message.specs.Message.{Message}
use Rattle.write_message.specs.Message.Message.{ack, not_ack}
use Rattle.machine.specs.Words.{Bytes}
use Rattle.machine.specs.State.{Start, Machine}
use Rattle.machine.specs.State.Act.{packet}
use Rattle.machine.specs.State.Outcome.{done}
use Rattle.machine.specs.Json.{string_of, is_type}
use Rattle.machine.specs.Readings.{reading}
use Rattle.machine.specs.Step.{step}
use Rattle.machine.specs.Run.{Past, Run}
use Rattle.demand_told.specs.Demand.{messages_of}
use Rattle.demand_told.specs.Life.{this_life}
use Rattle.demand_told.specs.Greeted.{Within, IsVersion, IsWatchdog, Wrote, Came, Acknowledged, Answered, Ours, Theirs, NamesSite, IsGoodVersion}
use Rattle.demand_happens.specs.Pumped.{at}
use Rattle.demand_happens.specs.Greeting.{Arrives, Answers, WellFormed}

-- the first check that a Version of theirs fails, by its reason
pub data Fails (m : Machine) (j : Json) : String → Type 0 where
  no_version : ((v : List ℕ) → Ours v → Theirs j v → ⊥) → Fails m j "RSMP version"
  no_site : {v : List ℕ} → Ours v → Theirs j v → (NamesSite m.setup.table.site j → ⊥) → Fails m j "Site id"
  other_sxl : {v : List ℕ} → Ours v → Theirs j v → NamesSite m.setup.table.site j → (string_of "SXL" j ≡ m.setup.table.sxl → ⊥) → Fails m j "SXL version"

-- a message of ours that went out on link l in this life, and that no MessageAck has answered in it
pub record Unacknowledged (l : ℕ) (Is : Bytes → Message → Type 0) (id : Bytes) (life : List Past) : Type 0 where
  pub went : Within (Wrote l (Is id)) life
  pub unacknowledged : Within (Acknowledged l Is) life → ⊥

-- "Their Version is judged only after ours went out", and once in a life: one of theirs that gets MessageAck passes the checks
pub record Judged (m : Machine) (l : ℕ) (j : Json) (life : List Past) : Type 0 where
  pub id : Bytes
  pub went : Within (Wrote l (IsVersion id)) life
  pub only_one : (v : List ℕ) → Within (Answered l (IsGoodVersion m v)) life → ⊥
  pub version : List ℕ
  pub good : IsGoodVersion m version j

pub record DemandClosing : Type 0 where
  pub judged : (s : Start) (p : Past) (h : List Past) (m : Machine) → Run s (p ∷ h) m → (l : ℕ) (j : Json) → Came l j p → is_type "Version" j ≡ true
      → (id : Bytes) → Among (ack id) (messages_of p.gave) → Judged m l j (this_life l h)
  -- theirs, well-formed, after ours went out and before one of theirs was accepted
  pub failed : (s : Start) (h : List Past) (m : Machine) → Run s h m → (l t room : ℕ) (random bytes : Bytes) (j : Json) → l < m.setup.links
      → (id : Bytes) → Within (Wrote l (IsVersion id)) (this_life l h) → ((v : List ℕ) → Within (Answered l (IsGoodVersion m v)) (this_life l h) → ⊥)
      → Arrives m t bytes room j → WellFormed j → is_type "Version" j ≡ true → (reason : String) → Fails m j reason
      → (step m (at t (packet l random bytes room))).0 ≡ done (not_ack (string_of "mId" j) (text reason) ∷ []) (l ∷ []) none []
  -- MessageNotAck to our Version; and to our Watchdog, of which none was acknowledged in this life: while Beating
  pub version_refused : (s : Start) (h : List Past) (m : Machine) → Run s h m → (l t room : ℕ) (random bytes : Bytes) (j : Json) → l < m.setup.links
      → (id : Bytes) → Unacknowledged l IsVersion id (this_life l h) → Arrives m t bytes room j → is_type "MessageNotAck" j ≡ true → Answers id j
      → (step m (at t (packet l random bytes room))).0 ≡ done [] (l ∷ []) none []
  pub watchdog_refused : (s : Start) (h : List Past) (m : Machine) → Run s h m → (l t room : ℕ) (random bytes : Bytes) (j : Json) → l < m.setup.links
      → (id : Bytes) → Unacknowledged l IsWatchdog id (this_life l h) → Arrives m t bytes room j → is_type "MessageNotAck" j ≡ true → Answers id j
      → (step m (at t (packet l random bytes room))).0 ≡ done [] (l ∷ []) none []
  -- the version that is read of a link is the latest in our list and that of the Version of theirs that was accepted in this life
  pub chooses : (s : Start) (h : List Past) (m : Machine) → Run s h m → (l : ℕ) (v : List ℕ) → Within (Answered l (IsGoodVersion m v)) (this_life l h)
      → (reading m l).version ≡ v
