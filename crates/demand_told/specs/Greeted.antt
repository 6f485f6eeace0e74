-- The greeting as the packets and messages of a life tell it: nothing here looks at what the machine keeps of a link.
-- Assumes nothing.
use Rattle.std.specs.Prelude.{ℕ, ◌≡◌, Bool, true, false, List, [], ◌∷◌, eqb, ltb}
use Rattle.std.proofs.Math.Option.{Option, some}
use Rattle.basis.specs.Lists.{Among}
use Rattle.json_value.specs.Grammar.{Json}
use Rattle.write_message.specs.Message.{Message}
use Rattle.write_message.specs.Message.Message.{version, watchdog, ack}
use Rattle.write_message.specs.Listing.{offered}
use Rattle.machine.specs.Words.{Bytes, if'◌then◌else◌}
use Rattle.machine.specs.State.{Command, Machine}
use Rattle.machine.specs.State.Act.{packet}
use Rattle.machine.specs.State.Outcome.{done}
use Rattle.machine.specs.Json.{read_packet, string_of, entries_of, element_is, is_type, is_identity_of, version_in}
use Rattle.machine.specs.Run.{Past}
use Rattle.demand_told.specs.Demand.{messages_of, link_of}

-- a call of a life is this, after those before it in that life
pub data Within (Is : Past → List Past → Type 0) : List Past → Type 0 where
  latest : {p : Past} {life : List Past} → Is p life → Within Is (p ∷ life)
  earlier : {p : Past} {life : List Past} → Within Is life → Within Is (p ∷ life)

-- our Version, and our Watchdog, under an identity
pub data IsVersion (id : Bytes) : Message → Type 0 where
  is_version : {site sxl : Bytes} → IsVersion id (version id site sxl)

pub data IsWatchdog (id : Bytes) : Message → Type 0 where
  is_watchdog : {time : ℕ} → IsWatchdog id (watchdog id time)

-- a message was written on link l
pub data Wrote (l : ℕ) (Is : Message → Type 0) (p : Past) (before : List Past) : Type 0 where
  wrote : {w : Message} → link_of p.call.act ≡ some l → Among w (messages_of p.gave) → Is w → Wrote l Is p before

-- a packet of this JSON value came on link l, and its call was done
pub data Came (l : ℕ) (j : Json) (p : Past) : Type 0 where
  came : {random bytes : Bytes} {room : ℕ} {messages : List Message} {closed : List ℕ} {hint : Option ℕ} {commands : List Command}
      → p.call.act ≡ packet l random bytes room → read_packet bytes ≡ some j → p.gave ≡ done messages closed hint commands → Came l j p

-- their MessageAck of a message of ours: its oMId is the identity under which that one was written before, in this life
pub data Acknowledged (l : ℕ) (Ours : Bytes → Message → Type 0) (p : Past) (before : List Past) : Type 0 where
  acknowledged : {id : Bytes} {j : Json} → Within (Wrote l (Ours id)) before
      → Came l j p → element_is "mType" "rSMsg" j ≡ true → is_type "MessageAck" j ≡ true → is_identity_of id (string_of "oMId" j) ≡ true → Acknowledged l Ours p before

-- a message of theirs that we answered by MessageAck
pub data Answered (l : ℕ) (Theirs : Json → Type 0) (p : Past) (before : List Past) : Type 0 where
  answered : {j : Json} → Theirs j → Came l j p → element_is "mType" "rSMsg" j ≡ true → Among (ack (string_of "mId" j)) (messages_of p.gave) → Answered l Theirs p before

-- a version that our Version offers, "3.1.5 and 3.2" and 3.1.4 (request 07), and one that theirs does: three numbers, "a missing part is 0"
pub data Ours (v : List ℕ) : Type 0 where
  ours : {s : Bytes} → Among s offered → version_in s ≡ some v → Ours v

pub data Theirs (j : Json) (v : List ℕ) : Type 0 where
  theirs : {e : Json} → Among e (entries_of "RSMP" j) → version_in (string_of "vers" e) ≡ some v → Theirs j v

-- by the first number that differs
abbrev pub not_later : List ℕ → List ℕ → Bool
not_later [] vs = true
not_later (w ∷ ws) [] = false
not_later (w ∷ ws) (v ∷ vs) = if' eqb w v then not_later ws vs else ltb w v

-- "the latest common one is chosen"
pub record Chosen (j : Json) (v : List ℕ) : Type 0 where
  pub by_us : Ours v
  pub by_them : Theirs j v
  pub latest : (w : List ℕ) → Ours w → Theirs j w → not_later w v ≡ true

-- "our site id in their list"
pub data NamesSite (site : Bytes) (j : Json) : Type 0 where
  names : {e : Json} → Among e (entries_of "siteId" j) → string_of "sId" e ≡ site → NamesSite site j

-- "the checks are: a common RSMP version .., our site id in their list, equal SXL bytes"; v is the chosen version
pub record IsGoodVersion (m : Machine) (v : List ℕ) (j : Json) : Type 0 where
  pub typed : is_type "Version" j ≡ true
  pub version : Chosen j v
  pub site : NamesSite m.setup.table.site j
  pub sxl : string_of "SXL" j ≡ m.setup.table.sxl

abbrev pub IsTheirWatchdog : Json → Type 0
IsTheirWatchdog j = is_type "Watchdog" j ≡ true

-- "versions are agreed and watchdogs exchanged": in this life of link l; of the machine the table counts alone
pub record Greeted (m : Machine) (l : ℕ) (life : List Past) : Type 0 where
  pub version : List ℕ
  pub our_version : Within (Acknowledged l IsVersion) life
  pub their_version : Within (Answered l (IsGoodVersion m version)) life
  pub our_watchdog : Within (Acknowledged l IsWatchdog) life
  pub their_watchdog : Within (Answered l IsTheirWatchdog) life
