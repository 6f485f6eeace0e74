-- Each call of a greeting brings it on, and the others leave it as it is.
-- Assumes nothing.
use Rattle.basis.proofs.Std.{ℕ, suc, ◌≤◌, ◌<◌, ◌≡◌, refl, sym, ◌∙◌, subst, Bool, true, false, not, List, [], ◌∷◌, ◌++◌, some, length, arith, not-true, both}
use Rattle.json_value.specs.Grammar.{Json}
use Rattle.machine.specs.Words.{Bytes, or_else}
use Rattle.machine.specs.State.{Sent, Awaited, exchange, Life, fresh, Start, Machine, life_at, with_life, Call, only}
use Rattle.machine.specs.State.Sent.{own_version, own_watchdog}
use Rattle.machine.specs.State.Act.{connect, packet, pump}
use Rattle.machine.specs.Table.{last_sequence}
use Rattle.machine.specs.Json.{string_of, is_type}
use Rattle.machine.specs.Life.{is_over, is_down, is_beating, is_up, now_taken, with_watchdogs, common, awaiting, answered_to, Due, due}
use Rattle.machine.specs.Life.Due.{the_version, the_watchdog}
use Rattle.machine.specs.Answers.{is_answer}
use Rattle.machine.specs.Effects.{connects, own_identity, after_sending, sends, acknowledges, agreed, version_accepted, watchdog_taken, effect_of}
use Rattle.machine.specs.Step.{conditions, step, leaves}
use Rattle.machine.specs.Run.{Past, Run}
use Rattle.machine.specs.Run.Run.{next}
use Rattle.demand_told.specs.Greeted.{IsGoodVersion, IsTheirWatchdog}
use Rattle.demand_told.proofs.GreetedDemand.{same_setup}
use Rattle.demand_happens.specs.Pumped.{at, Timely, CanPump}
use Rattle.demand_happens.specs.Greeting.{Arrives, Answers, WellFormed, Ours, is_sent, Stage, Greets, Greeting}
use Rattle.demand_happens.specs.Greeting.Ours.{unsent, sent, acknowledged}
use Rattle.demand_happens.specs.Greeting.Stage.{down, talking}
use Rattle.demand_happens.specs.Greeting.Greets.{greeted, meanwhile, connects as connects_now, our_version, version_acknowledged, their_version, our_watchdog, watchdog_acknowledged, their_watchdog}
use Rattle.demand_happens.proofs.Done.{configured_link, good_time, pump_unrefused}
use Rattle.demand_happens.proofs.Pumped.{pump_effect}
use Rattle.demand_happens.proofs.Sized.{run_sized}
use Rattle.demand_told.proofs.Limits.{run_limit}
use Rattle.demand_happens.proofs.Packets.{its_own, version_plain, version_reason, version_heard, version_carried, watchdog_plain, watchdog_reason, watchdog_heard, watchdog_carried}
use Rattle.demand_happens.proofs.Example.{begun_example}
use Rattle.demand_happens.proofs.Conversation.{greets_example, up_example}
use Rattle.demand_happens.proofs.After.{set_at, is_there, life_after, meanwhile_life, answer_life, plain_life}

-- ---- what a stage is in a life
abbrev is_acknowledged : Ours → Bool
is_acknowledged unsent = false
is_acknowledged (sent id time) = false
is_acknowledged acknowledged = true

abbrev awaited_as : Sent → Ours → List Awaited
awaited_as message unsent = []
awaited_as message (sent id time) = record { identity = id; time = time; message = message } ∷ []
awaited_as message acknowledged = []

pub record Talks (ov : Ours) (tv : Bool) (ow : Ours) (tw : Bool) (k : Life) : Type 0 where
  pub connected : k.connected ≡ true
  pub versions : k.versions ≡ exchange (is_sent ov) (is_acknowledged ov) tv
  pub watchdogs : k.watchdogs ≡ exchange (is_sent ow) (is_acknowledged ow) tw
  pub awaited : k.awaited ≡ awaited_as own_version ov ++ awaited_as own_watchdog ow

abbrev IsAt : Stage → Life → Type 0
IsAt down k = k.connected ≡ false
IsAt (talking ov tv ow tw) k = Talks ov tv ow tw k

-- set for link l where it is connected
module _ (m : Machine) (l : ℕ) (connected : (life_at m l).connected ≡ true) where
  set_life : (x : Life) → life_at (with_life l x m) l ≡ x
  set_life x = set_at l x (fresh false) m.lives (is_there l m.lives connected)

-- ---- connect
connect_life : (m : Machine) (l t : ℕ) → l < m.setup.links → length m.lives ≡ m.setup.links → (life_at m l).connected ≡ false → Timely m t
    → life_at (step m (at t (connect l))).1 l ≡ fresh true
unfolding conditions effect_of connects
connect_life m l t configured sized is_down_lem timely =
    life_after m t (connect l) (only (with_life l (fresh true) m)) l (rw (configured_link m l configured, good_time m t timely, is_down_lem)) refl
    ∙ set_at l (fresh true) (fresh false) m.lives (omega (arith, configured, sized))

-- ---- pump
module _ (m : Machine) (l t room : ℕ) (random : Bytes) (configured : l < m.setup.links) (timely : Timely m t) (roomy : 4096 ≤ room) (none-awaited : (life_at m l).awaited ≡ []) where
  can_pump : CanPump m l t random room
  can_pump = record { configured = configured; roomy = roomy; timely = timely; few = rw none-awaited (omega arith); unawaited = rw none-awaited }

  pump_life : (d : Due) → due m l t ≡ some d → life_at (step m (at t (pump l random room))).1 l ≡ life_at (sends l t (own_identity random) m d).leaves l
  pump_life d f = life_after m t (pump l random room) (sends l t (own_identity random) m d) l (pump_unrefused m l t room random d can_pump f) (pump_effect m l t room random d f)

version_due : (m : Machine) (l t : ℕ) → Talks unsent false unsent false (life_at m l) → due m l t ≡ some the_version
unfolding due
version_due m l t k = rw (k.connected, k.versions)

watchdog_due : (m : Machine) (l t : ℕ) (tw : Bool) → Talks acknowledged true unsent tw (life_at m l) → due m l t ≡ some the_watchdog
unfolding due
watchdog_due m l t tw k = rw (k.connected, k.versions, k.watchdogs)

module _ (m : Machine) (l t : ℕ) (id : Bytes) where
  version_sent : Talks unsent false unsent false (life_at m l) → Talks (sent id t) false unsent false (life_at (sends l t id m the_version).leaves l)
  unfolding sends
  version_sent k =
      rw (set_life m l k.connected (awaiting id t own_version (after_sending t the_version (life_at m l))))
      (record { connected = k.connected; versions = rw k.versions; watchdogs = k.watchdogs; awaited = rw k.awaited })

  watchdog_sent : (tw : Bool) → Talks acknowledged true unsent tw (life_at m l) → Talks acknowledged true (sent id t) tw (life_at (sends l t id m the_watchdog).leaves l)
  unfolding sends
  watchdog_sent tw k =
      rw (set_life m l k.connected (awaiting id t own_watchdog (after_sending t the_watchdog (life_at m l))))
      (record { connected = k.connected; versions = k.versions; watchdogs = rw k.watchdogs; awaited = rw k.awaited })

-- ---- packet
module _ (m : Machine) (l t room : ℕ) (random bytes : Bytes) (j : Json) (arrives : Arrives m t bytes room j) (configured : l < m.setup.links) (limit : m.pool.next ≤ suc last_sequence) where
  abbrev Then : Life
  Then = life_at (step m (at t (packet l random bytes room))).1 l

  module _ (typed : is_type "MessageAck" j ≡ true) (id : Bytes) (time : ℕ) (says : Answers id j) where
    is : is_answer j ≡ true
    is = rw typed

    version_acked : (tv : Bool) → Talks (sent id time) tv unsent false (life_at m l) → Talks acknowledged tv unsent false Then
    version_acked tv k =
        rw (answer_life m l t room random bytes j arrives configured k.connected limit a k.awaited is says lasts, set_life m l k.connected life)
        (record {
          connected = rw typed k.connected;
          versions = rw (typed, k.versions);
          watchdogs = rw typed k.watchdogs;
          awaited = rw (typed, k.awaited, its_own m l t id j a k.awaited is says);
        })
      where
        a : Awaited
        a = record { identity = id; time = time; message = own_version }

        lasts : not (is_type "MessageAck" j) ≡ false
        lasts = rw typed

        life : Life
        life = answered_to (string_of "oMId" j) (acknowledges (is_type "MessageAck" j) own_version (life_at m l))

    watchdog_acked : (tw : Bool) → Talks acknowledged true (sent id time) tw (life_at m l) → Talks acknowledged true acknowledged tw Then
    watchdog_acked tw k =
        rw (answer_life m l t room random bytes j arrives configured k.connected limit a k.awaited is says lasts, set_life m l k.connected life)
        (record {
          connected = rw typed k.connected;
          versions = rw typed k.versions;
          watchdogs = rw (typed, k.watchdogs);
          awaited = rw (typed, k.awaited, its_own m l t id j a k.awaited is says);
        })
      where
        a : Awaited
        a = record { identity = id; time = time; message = own_watchdog }

        lasts : both (not (is_type "MessageAck" j)) (is_beating (life_at m l)) ≡ false
        lasts = rw typed

        life : Life
        life = answered_to (string_of "oMId" j) (acknowledges (is_type "MessageAck" j) own_watchdog (life_at m l))

  module _ (formed : WellFormed j) where
    version_taken : (v : List ℕ) → IsGoodVersion m v j → (ov : Ours) → is_sent ov ≡ true → Talks ov false unsent false (life_at m l) → Talks ov true unsent false Then
    version_taken v good ov out k =
        rw (
          plain_life m l t room random bytes j arrives configured k.connected limit (version_plain m l t j formed v good k.connected went taken)
              (version_reason m l t j formed v good k.connected went taken) (version_heard m l t j formed v good k.connected went taken)
              (version_accepted l j m) (version_carried m l t j formed v good k.connected went taken) refl,
          set_life m l k.connected (agreed (or_else [] (common j)) (life_at m l)),
        )
        (record { connected = k.connected; versions = rw k.versions; watchdogs = k.watchdogs; awaited = k.awaited })
      where
        went : (life_at m l).versions.sent ≡ true
        went = rw k.versions out

        taken : (life_at m l).versions.taken ≡ false
        taken = rw k.versions

    watchdog_taken_lem : IsTheirWatchdog j → (ow : Ours) (tw : Bool) → Talks acknowledged true ow tw (life_at m l) → Talks acknowledged true ow true Then
    watchdog_taken_lem typed ow tw k =
        rw (
          plain_life m l t room random bytes j arrives configured k.connected limit (watchdog_plain m l t j formed typed k.connected over)
              (watchdog_reason m l t j formed typed k.connected over) (watchdog_heard m l t j formed typed k.connected over)
              (watchdog_taken l j m) (watchdog_carried m l t j formed typed k.connected over) refl,
          set_life m l k.connected (with_watchdogs (now_taken (life_at m l).watchdogs) (life_at m l)),
        )
        (record { connected = k.connected; versions = k.versions; watchdogs = rw k.watchdogs; awaited = k.awaited })
      where
        over : is_over (life_at m l).versions ≡ true
        over = rw k.versions

-- ---- the whole
up_then : (k : Life) → Talks acknowledged true acknowledged true k → (is_up k ≡ true) × (k.awaited ≡ [])
up_then k a = (rw (a.connected, a.versions, a.watchdogs), a.awaited)

module _ (s : Start) (l : ℕ) where
  links_stay : {h : List Past} {m : Machine} (r : Run s h m) (c : Call) → l < m.setup.links → l < (step m c).1.setup.links
  links_stay r c h = rw (same_setup r c) h

  greets_up : {m : Machine} {h : List Past} {g : Stage} {cs : List Call} → Run s h m → l < m.setup.links → IsAt g (life_at m l) → Greets l m g cs
      → (is_up (life_at (leaves m cs) l) ≡ true) × ((life_at (leaves m cs) l).awaited ≡ [])
  greets_up r here k (greeted {m}) = up_then (life_at m l) k
  greets_up r here k (meanwhile {m} {g} {c} w rest) =
      greets_up (next c r) (links_stay r c here) (subst (IsAt g) (sym (meanwhile_life l m c w)) k) rest
  greets_up r here k (connects_now {m} {t} timely rest) =
      greets_up (next (at t (connect l)) r) (links_stay r (at t (connect l)) here)
      (rw (connect_life m l t here (run_sized r) k timely) (record { connected = refl; versions = refl; watchdogs = refl; awaited = refl })) rest
  greets_up r here k (our_version {m} {t} {room} {random} timely roomy rest) =
      greets_up (next (at t (pump l random room)) r) (links_stay r (at t (pump l random room)) here)
      (rw (pump_life m l t room random here timely roomy k.awaited the_version (version_due m l t k)) (version_sent m l t (own_identity random) k)) rest
  greets_up r here k (version_acknowledged {m} {id} {time} {theirs} {t} {room} {random} {bytes} {j} arrives typed says rest) =
      greets_up (next (at t (packet l random bytes room)) r) (links_stay r (at t (packet l random bytes room)) here)
      (version_acked m l t room random bytes j arrives here (run_limit r) typed id time says theirs k) rest
  greets_up r here k (their_version {m} {ours} {t} {room} {random} {bytes} {j} {v} out arrives formed good rest) =
      greets_up (next (at t (packet l random bytes room)) r) (links_stay r (at t (packet l random bytes room)) here)
      (version_taken m l t room random bytes j arrives here (run_limit r) formed v good ours out k) rest
  greets_up r here k (our_watchdog {m} {theirs} {t} {room} {random} timely roomy rest) =
      greets_up (next (at t (pump l random room)) r) (links_stay r (at t (pump l random room)) here)
      (rw (pump_life m l t room random here timely roomy k.awaited the_watchdog (watchdog_due m l t theirs k)) (watchdog_sent m l t (own_identity random) theirs k)) rest
  greets_up r here k (watchdog_acknowledged {m} {id} {time} {theirs} {t} {room} {random} {bytes} {j} arrives typed says rest) =
      greets_up (next (at t (packet l random bytes room)) r) (links_stay r (at t (packet l random bytes room)) here)
      (watchdog_acked m l t room random bytes j arrives here (run_limit r) typed id time says theirs k) rest
  greets_up r here k (their_watchdog {m} {ours} {theirs} {t} {room} {random} {bytes} {j} arrives formed typed rest) =
      greets_up (next (at t (packet l random bytes room)) r) (links_stay r (at t (packet l random bytes room)) here)
      (watchdog_taken_lem m l t room random bytes j arrives here (run_limit r) formed typed ours theirs k) rest

is_down_lem : (k : Life) → is_down k ≡ true → k.connected ≡ false
is_down_lem k e = not-true k.connected e

pub greeting : Greeting
greeting =
    record {
      comes_up = λ s h m r l here d cs g. greets_up s l r here (is_down_lem (life_at m l) d) g;
      from_start = begun_example;
      is_down_lem = refl;
      greets = greets_example;
      is_up_lem = up_example;
    }
