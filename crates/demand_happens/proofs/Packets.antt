-- Packets that are taken: an answer to what is awaited alone, a Version, a Watchdog.
-- Assumes nothing.
use Rattle.basis.proofs.Std.{ℕ, suc, ◌+◌, ◌≤◌, ◌<◌, ◌≡◌, refl, Bool, true, false, List, [], ◌∷◌, Option, some, none, length, arith, le-ltb, pick, both}
use Rattle.json_value.specs.Grammar.{Json}
use Rattle.write_message.specs.Message.Message.{ack}
use Rattle.machine.specs.Words.{Bytes, maybe, is_some, reads, Case, first_of}
use Rattle.machine.specs.State.{Awaited, Exchange, Machine, life_at, with_life, handing, only}
use Rattle.machine.specs.State.Act.{packet}
use Rattle.machine.specs.Json.{shape, element, string_of, element_is, is_type, is_included, is_identity_of}
use Rattle.machine.specs.Table.{last_sequence}
use Rattle.machine.specs.Life.{is_over, is_greeting, is_beating, awaited_by, answered_to}
use Rattle.machine.specs.Answers.{is_answer, is_ignored, component_asked, unknown_component, unknown_alarm, unknown_status, out_of_range, unknown_command, wants_reply, is_unexpected, reasons, reason_of}
use Rattle.machine.specs.Effects.{own_identity, answer_closes, acknowledges, settle, answers, answered, version_accepted, watchdog_taken, carried_out, replying, receives, effect_of}
use Rattle.machine.specs.Step.{is_replied, conditions, number_of}
use Rattle.demand_held.proofs.Lists.{Each}
use Rattle.demand_held.proofs.Lists.Each.{no_more, one_more}
use Rattle.demand_told.proofs.Replies.{one_type, not_included}
use Rattle.demand_told.proofs.Checks.{has_common, site_named, sxl_equal}
use Rattle.demand_told.specs.Greeted.{IsGoodVersion, IsTheirWatchdog}
use Rattle.demand_happens.specs.Pumped.{at}
use Rattle.demand_happens.specs.Greeting.{Arrives, Answers, WellFormed}
use Rattle.demand_happens.proofs.Done.{configured_link, good_time, not_down}

-- ---- small tests
both_no : (b : Bool) → both b false ≡ false
both_no true = refl
both_no false = refl

pick_same : {A : Type 0} (b : Bool) (x : A) → pick b x x ≡ x
pick_same true x = refl
pick_same false x = refl

pub first_none : {A : Type 0} (ks : List (Case A)) → Each (λ (k : Case A). k.applies ≡ false) ks → first_of ks ≡ none
first_none [] no_more = refl
first_none (k ∷ ks) (one_more e r) = rw e (first_none ks r)

pub mtype_there : (j : Json) → element_is "mType" "rSMsg" j ≡ true → is_some (element "mType" j) ≡ true
mtype_there j e = go (element "mType" j) e
  where
    go : (o : Option Json) → maybe false (reads "rSMsg") (maybe none (λ (v : Json). (shape v).string) o) ≡ true → is_some o ≡ true
    go none f = f
    go (some v) f = refl

pub not_over : (x : Exchange) → x.taken ≡ false → is_over x ≡ false
not_over x e = rw e (both_no x.acknowledged)

-- ---- a packet call that nothing refuses
module _ (m : Machine) (l t room : ℕ) (random bytes : Bytes) (j : Json) (arrives : Arrives m t bytes room j) where
  pub packet_effect : effect_of m t (packet l random bytes room) ≡ receives l t (own_identity random) m j
  unfolding effect_of
  packet_effect = rw arrives.reads

  module _ (configured : l < m.setup.links) (connected : (life_at m l).connected ≡ true) (limit : m.pool.next ≤ suc last_sequence) where
    pub packet_unrefused : is_ignored (life_at m l) (some j) ≡ false → is_replied m l j ≡ false → (receives l t (own_identity random) m j).issues ≡ []
        → number_of m (at t (packet l random bytes room)) ≡ none
    unfolding conditions
    packet_unrefused heard unreplied nothing =
        rw (
          configured_link m l configured,
          le-ltb room 4096 arrives.roomy,
          le-ltb 4096 (length bytes) arrives.short,
          good_time m t arrives.timely,
          not_down m l connected,
          packet_effect,
          arrives.reads,
          heard,
          unreplied,
          nothing,
          le-ltb (suc last_sequence) (m.pool.next + 0) (omega (arith, limit)),
        )

-- ---- an answer to the one that is awaited
module _ (m : Machine) (l t : ℕ) (id : Bytes) (j : Json) (a : Awaited) (alone : (life_at m l).awaited ≡ a ∷ []) (is : is_answer j ≡ true) (says : Answers a.identity j) where
  pub its_own : is_identity_of a.identity (string_of "oMId" j) ≡ true
  its_own = rw says.names says.ours

  found : awaited_by (life_at m l) (string_of "oMId" j) ≡ some a
  found = rw (alone, its_own)

  pub answer_heard : is_ignored (life_at m l) (some j) ≡ false
  unfolding is_ignored
  answer_heard = rw (is, says.marked, says.names, alone, says.ours)

  pub answer_unreplied : is_replied m l j ≡ false
  answer_unreplied = rw is

  pub answer_effect : answer_closes (life_at m l) (is_type "MessageAck" j) a.message ≡ false
      → receives l t id m j ≡ only (with_life l (answered_to (string_of "oMId" j) (acknowledges (is_type "MessageAck" j) a.message (life_at m l))) (settle l a.message m))
  unfolding receives answered answers
  answer_effect lasts = rw (is, found, lasts)

-- ---- what only greets
pub record Plain (j : Json) : Type 0 where
  pub no_ack : is_type "MessageAck" j ≡ false
  pub no_not_ack : is_type "MessageNotAck" j ≡ false
  pub no_alarm_lem : is_type "Alarm" j ≡ false
  pub no_aggregated : is_type "AggregatedStatusRequest" j ≡ false
  pub no_request : is_type "StatusRequest" j ≡ false
  pub no_subscribe : is_type "StatusSubscribe" j ≡ false
  pub no_unsubscribe : is_type "StatusUnsubscribe" j ≡ false
  pub no_order : is_type "CommandRequest" j ≡ false
  pub no_request_included : is_included "StatusRequest" j ≡ false
  pub no_order_included : is_included "CommandRequest" j ≡ false

plain_version : (j : Json) → is_type "Version" j ≡ true → Plain j
plain_version j e =
    record {
      no_ack = one_type "Version" "MessageAck" refl j e;
      no_not_ack = one_type "Version" "MessageNotAck" refl j e;
      no_alarm_lem = one_type "Version" "Alarm" refl j e;
      no_aggregated = one_type "Version" "AggregatedStatusRequest" refl j e;
      no_request = one_type "Version" "StatusRequest" refl j e;
      no_subscribe = one_type "Version" "StatusSubscribe" refl j e;
      no_unsubscribe = one_type "Version" "StatusUnsubscribe" refl j e;
      no_order = one_type "Version" "CommandRequest" refl j e;
      no_request_included = not_included "Version" "StatusRequest" refl j e;
      no_order_included = not_included "Version" "CommandRequest" refl j e;
    }

plain_watchdog : (j : Json) → is_type "Watchdog" j ≡ true → Plain j
plain_watchdog j e =
    record {
      no_ack = one_type "Watchdog" "MessageAck" refl j e;
      no_not_ack = one_type "Watchdog" "MessageNotAck" refl j e;
      no_alarm_lem = one_type "Watchdog" "Alarm" refl j e;
      no_aggregated = one_type "Watchdog" "AggregatedStatusRequest" refl j e;
      no_request = one_type "Watchdog" "StatusRequest" refl j e;
      no_subscribe = one_type "Watchdog" "StatusSubscribe" refl j e;
      no_unsubscribe = one_type "Watchdog" "StatusUnsubscribe" refl j e;
      no_order = one_type "Watchdog" "CommandRequest" refl j e;
      no_request_included = not_included "Watchdog" "StatusRequest" refl j e;
      no_order_included = not_included "Watchdog" "CommandRequest" refl j e;
    }

module _ (j : Json) (plain : Plain j) where
  no_answer : is_answer j ≡ false
  no_answer = rw (plain.no_ack, plain.no_not_ack)

  no_reply : (m : Machine) (l : ℕ) → wants_reply m l j ≡ false
  no_reply m l = rw (plain.no_alarm_lem, plain.no_aggregated, plain.no_request, plain.no_order)

  no_component : (m : Machine) → unknown_component m j ≡ false
  no_component m = rw (plain.no_alarm_lem, plain.no_aggregated)

  no_alarm_number : (m : Machine) → unknown_alarm m j ≡ false
  no_alarm_number m = rw plain.no_alarm_lem

  no_status : (m : Machine) → unknown_status m j ≡ false
  no_status m = rw (plain.no_request, plain.no_request_included, plain.no_subscribe, plain.no_unsubscribe) (pick_same (is_some (component_asked m j)) false)

  no_range : (m : Machine) → out_of_range m j ≡ false
  no_range m = rw (plain.no_order, plain.no_order_included)

  no_command : (m : Machine) → unknown_command m j ≡ false
  no_command m = rw (plain.no_order, plain.no_order_included)

  module _ (m : Machine) (l t : ℕ) (id : Bytes) (reason : reason_of m l j ≡ none) where
    pub plain_unreplied : is_replied m l j ≡ false
    plain_unreplied = rw (no_answer, reason, no_reply m l)

    pub plain_effect : receives l t id m j
        ≡ handing (carried_out l t j m).commands (carried_out l t j m).leaves (carried_out l t j m).issues (ack (string_of "mId" j) ∷ []) (carried_out l t j m).closed (carried_out l t j m).hint
    unfolding receives replying
    plain_effect = rw (no_answer, reason, plain.no_request_included, plain.no_order_included, no_reply (carried_out l t j m).leaves l)

-- ---- their Version, after ours went out
module _ (m : Machine) (l t : ℕ) (j : Json) (formed : WellFormed j) (v : List ℕ) (good : IsGoodVersion m v j) (connected : (life_at m l).connected ≡ true)
    (sent : (life_at m l).versions.sent ≡ true) (taken : (life_at m l).versions.taken ≡ false) where
  pub version_plain : Plain j
  version_plain = plain_version j good.typed

  not_beating : is_beating (life_at m l) ≡ false
  not_beating = rw (connected, not_over (life_at m l).versions taken)

  expected : is_unexpected (life_at m l) j ≡ false
  expected = rw (good.typed, sent, taken)

  pub version_reason : reason_of m l j ≡ none
  unfolding reasons
  version_reason =
      first_none (reasons m l j)
      (one_more (rw (mtype_there j formed.marked)) (one_more (rw formed.marked) (one_more expected (one_more (rw not_beating)
      (one_more (formed.complete _) (one_more (formed.good _) (one_more (no_range j version_plain m) (one_more (rw (good.typed, has_common j v good.version.by_us good.version.by_them)) (one_more (rw (good.typed, site_named m j good.site))
      (one_more (rw (good.typed, sxl_equal m j good.sxl)) (one_more (no_component j version_plain m) (one_more (no_alarm_number j version_plain m)
      (one_more (no_status j version_plain m) (one_more (no_command j version_plain m) (one_more (rw (no_reply j version_plain m l)) no_more)))))))))))))))

  pub version_heard : is_ignored (life_at m l) (some j) ≡ false
  unfolding is_ignored
  version_heard = rw (no_answer j version_plain, formed.readable, good.typed) (both_no (is_greeting (life_at m l)))

  pub version_carried : carried_out l t j m ≡ version_accepted l j m
  unfolding carried_out
  version_carried = rw good.typed

-- ---- their Watchdog, after the Versions
module _ (m : Machine) (l t : ℕ) (j : Json) (formed : WellFormed j) (typed : IsTheirWatchdog j) (connected : (life_at m l).connected ≡ true)
    (over : is_over (life_at m l).versions ≡ true) where
  pub watchdog_plain : Plain j
  watchdog_plain = plain_watchdog j typed

  no_version : is_type "Version" j ≡ false
  no_version = one_type "Watchdog" "Version" refl j typed

  pub watchdog_reason : reason_of m l j ≡ none
  unfolding reasons
  watchdog_reason =
      first_none (reasons m l j)
      (one_more (rw (mtype_there j formed.marked)) (one_more (rw formed.marked) (one_more (rw (no_version, typed)) (one_more (rw typed (both_no (is_beating (life_at m l))))
      (one_more (formed.complete _) (one_more (formed.good _) (one_more (no_range j watchdog_plain m) (one_more (rw no_version) (one_more (rw no_version)
      (one_more (rw no_version) (one_more (no_component j watchdog_plain m) (one_more (no_alarm_number j watchdog_plain m)
      (one_more (no_status j watchdog_plain m) (one_more (no_command j watchdog_plain m) (one_more (rw (no_reply j watchdog_plain m l)) no_more)))))))))))))))

  pub watchdog_heard : is_ignored (life_at m l) (some j) ≡ false
  unfolding is_ignored
  watchdog_heard = rw (no_answer j watchdog_plain, formed.readable, connected, over)

  pub watchdog_carried : carried_out l t j m ≡ watchdog_taken l j m
  unfolding carried_out
  watchdog_carried = rw (no_version, typed)
