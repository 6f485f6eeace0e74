-- What the types of request 04 share with the old ones: all of it but "Busy", number 9 and what is awaited.
-- Assumes nothing.
use Rattle.basis.proofs.Std.{ℕ, suc, ◌+◌, ◌≤◌, String, ◌≡◌, refl, sym, ◌∙◌, ap, Bool, true, false, not, List, [], ◌∷◌, ◌++◌, Option, some, none, ltb, leb, length, take, arith, le-ltb, pick, both, both_false, text, same_bytes, same_self, picked, not_both}
use Rattle.json_value.specs.Grammar.{Json}
use Rattle.write_message.specs.declared.Value.TheVariants.{Recent, Undefined}
use Rattle.write_message.specs.declared.Told.{Told}
use Rattle.write_message.specs.declared.Told.TheVariants.{Response, Command as CommandResponse}
use Rattle.write_message.specs.Message.{Message, Status, status}
use Rattle.write_message.specs.Message.Message.{ack, not_ack, statuses, included}
use Rattle.machine.specs.Words.{Bytes, maybe, is_some, or_else, any, Case, ◌when◌, first_of}
use Rattle.machine.specs.State.{Command, command_of, Life, Machine, life_at, value_at, Call, Outcome, Effect, handing, effect, only}
use Rattle.machine.specs.State.Act.{packet}
use Rattle.machine.specs.State.Outcome.{refused, done}
use Rattle.machine.specs.Json.{read_packet, string_of, element, element_is, is_type, is_included, asks_for}
use Rattle.machine.specs.Table.{last_sequence, status_number, command_number}
use Rattle.machine.specs.Life.{is_beating, is_older, common, names_site, equal_sxl}
use Rattle.machine.specs.Answers.{is_answer, is_ignored, needs, is_missing, is_bad, component_asked, value_asked, out_of_range, unknown_component, unknown_alarm, unknown_status, unknown_command, wants_reply, replies_at_once, is_unexpected, reasons, reason_of, fails_check}
use Rattle.machine.specs.Items.{command_of_entry, commands_asked, commands}
use Rattle.machine.specs.Messages.{value_of, answer_entry, answer_entries, command_entry, command_entries, included_message}
use Rattle.machine.specs.Effects.{own_identity, refusal, refuses, carried_out, reply_message, replying, receives, effect_of}
use Rattle.machine.specs.Step.{no_such_link, bad_time, is_down_at, identity_awaited, is_replied, sequence_ends, conditions, number_of, outcome, step}
use Rattle.demand_held.proofs.Lists.{Each}
use Rattle.demand_held.proofs.Lists.Each.{no_more, one_more}
use Rattle.demand_held.proofs.Steps.{step_done, step_refused}
use Rattle.demand_told.specs.Demand.{messages_of}
use Rattle.demand_told.specs.IncludedDemand.{Named, AlikeBut, Shared, packet_at, DemandIncluded}
use Rattle.demand_told.specs.IncludedDemand.Named.{status_request, command_request}
use Rattle.demand_told.specs.IncludedDemand.Shared.{both_refused, both_not_acked, both_answered, one_busy, one_awaited}
use Rattle.demand_told.proofs.Replies.{one_type, with_ack, asks_old, asks_new, asks_only, asks_nothing_else, at_once, at_once_only, not_at_once}
use Rattle.demand_told.proofs.Entries.{status_needs, command_needs}
use Rattle.demand_told.proofs.GreetedDemand.{by_number}
use Rattle.demand_told.proofs.Limits.{run_limit}

-- ---- the first that applies, of two lists and of one
first_split : {A : Type 0} (ks ls : List (Case A)) → first_of (ks ++ ls) ≡ maybe (first_of ls) (λ (x : A). some x) (first_of ks)
first_split [] ls = refl
first_split {A} (k ∷ ks) ls = go k.applies (first_split ks ls)
  where
    go : (b : Bool) → first_of (ks ++ ls) ≡ maybe (first_of ls) (λ (x : A). some x) (first_of ks)
        → pick b (some k.gives) (first_of (ks ++ ls)) ≡ maybe (first_of ls) (λ (x : A). some x) (pick b (some k.gives) (first_of ks))
    go true e = refl
    go false e = e

first_such : {A : Type 0} (P : A → Type 0) (ks : List (Case A)) (x : A) → Each (λ (k : Case A). k.applies ≡ true → P k.gives) ks → first_of ks ≡ some x → P x
first_such P [] x no_more e = absurd (let z : ◌≡◌ {A = ℕ} 0 1 = cc in omega arith)
first_such {A} P (k ∷ ks) x (one_more p r) e = go k.applies p e (first_such P ks x r)
  where
    go : (b : Bool) → (b ≡ true → P k.gives) → pick b (some k.gives) (first_of ks) ≡ some x → (first_of ks ≡ some x → P x) → P x
    go true p f q = let same : k.gives ≡ x = cc in rw (← same) (p refl)
    go false p f q = q f

nothing_more : {A : Type 0} (o : Option A) → maybe none (λ (x : A). some x) o ≡ o
nothing_more none = refl
nothing_more (some x) = refl

-- ---- a request of either form is of no other type
record Plain (j : Json) : Type 0 where
  no_ack : is_type "MessageAck" j ≡ false
  no_not_ack : is_type "MessageNotAck" j ≡ false
  no_version : is_type "Version" j ≡ false
  no_watchdog : is_type "Watchdog" j ≡ false
  no_alarm_lem : is_type "Alarm" j ≡ false
  no_aggregated : is_type "AggregatedStatusRequest" j ≡ false
  no_subscribe : is_type "StatusSubscribe" j ≡ false
  no_unsubscribe : is_type "StatusUnsubscribe" j ≡ false

plain : {name : String} → Named name → (j : Json) → asks_for name j ≡ true → Plain j
plain status_request j e =
    record {
      no_ack = asks_only "StatusRequest" "MessageAck" refl refl j e;
      no_not_ack = asks_only "StatusRequest" "MessageNotAck" refl refl j e;
      no_version = asks_only "StatusRequest" "Version" refl refl j e;
      no_watchdog = asks_only "StatusRequest" "Watchdog" refl refl j e;
      no_alarm_lem = asks_only "StatusRequest" "Alarm" refl refl j e;
      no_aggregated = asks_only "StatusRequest" "AggregatedStatusRequest" refl refl j e;
      no_subscribe = asks_only "StatusRequest" "StatusSubscribe" refl refl j e;
      no_unsubscribe = asks_only "StatusRequest" "StatusUnsubscribe" refl refl j e;
    }
plain command_request j e =
    record {
      no_ack = asks_only "CommandRequest" "MessageAck" refl refl j e;
      no_not_ack = asks_only "CommandRequest" "MessageNotAck" refl refl j e;
      no_version = asks_only "CommandRequest" "Version" refl refl j e;
      no_watchdog = asks_only "CommandRequest" "Watchdog" refl refl j e;
      no_alarm_lem = asks_only "CommandRequest" "Alarm" refl refl j e;
      no_aggregated = asks_only "CommandRequest" "AggregatedStatusRequest" refl refl j e;
      no_subscribe = asks_only "CommandRequest" "StatusSubscribe" refl refl j e;
      no_unsubscribe = asks_only "CommandRequest" "StatusUnsubscribe" refl refl j e;
    }

plain_at_once : (j : Json) → replies_at_once j ≡ true → Plain j
plain_at_once j e =
    at_once j e (λ s. plain status_request j (asks_new "StatusRequest" j s)) (λ c. plain command_request j (asks_new "CommandRequest" j c))

module _ (j : Json) (p : Plain j) where
  no_answer : is_answer j ≡ false
  no_answer = rw (p.no_ack, p.no_not_ack)

  -- a reason that refuses it is none of the three that close
  no_check : (m : Machine) (l : ℕ) (reason : String) → reason_of m l j ≡ some reason → fails_check reason ≡ false
  unfolding reasons
  no_check m l reason e =
      first_such (λ (r : String). fails_check r ≡ false) (reasons m l j) reason
      (one_more (λ f. refl) (one_more (λ f. refl) (one_more (λ f. refl) (one_more (λ f. refl) (one_more (λ f. refl) (one_more (λ f. refl) (one_more (λ f. refl)
      (one_more (no _) (one_more (no _) (one_more (no _)
      (one_more (λ f. refl) (one_more (λ f. refl) (one_more (λ f. refl) (one_more (λ f. refl) (one_more (λ f. refl) no_more)))))))))))))))
      e
    where
      no : {P : Type 0} (b : Bool) → both (is_type "Version" j) b ≡ true → P
      no b f = not_both f (rw p.no_version)

  refused_as : (m : Machine) (l t : ℕ) (id : Bytes) (reason : String) → reason_of m l j ≡ some reason
      → receives l t id m j ≡ effect m [] (refusal j reason ∷ []) [] none
  unfolding receives refuses
  refused_as m l t id reason e = rw (no_answer, e, no_check m l reason e)

-- ---- one whose response is its answer
abbrev handed : Machine → Json → List Command
handed m j = pick (asks_for "CommandRequest" j) (commands_asked m j) []

carried_plain : (j : Json) → Plain j → (m : Machine) (l t : ℕ) → carried_out l t j m ≡ handing (handed m j) m [] [] [] none
unfolding carried_out commands
carried_plain j p m l t = rw (p.no_version, p.no_watchdog, p.no_alarm_lem, p.no_subscribe, p.no_unsubscribe) (go (asks_for "CommandRequest" j))
  where
    go : (b : Bool) → pick b (handing (commands_asked m j) m [] [] [] none) (only m) ≡ handing (pick b (commands_asked m j) []) m [] [] [] none
    go true = refl
    go false = refl

module _ (j : Json) (o : replies_at_once j ≡ true) (m : Machine) (l : ℕ) where
  unreplied : wants_reply m l j ≡ false
  unreplied =
      let p = plain_at_once j o in
      rw (p.no_alarm_lem, p.no_aggregated, at_once_only "StatusRequest" refl refl j o, at_once_only "CommandRequest" refl refl j o)

  responds : (t : ℕ) (id : Bytes) → reason_of m l j ≡ none → receives l t id m j ≡ handing (handed m j) m [] (included_message m t j ∷ []) [] none
  unfolding receives replying
  responds t id e = let p = plain_at_once j o in rw (no_answer j p, e, carried_plain j p m l t, o)

  leaves_same : (t : ℕ) (id : Bytes) → (receives l t id m j).leaves ≡ m
  leaves_same t id = go (reason_of m l j) refl
    where
      go : (r : Option String) → reason_of m l j ≡ r → (receives l t id m j).leaves ≡ m
      go none e = ap (λ (x : Effect). x.leaves) (responds t id e)
      go (some reason) e = ap (λ (x : Effect). x.leaves) (refused_as j (plain_at_once j o) m l t id reason e)

  not_busy : (reason : String) → reason_of m l j ≡ some reason → same_bytes (text reason) (text "Busy") ≡ false
  unfolding reasons
  not_busy reason e =
      first_such (λ (r : String). same_bytes (text r) (text "Busy") ≡ false) (reasons m l j) reason
      (one_more (λ f. refl) (one_more (λ f. refl) (one_more (λ f. refl) (one_more (λ f. refl) (one_more (λ f. refl) (one_more (λ f. refl) (one_more (λ f. refl)
      (one_more (λ f. refl) (one_more (λ f. refl) (one_more (λ f. refl)
      (one_more (λ f. refl) (one_more (λ f. refl) (one_more (λ f. refl) (one_more (λ f. refl) (one_more (λ f. not_both f (rw unreplied)) no_more)))))))))))))))
      e

  no_busy_answer : (t : ℕ) (id : Bytes) (ms : List Message) → (receives l t id m j).messages ≡ not_ack (string_of "mId" j) (text "Busy") ∷ ms → ⊥
  no_busy_answer t id ms e = go (reason_of m l j) refl
    where
      response : (w : Message) → w ∷ [] ≡ not_ack (string_of "mId" j) (text "Busy") ∷ ms → w ≡ included_message m t j → ⊥
      response w f g = at (is_included "CommandRequest" j) (sym g ∙ head)
        where
          head : w ≡ not_ack (string_of "mId" j) (text "Busy")
          head = cc

          at : (b : Bool) → pick b (included CommandResponse (string_of "mId" j) (string_of "cId" j) t (command_entries m j)) (included Response (string_of "mId" j) (string_of "cId" j) t (answer_entries m j)) ≡ not_ack (string_of "mId" j) (text "Busy") → ⊥
          at true h = let z : ◌≡◌ {A = ℕ} 0 1 = cc in omega arith
          at false h = let z : ◌≡◌ {A = ℕ} 0 1 = cc in omega arith

      go : (r : Option String) → reason_of m l j ≡ r → ⊥
      go none f = response (included_message m t j) (sym (ap (λ (x : Effect). x.messages) (responds t id f)) ∙ e) refl
      go (some reason) f =
          let same : refusal j reason ∷ [] ≡ not_ack (string_of "mId" j) (text "Busy") ∷ ms = sym (ap (λ (x : Effect). x.messages) (refused_as j (plain_at_once j o) m l t id reason f)) ∙ e in
          let read : text reason ≡ text "Busy" = cc in
          not_both (rw read (same_self (text "Busy"))) (not_busy reason f)

-- ---- the calls of such a packet
module _ (m : Machine) (t l room : ℕ) (random bytes : Bytes) (j : Json) (read : read_packet bytes ≡ some j) where
  abbrev this : Call
  this = packet_at t l random bytes room

  lays : effect_of m t (packet l random bytes room) ≡ receives l t (own_identity random) m j
  unfolding effect_of
  lays = rw read

  gives_done : number_of m this ≡ none → (step m this).0 ≡ outcome (receives l t (own_identity random) m j)
  gives_done e = ap (λ (r : Outcome × Machine). r.0) (step_done m this e) ∙ ap outcome lays

  gives_refused : (n : ℕ) → number_of m this ≡ some n → (step m this).0 ≡ refused n
  gives_refused n e = ap (λ (r : Outcome × Machine). r.0) (step_refused m this n e)

  module _ (o : replies_at_once j ≡ true) where
    unawaited : (k : ℕ) → (life_at (step m this).1 k).awaited ≡ (life_at m k).awaited
    unawaited k =
        by_number m this
        (λ e. rw (step_done m this e, lays) (ap (λ (x : Machine). (life_at x k).awaited) (leaves_same j o m l t (own_identity random))))
        (λ n e. rw (step_refused m this n e))

    never_busy : (ms : List Message) (closed : List ℕ) (hint : Option ℕ) (commands : List Command)
        → (step m this).0 ≡ done (not_ack (string_of "mId" j) (text "Busy") ∷ ms) closed hint commands → ⊥
    never_busy ms closed hint commands d =
        by_number m this
        (λ e. no_busy_answer j o m l t (own_identity random) ms (ap messages_of (sym (gives_done e) ∙ d)))
        (λ n e. let q : refused n ≡ done (not_ack (string_of "mId" j) (text "Busy") ∷ ms) closed hint commands = sym (gives_refused n e) ∙ d in let z : ◌≡◌ {A = ℕ} 0 1 = cc in omega arith)

    not_nine : (n : ℕ) → number_of m this ≡ some n → n ≡ 9 → ⊥
    unfolding conditions
    not_nine n e =
        first_such (λ (n : ℕ). n ≡ 9 → ⊥) (conditions m t (packet l random bytes room)) n
        (one_more (λ a f. omega (arith, f)) (one_more (λ a f. omega (arith, f)) (one_more (λ a f. omega (arith, f)) (one_more (λ a f. omega (arith, f))
        (one_more (λ a f. omega (arith, f)) (one_more (λ a f. omega (arith, f)) (one_more (λ a f. not_both a unasked) (one_more (λ a f. omega (arith, f)) no_more)))))))) e
      where
        unasked : both (maybe false (is_replied m l) (read_packet bytes)) (identity_awaited m l random) ≡ false
        unasked = rw (read, unreplied j o m l, both_false (not (is_some (reason_of m l j))), both_false (not (is_answer j)))

    never_nine : (step m this).0 ≡ refused 9 → ⊥
    never_nine d =
        by_number m this
        (λ e. let q : outcome (receives l t (own_identity random) m j) ≡ refused 9 = sym (gives_done e) ∙ d in let z : ◌≡◌ {A = ℕ} 0 1 = cc in omega arith)
        (λ n e. let q : refused n ≡ refused 9 = sym (gives_refused n e) ∙ d in let same : n ≡ 9 = cc in not_nine n e same)

-- ---- two that are alike but for the ending
asks_not : (a b : String) → same_bytes (text a) (text b) ≡ false → same_bytes (with_ack a) (text b) ≡ false → same_bytes (text a) (with_ack b) ≡ false
    → same_bytes (with_ack a) (with_ack b) ≡ false → (j : Json) → asks_for a j ≡ true → asks_for b j ≡ false
asks_not a b w x y z j e = rw (asks_only a b w x j e, asks_nothing_else a b y z j e)

module _ {name : String} (n : Named name) (old new : Json) (a : AlikeBut name old new) where
  asks_one : asks_for name old ≡ true
  asks_one = asks_old name old a.old_type

  asks_other : asks_for name new ≡ true
  asks_other = asks_new name new a.new_type

  one : Plain old
  one = plain n old asks_one

  other : Plain new
  other = plain n new asks_other

  status_same : asks_for "StatusRequest" new ≡ asks_for "StatusRequest" old
  status_same = go n asks_other asks_one
    where
      go : {name : String} → Named name → asks_for name new ≡ true → asks_for name old ≡ true → asks_for "StatusRequest" new ≡ asks_for "StatusRequest" old
      go status_request x y = x ∙ sym y
      go command_request x y = asks_not "CommandRequest" "StatusRequest" refl refl refl refl new x ∙ sym (asks_not "CommandRequest" "StatusRequest" refl refl refl refl old y)

  command_same : asks_for "CommandRequest" new ≡ asks_for "CommandRequest" old
  command_same = go n asks_other asks_one
    where
      go : {name : String} → Named name → asks_for name new ≡ true → asks_for name old ≡ true → asks_for "CommandRequest" new ≡ asks_for "CommandRequest" old
      go status_request x y = asks_not "StatusRequest" "CommandRequest" refl refl refl refl new x ∙ sym (asks_not "StatusRequest" "CommandRequest" refl refl refl refl old y)
      go command_request x y = x ∙ sym y

  at_once_new : replies_at_once new ≡ true
  at_once_new = go n a.new_type
    where
      go : {name : String} → Named name → is_included name new ≡ true → replies_at_once new ≡ true
      go status_request e = rw e
      go command_request e = picked (λ (b : Bool). b ≡ true) (is_included "StatusRequest" new) true _ (λ f. refl) (λ f. e)

  -- ---- all that is judged but "Busy"
  module _ (m : Machine) (l : ℕ) where
    needed_same : (older : Bool) → (any (is_missing new) (needs older new) ≡ any (is_missing old) (needs older old)) × (any (is_bad new) (needs older new) ≡ any (is_bad old) (needs older old))
    needed_same older = go n asks_other asks_one
      where
        go : {name : String} → Named name → asks_for name new ≡ true → asks_for name old ≡ true
            → (any (is_missing new) (needs older new) ≡ any (is_missing old) (needs older old)) × (any (is_bad new) (needs older new) ≡ any (is_bad old) (needs older old))
        go status_request x y =
            (rw (status_needs older new x, status_needs older old y, a.others "cId" refl, a.others "sS" refl), rw (status_needs older new x, status_needs older old y, a.others "cId" refl, a.others "sS" refl))
        go command_request x y =
            (rw (command_needs older new x, command_needs older old y, a.others "cId" refl, a.others "arg" refl), rw (command_needs older new x, command_needs older old y, a.others "cId" refl, a.others "arg" refl))

    unexpected_same : (k : Life) → is_unexpected k new ≡ is_unexpected k old
    unexpected_same k =
        rw (
          other.no_version,
          other.no_watchdog,
          other.no_alarm_lem,
          other.no_aggregated,
          other.no_subscribe,
          other.no_unsubscribe,
          one.no_version,
          one.no_watchdog,
          one.no_alarm_lem,
          one.no_aggregated,
          one.no_subscribe,
          one.no_unsubscribe,
          status_same,
          command_same,
        )

    range_same : out_of_range m new ≡ out_of_range m old
    range_same = rw (command_same, a.others "cId" refl, a.others "arg" refl)

    unknown_status_same : unknown_status m new ≡ unknown_status m old
    unknown_status_same = rw (status_same, other.no_subscribe, other.no_unsubscribe, one.no_subscribe, one.no_unsubscribe, a.others "cId" refl, a.others "sS" refl)

    unknown_command_same : unknown_command m new ≡ unknown_command m old
    unknown_command_same = rw (command_same, a.others "cId" refl, a.others "arg" refl)

    abbrev but_busy : Json → List (Case String)
    but_busy j = take 14 (reasons m l j)

    reasons_same : but_busy new ≡ but_busy old
    unfolding reasons
    reasons_same =
        λ i.
        "Missing element" when not (is_some (a.others "mType" refl i))
        ∷ "Bad value" when not (marked i)
        ∷ "Unexpected" when unexpected_same (life_at m l) i
        ∷ "Not ready" when both (is_beating (life_at m l)) (not (watchdog i))
        ∷ "Missing element" when (needed_same (is_older (life_at m l))).0 i
        ∷ "Bad value" when (needed_same (is_older (life_at m l))).1 i
        ∷ "Bad value" when range_same i
        ∷ "RSMP version" when no_version (not (is_some (common new))) (not (is_some (common old))) i
        ∷ "Site id" when no_version (not (names_site m new)) (not (names_site m old)) i
        ∷ "SXL version" when no_version (not (equal_sxl m new)) (not (equal_sxl m old)) i
        ∷ "Unknown component" when component i
        ∷ "Unknown alarm" when alarm i
        ∷ "Unknown status" when unknown_status_same i
        ∷ "Unknown command" when unknown_command_same i
        ∷ []
      where
        no_version : (x y : Bool) → both (is_type "Version" new) x ≡ both (is_type "Version" old) y
        no_version x y = rw (other.no_version, one.no_version)

        component : unknown_component m new ≡ unknown_component m old
        component = rw (other.no_alarm_lem, other.no_aggregated, one.no_alarm_lem, one.no_aggregated)

        alarm : unknown_alarm m new ≡ unknown_alarm m old
        alarm = rw (other.no_alarm_lem, one.no_alarm_lem)

        marked : element_is "mType" "rSMsg" new ≡ element_is "mType" "rSMsg" old
        marked = rw (a.others "mType" refl)

        watchdog : is_type "Watchdog" new ≡ is_type "Watchdog" old
        watchdog = other.no_watchdog ∙ sym one.no_watchdog

    abbrev busy : Bool
    busy = both (wants_reply m l old) (leb 16 (length (life_at m l).awaited))

    old_reason : reason_of m l old ≡ maybe (pick busy (some "Busy") none) (λ (r : String). some r) (first_of (but_busy old))
    unfolding reasons
    old_reason = first_split (but_busy old) ("Busy" when busy ∷ [])

    new_reason : reason_of m l new ≡ first_of (but_busy old)
    unfolding reasons
    new_reason =
        first_split (but_busy new) ("Busy" when both (wants_reply m l new) (leb 16 (length (life_at m l).awaited)) ∷ [])
        ∙ ap (λ (b : Bool). maybe (pick b (some "Busy") none) (λ (r : String). some r) (first_of (but_busy new))) (unbusy (wants_reply m l new) (unreplied new at_once_new m l))
        ∙ nothing_more (first_of (but_busy new))
        ∙ ap first_of reasons_same
      where
        unbusy : (b : Bool) → b ≡ false → both b (leb 16 (length (life_at m l).awaited)) ≡ false
        unbusy b e = rw e

    wants : wants_reply m l old ≡ true
    wants = go n a.old_type
      where
        go : {name : String} → Named name → is_type name old ≡ true → wants_reply m l old ≡ true
        go status_request e = rw (one.no_alarm_lem, one.no_aggregated, e)
        go command_request e = rw (one.no_alarm_lem, one.no_aggregated, one_type "CommandRequest" "StatusRequest" refl old e, e)

    not_at_once_old : replies_at_once old ≡ false
    not_at_once_old = go n a.old_type
      where
        go : {name : String} → Named name → is_type name old ≡ true → replies_at_once old ≡ false
        go status_request e = not_at_once "StatusRequest" refl refl old e
        go command_request e = not_at_once "CommandRequest" refl refl old e

    -- the component and the entries decide
    component_same : component_asked m new ≡ component_asked m old
    component_same = rw (a.others "cId" refl)

    commands_same : command_of_entry m new ≡ command_of_entry m old
    commands_same =
        λ i e. command_of (or_else 0 (maybe none (λ (c : ℕ). command_number m.setup.table c (string_of "cCI" e) (string_of "n" e)) (component_same i))) (value_asked e)

    orders_told_same : command_entry m new ≡ command_entry m old
    orders_told_same = λ i e. status (string_of "cCI" e) (string_of "n" e) (maybe Undefined (λ (c : ℕ). Recent (value_asked e)) (component_same i))

    statuses_told_same : answer_entry m new ≡ answer_entry m old
    statuses_told_same =
        λ i e.
        status (string_of "sCI" e) (string_of "n" e)
        (maybe Undefined
        (λ (c : ℕ). value_of false (value_at m (or_else 0 (maybe none (λ (d : ℕ). status_number m.setup.table d (string_of "sCI" e) (string_of "n" e)) (component_same i)))))
        (component_same i))

    handed_same : handed m new ≡ handed m old
    handed_same = rw (command_same, commands_same, a.others "cId" refl, a.others "arg" refl)

    -- ---- what they come to where nothing refuses them
    module _ (t : ℕ) (id : Bytes) where
      old_gives : reason_of m l old ≡ none → outcome (receives l t id m old) ≡ done (ack (string_of "mId" old) ∷ reply_message m t id old ∷ []) [] none (handed m old)
      unfolding receives replying
      old_gives e = rw (no_answer old one, e, carried_plain old one m l t, not_at_once_old, wants)

      old_issues : reason_of m l old ≡ none → (receives l t id m old).issues ≡ []
      unfolding receives replying
      old_issues e = rw (no_answer old one, e, carried_plain old one m l t, not_at_once_old, wants)

      new_gives : reason_of m l new ≡ none → outcome (receives l t id m new) ≡ done (included_message m t new ∷ []) [] none (handed m old)
      new_gives e = rw (responds new at_once_new m l t id e, handed_same)

      record ToldAlike : Type 0 where
        kind : Told
        entries : List Status
        by_old : reply_message m t id old ≡ statuses kind id (string_of "cId" old) t entries
        by_new : included_message m t new ≡ included kind (string_of "mId" old) (string_of "cId" old) t entries

      told_alike : ToldAlike
      told_alike = go n a.old_type a.new_type
        where
          go : {name : String} → Named name → is_type name old ≡ true → is_included name new ≡ true → ToldAlike
          go status_request x y =
              record {
                kind = Response;
                entries = answer_entries m old;
                by_old = rw (one.no_alarm_lem, one.no_aggregated, one_type "StatusRequest" "CommandRequest" refl old x);
                by_new = rw (asks_nothing_else "StatusRequest" "CommandRequest" refl refl new (asks_new "StatusRequest" new y), statuses_told_same, a.others "mId" refl, a.others "cId" refl, a.others "sS" refl);
              }
          go command_request x y =
              record {
                kind = CommandResponse;
                entries = command_entries m old;
                by_old = rw (one.no_alarm_lem, one.no_aggregated, x);
                by_new = rw (y, orders_told_same, a.others "mId" refl, a.others "cId" refl, a.others "arg" refl);
              }

-- ---- and so the calls
module _ {name : String} (n : Named name) (old new : Json) (a : AlikeBut name old new) (m : Machine) (limit : m.pool.next ≤ suc last_sequence) (t l room : ℕ) (random bytes bytes' : Bytes)
    (read : read_packet bytes ≡ some old) (read' : read_packet bytes' ≡ some new) (short : length bytes ≤ 4096) (short' : length bytes' ≤ 4096) where
  abbrev id : Bytes
  id = own_identity random

  abbrev Comes : Type 0
  Comes = Shared (string_of "mId" old) (step m (packet_at t l random bytes room)).0 (step m (packet_at t l random bytes' room)).0

  m_id_same : string_of "mId" new ≡ string_of "mId" old
  m_id_same = rw (a.others "mId" refl)

  -- ---- numbers
  heard_same : (k : Life) → is_ignored k (some new) ≡ is_ignored k (some old)
  unfolding is_ignored
  heard_same k = rw (no_answer new (other n old new a), no_answer old (one n old new a), (other n old new a).no_version, (one n old new a).no_version, a.others "mId" refl)

  abbrev ahead : Bytes → List (Case ℕ)
  ahead s = take 6 (conditions m t (packet l random s room))

  ahead_same : ahead bytes' ≡ ahead bytes
  unfolding conditions
  ahead_same =
      λ i.
      2 when no_such_link m l ∷ 4 when ltb room 4096 ∷ 12 when long i ∷ 5 when bad_time m t ∷ 6 when is_down_at m l ∷ 1 when ignored i ∷ []
    where
      long : ltb 4096 (length bytes') ≡ ltb 4096 (length bytes)
      long = le-ltb 4096 (length bytes') short' ∙ sym (le-ltb 4096 (length bytes) short)

      ignored : is_ignored (life_at m l) (read_packet bytes') ≡ is_ignored (life_at m l) (read_packet bytes)
      ignored = rw (read, read') (heard_same (life_at m l))

  -- what follows the first six: 9 of the old one's reply, and never 10
  abbrev behind : Bool → Option ℕ
  behind replies = pick (both replies (identity_awaited m l random)) (some 9) none

  number_of_lem : (s : Bytes) (j : Json) → read_packet s ≡ some j → (receives l t id m j).issues ≡ []
      → number_of m (packet_at t l random s room) ≡ maybe (behind (is_replied m l j)) (λ (x : ℕ). some x) (first_of (ahead s))
  unfolding conditions
  number_of_lem s j r e =
      first_split (ahead s) (9 when both (maybe false (is_replied m l) (read_packet s)) (identity_awaited m l random) ∷ 10 when sequence_ends m (effect_of m t (packet l random s room)) ∷ [])
      ∙ ap (λ (x : Option ℕ). maybe x (λ (y : ℕ). some y) (first_of (ahead s))) last_two
    where
      unended : sequence_ends m (effect_of m t (packet l random s room)) ≡ false
      unended = rw (lays m t l room random s j r, e) (le-ltb (suc last_sequence) (m.pool.next + 0) (omega (arith, limit)))

      last_two : pick (both (maybe false (is_replied m l) (read_packet s)) (identity_awaited m l random)) (some 9) (pick (sequence_ends m (effect_of m t (packet l random s room))) (some 10) none) ≡ behind (is_replied m l j)
      last_two = rw (unended, r)

  by_reason : {P : Type 0} {o : Option String} (r : Option String) → o ≡ r → (o ≡ none → P) → ((reason : String) → o ≡ some reason → P) → P
  by_reason none e f g = f e
  by_reason (some reason) e f g = g reason e

  old_silent : (receives l t id m old).issues ≡ []
  old_silent =
      by_reason (reason_of m l old) refl (old_issues n old new a m l t id)
      (λ reason e. ap (λ (x : Effect). x.issues) (refused_as old (one n old new a) m l t id reason e))

  new_silent : (receives l t id m new).issues ≡ []
  new_silent =
      by_reason (reason_of m l new) refl (λ e. ap (λ (x : Effect). x.issues) (responds new (at_once_new n old new a) m l t id e))
      (λ reason e. ap (λ (x : Effect). x.issues) (refused_as new (other n old new a) m l t id reason e))

  replied_old : (o : Option String) → reason_of m l old ≡ o → is_replied m l old ≡ not (is_some o)
  replied_old o e = rw (no_answer old (one n old new a), e, wants n old new a m l) (both_true_right (not (is_some o)))
    where
      both_true_right : (b : Bool) → both b true ≡ b
      both_true_right true = refl
      both_true_right false = refl

  unreplied_new : is_replied m l new ≡ false
  unreplied_new = rw (unreplied new (at_once_new n old new a) m l, both_false (not (is_some (reason_of m l new))), both_false (not (is_answer new)))

  old_number : {o : Option ℕ} → first_of (ahead bytes) ≡ o → number_of m (packet_at t l random bytes room) ≡ maybe (behind (is_replied m l old)) (λ (x : ℕ). some x) o
  old_number e = number_of_lem bytes old read old_silent ∙ ap (maybe (behind (is_replied m l old)) (λ (x : ℕ). some x)) e

  new_number : {o : Option ℕ} → first_of (ahead bytes) ≡ o → number_of m (packet_at t l random bytes' room) ≡ o
  new_number e =
      number_of_lem bytes' new read' new_silent
      ∙ ap (λ (b : Bool). maybe (behind b) (λ (x : ℕ). some x) (first_of (ahead bytes'))) unreplied_new
      ∙ nothing_more (first_of (ahead bytes')) ∙ ap first_of ahead_same ∙ e

  module _ (heard : first_of (ahead bytes) ≡ none) where
    old_done : behind (is_replied m l old) ≡ none → (step m (packet_at t l random bytes room)).0 ≡ outcome (receives l t id m old)
    old_done e = gives_done m t l room random bytes old read (old_number heard ∙ e)

    new_done : (step m (packet_at t l random bytes' room)).0 ≡ outcome (receives l t id m new)
    new_done = gives_done m t l room random bytes' new read' (new_number heard)

    -- the old one's reason is the new one's, or "Busy"
    same_reason : {o : Option String} → reason_of m l new ≡ o → reason_of m l old ≡ maybe (pick (busy n old new a m l) (some "Busy") none) (λ (r : String). some r) o
    same_reason e = old_reason n old new a m l ∙ ap (maybe (pick (busy n old new a m l) (some "Busy") none) (λ (r : String). some r)) (sym (new_reason n old new a m l) ∙ e)

    old_refused : (reason : String) → reason_of m l old ≡ some reason → (step m (packet_at t l random bytes room)).0 ≡ done (not_ack (string_of "mId" old) (text reason) ∷ []) [] none []
    old_refused reason e = old_done (ap behind (replied_old (some reason) e)) ∙ ap outcome (refused_as old (one n old new a) m l t id reason e)

    new_refused : (reason : String) → reason_of m l new ≡ some reason → (step m (packet_at t l random bytes' room)).0 ≡ done (not_ack (string_of "mId" old) (text reason) ∷ []) [] none []
    new_refused reason e =
        new_done ∙ ap outcome (refused_as new (other n old new a) m l t id reason e) ∙ ap (λ (x : Bytes). done (not_ack x (text reason) ∷ []) [] none []) m_id_same

    abbrev told : ToldAlike n old new a m l t id
    told = told_alike n old new a m l t id

    new_answered : reason_of m l new ≡ none
        → (step m (packet_at t l random bytes' room)).0 ≡ done (included told.kind (string_of "mId" old) (string_of "cId" old) t told.entries ∷ []) [] none (handed m old)
    new_answered e = new_done ∙ new_gives n old new a m l t id e ∙ ap (λ (w : Message). done (w ∷ []) [] none (handed m old)) told.by_new

    done_or_refused : Comes
    done_or_refused = go (reason_of m l new) refl
      where
        answered : reason_of m l new ≡ none → reason_of m l old ≡ none → (b : Bool) → identity_awaited m l random ≡ b → Comes
        answered e f true g =
            let nine : number_of m (packet_at t l random bytes room) ≡ some 9 = old_number heard ∙ rw (replied_old none f, g) in
            rw (gives_refused m t l room random bytes old read 9 nine, new_answered e) one_awaited
        answered e f false g =
            let free : behind (is_replied m l old) ≡ none = rw (replied_old none f, g) in
            rw (old_done free ∙ old_gives n old new a m l t id f ∙ ap (λ (w : Message). done (ack (string_of "mId" old) ∷ w ∷ []) [] none (handed m old)) told.by_old, new_answered e) both_answered

        free_or_busy : reason_of m l new ≡ none → (b : Bool) → busy n old new a m l ≡ b → Comes
        free_or_busy e true f = rw (old_refused "Busy" (same_reason e ∙ rw f), new_answered e) one_busy
        free_or_busy e false f = answered e (same_reason e ∙ rw f) (identity_awaited m l random) refl

        go : (o : Option String) → reason_of m l new ≡ o → Comes
        go none e = free_or_busy e (busy n old new a m l) refl
        go (some reason) e = rw (old_refused reason (same_reason e), new_refused reason e) both_not_acked

  shared : Comes
  shared = go (first_of (ahead bytes)) refl
    where
      go : (o : Option ℕ) → first_of (ahead bytes) ≡ o → Comes
      go none e = done_or_refused e
      go (some x) e =
          rw (gives_refused m t l room random bytes old read x (old_number e), gives_refused m t l room random bytes' new read' x (new_number e)) both_refused

pub demand_included : DemandIncluded
demand_included =
    record {
      shared = λ s h m r t l room random bytes bytes' name j j' n read read' a short short'.
          shared n j j' a m (run_limit r) t l room random bytes bytes' read read' short short';
      unawaited = unawaited;
      never_busy = never_busy;
      never_nine = never_nine;
    }
