-- A failed check, a MessageNotAck to our Version and one to our Watchdog while Beating close the link; the chosen version is read.
-- Assumes nothing.
use Rattle.basis.proofs.Std.{ℕ, zero, suc, ◌≤◌, ◌<◌, String, ◌≡◌, refl, ◌∙◌, ap, true, false, List, [], ◌∷◌, Option, some, none, take, drop, text, Among, bool_cases, not_both, both_false, same_true}
use Rattle.json_value.specs.Grammar.{Json}
use Rattle.write_message.specs.Message.{Message}
use Rattle.write_message.specs.Message.Message.{ack, not_ack}
use Rattle.machine.specs.Words.{Bytes, or_else, is_some, Case, first_of}
use Rattle.machine.specs.State.{Awaited, Start, Machine, life_at, Act, Effect}
use Rattle.machine.specs.State.Sent.{own_version, own_watchdog}
use Rattle.machine.specs.State.Act.{packet}
use Rattle.machine.specs.State.Outcome.{done}
use Rattle.machine.specs.Json.{string_of, is_type, asks_for}
use Rattle.machine.specs.Table.{last_sequence}
use Rattle.machine.specs.Life.{is_greeting, is_beating, common, names_site, equal_sxl, awaited_by}
use Rattle.machine.specs.Readings.{reading}
use Rattle.machine.specs.Answers.{is_answer, is_ignored, is_unexpected, reasons, reason_of, fails_check}
use Rattle.machine.specs.Effects.{own_identity, closes, refusal, refuses, answer_closes, answers, answered, receives}
use Rattle.machine.specs.Step.{is_replied, step}
use Rattle.machine.specs.Run.{Past, Run}
use Rattle.machine.specs.Run.Run.{next, other_starts, other_calls}
use Rattle.demand_held.proofs.Lists.{Each}
use Rattle.demand_held.proofs.Lists.Each.{no_more, one_more}
use Rattle.demand_held.proofs.Steps.{step_done}
use Rattle.demand_told.specs.Demand.{messages_of}
use Rattle.demand_told.specs.Life.{this_life}
use Rattle.demand_told.specs.Greeted.{Within, Came, IsVersion, IsWatchdog, Wrote, Acknowledged, Answered, Ours, Theirs, NamesSite, IsGoodVersion}
use Rattle.demand_told.specs.Greeted.Came.{came}
use Rattle.demand_told.proofs.Tests.{no_not}
use Rattle.demand_told.proofs.Replies.{one_type, not_included}
use Rattle.demand_told.proofs.Checks.{chosen, has_common, site_named, names_site_lem}
use Rattle.demand_told.proofs.Goes.{checked}
use Rattle.demand_told.proofs.GreetedDemand.{same_setup, run_kept}
use Rattle.demand_happens.specs.Pumped.{at}
use Rattle.demand_happens.specs.Greeting.{Arrives, Answers, WellFormed}
use Rattle.demand_happens.proofs.Packets.{mtype_there, not_over, packet_effect, packet_unrefused, its_own, answer_heard, answer_unreplied}
use Rattle.demand_told.proofs.Limits.{run_limit}
use Rattle.demand_taken.specs.Closing.{Fails, Unacknowledged, Judged, DemandClosing}
use Rattle.demand_taken.specs.Closing.Fails.{no_version, no_site, other_sxl}
use Rattle.demand_taken.proofs.Acked.{acked_heard}
use Rattle.demand_taken.proofs.Said.{nothing_within}
use Rattle.demand_taken.proofs.Greets.{run_greets}
use Rattle.demand_taken.proofs.Chosen.{sent_not_taken, run_chooses}

-- ---- the first case that applies, behind some that do not
first_behind : {A : Type 0} (n : ℕ) (ks : List (Case A)) → Each (λ (k : Case A). k.applies ≡ false) (take n ks) → first_of ks ≡ first_of (drop n ks)
first_behind zero ks e = refl
first_behind (suc n) [] e = refl
first_behind (suc n) (k ∷ ks) (one_more e r) = rw e (first_behind n ks r)

-- ---- a packet call that closes its link
module _ (m : Machine) (l t room : ℕ) (random bytes : Bytes) (j : Json) (arrives : Arrives m t bytes room j) (configured : l < m.setup.links)
    (connected : (life_at m l).connected ≡ true) (limit : m.pool.next ≤ suc last_sequence) where
  abbrev this : Act
  this = packet l random bytes room

  closing : (messages : List Message) → is_ignored (life_at m l) (some j) ≡ false → is_replied m l j ≡ false → receives l t (own_identity random) m j ≡ closes l messages m
      → (step m (at t this)).0 ≡ done messages (l ∷ []) none []
  unfolding closes
  closing messages heard unreplied lays =
      rw (
        step_done m (at t this) (packet_unrefused m l t room random bytes j arrives configured connected limit heard unreplied (ap (λ (e : Effect). e.issues) lays)),
        packet_effect m l t room random bytes j arrives,
        lays,
      )

  -- ---- MessageNotAck to the only one that is awaited
  module _ (typed : is_type "MessageNotAck" j ≡ true) (a : Awaited) (alone : (life_at m l).awaited ≡ a ∷ []) (says : Answers a.identity j)
      (ends : answer_closes (life_at m l) false a.message ≡ true) where
    no_ack : is_type "MessageAck" j ≡ false
    no_ack = one_type "MessageNotAck" "MessageAck" refl j typed

    is_answer_lem : is_answer j ≡ true
    is_answer_lem = rw (no_ack, typed)

    found : awaited_by (life_at m l) (string_of "oMId" j) ≡ some a
    found = rw (alone, its_own m l t (own_identity random) j a alone is_answer_lem says)

    answer_closes_lem : receives l t (own_identity random) m j ≡ closes l [] m
    unfolding receives answered answers
    answer_closes_lem = rw (is_answer_lem, found, no_ack, ends)

    refused : (step m (at t this)).0 ≡ done [] (l ∷ []) none []
    refused =
        closing [] (answer_heard m l t (own_identity random) j a alone is_answer_lem says) (answer_unreplied m l t (own_identity random) j a alone is_answer_lem says) answer_closes_lem

  -- ---- a Version of theirs that fails a check
  module _ (typed : is_type "Version" j ≡ true) where
    no_answer : is_answer j ≡ false
    no_answer = rw (one_type "Version" "MessageAck" refl j typed, one_type "Version" "MessageNotAck" refl j typed)

    module _ (formed : WellFormed j) (reason : String) (applies : reason_of m l j ≡ some reason) (ends : fails_check reason ≡ true) where
      heard : is_ignored (life_at m l) (some j) ≡ false
      unfolding is_ignored
      heard = rw (no_answer, formed.readable, typed) (both_false (is_greeting (life_at m l)))

      unreplied : is_replied m l j ≡ false
      unreplied = rw (no_answer, applies)

      check_closes : receives l t (own_identity random) m j ≡ closes l (refusal j reason ∷ []) m
      unfolding receives refuses
      check_closes = rw (no_answer, applies, ends)

      failed : (step m (at t this)).0 ≡ done (not_ack (string_of "mId" j) (text reason) ∷ []) (l ∷ []) none []
      failed = closing (refusal j reason ∷ []) heard unreplied check_closes

    module _ (formed : WellFormed j) (sent : (life_at m l).versions.sent ≡ true) (untaken : (life_at m l).versions.taken ≡ false) where
      expected : is_unexpected (life_at m l) j ≡ false
      expected = rw (typed, sent, untaken)

      not_beating : is_beating (life_at m l) ≡ false
      not_beating = rw (connected, not_over (life_at m l).versions untaken)

      no_common : ((v : List ℕ) → Ours v → Theirs j v → ⊥) → is_some (common j) ≡ false
      no_common n = go (common j) refl
        where
          go : (o : Option (List ℕ)) → common j ≡ o → is_some o ≡ false
          go none e = refl
          go (some v) e = let c = chosen j v e in absurd (n v c.by_us c.by_them)

      not_named : (NamesSite m.setup.table.site j → ⊥) → names_site m j ≡ false
      not_named n = bool_cases (names_site m j) (λ e. absurd (n (names_site_lem m j e))) (λ e. e)

      not_equal : (string_of "SXL" j ≡ m.setup.table.sxl → ⊥) → equal_sxl m j ≡ false
      not_equal n = bool_cases (equal_sxl m j) (λ e. absurd (n (same_true (string_of "SXL" j) m.setup.table.sxl e))) (λ e. e)

      not_ordered : asks_for "CommandRequest" j ≡ false
      not_ordered = rw (one_type "Version" "CommandRequest" refl j typed, not_included "Version" "CommandRequest" refl j typed)

      -- what stands before the checks does not apply
      before_checks : reason_of m l j ≡ first_of (drop 7 (reasons m l j))
      unfolding reasons
      before_checks =
          first_behind 7 (reasons m l j)
          (one_more (rw (mtype_there j formed.marked)) (one_more (rw formed.marked) (one_more expected (one_more (rw not_beating)
          (one_more (formed.complete _) (one_more (formed.good _) (one_more (rw not_ordered) no_more)))))))

      first_failing : (reason : String) → Fails m j reason → reason_of m l j ≡ some reason
      unfolding reasons
      first_failing reason (no_version n) = before_checks ∙ rw (typed, no_common n)
      first_failing reason (no_site {v} a b n) = before_checks ∙ rw (typed, has_common j v a b, not_named n)
      first_failing reason (other_sxl {v} a b s n) = before_checks ∙ rw (typed, has_common j v a b, site_named m j s, not_equal n)

      is_check : (reason : String) → Fails m j reason → fails_check reason ≡ true
      is_check reason (no_version n) = refl
      is_check reason (no_site a b n) = refl
      is_check reason (other_sxl a b s n) = refl

      fails : (reason : String) → Fails m j reason → (step m (at t this)).0 ≡ done (not_ack (string_of "mId" j) (text reason) ∷ []) (l ∷ []) none []
      fails reason f = failed formed reason (first_failing reason f) (is_check reason f)

-- ---- over every run
module _ {s : Start} {h : List Past} {m : Machine} (r : Run s h m) (l : ℕ) where
  alive : {Is : Past → List Past → Type 0} → Within Is (this_life l h) → (life_at m l).connected ≡ true
  alive w = bool_cases (life_at m l).connected (λ e. e) (λ e. absurd (nothing_within w ((run_greets l r).there e)))

  version_unacked : (Within (Acknowledged l IsVersion) (this_life l h) → ⊥) → (life_at m l).versions.acknowledged ≡ false
  version_unacked n = bool_cases (life_at m l).versions.acknowledged (λ e. absurd (n ((run_kept r m refl l).our_version e))) (λ e. e)

  watchdog_unacked : (Within (Acknowledged l IsWatchdog) (this_life l h) → ⊥) → (life_at m l).watchdogs.acknowledged ≡ false
  watchdog_unacked n = bool_cases (life_at m l).watchdogs.acknowledged (λ e. absurd (n ((run_kept r m refl l).our_watchdog e))) (λ e. e)

  untaken : ((v : List ℕ) → Within (Answered l (IsGoodVersion m v)) (this_life l h) → ⊥) → (life_at m l).versions.taken ≡ false
  untaken n = bool_cases (life_at m l).versions.taken (λ e. absurd (n (life_at m l).version ((run_kept r m refl l).their_version e))) (λ e. e)

  module _ (t room : ℕ) (random bytes : Bytes) (j : Json) (configured : l < m.setup.links) (id : Bytes) (arrives : Arrives m t bytes room j) where
    abbrev Closed : Type 0
    Closed = (step m (at t (packet l random bytes room))).0 ≡ done [] (l ∷ []) none []

    version_refused : Unacknowledged l IsVersion id (this_life l h) → is_type "MessageNotAck" j ≡ true → Answers id j → Closed
    version_refused u typed says =
        let alone = ((run_greets l r).version id u.went).1 (version_unacked u.unacknowledged) in
        refused m l t room random bytes j arrives configured (alive u.went) (run_limit r) typed (record { identity = id; time = alone.time; message = own_version }) alone.is says refl

    watchdog_refused : Unacknowledged l IsWatchdog id (this_life l h) → is_type "MessageNotAck" j ≡ true → Answers id j → Closed
    watchdog_refused u typed says =
        let w = (run_greets l r).watchdog id u.went in
        let unacked = watchdog_unacked u.unacknowledged in
        let alone = w.1.1 unacked in
        refused m l t room random bytes j arrives configured (alive u.went) (run_limit r) typed (record { identity = id; time = alone.time; message = own_watchdog }) alone.is says
        (rw (alive u.went, w.0, unacked))

    check_failed : Within (Wrote l (IsVersion id)) (this_life l h) → ((v : List ℕ) → Within (Answered l (IsGoodVersion m v)) (this_life l h) → ⊥) → WellFormed j → is_type "Version" j ≡ true
        → (reason : String) → Fails m j reason → (step m (at t (packet l random bytes room))).0 ≡ done (not_ack (string_of "mId" j) (text reason) ∷ []) (l ∷ []) none []
    check_failed went none-taken formed typed reason f =
        fails m l t room random bytes j arrives configured (alive went) (run_limit r) typed formed ((run_greets l r).version id went).0 (untaken none-taken) reason f

  chooses : (v : List ℕ) → Within (Answered l (IsGoodVersion m v)) (this_life l h) → (reading m l).version ≡ v
  unfolding reading
  chooses v w = (run_chooses m l r v w).1

judged : {s : Start} {p : Past} {h : List Past} {m : Machine} → Run s (p ∷ h) m → (u : Machine) → u.setup ≡ m.setup
    → (l : ℕ) (j : Json) → Came l j p → is_type "Version" j ≡ true → (id : Bytes) → Among (ack id) (messages_of p.gave) → Judged u l j (this_life l h)
judged (next {h} {m} c r) u same l j (came {random} {bytes} {room} is read gave) typed id a =
    let unrefused = (acked_heard m c.time l room random bytes j read c refl is (ack id) refl a).reason in
    let flags = sent_not_taken m l j unrefused typed in
    let went = (run_greets l r).went (no_not (life_at m l).versions.sent flags.0) in
    record {
      id = went.id;
      went = went.within;
      only_one = λ v w. not_both (run_chooses u l r v w).0 flags.1;
      version = or_else [] (common j);
      good = checked u m (same ∙ same_setup r c) l j unrefused typed;
    }
judged (other_starts r b two) u same l j k typed id a = judged r u same l j k typed id a
judged (other_calls r q n c) u same l j k typed id a = judged r u same l j k typed id a

pub demand_closing : DemandClosing
demand_closing =
    record {
      judged = λ s p h m r. judged r m refl;
      failed = λ s h m r l t room random bytes j configured id went none-taken arrives formed typed reason f.
          check_failed r l t room random bytes j configured id arrives went none-taken formed typed reason f;
      version_refused = λ s h m r l t room random bytes j configured id u arrives typed says. version_refused r l t room random bytes j configured id arrives u typed says;
      watchdog_refused = λ s h m r l t room random bytes j configured id u arrives typed says. watchdog_refused r l t room random bytes j configured id arrives u typed says;
      chooses = λ s h m r l v w. chooses r l v w;
    }
