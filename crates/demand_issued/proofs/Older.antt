-- Where the versions of a link are agreed, the machine has the edition before for it exactly where its history tells that.
-- Assumes nothing.
use Rattle.basis.proofs.Std.{ℕ, String, ◌≡◌, refl, sym, ◌∙◌, ap, Bool, true, false, List, [], ◌∷◌, Option, some, none, ◌⊎◌, inl, inr, eqb, get_or, arith, eq-eqb, ne_eqb, pick, both, both_false, same_bytes, not_both, not, bool_cases, eq_or_ne, picked}
use Rattle.json_value.specs.Grammar.{Json}
use Rattle.write_message.specs.Message.{Message}
use Rattle.write_message.specs.Message.Message.{ack}
use Rattle.machine.specs.Words.{Bytes, is_number, maybe, or_else, any, changed}
use Rattle.machine.specs.State.{Alarm, Sent, Awaited, Life, fresh, Start, Machine, with_life, life_at, Act, Effect, handing, only}
use Rattle.machine.specs.State.Sent.{own_version, own_watchdog, no_record, the_record}
use Rattle.machine.specs.State.Act.{connect, disconnect, packet, alarm_input, status_value, aggregated_value, tick, pump}
use Rattle.machine.specs.Json.{read_packet, string_of, is_type, is_included, asks_for}
use Rattle.machine.specs.Table.Begins.{begins}
use Rattle.machine.specs.Life.{offers, common, is_older, awaited_by, awaiting, Due, due}
use Rattle.machine.specs.Life.Due.{the_version, the_watchdog, the_aggregated, the_alarm, the_held}
use Rattle.machine.specs.Answers.{is_answer, wants_reply, replies_at_once, reason_of, fails_check}
use Rattle.machine.specs.Items.{happens, subscribe, unsubscribe, intervals, commands}
use Rattle.machine.specs.Messages.{included_message}
use Rattle.machine.specs.Effects.{connects, closes, late, ticks, own_identity, sent_as, after_sending, mark_sent, sends, answer_closes, acknowledges, settle, answers, answered, refuses, agreed, carried_out, reply_message, replying, receives, effect_of}
use Rattle.machine.specs.Step.{outcome}
use Rattle.machine.specs.Run.{Past, Run}
use Rattle.machine.specs.Run.Run.{begun, begun_beside, next, other_starts, other_calls}
use Rattle.demand_held.proofs.Lists.{maybe_cases}
use Rattle.demand_held.proofs.Steps.{step_done, step_refused}
use Rattle.demand_told.specs.Demand.{link_of}
use Rattle.demand_told.proofs.Lives.{set_there, closed_there, all_there, all_same}
use Rattle.demand_told.proofs.Apart.{Apart, apart, apart_tick}
use Rattle.demand_told.proofs.GreetedDemand.{by_number}
use Rattle.demand_issued.specs.History.{is_ack, did, lists_older, was_older}

-- ---- answers and refusals issue nothing and acknowledge nothing
module _ (m : Machine) (l : ℕ) (j : Json) where
  answers_silent : (a : Awaited) → ((answers l (string_of "oMId" j) (is_type "MessageAck" j) m a).issues ≡ []) × ((answers l (string_of "oMId" j) (is_type "MessageAck" j) m a).messages ≡ [])
  unfolding answers closes
  answers_silent a =
      picked (λ (e : Effect). (e.issues ≡ []) × (e.messages ≡ [])) (answer_closes (life_at m l) (is_type "MessageAck" j) a.message) _ _ (λ e. (refl, refl)) (λ e. (refl, refl))

  pub answered_silent : ((answered l j m).issues ≡ []) × ((answered l j m).messages ≡ [])
  unfolding answered
  answered_silent =
      maybe_cases (λ (e : Effect). (e.issues ≡ []) × (e.messages ≡ [])) (only m) _ (awaited_by (life_at m l) (string_of "oMId" j)) (λ e. (refl, refl)) (λ a e. answers_silent a)

  pub refuses_silent : (reason : String) → ((refuses l j m reason).issues ≡ []) × (any is_ack (refuses l j m reason).messages ≡ false)
  unfolding refuses closes
  refuses_silent reason = picked (λ (e : Effect). (e.issues ≡ []) × (any is_ack e.messages ≡ false)) (fails_check reason) _ _ (λ e. (refl, refl)) (λ e. (refl, refl))

-- ---- the answer to a packet that no reason refuses: a response alone, with a reply and without
module _ (l t : ℕ) (id : Bytes) (j : Json) where
  abbrev pub responded : Effect → Effect
  responded e = handing e.commands e.leaves e.issues (included_message e.leaves t j ∷ []) e.closed e.hint

  pub response_acks : (m : Machine) → is_ack (included_message m t j) ≡ true
  response_acks m = picked (λ (w : Message). is_ack w ≡ true) (is_included "CommandRequest" j) _ _ (λ e. refl) (λ e. refl)

  abbrev pub replied : Effect → Effect
  replied e =
      handing e.commands (with_life l (awaiting id t no_record (life_at e.leaves l)) e.leaves) e.issues
      (ack (string_of "mId" j) ∷ reply_message e.leaves t id j ∷ []) e.closed e.hint

  abbrev pub acked : Effect → Effect
  acked e = handing e.commands e.leaves e.issues (ack (string_of "mId" j) ∷ []) e.closed e.hint

-- ---- the choice of their Version
older_chosen : (j : Json) → same_bytes (or_else [] (common j)) (3 ∷ 1 ∷ 4 ∷ []) ≡ lists_older j
older_chosen j = go (offers j (3 ∷ 2 ∷ 0 ∷ [])) (offers j (3 ∷ 1 ∷ 5 ∷ [])) (offers j (3 ∷ 1 ∷ 4 ∷ []))
  where
    go : (a b c : Bool)
        → same_bytes (or_else [] (pick a (some (3 ∷ 2 ∷ 0 ∷ [])) (pick b (some (3 ∷ 1 ∷ 5 ∷ [])) (pick c (some (3 ∷ 1 ∷ 4 ∷ [])) none)))) (3 ∷ 1 ∷ 4 ∷ []) ≡ both c (not (pick b true a))
    go true true true = refl
    go true true false = refl
    go true false true = refl
    go true false false = refl
    go false true true = refl
    go false true false = refl
    go false false true = refl
    go false false false = refl

module _ (l : ℕ) where
  abbrev pub Told : List Past → Life → Type 0
  Told h k = k.versions.taken ≡ true → is_older k ≡ was_older l h

  untaken : (h : List Past) (connected : Bool) → Told h (fresh connected)
  untaken h connected e = not_both e refl

  module _ (h : List Past) (m : Machine) (told : Told h (life_at m l)) (t : ℕ) where
    abbrev On : Past → Effect → Type 0
    On p e = Told (p ∷ h) (life_at e.leaves l)

    abbrev Like : Life → Type 0
    Like k = (k.versions.taken ≡ (life_at m l).versions.taken) × (k.version ≡ (life_at m l).version)

    sent_like : (d : Due) → Like (after_sending t d (life_at m l))
    sent_like the_version = (refl, refl)
    sent_like the_watchdog = (refl, refl)
    sent_like the_aggregated = (refl, refl)
    sent_like (the_alarm i) = (refl, refl)
    sent_like (the_held x) = (refl, refl)

    acked_like : (acks : Bool) (message : Sent) → Like (acknowledges acks message (life_at m l))
    acked_like true own_version = (refl, refl)
    acked_like false own_version = (refl, refl)
    acked_like true own_watchdog = (refl, refl)
    acked_like false own_watchdog = (refl, refl)
    acked_like acks no_record = (refl, refl)
    acked_like acks (the_record n) = (refl, refl)

    -- a call that took no Version on this link
    module _ (p : Past) (same : was_older l (p ∷ h) ≡ was_older l h) where
      as_before : (k : Life) → Like k → Told (p ∷ h) k
      as_before k like e = rw (same, like.1) (told (sym like.0 ∙ e))

      sets : (k : Life) (xs : List Life) → Like k → Told (p ∷ h) (get_or (changed l (λ y. k) xs) l (fresh false))
      sets k xs like = set_there (fresh false) (Told (p ∷ h)) l k xs (as_before k like) (untaken (p ∷ h) false)

      on_apart : (e : Effect) → Apart m l e → On p e
      on_apart e a = rw a.life (as_before (life_at m l) (refl, refl))

      on_closes : (messages : List Message) → On p (closes l messages m)
      unfolding closes
      on_closes messages = closed_there (Told (p ∷ h)) l m (untaken (p ∷ h) false)

      on_answers : (s : Bytes) (acks : Bool) (a : Awaited) → On p (answers l s acks m a)
      unfolding answers
      on_answers s acks a =
          picked (On p) (answer_closes (life_at m l) acks a.message) _ _ (λ e. on_closes []) (λ e. sets _ (settle l a.message m).lives (acked_like acks a.message))

      on_answered : (j : Json) → On p (answered l j m)
      unfolding answered
      on_answered j =
          maybe_cases (On p) (only m) _ (awaited_by (life_at m l) (string_of "oMId" j)) (λ e. as_before (life_at m l) (refl, refl)) (λ a e. on_answers _ _ a)

      on_refuses : (j : Json) (reason : String) → On p (refuses l j m reason)
      unfolding refuses
      on_refuses j reason = picked (On p) (fails_check reason) _ _ (λ e. on_closes _) (λ e. as_before (life_at m l) (refl, refl))

      on_sends : (id : Bytes) (d : Due) → On p (sends l t id m d)
      unfolding sends
      on_sends id d = sets _ (mark_sent (sent_as m l d) m).lives (sent_like d)

      on_happens : (i : ℕ) (o : Option Alarm) → On p (happens m i o)
      unfolding happens
      on_happens i none = as_before (life_at m l) (refl, refl)
      on_happens i (some a) = as_before (life_at m l) (refl, refl)

      on_ticks : On p (ticks t m)
      unfolding ticks intervals
      on_ticks =
          bool_cases (any (eqb l) (late t m))
          (λ e. all_there (Told (p ∷ h)) l (late t m) m e (untaken (p ∷ h) false))
          (λ e. on_apart (ticks t m) (apart_tick m l t e))

    -- a packet on it that was acknowledged
    module _ (p : Past) (j : Json) (took_it : (did p).took ≡ some (l, j)) where
      no_version : is_type "Version" j ≡ false → was_older l (p ∷ h) ≡ was_older l h
      no_version v = rw (took_it, v)

      on_carried_out : On p (carried_out l t j m)
      unfolding carried_out subscribe unsubscribe commands
      on_carried_out =
          picked (On p) (is_type "Version" j) _ _
          (λ e. set_there (fresh false) (Told (p ∷ h)) l (agreed (or_else [] (common j)) (life_at m l)) m.lives (λ f. rw (took_it, e, eq-eqb l l refl) (older_chosen j)) (untaken (p ∷ h) false))
          (λ v. picked (On p) (is_type "Watchdog" j) _ _ (λ e. sets p (no_version v) _ m.lives (refl, refl))
          (λ w. picked (On p) (is_type "Alarm" j) _ _ (λ e. on_happens p (no_version v) _ _)
          (λ a. picked (On p) (is_type "StatusSubscribe" j) _ _ (λ e. plain v)
          (λ s. picked (On p) (is_type "StatusUnsubscribe" j) _ _ (λ e. plain v)
          (λ u. picked (On p) (asks_for "CommandRequest" j) _ _ (λ e. plain v) (λ e. plain v))))))
        where
          plain : is_type "Version" j ≡ false → Told (p ∷ h) (life_at m l)
          plain v = as_before p (no_version v) (life_at m l) (refl, refl)

    abbrev past_of : Act → Effect → Past
    past_of act e = record { call = record { time = t; act = act }; gave = outcome e }

    abbrev pub Goes : Act → Effect → Type 0
    Goes act e = On (past_of act e) e

    -- ---- a packet on it
    module _ (random bytes : Bytes) (room : ℕ) where
      abbrev this : Act
      this = packet l random bytes room

      unacked : (e : Effect) → any is_ack e.messages ≡ false → was_older l (past_of this e ∷ h) ≡ was_older l h
      unacked e f = rw f

      module _ (id : Bytes) (j : Json) (r : read_packet bytes ≡ some j) where
        goes_replying : (e : Effect) → ((p : Past) → (did p).took ≡ some (l, j) → On p e) → Goes this (replying l t id j e)
        unfolding replying
        goes_replying e each =
            picked (Goes this) (replies_at_once j) (responded l t id j e) _ (λ o. each (past_of this (responded l t id j e)) (rw (response_acks l t id j e.leaves, r)))
            (λ o. picked (Goes this) (wants_reply e.leaves l j) (replied l t id j e) (acked l t id j e)
            (λ w.
            let p = past_of this (replied l t id j e) in
            set_there (fresh false) (Told (p ∷ h)) l (awaiting id t no_record (life_at e.leaves l)) e.leaves.lives (each p (rw r)) (untaken (p ∷ h) false))
            (λ w. each (past_of this (acked l t id j e)) (rw r)))

        goes_received : Goes this (receives l t id m j)
        unfolding receives
        goes_received =
            picked (Goes this) (is_answer j) _ _
            (λ e. on_answered (past_of this (answered l j m)) (unacked (answered l j m) (ap (any is_ack) (answered_silent m l j).1)) j)
            (λ e. maybe_cases (Goes this) _ _ (reason_of m l j)
            (λ f. goes_replying (carried_out l t j m) (λ p d. on_carried_out p j d))
            (λ reason f. on_refuses (past_of this (refuses l j m reason)) (unacked (refuses l j m reason) (refuses_silent m l j reason).1) j reason))

    -- ---- every call
    abbrev After : Act → Type 0
    After act = Goes act (effect_of m t act)

    abbrev after : Act → Past
    after act = past_of act (effect_of m t act)

    elsewhere : (act : Act) → is_number l (link_of act) ≡ false → (act ≡ tick → ⊥) → was_older l (after act ∷ h) ≡ was_older l h → After act
    elsewhere act other no_tick same = on_apart (after act) same (effect_of m t act) (apart m t act l other (λ e. absurd (no_tick e)))

    by_link : (P : ℕ → Type 0) (k : ℕ) → P l → (eqb l k ≡ false → eqb k l ≡ false → P k) → P k
    by_link P k own other = go (eq_or_ne k l)
      where
        go : (k ≡ l) ⊎ (k ≡ l → ⊥) → P k
        go (inl e) = rw e own
        go (inr n) = other (ne_eqb l k (λ e. n (sym e))) (ne_eqb k l n)

    -- acknowledged on another link or not at all
    other_packet : (k : ℕ) (random bytes : Bytes) (room : ℕ) (e : Effect) → eqb k l ≡ false → was_older l (past_of (packet k random bytes room) e ∷ h) ≡ was_older l h
    other_packet k random bytes room e n = go (any is_ack e.messages) (read_packet bytes)
      where
        go : (acks : Bool) (o : Option Json)
            → maybe (was_older l h) (λ (x : ℕ × Json). pick (both (is_type "Version" x.1) (eqb x.0 l)) (lists_older x.1) (was_older l h)) (pick acks (maybe none (λ (j : Json). some (k, j)) o) none) ≡ was_older l h
        go true none = refl
        go true (some j) = rw (n, both_false (is_type "Version" j))
        go false o = refl

    connects_it : After (connect l)
    unfolding effect_of connects
    connects_it = set_there (fresh false) (Told (after (connect l) ∷ h)) l (fresh true) m.lives (untaken (after (connect l) ∷ h) true) (untaken (after (connect l) ∷ h) false)

    receives_it : (random bytes : Bytes) (room : ℕ) → After (packet l random bytes room)
    unfolding effect_of
    receives_it random bytes room =
        maybe_cases (Goes (packet l random bytes room)) (only m) _ (read_packet bytes)
        (λ e. as_before (past_of (packet l random bytes room) (only m)) refl (life_at m l) (refl, refl))
        (λ j e. goes_received random bytes room (own_identity random) j e)

    pumps_it : (random : Bytes) (room : ℕ) → After (pump l random room)
    unfolding effect_of
    pumps_it random room =
        maybe_cases (Goes (pump l random room)) (only m) _ (due m l t)
        (λ e. as_before (past_of (pump l random room) (only m)) refl (life_at m l) (refl, refl))
        (λ d e. on_sends (past_of (pump l random room) (sends l t (own_identity random) m d)) refl (own_identity random) d)

    pub goes : (act : Act) → After act
    unfolding effect_of
    goes (connect k) = by_link (λ k. After (connect k)) k connects_it (λ n o. elsewhere (connect k) n (λ e. let z : ◌≡◌ {A = ℕ} 0 1 = cc in omega arith) refl)
    goes (disconnect k) =
        by_link (λ k. After (disconnect k)) k (on_closes (after (disconnect l)) refl []) (λ n o. elsewhere (disconnect k) n (λ e. let z : ◌≡◌ {A = ℕ} 0 1 = cc in omega arith) refl)
    goes (packet k random bytes room) =
        by_link (λ k. After (packet k random bytes room)) k (receives_it random bytes room)
        (λ n o. elsewhere (packet k random bytes room) n (λ e. let z : ◌≡◌ {A = ℕ} 0 1 = cc in omega arith)
        (other_packet k random bytes room (effect_of m t (packet k random bytes room)) o))
    goes (alarm_input i active) = elsewhere (alarm_input i active) refl (λ e. let z : ◌≡◌ {A = ℕ} 0 1 = cc in omega arith) refl
    goes (status_value i v) = elsewhere (status_value i v) refl (λ e. let z : ◌≡◌ {A = ℕ} 0 1 = cc in omega arith) refl
    goes (aggregated_value v) = elsewhere (aggregated_value v) refl (λ e. let z : ◌≡◌ {A = ℕ} 0 1 = cc in omega arith) refl
    goes tick = on_ticks (after tick) refl
    goes (pump k random room) =
        by_link (λ k. After (pump k random room)) k (pumps_it random room) (λ n o. elsewhere (pump k random room) n (λ e. let z : ◌≡◌ {A = ℕ} 0 1 = cc in omega arith) refl)

pub run_told : {s : Start} {h : List Past} {m : Machine} → Run s h m → (l : ℕ) → Told l h (life_at m l)
run_told {s} (begun (begins {t} x e g)) l = all_same (fresh false) (Told l []) s.links l (untaken l [] false)
run_told {s} (begun_beside (begins {t} x e g) o two) l = all_same (fresh false) (Told l []) s.links l (untaken l [] false)
run_told (other_starts r b two) l = run_told r l
run_told (other_calls r q n c) l = run_told r l
run_told (next {h} {m} c r) l =
    by_number m c
    (λ e. rw (step_done m c e) (goes l h m (run_told r l) c.time c.act))
    (λ n e. rw (step_refused m c n e) (run_told r l))
