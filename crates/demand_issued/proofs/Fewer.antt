-- A call that is not of link l makes no more records of it go before one that is held.
-- Assumes nothing.
use Rattle.basis.proofs.Std.{ℕ, ◌%◌, ◌≤◌, ◌<◌, String, ◌≡◌, refl, sym, ◌∙◌, Bool, true, false, not, List, [], ◌∷◌, map, Option, some, none, eqb, ltb, leb, arith, eqb-true, ne_eqb, lt-leb, pick, both, bit, count, picked, bool_cases, both_false}
use Rattle.json_value.specs.Grammar.{Json}
use Rattle.write_message.specs.Message.{Message}
use Rattle.machine.specs.Words.{Bytes, is_number, any}
use Rattle.machine.specs.State.{Alarm, Awaited, Issued, Held, held_as, Pool, Machine, life_at, value_at, Act, Effect, only}
use Rattle.machine.specs.State.Act.{connect, disconnect, packet, alarm_input, status_value, aggregated_value, tick, pump}
use Rattle.machine.specs.Json.{read_packet, string_of, is_type, asks_for}
use Rattle.machine.specs.Life.{unsent, close, close_all, awaited_by, Due, due}
use Rattle.machine.specs.Answers.{is_answer, wants_reply, replies_at_once, reason_of, fails_check}
use Rattle.machine.specs.Pool.{is_for, holds, is_full, is_own, fullest, lose, lose_of, make_room, issue, issue_all, marked}
use Rattle.machine.specs.Items.{is_new, happens, subscribe, unsubscribe, intervals, becomes, commands, aggregates}
use Rattle.machine.specs.Effects.{connects, closes, late, ticks, own_identity, carried, sent_as, sends, answer_closes, answers, answered, refuses, carried_out, replying, receives, effect_of}
use Rattle.demand_held.proofs.Lists.{maybe_cases, bit_false, count_last, count_left, count_keep, count_map}
use Rattle.demand_told.specs.Demand.{link_of}
use Rattle.demand_told.proofs.Lives.{apart_from}
use Rattle.demand_told.proofs.Tests.{neither}
use Rattle.demand_happens.specs.Records.{is_before}

count_less : {A : Type 0} (f : A → Bool) (g : A → A) → ((x : A) → bit (f (g x)) ≤ bit (f x)) → (xs : List A) → count f (map g xs) ≤ count f xs
count_less f g h [] = omega arith
count_less f g h (x ∷ xs) = omega (arith, h x, count_less f g h xs)

module _ (l n : ℕ) where
  abbrev Before : List Held → ℕ
  Before hs = count (is_before l n) hs

  -- ---- marks
  closed_before : (k : ℕ) → (k ≡ l → ⊥) → (h : Held) → is_before l n (unsent k h) ≡ is_before l n h
  closed_before k other h =
      bool_cases (eqb h.link l)
      (λ e. rw (ne_eqb h.link k (λ f. other (sym f ∙ eqb-true h.link l e))))
      (λ e. rw e)

  marked_before : (i : ℕ) (h : Held) → bit (is_before l n (marked i h)) ≤ bit (is_before l n h)
  marked_before i h = go (eqb h.link l) (eqb h.sequence i) h.sent (leb h.sequence n)
    where
      go : (a b c d : Bool) → bit (both a (both (not (pick b true c)) d)) ≤ bit (both a (both (not c) d))
      go false b c d = omega arith
      go true true c d = omega arith
      go true false c d = omega arith

  -- ---- issuing: what is issued is newer
  module _ (p : Pool) (below : n < p.next) where
    lost_before : (k : ℕ) → Before (lose k p).held ≤ Before p.held
    unfolding lose
    lost_before k = count_left (is_for k) (is_before l n) p.held

    lost_next : (k : ℕ) → (lose k p).next ≡ p.next
    unfolding lose
    lost_next k = refl

    abbrev Room : Pool → Type 0
    Room q = (Before q.held ≤ Before p.held) × (q.next ≡ p.next)

    stolen_before : Room (lose_of (fullest p) p)
    unfolding lose_of
    stolen_before = picked Room (is_own p (fullest p)) _ _ (λ e. (lost_before (fullest p % 4), lost_next (fullest p % 4))) (λ e. (omega arith, refl))

    room_before : (s : ℕ) → Room (make_room s p)
    unfolding make_room
    room_before s =
        picked Room (leb 64 (holds p s)) _ _ (λ e. (lost_before s, lost_next s))
        (λ e. picked Room (not (is_full p)) _ _ (λ e. (omega arith, refl))
        (λ e. picked Room (ltb (holds p s) 16) _ _ (λ e. stolen_before) (λ e. (lost_before s, lost_next s))))

    issue_before : (i : Issued) → (Before (issue i p).held ≤ Before p.held) × (n < (issue i p).next)
    unfolding issue
    issue_before i =
        let room : Room (make_room i.link p) = room_before i.link in
        let new : Held = held_as i.link i.content (make_room i.link p).next false in
        let later : leb (make_room i.link p).next n ≡ false = lt-leb (make_room i.link p).next n (omega (arith, room.1)) in
        let not_before : is_before l n new ≡ false = rw later (both_false (eqb i.link l)) in
        (omega (arith, room.0, count_last (is_before l n) (make_room i.link p).held new, bit_false (is_before l n new) not_before), omega (arith, room.1))

  pub all_before : (is : List Issued) (p : Pool) → n < p.next → Before (issue_all is p).held ≤ Before p.held
  all_before [] p below = omega arith
  all_before (i ∷ is) p below =
      let one : (Before (issue i p).held ≤ Before p.held) × (n < (issue i p).next) = issue_before p below i in
      omega (arith, all_before is (issue i p) one.1, one.0)

  -- ---- what each call lays down
  all_closed : (ks : List ℕ) → any (eqb l) ks ≡ false → (m : Machine) → Before (close_all ks m).pool.held ≡ Before m.pool.held
  unfolding close
  all_closed [] e m = refl
  all_closed (k ∷ ks) e m =
      let apart : (eqb l k ≡ false) × (any (eqb l) ks ≡ false) = neither (eqb l k) (any (eqb l) ks) e in
      all_closed ks apart.1 (close k m) ∙ count_map (is_before l n) (is_before l n) (unsent k) (closed_before k (apart_from k l apart.0)) m.pool.held

  module _ (m : Machine) where
    abbrev Fewer : Effect → Type 0
    Fewer e = Before e.leaves.pool.held ≤ Before m.pool.held

    same : (e : Effect) → e.leaves.pool ≡ m.pool → Fewer e
    same e f = rw f (omega arith)

    fewer_happens : (i : ℕ) (o : Option Alarm) → Fewer (happens m i o)
    unfolding happens
    fewer_happens i none = omega arith
    fewer_happens i (some a) = omega arith

    fewer_ticks : (t : ℕ) → any (eqb l) (late t m) ≡ false → Fewer (ticks t m)
    unfolding ticks intervals
    fewer_ticks t e = omega (arith, all_closed (late t m) e m)

    module _ (k : ℕ) (other : k ≡ l → ⊥) where
      fewer_closes : (messages : List Message) → Fewer (closes k messages m)
      unfolding closes close
      fewer_closes messages = omega (arith, count_map (is_before l n) (is_before l n) (unsent k) (closed_before k other) m.pool.held)

      fewer_answers : (s : Bytes) (is_ack : Bool) (a : Awaited) → Fewer (answers k s is_ack m a)
      unfolding answers
      fewer_answers s is_ack a =
          picked Fewer (answer_closes (life_at m k) is_ack a.message) _ _ (λ e. fewer_closes [])
          (λ e. maybe_cases (λ (x : Machine). Before x.pool.held ≤ Before m.pool.held) m _ (carried a.message) (λ f. omega arith)
          (λ i f. count_keep (λ h. not (both (is_for k h) (eqb h.sequence i))) (is_before l n) m.pool.held))

      fewer_answered : (j : Json) → Fewer (answered k j m)
      unfolding answered
      fewer_answered j = maybe_cases Fewer (only m) _ (awaited_by (life_at m k) (string_of "oMId" j)) (λ e. omega arith) (λ a e. fewer_answers _ _ a)

      fewer_refuses : (j : Json) (reason : String) → Fewer (refuses k j m reason)
      unfolding refuses
      fewer_refuses j reason = picked Fewer (fails_check reason) _ _ (λ e. fewer_closes _) (λ e. omega arith)

      fewer_carried_out : (t : ℕ) (j : Json) → Fewer (carried_out k t j m)
      unfolding carried_out subscribe unsubscribe commands
      fewer_carried_out t j =
          picked Fewer (is_type "Version" j) _ _ (λ e. omega arith)
          (λ e. picked Fewer (is_type "Watchdog" j) _ _ (λ e. omega arith)
          (λ e. picked Fewer (is_type "Alarm" j) _ _ (λ e. fewer_happens _ _)
          (λ e. picked Fewer (is_type "StatusSubscribe" j) _ _ (λ e. omega arith)
          (λ e. picked Fewer (is_type "StatusUnsubscribe" j) _ _ (λ e. omega arith)
          (λ e. picked Fewer (asks_for "CommandRequest" j) _ _ (λ e. omega arith) (λ e. omega arith))))))

      fewer_replying : (t : ℕ) (id : Bytes) (j : Json) (e : Effect) → Fewer e → Fewer (replying k t id j e)
      unfolding replying
      fewer_replying t id j e f = picked Fewer (replies_at_once j) _ _ (λ o. f) (λ o. picked Fewer (wants_reply e.leaves k j) _ _ (λ w. f) (λ w. f))

      fewer_received : (t : ℕ) (id : Bytes) (j : Json) → Fewer (receives k t id m j)
      unfolding receives
      fewer_received t id j =
          picked Fewer (is_answer j) _ _ (λ e. fewer_answered j)
          (λ e. maybe_cases Fewer _ _ (reason_of m k j) (λ f. fewer_replying t id j (carried_out k t j m) (fewer_carried_out t j)) (λ reason f. fewer_refuses j reason))

      fewer_sends : (t : ℕ) (id : Bytes) (d : Due) → Fewer (sends k t id m d)
      unfolding sends
      fewer_sends t id d =
          maybe_cases (λ (x : Machine). Before x.pool.held ≤ Before m.pool.held) m _ (carried (sent_as m k d)) (λ f. omega arith)
          (λ i f. count_less (is_before l n) (marked i) (marked_before i) m.pool.held)

    pub fewer : (t : ℕ) (act : Act) → is_number l (link_of act) ≡ false → (act ≡ tick → any (eqb l) (late t m) ≡ false) → Fewer (effect_of m t act)
    unfolding effect_of connects becomes aggregates
    fewer t (connect k) o on_time = omega arith
    fewer t (disconnect k) o on_time = fewer_closes k (apart_from k l o) []
    fewer t (packet k random bytes room) o on_time =
        maybe_cases Fewer (only m) _ (read_packet bytes) (λ e. omega arith) (λ j e. fewer_received k (apart_from k l o) t (own_identity random) j)
    fewer t (alarm_input i active) o on_time = fewer_happens i _
    fewer t (status_value i v) o on_time = picked Fewer (is_new v (value_at m i)) _ _ (λ e. omega arith) (λ e. omega arith)
    fewer t (aggregated_value v) o on_time = picked Fewer (eqb v m.aggregated) _ _ (λ e. omega arith) (λ e. omega arith)
    fewer t tick o on_time = fewer_ticks t (on_time refl)
    fewer t (pump k random room) o on_time =
        maybe_cases Fewer (only m) _ (due m k t) (λ e. omega arith) (λ d e. fewer_sends k (apart_from k l o) t (own_identity random) d)
