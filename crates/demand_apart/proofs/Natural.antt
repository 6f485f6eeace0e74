-- No call looks at what is beside its site before it issues, and none changes it.
-- Assumes nothing.
use Rattle.basis.proofs.Std.{ℕ, String, ◌≡◌, refl, sym, ap, ◌∙◌, Bool, true, false, List, [], ◌∷◌, map, Option, some, none, eqb, ℤ, pick}
use Rattle.json_value.specs.Grammar.{Json}
use Rattle.write_message.specs.Message.{Message}
use Rattle.machine.specs.Words.{Bytes, maybe, or_else}
use Rattle.machine.specs.State.{Alarm, Share, Subscription, Sent, Awaited, Machine, with_life, with_subscriptions, with_beside, Act, Effect, handing, effect, only, life_at, alarm_at, value_at}
use Rattle.machine.specs.State.Act.{connect, disconnect, packet, alarm_input, status_value, aggregated_value, tick, pump}
use Rattle.machine.specs.Json.{read_packet, string_of, entries_of, is_type, asks_for}
use Rattle.machine.specs.Life.{close, close_all, Due, carried_by, awaited_by, awaiting, answered_to, due_up, due}
use Rattle.machine.specs.Life.Due.{the_version, the_watchdog, the_aggregated, the_alarm, the_held}
use Rattle.machine.specs.Answers.{is_answer, reasons, reason_of, wants_reply, replies_at_once, fails_check, alarm_asked}
use Rattle.machine.specs.Items.{update, number_asked, subscribe_all, end_all, ordered, with_input, happens, subscribe, unsubscribe, intervals, is_new, becomes, commands, aggregates}
use Rattle.machine.specs.Effects.{connects, closes, late, ticks, own_identity, due_message, sent_as, carried, after_sending, mark_sent, sends, answer_closes, acknowledges, version_accepted, watchdog_taken, alarm_ordered, reply_message, settle, answers, answered, refuses, carried_out, replying, receives, effect_of}
use Rattle.machine.specs.Box.{with_pool}

pub pick_nat : {A B : Type 0} (f : A → B) (b : Bool) {x y : A} {u v : B} → u ≡ f x → v ≡ f y → pick b u v ≡ f (pick b x y)
pick_nat f true p q = p
pick_nat f false p q = q

pub maybe_nat : {A B C : Type 0} (f : B → C) (o : Option A) {x : B} {g : A → B} {u : C} {h : A → C} → u ≡ f x → ((a : A) → h a ≡ f (g a)) → maybe u h o ≡ f (maybe x g o)
maybe_nat f none p q = p
maybe_nat f (some a) p q = q a

-- what a packet does, kind by kind: `carried_out` in small pieces
unfoldable command : Json → Machine → Effect
command j m = pick (asks_for "CommandRequest" j) (commands m j) (only m)

unfoldable ending : ℕ → Json → Machine → Effect
ending l j m = pick (is_type "StatusUnsubscribe" j) (unsubscribe m l j) (command j m)

unfoldable asking : ℕ → ℕ → Json → Machine → Effect
asking l t j m = pick (is_type "StatusSubscribe" j) (subscribe m t l j) (ending l j m)

unfoldable order : ℕ → ℕ → Json → Machine → Effect
order l t j m = pick (is_type "Alarm" j) (alarm_ordered t j m (or_else 0 (alarm_asked m j))) (asking l t j m)

unfoldable beat : ℕ → ℕ → Json → Machine → Effect
beat l t j m = pick (is_type "Watchdog" j) (watchdog_taken l j m) (order l t j m)

unfoldable greet : ℕ → ℕ → Json → Machine → Effect
greet l t j m = pick (is_type "Version" j) (version_accepted l j m) (beat l t j m)

carried_is : (l t : ℕ) (j : Json) (m : Machine) → carried_out l t j m ≡ greet l t j m
unfolding carried_out command ending asking order beat greet
carried_is l t j m = refl

module _ (s : Share) where
  -- the machine with s beside it, and a call's effect on that machine
  abbrev pub w : Machine → Machine
  w m = with_pool (with_beside s m.pool) m

  abbrev pub on : Effect → Effect
  on e = handing e.commands (w e.leaves) e.issues e.messages e.closed e.hint

  close_nat : (l : ℕ) (m : Machine) → close l (w m) ≡ w (close l m)
  unfolding close
  close_nat l m = refl

  close_all_nat : (ls : List ℕ) (m : Machine) → close_all ls (w m) ≡ w (close_all ls m)
  close_all_nat [] m = refl
  close_all_nat (l ∷ ls) m = ap (close_all ls) (close_nat l m) ∙ close_all_nat ls (close l m)

  closes_nat : (l : ℕ) (messages : List Message) (m : Machine) → closes l messages (w m) ≡ on (closes l messages m)
  unfolding closes
  closes_nat l messages m = ap (λ (k : Machine). effect k [] messages (l ∷ []) none) (close_nat l m)

  connects_nat : (l : ℕ) (m : Machine) → connects l (w m) ≡ on (connects l m)
  unfolding connects
  connects_nat l m = refl

  intervals_nat : (t : ℕ) (m : Machine) → intervals t (w m) ≡ on (intervals t m)
  unfolding intervals
  intervals_nat t m = refl

  ticks_nat : (t : ℕ) (m : Machine) → ticks t (w m) ≡ on (ticks t m)
  unfolding ticks
  ticks_nat t m =
      ap (λ (k : Machine). effect (intervals t k).leaves (intervals t k).issues [] (late t m) none) (close_all_nat (late t m) m)
      ∙ ap (λ (e : Effect). effect e.leaves e.issues [] (late t m) none) (intervals_nat t (close_all (late t m) m))

  happens_nat : (m : Machine) (i : ℕ) (o : Option Alarm) → happens (w m) i o ≡ on (happens m i o)
  unfolding happens
  happens_nat m i none = refl
  happens_nat m i (some a) = refl

  becomes_nat : (m : Machine) (i : ℕ) (v : ℤ) (t : ℕ) → becomes (w m) i v t ≡ on (becomes m i v t)
  unfolding becomes
  becomes_nat m i v t = pick_nat on (is_new v (value_at m i)) refl refl

  aggregates_nat : (m : Machine) (v t : ℕ) → aggregates (w m) v t ≡ on (aggregates m v t)
  unfolding aggregates
  aggregates_nat m v t = pick_nat on (eqb v m.aggregated) refl refl

  subscribe_all_nat : (m : Machine) (t l : ℕ) (j : Json) (es : List Json) (subs : List Subscription) → subscribe_all (w m) t l j es subs ≡ subscribe_all m t l j es subs
  subscribe_all_nat m t l j [] subs = refl
  subscribe_all_nat m t l j (e ∷ es) subs = subscribe_all_nat m t l j es _

  end_all_nat : (m : Machine) (l : ℕ) (j : Json) (es : List Json) (subs : List Subscription) → end_all (w m) l j es subs ≡ end_all m l j es subs
  end_all_nat m l j [] subs = refl
  end_all_nat m l j (e ∷ es) subs = end_all_nat m l j es _

  subscribe_nat : (m : Machine) (t l : ℕ) (j : Json) → subscribe (w m) t l j ≡ on (subscribe m t l j)
  unfolding subscribe
  subscribe_nat m t l j = ap (λ (subs : List Subscription). effect (with_subscriptions subs (w m)) (map (λ (e : Json). update m t l (number_asked m j e)) (entries_of "sS" j)) [] [] none) (subscribe_all_nat m t l j (entries_of "sS" j) m.subscriptions)

  unsubscribe_nat : (m : Machine) (l : ℕ) (j : Json) → unsubscribe (w m) l j ≡ on (unsubscribe m l j)
  unfolding unsubscribe
  unsubscribe_nat m l j = ap (λ (subs : List Subscription). only (with_subscriptions subs (w m))) (end_all_nat m l j (entries_of "sS" j) m.subscriptions)

  commands_nat : (m : Machine) (j : Json) → commands (w m) j ≡ on (commands m j)
  unfolding commands
  commands_nat m j = refl

  -- ---- pump
  sent_nat : (m : Machine) (l : ℕ) (d : Due) → sent_as (w m) l d ≡ sent_as m l d
  unfolding carried_by
  sent_nat m l the_version = refl
  sent_nat m l the_watchdog = refl
  sent_nat m l the_aggregated = refl
  sent_nat m l (the_alarm i) = refl
  sent_nat m l (the_held h) = refl

  mark_nat : (message : Sent) (m : Machine) → mark_sent message (w m) ≡ w (mark_sent message m)
  mark_nat message m = maybe_nat w (carried message) refl (λ n. refl)

  message_nat : (m : Machine) (t : ℕ) (id : Bytes) (d : Due) → due_message (w m) t id d ≡ due_message m t id d
  message_nat m t id the_version = refl
  message_nat m t id the_watchdog = refl
  message_nat m t id the_aggregated = refl
  message_nat m t id (the_alarm i) = refl
  message_nat m t id (the_held h) = refl

  sends_nat : (l t : ℕ) (id : Bytes) (m : Machine) (d : Due) → sends l t id (w m) d ≡ on (sends l t id m d)
  unfolding sends
  sends_nat l t id m d =
      ap (λ (x : Sent). effect (with_life l (awaiting id t x (after_sending t d (life_at m l))) (mark_sent x (w m))) [] (due_message (w m) t id d ∷ []) [] none) (sent_nat m l d)
      ∙ ap (λ (k : Machine). effect (with_life l (awaiting id t (sent_as m l d) (after_sending t d (life_at m l))) k) [] (due_message (w m) t id d ∷ []) [] none) (mark_nat (sent_as m l d) m)
      ∙ ap (λ (x : Message). effect (with_life l (awaiting id t (sent_as m l d) (after_sending t d (life_at m l))) (w (mark_sent (sent_as m l d) m))) [] (x ∷ []) [] none) (message_nat m t id d)

  -- ---- packet: an answer
  settle_nat : (l : ℕ) (message : Sent) (m : Machine) → settle l message (w m) ≡ w (settle l message m)
  settle_nat l message m = maybe_nat w (carried message) refl (λ n. refl)

  answers_nat : (l : ℕ) (text : Bytes) (is_ack : Bool) (m : Machine) (a : Awaited) → answers l text is_ack (w m) a ≡ on (answers l text is_ack m a)
  unfolding answers
  answers_nat l text is_ack m a =
      pick_nat on (answer_closes (life_at m l) is_ack a.message) (closes_nat l [] m)
      (ap (λ (k : Machine). only (with_life l (answered_to text (acknowledges is_ack a.message (life_at m l))) k)) (settle_nat l a.message m))

  answered_nat : (l : ℕ) (j : Json) (m : Machine) → answered l j (w m) ≡ on (answered l j m)
  unfolding answered
  answered_nat l j m = maybe_nat on (awaited_by (life_at m l) (string_of "oMId" j)) refl (λ a. answers_nat l (string_of "oMId" j) (is_type "MessageAck" j) m a)

  -- ---- packet: any other
  refuses_nat : (l : ℕ) (j : Json) (m : Machine) (reason : String) → refuses l j (w m) reason ≡ on (refuses l j m reason)
  unfolding refuses
  refuses_nat l j m reason = pick_nat on (fails_check reason) (closes_nat l _ m) refl

  version_nat : (l : ℕ) (j : Json) (m : Machine) → version_accepted l j (w m) ≡ on (version_accepted l j m)
  version_nat l j m = refl

  watchdog_nat : (l : ℕ) (j : Json) (m : Machine) → watchdog_taken l j (w m) ≡ on (watchdog_taken l j m)
  watchdog_nat l j m = refl

  ordered_nat : (t : ℕ) (j : Json) (m : Machine) → alarm_ordered t j (w m) (or_else 0 (alarm_asked (w m) j)) ≡ on (alarm_ordered t j m (or_else 0 (alarm_asked m j)))
  ordered_nat t j m = happens_nat m (or_else 0 (alarm_asked m j)) (ordered t j (alarm_at m (or_else 0 (alarm_asked m j))))

  command_nat : (j : Json) (m : Machine) → command j (w m) ≡ on (command j m)
  unfolding command
  command_nat j m = pick_nat on (asks_for "CommandRequest" j) (commands_nat m j) refl

  ending_nat : (l : ℕ) (j : Json) (m : Machine) → ending l j (w m) ≡ on (ending l j m)
  unfolding ending
  ending_nat l j m = pick_nat on (is_type "StatusUnsubscribe" j) (unsubscribe_nat m l j) (command_nat j m)

  asking_nat : (l t : ℕ) (j : Json) (m : Machine) → asking l t j (w m) ≡ on (asking l t j m)
  unfolding asking
  asking_nat l t j m = pick_nat on (is_type "StatusSubscribe" j) (subscribe_nat m t l j) (ending_nat l j m)

  order_nat : (l t : ℕ) (j : Json) (m : Machine) → order l t j (w m) ≡ on (order l t j m)
  unfolding order
  order_nat l t j m = pick_nat on (is_type "Alarm" j) (ordered_nat t j m) (asking_nat l t j m)

  beat_nat : (l t : ℕ) (j : Json) (m : Machine) → beat l t j (w m) ≡ on (beat l t j m)
  unfolding beat
  beat_nat l t j m = pick_nat on (is_type "Watchdog" j) (watchdog_nat l j m) (order_nat l t j m)

  greet_nat : (l t : ℕ) (j : Json) (m : Machine) → greet l t j (w m) ≡ on (greet l t j m)
  unfolding greet
  greet_nat l t j m = pick_nat on (is_type "Version" j) (version_nat l j m) (beat_nat l t j m)

  carried_out_nat : (l t : ℕ) (j : Json) (m : Machine) → carried_out l t j (w m) ≡ on (carried_out l t j m)
  carried_out_nat l t j m = carried_is l t j (w m) ∙ greet_nat l t j m ∙ sym (ap on (carried_is l t j m))

  replying_nat : (l t : ℕ) (id : Bytes) (j : Json) (e : Effect) → replying l t id j (on e) ≡ on (replying l t id j e)
  unfolding replying
  replying_nat l t id j e = pick_nat on (replies_at_once j) refl (pick_nat on (wants_reply e.leaves l j) refl refl)

  reason_nat : (m : Machine) (l : ℕ) (j : Json) → reason_of (w m) l j ≡ reason_of m l j
  unfolding reasons
  reason_nat m l j = refl

  receives_nat : (l t : ℕ) (id : Bytes) (m : Machine) (j : Json) → receives l t id (w m) j ≡ on (receives l t id m j)
  unfolding receives
  receives_nat l t id m j =
      pick_nat on (is_answer j) (answered_nat l j m)
      (ap (maybe (replying l t id j (carried_out l t j (w m))) (refuses l j (w m))) (reason_nat m l j)
      ∙ maybe_nat on (reason_of m l j) (ap (replying l t id j) (carried_out_nat l t j m) ∙ replying_nat l t id j (carried_out l t j m)) (λ reason. refuses_nat l j m reason))

  -- ---- every call
  due_nat : (m : Machine) (l t : ℕ) → due (w m) l t ≡ due m l t
  unfolding due due_up
  due_nat m l t = refl

  pub effect_nat : (m : Machine) (t : ℕ) (act : Act) → effect_of (w m) t act ≡ on (effect_of m t act)
  unfolding effect_of
  effect_nat m t (connect l) = connects_nat l m
  effect_nat m t (disconnect l) = closes_nat l [] m
  effect_nat m t (packet l random bytes room) = maybe_nat on (read_packet bytes) refl (λ j. receives_nat l t (own_identity random) m j)
  effect_nat m t (alarm_input i active) = happens_nat m i (with_input active t (alarm_at m i))
  effect_nat m t (status_value i v) = becomes_nat m i v t
  effect_nat m t (aggregated_value v) = aggregates_nat m v t
  effect_nat m t tick = ticks_nat t m
  effect_nat m t (pump l random room) =
      ap (maybe (only (w m)) (sends l t (own_identity random) (w m))) (due_nat m l t)
      ∙ maybe_nat on (due m l t) refl (λ d. sends_nat l t (own_identity random) m d)
