-- An Alarm goes to the primary alone.
-- Assumes nothing.
use Rattle.basis.proofs.Std.{ℕ, suc, ◌+◌, ◌-◌, ◌*◌, String, ◌≡◌, refl, sym, ap, subst, Bool, true, false, not, List, [], ◌∷◌, Option, some, none, eqb, ltb, leb, length, arith, ltb-true, eq-eqb, eqb-true, pick, both, Among, picked, both_first, not_both}
use Rattle.basis.specs.Lists.Among.{first, later}
use Rattle.json_value.specs.Grammar.{Json}
use Rattle.table_whole.specs.Table.{Table}
use Rattle.write_message.specs.Message.{Message}
use Rattle.write_message.specs.Message.Message.{ack, not_ack}
use Rattle.machine.specs.Words.{Bytes, is_number, first_that}
use Rattle.machine.specs.State.{Setup, Content, Alarm, Held, Machine, life_at, Effect}
use Rattle.machine.specs.State.Content.{of_alarm, of_status, of_aggregated}
use Rattle.machine.specs.Json.{string_of, is_type, is_included, asks_for, element_is}
use Rattle.machine.specs.Life.{is_greeting, is_beating, is_up, is_primary, oldest_unsent, pass_length, Due, due_up, due}
use Rattle.machine.specs.Life.Due.{the_version, the_watchdog, the_aggregated, the_alarm, the_held}
use Rattle.machine.specs.Answers.{is_answer, wants_reply, replies_at_once, reason_of, fails_check}
use Rattle.machine.specs.Items.{happens, subscribe, unsubscribe, commands}
use Rattle.machine.specs.Messages.{record_message, included_message}
use Rattle.machine.specs.Effects.{closes, due_message, refuses, carried_out, reply_message, replying, receives}
use Rattle.demand_held.proofs.Lists.{maybe_cases, Each}
use Rattle.demand_held.proofs.Lists.Each.{no_more, one_more}
use Rattle.demand_held.proofs.Good.{fits, Fits}
use Rattle.demand_told.specs.Demand.{is_alarm}
use Rattle.demand_told.proofs.Written.{quiet_answered}
use Rattle.demand_told.proofs.Replies.{nobody, one_type}

pub is_number_lem : (l : ℕ) (o : Option ℕ) → is_number l o ≡ true → o ≡ some l
is_number_lem l none e = not_both e refl
is_number_lem l (some k) e = ap some (sym (eqb-true l k e))

-- ---- the oldest unsent record of a link is one of its own
found : {P : Held → Type 0} (f : Held → Bool) (hs : List Held) (h : Held) → Each P hs → first_that f hs ≡ some h → P h × (f h ≡ true)
found f [] h no_more e = absurd (let z : ◌≡◌ {A = ℕ} 0 1 = cc in omega arith)
found {P} f (x ∷ hs) h (one_more p r) e = go (f x) refl e (found f hs h r)
  where
    go : (b : Bool) → f x ≡ b → pick b (some x) (first_that f hs) ≡ some h → (first_that f hs ≡ some h → P h × (f h ≡ true)) → P h × (f h ≡ true)
    go true g q s = let same : x ≡ h = cc in (rw same at p, rw same at g)
    go false g q s = s q

alarm_record_lem : (u : Setup) (t : Table) (id : Bytes) (l : ℕ) (x : Content) → fits u l x ≡ true → is_alarm (record_message t id x) ≡ true → is_number l u.primary ≡ true
alarm_record_lem u t id l (of_alarm i a) e w = e
alarm_record_lem u t id l (of_status i v old time) e w = not_both w refl
alarm_record_lem u t id l (of_aggregated v time) e w = not_both w refl

-- ---- pump
abbrev ByPrimary : Machine → ℕ → ℕ → Bytes → Option Due → Type 0
ByPrimary m l t id o = (d : Due) → o ≡ some d → is_alarm (due_message m t id d) ≡ true → is_primary m l ≡ true

module _ (m : Machine) (alarms : Each (Fits m.setup) m.pool.held) (l t : ℕ) (id : Bytes) where
  same_due : (x d : Due) → some x ≡ some d → x ≡ d
  same_due x d f = cc

  other : (x : Due) → is_alarm (due_message m t id x) ≡ false → ByPrimary m l t id (some x)
  other x e d f w = not_both w (rw (same_due x d f) at e)

  held_by : (h : Held) → oldest_unsent m l ≡ some h → ByPrimary m l t id (some (the_held h))
  held_by h e d f w =
      let own : Fits m.setup h × (both (eqb h.link l) (not h.sent) ≡ true) = found (λ (h : Held). both (eqb h.link l) (not h.sent)) m.pool.held h alarms e in
      rw (eqb-true h.link l (both_first (eqb h.link l) (not h.sent) own.1))
      at (alarm_record_lem m.setup m.setup.table id h.link h.content own.0 (rw (← same_due (the_held h) d f) at w))

  passes : (k : ℕ) → eqb k 0 ≡ false → ltb k (pass_length m l) ≡ true → is_primary m l ≡ true
  passes k e f = go (is_primary m l) f
    where
      go : (b : Bool) → ltb k (pick b (suc (length m.alarms)) 1) ≡ true → b ≡ true
      go true f = refl
      go false f = not_both (eq-eqb k 0 (omega (arith, ltb-true k 1 f))) e

  nothing : (d : Due) → none ≡ some d → ⊥
  nothing d f = let z : ◌≡◌ {A = ℕ} 0 1 = cc in omega arith

  pub due_primary : ByPrimary m l t id (due m l t)
  unfolding due due_up
  due_primary =
      let k = life_at m l in
      picked (ByPrimary m l t id) (both (is_greeting k) (not k.versions.sent)) (some the_version) _ (λ e. other the_version refl)
      (λ e. picked (ByPrimary m l t id) (both (is_beating k) (not k.watchdogs.sent)) (some the_watchdog) _ (λ e. other the_watchdog refl)
      (λ e. picked (ByPrimary m l t id) (is_up k) _ none
      (λ up. picked (ByPrimary m l t id) (leb (k.beat + 1000 * m.setup.period) t) (some the_watchdog) _ (λ e. other the_watchdog refl)
      (λ e. picked (ByPrimary m l t id) (eqb k.pass 0) (some the_aggregated) _ (λ e. other the_aggregated refl)
      (λ e. picked (ByPrimary m l t id) (ltb k.pass (pass_length m l)) (some (the_alarm (k.pass - 1))) _ (λ f d g w. passes k.pass e f)
      (λ f. maybe_cases (ByPrimary m l t id) none _ (oldest_unsent m l) (λ g d h w. absurd (nothing d h)) held_by))))
      (λ n d f w. absurd (nothing d f))))

-- ---- packet
abbrev ToPrimary : Machine → ℕ → Message → Effect → Type 0
ToPrimary m l w e = Among w e.messages → is_alarm w ≡ true → is_primary m l ≡ true

asks_alarm : (m : Machine) (l : ℕ) (j : Json) → is_type "Alarm" j ≡ true → wants_reply m l j ≡ true → is_primary m l ≡ true
asks_alarm m l j a e =
    go (is_type "Alarm" j) (element_is "aSp" "Request" j) (is_primary m l) (is_type "AggregatedStatusRequest" j) (is_type "StatusRequest" j) (is_type "CommandRequest" j)
    a (one_type "Alarm" "AggregatedStatusRequest" refl j a) (one_type "Alarm" "StatusRequest" refl j a) (one_type "Alarm" "CommandRequest" refl j a) e
  where
    go : (a b p c d f : Bool) → a ≡ true → c ≡ false → d ≡ false → f ≡ false → pick (both a (both b p)) true (pick c true (pick d true f)) ≡ true → p ≡ true
    go a b true c d f x y z w e = refl
    go a b false true d f x y z w e = not_both refl y
    go a b false false true f x y z w e = not_both refl z
    go a b false false false true x y z w e = not_both refl w
    go true true false false false false x y z w e = e
    go true false false false false false x y z w e = e
    go false b false false false false x y z w e = not_both x refl

reply_alarm : (m : Machine) (t : ℕ) (id : Bytes) (j : Json) → is_alarm (reply_message m t id j) ≡ true → is_type "Alarm" j ≡ true
reply_alarm m t id j =
    picked (λ (w : Message). is_alarm w ≡ true → is_type "Alarm" j ≡ true) (is_type "Alarm" j) _ _ (λ e w. e)
    (λ e. picked (λ (w : Message). is_alarm w ≡ true → is_type "Alarm" j ≡ true) (is_type "AggregatedStatusRequest" j) _ _ (λ f w. not_both w refl)
    (λ f. picked (λ (w : Message). is_alarm w ≡ true → is_type "Alarm" j ≡ true) (is_type "CommandRequest" j) _ _ (λ g w. not_both w refl) (λ g w. not_both w refl)))

two : (w : Message) (a : Bytes) (v : Message) → Among w (ack a ∷ v ∷ []) → is_alarm w ≡ true → w ≡ v
two w a v (later (later x7)) u = elim x7 [ ]
two w a v first u = not_both u refl
two w a v (later first) u = refl

alarm_replying : (l t : ℕ) (id : Bytes) (j : Json) (e : Effect) (w : Message) → ToPrimary e.leaves l w (replying l t id j e)
unfolding replying
alarm_replying l t id j e w =
    picked (ToPrimary e.leaves l w) (replies_at_once j) _ _ (λ o a u. absurd (no_alarm_lem _ w responses a u))
    (λ o. picked (ToPrimary e.leaves l w) (wants_reply e.leaves l j) _ _
    (λ h a u. asks_alarm e.leaves l j (reply_alarm e.leaves t id j (rw (two w (string_of "mId" j) (reply_message e.leaves t id j) a u) at u)) h)
    (λ h a u. absurd (only_ack w _ a u)))
  where
    only_ack : (w : Message) (a : Bytes) → Among w (ack a ∷ []) → is_alarm w ≡ true → ⊥
    only_ack w a (later x4) u = elim x4 [ ]
    only_ack w a first u = not_both u refl

    responses : is_alarm (included_message e.leaves t j) ≡ false
    responses = picked (λ (v : Message). is_alarm v ≡ false) (is_included "CommandRequest" j) _ _ (λ c. refl) (λ c. refl)

    no_alarm_lem : (v w : Message) → is_alarm v ≡ false → Among w (v ∷ []) → is_alarm w ≡ true → ⊥
    no_alarm_lem v w f (later x4) u = elim x4 [ ]
    no_alarm_lem v w f first u = not_both u f

alarm_refuses : (l : ℕ) (j : Json) (m : Machine) (reason : String) (w : Message) → ToPrimary m l w (refuses l j m reason)
unfolding refuses closes
alarm_refuses l j m reason w =
    picked (ToPrimary m l w) (fails_check reason) _ _ (λ h a u. absurd (only_not_ack w _ _ a u)) (λ h a u. absurd (only_not_ack w _ _ a u))
  where
    only_not_ack : (w : Message) (a r : Bytes) → Among w (not_ack a r ∷ []) → is_alarm w ≡ true → ⊥
    only_not_ack w a r (later x4) u = elim x4 [ ]
    only_not_ack w a r first u = not_both u refl

-- an order leaves the setup
abbrev SameSetup : Machine → Effect → Type 0
SameSetup m e = e.leaves.setup ≡ m.setup

happens_setup : (m : Machine) (i : ℕ) (o : Option Alarm) → SameSetup m (happens m i o)
unfolding happens
happens_setup m i none = refl
happens_setup m i (some a) = refl

carried_out_setup : (l t : ℕ) (j : Json) (m : Machine) → SameSetup m (carried_out l t j m)
unfolding carried_out subscribe unsubscribe commands
carried_out_setup l t j m =
    picked (SameSetup m) (is_type "Version" j) _ _ (λ e. refl)
    (λ e. picked (SameSetup m) (is_type "Watchdog" j) _ _ (λ e. refl)
    (λ e. picked (SameSetup m) (is_type "Alarm" j) _ _ (λ e. happens_setup m _ _)
    (λ e. picked (SameSetup m) (is_type "StatusSubscribe" j) _ _ (λ e. refl)
    (λ e. picked (SameSetup m) (is_type "StatusUnsubscribe" j) _ _ (λ e. refl)
    (λ e. picked (SameSetup m) (asks_for "CommandRequest" j) _ _ (λ e. refl) (λ e. refl))))))

pub alarm_received : (l t : ℕ) (id : Bytes) (m : Machine) (j : Json) (w : Message) → ToPrimary m l w (receives l t id m j)
unfolding receives
alarm_received l t id m j w =
    picked (ToPrimary m l w) (is_answer j) _ _
    (λ e a u. absurd (nobody (rw (quiet_answered l j m) at a)))
    (λ e. maybe_cases (ToPrimary m l w) _ _ (reason_of m l j)
    (λ f a u. subst (λ (x : Setup). is_number l x.primary ≡ true) (carried_out_setup l t j m) (alarm_replying l t id j (carried_out l t j m) w a u))
    (λ reason f. alarm_refuses l j m reason w))
