-- What the machine keeps of alarms, statuses, the aggregated value and subscriptions is what its history tells.
-- Assumes nothing.
use Rattle.basis.proofs.Std.{ℕ, zero, suc, ◌<◌, String, ◌≡◌, refl, sym, ◌∙◌, ap, subst, Bool, true, false, not, List, [], ◌∷◌, map, Option, some, none, ◌⊎◌, inl, inr, eqb, ℤ, length, get_or, arith, eqb-true, eq-eqb, ne_eqb, pick, both, not_both, both_true, both_false, both_no, same_true, same_bytes, text, eq_or_ne}
use Rattle.json_value.specs.Grammar.{Json}
use Rattle.table_whole.specs.Table.{Table}
use Rattle.machine.specs.Words.{Bytes, reads, is_some, maybe, or_else, is_number, alike, keep, any, changed}
use Rattle.machine.specs.State.{Event, Alarm, alarm_of, Subscription, Setup, Machine, value_at, with_status, with_aggregated, with_subscriptions, life_at}
use Rattle.machine.specs.State.Event.{Issue, Acknowledge, Suspend}
use Rattle.machine.specs.Json.{string_at, entries_of, element_is, is_type}
use Rattle.machine.specs.Life.{is_older}
use Rattle.machine.specs.Answers.{interval, status_asked}
use Rattle.machine.specs.Items.{happens, with_input, acknowledged_at, suspended_at, resumed_at, ordered, is_of, number_asked, without, subscribing, subscribe_all, end_all, anew}
use Rattle.machine.specs.Run.{Past}
use Rattle.demand_held.proofs.Lists.{Each, length_changed}
use Rattle.demand_held.proofs.Lists.Each.{no_more, one_more}
use Rattle.demand_told.proofs.Lives.{set_other}
use Rattle.demand_issued.specs.History.{doing, did, alarm_named, status_named, input_to, is_order, was_active, was_suspended, was_acknowledged, last_event, event_time, alarm_after, last_aggregated, change_time, last_value, was_older, Standing, standing_from, ticked, subscribed_by, standing}
use Rattle.demand_issued.proofs.Lists.{eqb_swap, behind_none, keep_append, keep_kept, keep_nothing, keep_map}

abbrev no_alarm : Alarm
no_alarm = alarm_of false true false Issue 0

-- the machine's subscription of link l to status i
abbrev pub subscription_of : ℕ → ℕ → Standing → Subscription
subscription_of l i s = record { link = l; status = i; interval = s.seconds; on_change = s.on_change; since = s.since }

abbrev pub listed : ℕ → ℕ → Option Standing → List Subscription
listed l i o = maybe [] (λ s. subscription_of l i s ∷ []) o

pub record Kept (start : ℕ) (h : List Past) (u : Setup) (xs : List Alarm) (vs : List (Option ℤ)) (g gt : ℕ) (ss : List Subscription) : Type 0 where
  pub alarm_count : length xs ≡ length u.table.alarms
  pub status_count : length vs ≡ length u.table.statuses
  pub alarms : (i : ℕ) → i < length xs → get_or xs i no_alarm ≡ alarm_after u.table i start h
  pub statuses : (i : ℕ) → get_or vs i none ≡ last_value i h
  pub aggregate : g ≡ last_aggregated h
  pub change : gt ≡ change_time start h
  pub subscriptions : (l i : ℕ) → keep (is_of l i) ss ≡ listed l i (standing u.table l i h)

abbrev pub KeptBy : ℕ → List Past → Machine → Type 0
KeptBy start h m = Kept start h m.setup m.alarms m.statuses m.aggregated m.aggregated_time m.subscriptions

-- ---- what a call that did not do so leaves
module _ (t : Table) (start : ℕ) (p : Past) (h : List Past) where
  pub alarm_same : (i : ℕ) → input_to t i p ≡ none → ((word : String) → is_order t i word p ≡ false) → alarm_after t i start (p ∷ h) ≡ alarm_after t i start h
  alarm_same i e f = rw (e, f "Acknowledge", f "Suspend", f "Resume")

  pub standing_same : (l i : ℕ) → (did p).ticked ≡ false → (did p).took ≡ none → standing t l i (p ∷ h) ≡ standing t l i h
  standing_same l i e f = rw (e, f)

-- the alarm after what may have happened to it
abbrev pub afterwards : Alarm → Option Alarm → Alarm
afterwards a o = or_else a o

input_alarm : (active a k s : Bool) (e : Event) (time now : ℕ)
    → afterwards (alarm_of a k s e time) (with_input active now (alarm_of a k s e time))
    ≡ alarm_of active (pick (both active (not a)) false k) s (or_else e (pick (not (alike active a)) (some Issue) none)) (maybe time (λ x. now) (pick (not (alike active a)) (some Issue) none))
input_alarm true true k s e time now = refl
input_alarm true false k s e time now = refl
input_alarm false true k s e time now = refl
input_alarm false false k s e time now = refl

-- ---- an input
module _ (t : Table) (start : ℕ) (p : Past) (h : List Past) (k : ℕ) (active : Bool) (is : (did p).input ≡ some (k, active)) (no : (did p).took ≡ none) where
  pub input_own : afterwards (alarm_after t k start h) (with_input active p.call.time (alarm_after t k start h)) ≡ alarm_after t k start (p ∷ h)
  input_own =
      input_alarm active (was_active t k h) (was_acknowledged t k h) (was_suspended t k h) (last_event t k h) (event_time t k start h) p.call.time
      ∙ rw (is, no, eq-eqb k k refl)

  pub input_other : (i : ℕ) → (k ≡ i → ⊥) → alarm_after t i start (p ∷ h) ≡ alarm_after t i start h
  input_other i n = alarm_same t start p h i (rw (is, ne_eqb k i n)) (λ word. rw no)

-- ---- an order
order_alarm : (acknowledges suspends resumes a k s : Bool) (e : Event) (time now : ℕ) → (acknowledges ≡ true → suspends ≡ false) → (acknowledges ≡ true → resumes ≡ false)
    → (suspends ≡ true → resumes ≡ false)
    → afterwards (alarm_of a k s e time) (pick acknowledges (acknowledged_at now (alarm_of a k s e time)) (pick suspends (suspended_at now (alarm_of a k s e time)) (pick resumes (resumed_at now (alarm_of a k s e time)) none)))
    ≡ alarm_of a (pick acknowledges true k) (pick suspends true (pick resumes false s))
    (or_else e (pick (both acknowledges (not k)) (some Acknowledge) (pick (both suspends (not s)) (some Suspend) (pick (both resumes s) (some Suspend) none))))
    (maybe time (λ x. now) (pick (both acknowledges (not k)) (some Acknowledge) (pick (both suspends (not s)) (some Suspend) (pick (both resumes s) (some Suspend) none))))
order_alarm true true resumes a k s e time now x y z = not_both refl (x refl)
order_alarm true false true a k s e time now x y z = not_both refl (y refl)
order_alarm true false false a true s e time now x y z = refl
order_alarm true false false a false s e time now x y z = refl
order_alarm false true true a k s e time now x y z = not_both refl (z refl)
order_alarm false true false a k true e time now x y z = refl
order_alarm false true false a k false e time now x y z = refl
order_alarm false false true a k true e time now x y z = refl
order_alarm false false true a k false e time now x y z = refl
order_alarm false false false a k s e time now x y z = refl

-- an element is one word
pub one_word : (name a b : String) → same_bytes (text a) (text b) ≡ false → (j : Json) → element_is name a j ≡ true → element_is name b j ≡ false
one_word name a b other j e = go (string_at name j) e
  where
    go : (o : Option Bytes) → maybe false (reads a) o ≡ true → maybe false (reads b) o ≡ false
    go none f = refl
    go (some s) f = rw (same_true s (text a) f) other

module _ (t : Table) (start : ℕ) (p : Past) (h : List Past) (l : ℕ) (j : Json) (no : (did p).input ≡ none) (is : (did p).took ≡ some (l, j)) where
  module _ (typed : is_type "Alarm" j ≡ true) (k : ℕ) (named : alarm_named t j ≡ some k) where
    pub order_is : (word : String) → is_order t k word p ≡ element_is "aSp" word j
    order_is word = rw (is, typed, named, eq-eqb k k refl) (go (element_is "aSp" word j))
      where
        go : (b : Bool) → both b true ≡ b
        go true = refl
        go false = refl

    pub order_own : afterwards (alarm_after t k start h) (ordered p.call.time j (alarm_after t k start h)) ≡ alarm_after t k start (p ∷ h)
    order_own =
        order_alarm (element_is "aSp" "Acknowledge" j) (element_is "aSp" "Suspend" j) (element_is "aSp" "Resume" j)
        (was_active t k h) (was_acknowledged t k h) (was_suspended t k h) (last_event t k h) (event_time t k start h) p.call.time
        (one_word "aSp" "Acknowledge" "Suspend" refl j) (one_word "aSp" "Acknowledge" "Resume" refl j) (one_word "aSp" "Suspend" "Resume" refl j)
        ∙ rw (no, order_is "Acknowledge", order_is "Suspend", order_is "Resume")

    pub order_other : (i : ℕ) → (k ≡ i → ⊥) → alarm_after t i start (p ∷ h) ≡ alarm_after t i start h
    order_other i n = alarm_same t start p h i (rw no) (λ word. rw (is, typed, named, ne_eqb i k (λ e. n (sym e))) (both_false (element_is "aSp" word j)))

  pub order_untyped : is_type "Alarm" j ≡ false → (i : ℕ) → alarm_after t i start (p ∷ h) ≡ alarm_after t i start h
  order_untyped typed i = alarm_same t start p h i (rw no) (λ word. rw (is, typed))

  -- ---- subscriptions
  pub standing_untyped : (did p).ticked ≡ false → is_type "StatusSubscribe" j ≡ false → is_type "StatusUnsubscribe" j ≡ false → (k i : ℕ) → standing t k i (p ∷ h) ≡ standing t k i h
  standing_untyped tock no_subscribe no_unsubscribe k i = rw (tock, is, no_subscribe, no_unsubscribe) (go (eqb l k))
    where
      go : (b : Bool) → pick (not b) (standing t k i h) (standing t k i h) ≡ standing t k i h
      go true = refl
      go false = refl

abbrev pub Known : Machine → Json → Json → Type 0
Known m j e = not (is_some (status_asked m j e)) ≡ false

-- what one entry does to the subscriptions of link l to status i
module _ (now l i : ℕ) where
  pub ended_own : (ss : List Subscription) → keep (is_of l i) (without l i ss) ≡ []
  ended_own ss = keep_nothing (is_of l i) (λ s. not (is_of l i s)) (λ s e. rw e) ss

  pub ended_other : (k n : ℕ) → both (eqb k l) (eqb n i) ≡ false → (ss : List Subscription) → keep (is_of l i) (without k n ss) ≡ keep (is_of l i) ss
  ended_other k n other ss = keep_kept (is_of l i) (λ s. not (is_of k n s)) (λ s e. rw (go s e)) ss
    where
      go : (s : Subscription) → is_of l i s ≡ true → is_of k n s ≡ false
      go s e =
          let b = both_true (eqb s.link l) (eqb s.status i) e in
          rw (eqb-true s.link l b.0, eqb-true s.status i b.1, eqb_swap l k, eqb_swap i n) other

  pub begun_own : (older : Bool) (e : Json) (ss : List Subscription) → keep (is_of l i) (subscribing older now l i e ss) ≡ listed l i (some (standing_from older now e))
  begun_own older e ss =
      keep_append (is_of l i) (without l i ss) _
      ∙ rw (ended_own ss, eq-eqb l l refl, eq-eqb i i refl)

  pub begun_other : (older : Bool) (k n : ℕ) → both (eqb k l) (eqb n i) ≡ false → (e : Json) (ss : List Subscription)
      → keep (is_of l i) (subscribing older now k n e ss) ≡ keep (is_of l i) ss
  begun_other older k n other e ss = keep_append (is_of l i) (without k n ss) _ ∙ rw (ended_other k n other ss, other) (behind_none (keep (is_of l i) ss))

-- what the entries of a packet on link l0 do to them
module _ (m : Machine) (now l : ℕ) (j : Json) (k i : ℕ) where
  abbrev t : Table
  t = m.setup.table

  abbrev older : Bool
  older = is_older (life_at m l)

  pub is_named : (e : Json) → Known m j e → status_named t j e ≡ some (number_asked m j e)
  is_named e known = go (status_asked m j e) known
    where
      go : (o : Option ℕ) → not (is_some o) ≡ false → o ≡ some (or_else 0 o)
      go none f = not_both refl f
      go (some n) f = refl

  -- of another link
  pub subscribed_other : eqb l k ≡ false → (es : List Json) (ss : List Subscription) → keep (is_of k i) (subscribe_all m now l j es ss) ≡ keep (is_of k i) ss
  subscribed_other other [] ss = refl
  subscribed_other other (e ∷ es) ss =
      subscribed_other other es _ ∙ begun_other now k i older l (number_asked m j e) (rw other) e ss

  pub ended_others : eqb l k ≡ false → (es : List Json) (ss : List Subscription) → keep (is_of k i) (end_all m l j es ss) ≡ keep (is_of k i) ss
  ended_others other [] ss = refl
  ended_others other (e ∷ es) ss = ended_others other es _ ∙ ended_other now k i l (number_asked m j e) (rw other) ss

  -- of this link
  module _ (own : l ≡ k) where
    one_begun : (e : Json) → Known m j e → (ss : List Subscription) (o : Option Standing) → keep (is_of k i) ss ≡ listed k i o
        → keep (is_of k i) (subscribing older now l (number_asked m j e) e ss) ≡ listed k i (pick (is_number i (status_named t j e)) (some (standing_from older now e)) o)
    one_begun e known ss o before = rw (is_named e known) (go (eq_or_ne (number_asked m j e) i))
      where
        go : (number_asked m j e ≡ i) ⊎ (number_asked m j e ≡ i → ⊥)
            → keep (is_of k i) (subscribing older now l (number_asked m j e) e ss) ≡ listed k i (pick (eqb i (number_asked m j e)) (some (standing_from older now e)) o)
        go (inl f) = rw (f, own, eq-eqb i i refl) (begun_own now k i (is_older (life_at m k)) e ss)
        go (inr f) =
            begun_other now k i older l (number_asked m j e) (both_no (eqb l k) (eqb (number_asked m j e) i) (ne_eqb (number_asked m j e) i f)) e ss
            ∙ rw (ne_eqb i (number_asked m j e) (λ g. f (sym g))) before

    pub subscribed_own : {es : List Json} → Each (Known m j) es → (ss : List Subscription) (o : Option Standing) → keep (is_of k i) ss ≡ listed k i o
        → keep (is_of k i) (subscribe_all m now l j es ss) ≡ listed k i (subscribed_by t k i older now j es o)
    subscribed_own no_more ss o before = before
    subscribed_own (one_more {x = e} known r) ss o before = subscribed_own r _ _ (one_begun e known ss o before)

    one_ended : (e : Json) → Known m j e → (ss : List Subscription) (o : Option Standing) → keep (is_of k i) ss ≡ listed k i o
        → keep (is_of k i) (without l (number_asked m j e) ss) ≡ listed k i (pick (is_number i (status_named t j e)) none o)
    one_ended e known ss o before = rw (is_named e known) (go (eq_or_ne (number_asked m j e) i))
      where
        go : (number_asked m j e ≡ i) ⊎ (number_asked m j e ≡ i → ⊥)
            → keep (is_of k i) (without l (number_asked m j e) ss) ≡ listed k i (pick (eqb i (number_asked m j e)) none o)
        go (inl f) = rw (f, own, eq-eqb i i refl) (ended_own now k i ss)
        go (inr f) =
            ended_other now k i l (number_asked m j e) (both_no (eqb l k) (eqb (number_asked m j e) i) (ne_eqb (number_asked m j e) i f)) ss
            ∙ rw (ne_eqb i (number_asked m j e) (λ g. f (sym g))) before

    pub ended_all : {es : List Json} → Each (Known m j) es → (ss : List Subscription) (o : Option Standing) → keep (is_of k i) ss ≡ listed k i o
        → keep (is_of k i) (end_all m l j es ss) ≡ listed k i (pick (any (λ e. is_number i (status_named t j e)) es) none o)
    ended_all no_more ss o before = before
    ended_all (one_more {x = e} {xs = es} known r) ss o before =
        ended_all r _ _ (one_ended e known ss o before) ∙ ap (listed k i) (go (is_number i (status_named t j e)) (any (λ e. is_number i (status_named t j e)) es))
      where
        go : (a b : Bool) → pick b none (pick a none o) ≡ pick (pick a true b) none o
        go true true = refl
        go true false = refl
        go false b = refl

-- at a tick
pub ticked_all : (now l i : ℕ) (ss : List Subscription) (o : Option Standing) → keep (is_of l i) ss ≡ listed l i o
    → keep (is_of l i) (map (anew now) ss) ≡ listed l i (maybe none (λ s. some (ticked now s)) o)
ticked_all now l i ss o before = keep_map (is_of l i) (anew now) (λ s. refl) ss ∙ rw before (go o)
  where
    go : (o : Option Standing) → map (anew now) (listed l i o) ≡ listed l i (maybe none (λ s. some (ticked now s)) o)
    go none = refl
    go (some s) = refl

-- ---- a call's history
module _ (start : ℕ) (p : Past) (h : List Past) where
  -- it did nothing
  pub extended : (m : Machine) → KeptBy start h m → did p ≡ doing none none none none false → KeptBy start (p ∷ h) m
  extended m k d =
      record {
        alarm_count = k.alarm_count;
        status_count = k.status_count;
        alarms = λ i f. k.alarms i f ∙ sym (alarm_same m.setup.table start p h i (rw d) (λ word. rw d));
        statuses = λ i. rw d (k.statuses i);
        aggregate = rw d k.aggregate;
        change = rw d k.change;
        subscriptions = λ l i. rw d (k.subscriptions l i);
      }

  -- an event of alarm n, or none
  module _ (m : Machine) (k : KeptBy start h m) (n : ℕ) (there : n < length m.alarms) (o : Option Alarm) (valued : (did p).value ≡ none) (aggregated : (did p).aggregate ≡ none)
      (own : afterwards (alarm_after m.setup.table n start h) o ≡ alarm_after m.setup.table n start (p ∷ h))
      (other : (i : ℕ) → (n ≡ i → ⊥) → alarm_after m.setup.table i start (p ∷ h) ≡ alarm_after m.setup.table i start h)
      (standing-too : (l i : ℕ) → standing m.setup.table l i (p ∷ h) ≡ standing m.setup.table l i h) where
    set_got : (xs : List Alarm) (i : ℕ) (a : Alarm) → i < length xs → get_or (changed i (λ x. a) xs) i no_alarm ≡ a
    set_got [] i a f = absurd (omega arith)
    set_got (x ∷ xs) zero a f = refl
    set_got (x ∷ xs) (suc i) a f = set_got xs i a (omega arith)

    unchanged : (i : ℕ) → i < length m.alarms → o ≡ none → (n ≡ i) ⊎ (n ≡ i → ⊥) → get_or m.alarms i no_alarm ≡ alarm_after m.setup.table i start (p ∷ h)
    unchanged i f e (inl g) = k.alarms i f ∙ subst (λ (x : ℕ). alarm_after m.setup.table x start h ≡ alarm_after m.setup.table x start (p ∷ h)) g (rw e at own)
    unchanged i f e (inr g) = k.alarms i f ∙ sym (other i g)

    changed_one : (a : Alarm) (i : ℕ) → i < length m.alarms → o ≡ some a → (n ≡ i) ⊎ (n ≡ i → ⊥)
        → get_or (changed n (λ x. a) m.alarms) i no_alarm ≡ alarm_after m.setup.table i start (p ∷ h)
    changed_one a i f e (inl g) =
        subst (λ (x : ℕ). get_or (changed n (λ y. a) m.alarms) x no_alarm ≡ alarm_after m.setup.table x start (p ∷ h)) g
        (set_got m.alarms n a there ∙ (rw e at own))
    changed_one a i f e (inr g) = set_other no_alarm n i a m.alarms g ∙ k.alarms i f ∙ sym (other i g)

    pub happened : KeptBy start (p ∷ h) (happens m n o).leaves
    unfolding happens
    happened = go o refl
      where
        go : (x : Option Alarm) → o ≡ x → KeptBy start (p ∷ h) (happens m n x).leaves
        go none e =
            record {
              alarm_count = k.alarm_count;
              status_count = k.status_count;
              alarms = λ i f. unchanged i f e (eq_or_ne n i);
              statuses = λ i. rw valued (k.statuses i);
              aggregate = rw aggregated k.aggregate;
              change = rw aggregated k.change;
              subscriptions = λ l i. rw (standing-too l i) (k.subscriptions l i);
            }
        go (some a) e =
            record {
              alarm_count = length_changed n (λ x. a) m.alarms ∙ k.alarm_count;
              status_count = k.status_count;
              alarms = λ i f. changed_one a i (omega (arith, f, length_changed n (λ (x : Alarm). a) m.alarms)) e (eq_or_ne n i);
              statuses = λ i. rw valued (k.statuses i);
              aggregate = rw aggregated k.aggregate;
              change = rw aggregated k.change;
              subscriptions = λ l i. rw (standing-too l i) (k.subscriptions l i);
            }

  -- the value of a status
  value_got : (vs : List (Option ℤ)) (n : ℕ) (v : ℤ) → n < length vs → get_or (changed n (λ x. some v) vs) n none ≡ some v
  value_got [] n v f = absurd (omega arith)
  value_got (x ∷ vs) zero v f = refl
  value_got (x ∷ vs) (suc n) v f = value_got vs n v (omega arith)

  module _ (m : Machine) (k : KeptBy start h m) (n : ℕ) (v : ℤ) (d : did p ≡ doing none (some (n, v)) none none false) where
    -- in a list that holds it at n and is the old one elsewhere
    pub valued : (vs : List (Option ℤ)) → length vs ≡ length m.statuses → get_or vs n none ≡ some v → ((i : ℕ) → (n ≡ i → ⊥) → get_or vs i none ≡ get_or m.statuses i none)
        → Kept start (p ∷ h) m.setup m.alarms vs m.aggregated m.aggregated_time m.subscriptions
    valued vs count own other =
        record {
          alarm_count = k.alarm_count;
          status_count = count ∙ k.status_count;
          alarms = λ i f. k.alarms i f ∙ sym (alarm_same m.setup.table start p h i (rw d) (λ word. rw d));
          statuses = λ i. rw d (go i (eq_or_ne n i));
          aggregate = rw d k.aggregate;
          change = rw d k.change;
          subscriptions = λ l i. rw d (k.subscriptions l i);
        }
      where
        go : (i : ℕ) → (n ≡ i) ⊎ (n ≡ i → ⊥) → get_or vs i none ≡ maybe (last_value i h) (λ x. some x) (pick (eqb n i) (some v) none)
        go i (inl e) = rw (eq-eqb n i e, ← e) own
        go i (inr e) = rw (ne_eqb n i e) (other i e ∙ k.statuses i)

    pub became : n < length m.statuses → KeptBy start (p ∷ h) (with_status n v m)
    became there =
        valued (changed n (λ x. some v) m.statuses) (length_changed n (λ x. some v) m.statuses) (value_got m.statuses n v there)
        (λ i e. set_other none n i (some v) m.statuses e)

    pub stayed : value_at m n ≡ some v → KeptBy start (p ∷ h) m
    stayed e = valued m.statuses refl e (λ i f. refl)

  -- the aggregated value
  module _ (m : Machine) (k : KeptBy start h m) (v : ℕ) (d : did p ≡ doing none none (some v) none false) where
    aggregated_so : (gt : ℕ) → gt ≡ pick (not (eqb v (last_aggregated h))) p.call.time (change_time start h)
        → Kept start (p ∷ h) m.setup m.alarms m.statuses v gt m.subscriptions
    aggregated_so gt e =
        record {
          alarm_count = k.alarm_count;
          status_count = k.status_count;
          alarms = λ i f. k.alarms i f ∙ sym (alarm_same m.setup.table start p h i (rw d) (λ word. rw d));
          statuses = λ i. rw d (k.statuses i);
          aggregate = rw d refl;
          change = rw d e;
          subscriptions = λ l i. rw d (k.subscriptions l i);
        }

    pub aggregated_anew : eqb v m.aggregated ≡ false → KeptBy start (p ∷ h) (with_aggregated v p.call.time m)
    aggregated_anew f = aggregated_so p.call.time (rw (rw k.aggregate at f))

    pub aggregated_again : eqb v m.aggregated ≡ true → KeptBy start (p ∷ h) m
    aggregated_again f =
        subst (λ (x : ℕ). Kept start (p ∷ h) m.setup m.alarms m.statuses x m.aggregated_time m.subscriptions) (eqb-true v m.aggregated f)
        (aggregated_so m.aggregated_time (rw (rw k.aggregate at f) k.change))

  -- subscriptions
  pub subscriptions_so : (m : Machine) → KeptBy start h m → (ss : List Subscription) → (did p).input ≡ none → (did p).value ≡ none → (did p).aggregate ≡ none
      → ((word : String) (i : ℕ) → is_order m.setup.table i word p ≡ false) → ((l i : ℕ) → keep (is_of l i) ss ≡ listed l i (standing m.setup.table l i (p ∷ h)))
      → KeptBy start (p ∷ h) (with_subscriptions ss m)
  subscriptions_so m k ss no_input no_value_lem no_aggregate no_order so =
      record {
        alarm_count = k.alarm_count;
        status_count = k.status_count;
        alarms = λ i f. k.alarms i f ∙ sym (alarm_same m.setup.table start p h i (rw no_input) (λ word. no_order word i));
        statuses = λ i. rw no_value_lem (k.statuses i);
        aggregate = rw no_aggregate k.aggregate;
        change = rw no_aggregate k.change;
        subscriptions = so;
      }

  -- a tick
  pub ticks_on : (m : Machine) → KeptBy start h m → did p ≡ doing none none none none true → KeptBy start (p ∷ h) (with_subscriptions (map (anew p.call.time) m.subscriptions) m)
  ticks_on m k d =
      subscriptions_so m k _ (rw d) (rw d) (rw d) (λ word i. rw d)
      (λ l i. rw d (ticked_all p.call.time l i m.subscriptions (standing m.setup.table l i h) (k.subscriptions l i)))

  -- a packet that was acknowledged
  module _ (m : Machine) (k : KeptBy start h m) (l : ℕ) (j : Json) (d : did p ≡ doing none none none (some (l, j)) false) where
    abbrev table : Table
    table = m.setup.table

    pub took_other : is_type "Alarm" j ≡ false → is_type "StatusSubscribe" j ≡ false → is_type "StatusUnsubscribe" j ≡ false → KeptBy start (p ∷ h) m
    took_other no_alarm_lem no_subscribe no_unsubscribe =
        subscriptions_so m k m.subscriptions (rw d) (rw d) (rw d) (λ word i. rw (d, no_alarm_lem))
        (λ x i. k.subscriptions x i ∙ ap (listed x i) (sym (standing_untyped table start p h l j (rw d) (rw d) (rw d) no_subscribe no_unsubscribe x i)))

    pub took_subscribe : is_type "StatusSubscribe" j ≡ true → is_type "Alarm" j ≡ false → Each (Known m j) (entries_of "sS" j) → is_older (life_at m l) ≡ was_older l h
        → KeptBy start (p ∷ h) (with_subscriptions (subscribe_all m p.call.time l j (entries_of "sS" j) m.subscriptions) m)
    took_subscribe typed no_alarm_lem known told =
        subscriptions_so m k _ (rw d) (rw d) (rw d) (λ word i. rw (d, no_alarm_lem)) (λ x i. rw (d, typed) (go x i (eq_or_ne l x)))
      where
        told_of : {x : ℕ} → l ≡ x → is_older (life_at m l) ≡ was_older x h
        told_of e = rw (← e) told

        go : (x i : ℕ) → (l ≡ x) ⊎ (l ≡ x → ⊥) → keep (is_of x i) (subscribe_all m p.call.time l j (entries_of "sS" j) m.subscriptions)
            ≡ listed x i (pick (not (eqb l x)) (standing table x i h) (subscribed_by table x i (was_older x h) p.call.time j (entries_of "sS" j) (standing table x i h)))
        go x i (inl e) = rw (eq-eqb l x e, ← told_of e) (subscribed_own m p.call.time l j x i e known m.subscriptions _ (k.subscriptions x i))
        go x i (inr e) = rw (ne_eqb l x e) (subscribed_other m p.call.time l j x i (ne_eqb l x e) (entries_of "sS" j) m.subscriptions ∙ k.subscriptions x i)

    pub took_unsubscribe : is_type "StatusUnsubscribe" j ≡ true → is_type "StatusSubscribe" j ≡ false → is_type "Alarm" j ≡ false → Each (Known m j) (entries_of "sS" j)
        → KeptBy start (p ∷ h) (with_subscriptions (end_all m l j (entries_of "sS" j) m.subscriptions) m)
    took_unsubscribe typed no_subscribe no_alarm_lem known =
        subscriptions_so m k _ (rw d) (rw d) (rw d) (λ word i. rw (d, no_alarm_lem)) (λ x i. rw (d, typed, no_subscribe) (go x i (eq_or_ne l x)))
      where
        go : (x i : ℕ) → (l ≡ x) ⊎ (l ≡ x → ⊥) → keep (is_of x i) (end_all m l j (entries_of "sS" j) m.subscriptions)
            ≡ listed x i (pick (not (eqb l x)) (standing table x i h) (pick (any (λ e. is_number i (status_named table j e)) (entries_of "sS" j)) none (standing table x i h)))
        go x i (inl e) = rw (eq-eqb l x e) (ended_all m p.call.time l j x i e known m.subscriptions _ (k.subscriptions x i))
        go x i (inr e) = rw (ne_eqb l x e) (ended_others m p.call.time l j x i (ne_eqb l x e) (entries_of "sS" j) m.subscriptions ∙ k.subscriptions x i)

    pub took_order : is_type "Alarm" j ≡ true → is_type "StatusSubscribe" j ≡ false → is_type "StatusUnsubscribe" j ≡ false → (n : ℕ) → alarm_named table j ≡ some n → n < length m.alarms
        → KeptBy start (p ∷ h) (happens m n (ordered p.call.time j (get_or m.alarms n no_alarm))).leaves
    took_order typed no_subscribe no_unsubscribe n named there =
        rw (k.alarms n there) (happened m k n there _ (rw d) (rw d) (order_own table start p h l j (rw d) (rw d) typed n named) (order_other table start p h l j (rw d) (rw d) typed n named)
        (λ x i. standing_untyped table start p h l j (rw d) (rw d) (rw d) no_subscribe no_unsubscribe x i))

  pub took_input : (m : Machine) → KeptBy start h m → (n : ℕ) (active : Bool) → did p ≡ doing (some (n, active)) none none none false → n < length m.alarms
      → KeptBy start (p ∷ h) (happens m n (with_input active p.call.time (get_or m.alarms n no_alarm))).leaves
  took_input m k n active d there =
      rw (k.alarms n there) (happened m k n there _ (rw d) (rw d) (input_own m.setup.table start p h n active (rw d) (rw d)) (input_other m.setup.table start p h n active (rw d) (rw d))
      (λ x i. standing_same m.setup.table start p h x i (rw d) (rw d)))
