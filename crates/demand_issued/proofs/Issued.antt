-- What each call lays down to be issued is what its history tells.
-- Assumes nothing.
use Rattle.basis.proofs.Std.{ℕ, ◌<◌, String, ◌≡◌, refl, sym, ◌∙◌, ap, subst, Bool, true, false, not, List, [], ◌∷◌, map, Option, some, none, ◌⊎◌, inl, inr, eqb, ℤ, pos, negsuc, length, eqb-true, eq-eqb, ne_eqb, pick, both, not_both, eq_or_ne}
use Rattle.json_value.specs.Grammar.{Json}
use Rattle.table_whole.specs.Table.{Table}
use Rattle.machine.specs.Words.{maybe, alike, keep, flat, up_to}
use Rattle.machine.specs.State.{Event, Alarm, alarm_of, Subscription, Issued, issued_for, Setup, Machine, life_at, value_at}
use Rattle.machine.specs.State.Event.{Issue, Acknowledge, Suspend}
use Rattle.machine.specs.State.Content.{of_status, of_aggregated}
use Rattle.machine.specs.Json.{entries_of, element_is, is_type}
use Rattle.machine.specs.Life.{is_up}
use Rattle.machine.specs.Items.{happens, with_input, acknowledged_at, suspended_at, resumed_at, ordered, is_silent, is_of, status_for, update, number_asked, upwards, is_time, same_value, is_new}
use Rattle.machine.specs.Run.{Past}
use Rattle.demand_held.proofs.Lists.{Each}
use Rattle.demand_held.proofs.Lists.Each.{no_more, one_more}
use Rattle.demand_issued.specs.History.{doing, did, alarm_named, status_named, is_order, was_active, was_suspended, was_acknowledged, event_of, last_event, event_time, alarm_after, last_value, Standing, is_over, standing}
use Rattle.demand_issued.specs.Issues.{equal, is_issue, alarm_record, alarm_issues, status_record, subscribes, is_news, asks, updates, issued}
use Rattle.demand_issued.proofs.Lists.{behind_none, keep_both, flat_same, flat_none, map_flat, kept_one, either_false}
use Rattle.demand_issued.proofs.Kept.{subscription_of, listed, KeptBy, afterwards, one_word, Known, is_named, order_is}

-- ---- alarms: an event is told by what the alarm becomes
abbrev EventIn : Option Alarm → Option Event
EventIn o = maybe none (λ a. some a.event) o

abbrev silent_in : Option Alarm → Bool
silent_in o = maybe false (λ a. is_silent a.event a.suspended) o

abbrev quiet_in : Bool → Option Alarm → Bool
quiet_in s o = maybe false (λ a. both (is_issue a.event) s) o

input_event : (active a k s : Bool) (e : Event) (time now : ℕ)
    → (pick (not (alike active a)) (some Issue) none ≡ EventIn (with_input active now (alarm_of a k s e time)))
    × (silent_in (with_input active now (alarm_of a k s e time)) ≡ quiet_in s (with_input active now (alarm_of a k s e time)))
input_event true true k s e time now = (refl, refl)
input_event true false k s e time now = (refl, refl)
input_event false true k s e time now = (refl, refl)
input_event false false k s e time now = (refl, refl)

abbrev ordering : Bool → Bool → Bool → ℕ → Alarm → Option Alarm
ordering acknowledges suspends resumes now a = pick acknowledges (acknowledged_at now a) (pick suspends (suspended_at now a) (pick resumes (resumed_at now a) none))

order_event : (acknowledges suspends resumes a k s : Bool) (e : Event) (time now : ℕ) → (acknowledges ≡ true → suspends ≡ false) → (acknowledges ≡ true → resumes ≡ false)
    → (suspends ≡ true → resumes ≡ false)
    → (pick (both acknowledges (not k)) (some Acknowledge) (pick (both suspends (not s)) (some Suspend) (pick (both resumes s) (some Suspend) none))
    ≡ EventIn (ordering acknowledges suspends resumes now (alarm_of a k s e time)))
    × (silent_in (ordering acknowledges suspends resumes now (alarm_of a k s e time)) ≡ quiet_in s (ordering acknowledges suspends resumes now (alarm_of a k s e time)))
order_event true true resumes a k s e time now x y z = not_both refl (x refl)
order_event true false true a k s e time now x y z = not_both refl (y refl)
order_event true false false a true s e time now x y z = (refl, refl)
order_event true false false a false s e time now x y z = (refl, refl)
order_event false true true a k s e time now x y z = not_both refl (z refl)
order_event false true false a k true e time now x y z = (refl, refl)
order_event false true false a k false e time now x y z = (refl, refl)
order_event false false true a k true e time now x y z = (refl, refl)
order_event false false true a k false e time now x y z = (refl, refl)
order_event false false false a k s e time now x y z = (refl, refl)

equal_same : (a b : ℤ) → equal a b ≡ same_value a b
equal_same (pos a) (pos b) = refl
equal_same (pos a) (negsuc b) = refl
equal_same (negsuc a) (pos b) = refl
equal_same (negsuc a) (negsuc b) = refl

pub value_same : (a b : ℤ) → same_value a b ≡ true → a ≡ b
value_same (pos a) (pos b) e = ap pos (eqb-true a b e)
value_same (pos a) (negsuc b) e = not_both e refl
value_same (negsuc a) (pos b) e = not_both e refl
value_same (negsuc a) (negsuc b) e = ap negsuc (eqb-true a b e)

module _ (start : ℕ) (p : Past) (h : List Past) where
  -- ---- where there are none
  module _ (u : Setup) (up : ℕ → Bool) where
    no_updates : (did p).ticked ≡ false → (did p).value ≡ none → updates u start up p h ≡ []
    no_updates e f = flat_none (λ l. flat_none (λ i. rw (e, f) (go _ (standing u.table l i h))) (up_to (length u.table.statuses))) (up_to u.links)
      where
        go : (x : Issued) (o : Option Standing) → pick (maybe false (λ s. false) o) (x ∷ []) [] ≡ []
        go x none = refl
        go x (some s) = refl

    pub nothing_issued : did p ≡ doing none none none none false → [] ≡ issued u start up p h
    nothing_issued d = sym (rw (no_updates (rw d) (rw d)) (rw d))

    pub alarm_issued : {xs : List Issued} → xs ≡ alarm_issues u start up p h → maybe [] (subscribes u start up p h) (did p).took ≡ [] → (did p).ticked ≡ false → (did p).value ≡ none → (did p).aggregate ≡ none
        → xs ≡ issued u start up p h
    alarm_issued e s t v a = e ∙ sym (rw (no_updates t v, s, a) (behind_none (alarm_issues u start up p h)))

  -- ---- an event of alarm n
  module _ (m : Machine) (up : ℕ → Bool) (n : ℕ) (o : Option Alarm) (own : afterwards (alarm_after m.setup.table n start h) o ≡ alarm_after m.setup.table n start (p ∷ h))
      (event : event_of m.setup.table n p h ≡ EventIn o) (silent : silent_in o ≡ quiet_in (was_suspended m.setup.table n h) o) where
    pub event_issued : (happens m n o).issues ≡ maybe [] (alarm_record m.setup start up p h n) (event_of m.setup.table n p h)
    unfolding happens
    event_issued = rw event (go o refl)
      where
        go : (x : Option Alarm) → o ≡ x → (happens m n x).issues ≡ maybe [] (alarm_record m.setup start up p h n) (EventIn x)
        go none e = refl
        go (some a) e = rw (← rw e at own, rw e at silent)

  module _ (m : Machine) (k : KeptBy start h m) (up : ℕ → Bool) (n : ℕ) (there : n < length m.alarms) where
    abbrev t : Table
    t = m.setup.table

    pub input_issued : (active : Bool) → did p ≡ doing (some (n, active)) none none none false
        → afterwards (alarm_after t n start h) (with_input active p.call.time (alarm_after t n start h)) ≡ alarm_after t n start (p ∷ h)
        → (happens m n (with_input active p.call.time (alarm_after t n start h))).issues ≡ issued m.setup start up p h
    input_issued active d own =
        let told = input_event active (was_active t n h) (was_acknowledged t n h) (was_suspended t n h) (last_event t n h) (event_time t n start h) p.call.time in
        alarm_issued m.setup up
        (event_issued m up n _ own (rw (d, eq-eqb n n refl) told.0) told.1 ∙ rw d)
        (rw d) (rw d) (rw d) (rw d)

    pub order_issued : (l : ℕ) (j : Json) → did p ≡ doing none none none (some (l, j)) false → is_type "Alarm" j ≡ true → is_type "StatusSubscribe" j ≡ false → alarm_named t j ≡ some n
        → afterwards (alarm_after t n start h) (ordered p.call.time j (alarm_after t n start h)) ≡ alarm_after t n start (p ∷ h)
        → (happens m n (ordered p.call.time j (alarm_after t n start h))).issues ≡ issued m.setup start up p h
    order_issued l j d typed no_subscribe named own =
        let told =
        order_event (element_is "aSp" "Acknowledge" j) (element_is "aSp" "Suspend" j) (element_is "aSp" "Resume" j)
        (was_active t n h) (was_acknowledged t n h) (was_suspended t n h) (last_event t n h) (event_time t n start h) p.call.time
        (one_word "aSp" "Acknowledge" "Suspend" refl j) (one_word "aSp" "Acknowledge" "Resume" refl j) (one_word "aSp" "Suspend" "Resume" refl j) in
        alarm_issued m.setup up
        (event_issued m up n _ own (rw (so "Acknowledge", so "Suspend", so "Resume") (rw d told.0)) told.1 ∙ rw (d, typed, named))
        (rw (d, no_subscribe)) (rw d) (rw d) (rw d)
      where
        so : (word : String) → is_order t n word p ≡ element_is "aSp" word j
        so word = order_is t start p h l j (rw d) (rw d) typed n named word

  -- ---- subscriptions
  module _ (m : Machine) (k : KeptBy start h m) where
    -- those that pass, links upwards, statuses upwards
    upwards_are : (f : Subscription → Bool) (g : Subscription → Issued) (F : ℕ → ℕ → List Issued)
        → ((l i : ℕ) → map g (keep f (listed l i (standing m.setup.table l i h))) ≡ F l i)
        → map g (upwards m f) ≡ flat (λ l. flat (F l) (up_to (length m.setup.table.statuses))) (up_to m.setup.links)
    upwards_are f g F each =
        rw k.status_count (map_flat g _ (up_to m.setup.links)
        ∙ flat_same (λ l. map_flat g _ (up_to (length m.setup.table.statuses))
        ∙ flat_same (λ i. ap (map g) (keep_both (is_of l i) f m.subscriptions ∙ ap (keep f) (k.subscriptions l i)) ∙ each l i) (up_to (length m.setup.table.statuses)))
        (up_to m.setup.links))

    abbrev up : ℕ → Bool
    up l = is_up (life_at m l)

    pub tick_issued : did p ≡ doing none none none none true
        → map (λ (s : Subscription). update m p.call.time s.link s.status) (upwards m (is_time p.call.time)) ≡ issued m.setup start up p h
    tick_issued d =
        upwards_are (is_time p.call.time) (λ (s : Subscription). update m p.call.time s.link s.status)
        (λ l i. pick (asks m.setup start up p h l i) (status_record m.setup start up p h l i ∷ []) []) (λ l i. rw d (go l i (standing m.setup.table l i h)))
        ∙ sym (rw d (behind_none _))
      where
        go : (l i : ℕ) (o : Option Standing) → map (λ (s : Subscription). update m p.call.time s.link s.status) (keep (is_time p.call.time) (listed l i o))
            ≡ pick (maybe false (λ s. pick (is_over p.call.time s) true false) o) (issued_for l (of_status i (last_value i h) (not (up l)) p.call.time) ∷ []) []
        go l i none = refl
        go l i (some s) =
            kept_one (λ (s : Subscription). update m p.call.time s.link s.status) (is_time p.call.time) (subscription_of l i s) _ _
            (either_false (is_over p.call.time s)) (rw (k.statuses i))

    -- a value of status n
    module _ (n : ℕ) (v : ℤ) (d : did p ≡ doing none (some (n, v)) none none false) where
      news : is_new v (value_at m n) ≡ is_news m.setup start up p h n
      news = rw (d, eq-eqb n n refl, k.statuses n) (go (last_value n h))
        where
          go : (o : Option ℤ) → is_new v o ≡ maybe true (λ w. not (equal v w)) o
          go none = refl
          go (some w) = ap not (sym (equal_same v w))

      pub value_issued : is_new v (value_at m n) ≡ true
          → map (λ (s : Subscription). status_for m p.call.time s.link (some v) n) (upwards m (λ s. both (eqb s.status n) s.on_change)) ≡ issued m.setup start up p h
      value_issued e =
          upwards_are (λ s. both (eqb s.status n) s.on_change) (λ (s : Subscription). status_for m p.call.time s.link (some v) n)
          (λ l i. pick (asks m.setup start up p h l i) (status_record m.setup start up p h l i ∷ []) []) (λ l i. go l i (eq_or_ne n i) (standing m.setup.table l i h))
          ∙ sym (rw d (behind_none _))
        where
          is_news_lem : is_news m.setup start up p h n ≡ true
          is_news_lem = sym news ∙ e

          go : (l i : ℕ) → (n ≡ i) ⊎ (n ≡ i → ⊥) → (o : Option Standing)
              → map (λ (s : Subscription). status_for m p.call.time s.link (some v) n) (keep (λ (s : Subscription). both (eqb s.status n) s.on_change) (listed l i o))
              ≡ pick (maybe false (λ s. pick (both (did p).ticked (is_over p.call.time s)) true (both (is_news m.setup start up p h i) s.on_change)) o) (status_record m.setup start up p h l i ∷ []) []
          go l i f none = refl
          go l i (inl f) (some s) =
              subst (λ (x : ℕ). map (λ (s : Subscription). status_for m p.call.time s.link (some v) n) (keep (λ (s : Subscription). both (eqb s.status n) s.on_change) (listed l x (some s)))
              ≡ pick (pick (both (did p).ticked (is_over p.call.time s)) true (both (is_news m.setup start up p h x) s.on_change)) (status_record m.setup start up p h l x ∷ []) []) f
              (kept_one (λ (s : Subscription). status_for m p.call.time s.link (some v) n) (λ (s : Subscription). both (eqb s.status n) s.on_change) (subscription_of l n s)
              (pick (both (did p).ticked (is_over p.call.time s)) true (both (is_news m.setup start up p h n) s.on_change)) (status_record m.setup start up p h l n)
              (rw (eq-eqb n n refl, is_news_lem, d)) (rw (d, eq-eqb n n refl)))
          go l i (inr f) (some s) =
              rw (d, ne_eqb n i f) (kept_one (λ (s : Subscription). status_for m p.call.time s.link (some v) n) (λ (s : Subscription). both (eqb s.status n) s.on_change) (subscription_of l i s) false _
              (rw (ne_eqb i n (λ g. f (sym g)))) refl)

      pub value_silent : is_new v (value_at m n) ≡ false → [] ≡ issued m.setup start up p h
      value_silent e = sym (rw none_asks (rw d))
        where
          no_news : is_news m.setup start up p h n ≡ false
          no_news = sym news ∙ e

          go : (l i : ℕ) → (n ≡ i) ⊎ (n ≡ i → ⊥) → (o : Option Standing)
              → pick (maybe false (λ s. pick (both (did p).ticked (is_over p.call.time s)) true (both (is_news m.setup start up p h i) s.on_change)) o) (status_record m.setup start up p h l i ∷ []) [] ≡ []
          go l i f none = refl
          go l i (inl f) (some s) = rw (← f, no_news) (rw d)
          go l i (inr f) (some s) = rw (d, ne_eqb n i f)

          none_asks : updates m.setup start up p h ≡ []
          none_asks = flat_none (λ l. flat_none (λ i. go l i (eq_or_ne n i) (standing m.setup.table l i h)) (up_to (length m.setup.table.statuses))) (up_to m.setup.links)

    -- an acknowledged StatusSubscribe
    pub subscribe_issued : (l : ℕ) (j : Json) → did p ≡ doing none none none (some (l, j)) false → is_type "StatusSubscribe" j ≡ true → is_type "Alarm" j ≡ false → Each (Known m j) (entries_of "sS" j)
        → map (λ e. update m p.call.time l (number_asked m j e)) (entries_of "sS" j) ≡ issued m.setup start up p h
    subscribe_issued l j d typed no_alarm_lem known =
        go known ∙ sym (rw (no_updates m.setup up (rw d) (rw d), no_event, entries_are, no_aggregate) (behind_none (flat Records (entries_of "sS" j))))
      where
        Records : Json → List Issued
        Records e = maybe [] (λ i. status_record m.setup start up p h l i ∷ []) (status_named m.setup.table j e)

        took_it : (did p).took ≡ some (l, j)
        took_it = rw d

        no_input : (did p).input ≡ none
        no_input = rw d

        no_aggregate : (did p).aggregate ≡ none
        no_aggregate = rw d

        no_event : alarm_issues m.setup start up p h ≡ []
        no_event = rw (no_input, took_it, no_alarm_lem)

        entries_are : maybe [] (subscribes m.setup start up p h) (did p).took ≡ flat Records (entries_of "sS" j)
        entries_are = rw (took_it, typed)

        same_record : (i : ℕ) → update m p.call.time l i ≡ status_record m.setup start up p h l i
        same_record i = rw (d, k.statuses i)

        go : {es : List Json} → Each (Known m j) es
            → map (λ e. update m p.call.time l (number_asked m j e)) es ≡ flat Records es
        go no_more = refl
        go (one_more {x = e} x r) = rw (is_named m p.call.time l j 0 0 e x) (λ z. same_record (number_asked m j e) z ∷ go r z)

    -- the aggregated value
    module _ (v : ℕ) (d : did p ≡ doing none none (some v) none false) where
      pub aggregate_issued : eqb v m.aggregated ≡ false → map (λ l. issued_for l (of_aggregated v p.call.time)) (up_to m.setup.links) ≡ issued m.setup start up p h
      aggregate_issued e = sym (rw (no_updates m.setup up (rw d) (rw d)) (rw (d, rw k.aggregate at e)))

      pub aggregate_silent : eqb v m.aggregated ≡ true → [] ≡ issued m.setup start up p h
      aggregate_silent e = sym (rw (no_updates m.setup up (rw d) (rw d)) (rw (d, rw k.aggregate at e)))

    -- another acknowledged packet
    pub other_issued : (l : ℕ) (j : Json) → did p ≡ doing none none none (some (l, j)) false → is_type "Alarm" j ≡ false → is_type "StatusSubscribe" j ≡ false
        → (over : ℕ → Bool) → [] ≡ issued m.setup start over p h
    other_issued l j d no_alarm_lem no_subscribe over = sym (rw (no_updates m.setup over (rw d) (rw d)) (rw (d, no_alarm_lem, no_subscribe)))
