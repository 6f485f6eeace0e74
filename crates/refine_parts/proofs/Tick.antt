-- A tick: subscriptions made anew, and the records of those whose time it is, links upwards, statuses upwards.
-- Assumes nothing.
use Rattle.basis.proofs.Std.{ℕ, ◌+◌, ◌-◌, ◌*◌, ◌/◌, ◌%◌, ◌≤◌, ◌<◌, ◌≡◌, refl, sym, ap, ◌∙◌, subst, Bool, true, false, not, List, [], ◌∷◌, map, Option, some, none, ◌⊎◌, inl, inr, arith, ltb, leb, length, get_or, pick, both, bool_cases}
use Rattle.entry.specs.declared.Entry.{Entry}
use Rattle.link.specs.declared.Link.{Link}
use Rattle.link.specs.Fields.{closed_link}
use Rattle.subscription.specs.declared.Subscription.{Subscription as Slot}
use Rattle.subscription.specs.declared.Ticked.{Ticked}
use Rattle.subscription.specs.Subscription.{none as no_subscription, due_at, tick_of}
use Rattle.site.specs.declared.Site.{Site}
use Rattle.site.specs.Call.{issues}
use Rattle.site.specs.Site.{owner_of, with_subscriptions as with_slots}
use Rattle.site.specs.Parts.{status_at, subscription_at}
use Rattle.site.specs.Records.{status_record}
use Rattle.pool_laws.specs.Upwards.{entry_if}
use Rattle.call_tick.specs.Intervals.{renewed, record_at, records_of}
use Rattle.call_tick.proofs.Records.{all_places}
use Rattle.machine.specs.Words.{maybe, keep, first_that, flat, up_to}
use Rattle.machine.specs.State.{Subscription, Issued, Machine, with_subscriptions, life_at, value_at}
use Rattle.machine.specs.Life.{is_up}
use Rattle.machine.specs.Items.{is_of, update, upwards, is_time, anew, intervals}
use Rattle.demand_held.proofs.Lists.{each_of}
use Rattle.refine_parts.specs.Record.{unnumbered}
use Rattle.refine_parts.specs.Items.{slot_for, Within, SameItems, UpIn, SameEffect}
use Rattle.refine_parts.proofs.ItemLists.{first_map, count_map, map_among, get_d_map, length-map, flat_same, flat_none, flat_beyond, map_flat, entries_rows}
use Rattle.refine_parts.proofs.Subscriptions.{its_link, its_status, value_told, same_record, with_subscriptions_lem, at_place, no_place}

-- ---- one subscription
is_due : (t : ℕ) (x : Subscription) → due_at (slot_for (some x)) t ≡ is_time t x
unfolding due_at
is_due t x = by x.on_change
  where
    by : (soc : Bool) → both (ltb 0 (pick soc 2 1)) (both (ltb 0 x.interval) (leb (x.since + 1000 * x.interval) t)) ≡ is_time t x
    by true = refl
    by false = refl

ticks : (t : ℕ) (x : Subscription) → tick_of (slot_for (some x)) t ≡ record { subscription = slot_for (some (anew t x)); issues = is_time t x }
unfolding tick_of
ticks t x = rw (is_due t x) (bool_cases (is_time t x) (λ e. rw e) (λ e. rw e))

no_tick : (t : ℕ) → tick_of no_subscription t ≡ record { subscription = no_subscription; issues = false }
unfolding tick_of due_at
no_tick t = refl

renewed_slot : (t : ℕ) (o : Option Subscription) → renewed t (slot_for o) ≡ slot_for (maybe none (λ x. some (anew t x)) o)
renewed_slot t none = ap (λ (k : Ticked). k.subscription) (no_tick t)
renewed_slot t (some x) = ap (λ (k : Ticked). k.subscription) (ticks t x)

module _ (s : Site) (m : Machine) (h : SameItems s m) (t : ℕ) (left : List Link) (up : UpIn left m) where
  -- ---- the subscriptions
  renewed_at : (l i : ℕ) → l < 4 → i < 32
      → get_or (map (renewed t) s.subscriptions) (l * 32 + i) no_subscription ≡ slot_for (first_that (is_of l i) (map (anew t) m.subscriptions))
  renewed_at l i lb ib =
      ap (λ (d : Slot). get_or (map (renewed t) s.subscriptions) (l * 32 + i) d) (sym (renewed_slot t none))
      ∙ get_d_map (renewed t) s.subscriptions (l * 32 + i) no_subscription
      ∙ ap (renewed t) (h.subscriptions l i lb ib)
      ∙ renewed_slot t (first_that (is_of l i) m.subscriptions)
      ∙ sym (ap slot_for (first_map (is_of l i) (anew t) (λ x. refl) m.subscriptions))

  made_anew : SameItems (with_slots s (map (renewed t) s.subscriptions)) (with_subscriptions (map (anew t) m.subscriptions) m)
  made_anew =
      with_subscriptions_lem s m h (map (renewed t) s.subscriptions) (map (anew t) m.subscriptions) renewed_at
      (λ l i. subst (λ (n : ℕ). n ≤ 1) (sym (count_map (is_of l i) (anew t) (λ x. refl) m.subscriptions)) (h.one_each l i))
      (map_among (Within m) (anew t) m.subscriptions (λ x e. record { link = (h.within x e).link; status = (h.within x e).status }))
      (length-map (renewed t) s.subscriptions ∙ h.subscription_places)

  -- ---- the records
  abbrev given : Subscription → Issued
  given x = update m t x.link x.status

  abbrev place : ℕ → ℕ → List Subscription
  place l i = keep (λ x. both (is_of l i x) (is_time t x)) m.subscriptions

  abbrev its_record : ℕ → ℕ → Entry
  its_record l i = status_record (get_or left l closed_link) (status_at s i) (owner_of s l) i t

  abbrev entries : ℕ → ℕ → List Entry
  entries l i = map (unnumbered s.site) (map given (place l i))

  placed : (l i : ℕ) → i < 32 → record_at s.site s.subscriptions s.statuses left t (l * 32 + i) ≡ entry_if (tick_of (subscription_at s (l * 32 + i)) t).issues (its_record l i)
  placed l i b =
      let d : (l * 32 + i) / 32 ≡ l = omega arith in
      let r : (l * 32 + i) % 32 ≡ i = omega arith in
      rw (d, r) refl

  of_place : (l : ℕ) → l < 4 → (i : ℕ) → i < 32 → record_at s.site s.subscriptions s.statuses left t (l * 32 + i) ≡ entries l i
  of_place l lb i ib =
      placed l i ib
      ∙ at_place s m h l i lb ib (is_time t) given (λ (k : Slot). entry_if (tick_of k t).issues (its_record l i))
      (ap (λ (k : Ticked). entry_if k.issues (its_record l i)) (no_tick t))
      (λ x e a. ap (λ (k : Ticked). entry_if k.issues (its_record l i)) (ticks t x) ∙ by x e (h.within x a) (is_time t x))
    where
      by : (x : Subscription) → is_of l i x ≡ true → Within m x → (b : Bool)
          → entry_if b (its_record l i) ≡ map (unnumbered s.site) (map given (pick b (x ∷ []) []))
      by x e w false = refl
      by x e w true =
          rw (its_link l i x e, its_status l i x e)
          (ap (λ (r : Entry). r ∷ []) (same_record s m h (get_or left l closed_link) l i t (up l) (subst (λ (n : ℕ). n < length m.statuses) (its_status l i x e) w.status)))

  abbrev rows : ℕ → ℕ → List Entry
  rows n l = flat (entries l) (up_to n)

  few_statuses : length m.statuses ≤ 32
  few_statuses = omega (arith, h.status_count, h.setup.allowed.most_statuses)

  no_entries : (l i : ℕ) → (m.setup.links ≤ l) ⊎ (length m.statuses ≤ i) → entries l i ≡ []
  no_entries l i b = ap (λ (xs : List Subscription). map (unnumbered s.site) (map given xs)) (no_place s m h l i b (is_time t))

  -- as far as the statuses of the table, and the configured links
  short_row : (l : ℕ) → rows 32 l ≡ rows (length m.statuses) l
  short_row l =
      let e : length m.statuses + (32 - length m.statuses) ≡ 32 = omega (arith, few_statuses) in
      subst (λ (n : ℕ). flat (entries l) (up_to n) ≡ rows (length m.statuses) l) e
      (flat_beyond (entries l) (length m.statuses) (32 - length m.statuses) (λ i a b. no_entries l i (inr a)))

  few_rows : flat (rows (length m.statuses)) (up_to 4) ≡ flat (rows (length m.statuses)) (up_to m.setup.links)
  few_rows =
      let e : m.setup.links + (4 - m.setup.links) ≡ 4 = omega (arith, h.setup.few) in
      subst (λ (n : ℕ). flat (rows (length m.statuses)) (up_to n) ≡ flat (rows (length m.statuses)) (up_to m.setup.links)) e
      (flat_beyond (rows (length m.statuses)) m.setup.links (4 - m.setup.links)
      (λ l a b. flat_none (entries l) (length m.statuses) (λ i c. no_entries l i (inl a))))

  machines : flat (rows (length m.statuses)) (up_to m.setup.links) ≡ map (unnumbered s.site) (map given (upwards m (is_time t)))
  machines =
      flat_same (rows (length m.statuses)) (λ l. map (unnumbered s.site) (map given (flat (place l) (up_to (length m.statuses))))) m.setup.links
      (λ l b. sym (ap (map (unnumbered s.site)) (map_flat given (place l) (up_to (length m.statuses))) ∙ map_flat (unnumbered s.site) (λ i. map given (place l i)) (up_to (length m.statuses))))
      ∙ sym (ap (map (unnumbered s.site)) (map_flat given (λ l. flat (place l) (up_to (length m.statuses))) (up_to m.setup.links))
      ∙ map_flat (unnumbered s.site) (λ l. map given (flat (place l) (up_to (length m.statuses)))) (up_to m.setup.links))

  all_records : records_of s.site s.subscriptions s.statuses left t ≡ map (unnumbered s.site) (map given (upwards m (is_time t)))
  all_records =
      sym (all_places s.site s.subscriptions s.statuses left t (4 * 32) refl)
      ∙ entries_rows (record_at s.site s.subscriptions s.statuses left t) 4
      ∙ flat_same (λ l. flat (λ i. record_at s.site s.subscriptions s.statuses left t (l * 32 + i)) (up_to 32)) (rows 32) 4
      (λ l b. flat_same (λ i. record_at s.site s.subscriptions s.statuses left t (l * 32 + i)) (entries l) 32 (of_place l b))
      ∙ flat_same (rows 32) (rows (length m.statuses)) 4 (λ l b. short_row l)
      ∙ few_rows
      ∙ machines

  pub same_tick : SameEffect (issues (with_slots s (map (renewed t) s.subscriptions)) (records_of s.site s.subscriptions s.statuses left t)) (intervals t m)
  unfolding intervals
  same_tick =
      record {
        items = made_anew;
        records = record {
          issued = all_records;
          told = each_of given (λ x. value_told x.status (value_at m x.status) (h.values x.status) (not (is_up (life_at m x.link))) t) (upwards m (is_time t));
        };
      }
