-- Subscriptions: a new one, the end of one, a tick; and what each place issues.
-- Assumes nothing.
use Rattle.basis.proofs.Std.{ℕ, ◌+◌, ◌*◌, ◌≤◌, ◌<◌, ◌≡◌, refl, sym, ap, ◌∙◌, Bool, true, false, not, List, [], ◌∷◌, ◌++◌, map, Option, some, none, ◌⊎◌, inl, inr, arith, eqb, ℤ, length, get_or, length-set, get_or-set_same, get_or-set_other, eqb-true, eq-eqb, pick, both, count, Among, bool_cases, eq_or_ne, not_both, both_first, both_second}
use Rattle.number.specs.Signed.{Signed32}
use Rattle.entry.specs.declared.Entry.{Entry}
use Rattle.link.specs.declared.Link.{Link}
use Rattle.link.specs.Phase.{phase_of, is_up as up_in}
use Rattle.status.specs.declared.Status.{Status}
use Rattle.status.specs.Issued.{issued_of}
use Rattle.subscription.specs.declared.Subscription.{Subscription as Slot}
use Rattle.subscription.specs.Subscription.{none as no_subscription, subscribed}
use Rattle.site.specs.declared.Site.{Site}
use Rattle.site.specs.Site.{link_at, owner_of, with_subscriptions as with_slots}
use Rattle.site.specs.Parts.{status_at, subscription_at, with_subscription}
use Rattle.site.specs.Records.{status_record}
use Rattle.machine.specs.Words.{maybe, keep, first_that}
use Rattle.machine.specs.State.{Subscription, Issued, Machine, with_subscriptions, life_at, value_at}
use Rattle.machine.specs.State.Content.{of_status}
use Rattle.machine.specs.Readings.{entry_for}
use Rattle.machine.specs.Life.{is_up}
use Rattle.machine.specs.Items.{is_of, update, without}
use Rattle.demand_held.proofs.Lists.{count_last, count_keep, bit_true, bit_false}
use Rattle.demand_held.proofs.Lists.Each.{no_more, one_more}
use Rattle.refine_parts.specs.Record.{unnumbered, IsTold}
use Rattle.refine_parts.proofs.Entries.{contents}
use Rattle.refine_parts.specs.Items.{status_for, slot_for, Within, SameItems}
use Rattle.refine_parts.specs.ItemActs.{SameSubscribing}
use Rattle.refine_parts.proofs.Setup.{moved}
use Rattle.refine_parts.proofs.ItemLists.{first_passes, first_among, first_last, first_left, first_out, count_out, keep_among, last_among, keep_first}

-- whose a subscription is
pub its_link : (l i : ℕ) (x : Subscription) → is_of l i x ≡ true → x.link ≡ l
its_link l i x e = eqb-true x.link l (both_first (eqb x.link l) (eqb x.status i) e)

pub its_status : (l i : ℕ) (x : Subscription) → is_of l i x ≡ true → x.status ≡ i
its_status l i x e = eqb-true x.status i (both_second (eqb x.link l) (eqb x.status i) e)

is_own : (x : Subscription) → is_of x.link x.status x ≡ true
is_own x = rw (eq-eqb x.link x.link refl, eq-eqb x.status x.status refl)

-- two subscriptions of different links or statuses
others_not : (l i k j : ℕ) → ((k ≡ l) × (j ≡ i) → ⊥) → (x : Subscription) → is_of k j x ≡ true → is_of l i x ≡ false
others_not l i k j n x e =
    bool_cases (is_of l i x)
    (λ t. absurd (n (sym (its_link k j x e) ∙ its_link l i x t, sym (its_status k j x e) ∙ its_status l i x t)))
    (λ t. t)

status_record_lem : (o : Option ℤ) (l i t : ℕ) (old : Bool) → issued_of (status_for o) l i t old ≡ entry_for l 0 (of_status i o old t)
status_record_lem none l i t old = refl
status_record_lem (some v) l i t old = refl

pub value_told : (i : ℕ) (o : Option ℤ) → ((v : ℤ) → o ≡ some v → Signed32 v) → (old : Bool) (t : ℕ) → IsTold (of_status i o old t)
value_told i none f old t = contents.no_value_lem i old t
value_told i (some v) f old t = contents.value i v old t (f v refl)

module _ (s : Site) (m : Machine) (h : SameItems s m) where
  few_statuses : length m.statuses ≤ 32
  few_statuses = omega (arith, h.status_count, h.setup.allowed.most_statuses)

  -- the record of a status for link l, which k is
  pub same_record : (k : Link) (l i t : ℕ) → up_in (phase_of k) ≡ is_up (life_at m l) → i < length m.statuses
      → status_record k (status_at s i) (owner_of s l) i t ≡ unnumbered s.site (update m t l i)
  same_record k l i t up b =
      ap (λ (x : Status). status_record k x (owner_of s l) i t) (h.statuses i b)
      ∙ ap (λ (u : Bool). issued_of (status_for (value_at m i)) (owner_of s l) i t (not u)) up
      ∙ status_record_lem (value_at m i) (owner_of s l) i t (not (is_up (life_at m l)))

  -- the items with other subscriptions in both
  pub with_subscriptions_lem : (xs : List Slot) (subs : List Subscription)
      → ((l i : ℕ) → l < 4 → i < 32 → get_or xs (l * 32 + i) no_subscription ≡ slot_for (first_that (is_of l i) subs))
      → ((l i : ℕ) → count (is_of l i) subs ≤ 1) → ((x : Subscription) → Among x subs → Within m x) → length xs ≡ 128
      → SameItems (with_slots s xs) (with_subscriptions subs m)
  with_subscriptions_lem xs subs f o w n =
      record {
        setup = moved h.setup;
        alarms = h.alarms;
        alarm_count = h.alarm_count;
        alarm_places = h.alarm_places;
        statuses = h.statuses;
        values = h.values;
        status_count = h.status_count;
        status_places = h.status_places;
        aggregated = h.aggregated;
        byte = h.byte;
        subscriptions = f;
        one_each = o;
        within = λ x e. record { link = (w x e).link; status = (w x e).status };
        subscription_places = n;
      }

  -- ---- of link l to status i
  module _ (l i : ℕ) (lb : l < m.setup.links) (ib : i < length m.statuses) where
    its_place : l * 32 + i < length s.subscriptions
    its_place = omega (arith, h.subscription_places, h.setup.few, few_statuses, lb, ib)

    other_place : (k j : ℕ) → j < 32 → ((k ≡ l) × (j ≡ i) → ⊥) → k * 32 + j ≡ l * 32 + i → ⊥
    other_place k j jb n e =
        let is : i < 32 = omega (arith, few_statuses, ib) in
        let a : k ≡ l = omega (arith, e, jb, is) in
        n (a, omega (arith, e, a))

    -- the place as it is made, the others as they were
    placed : (x : Slot) (subs : List Subscription) → x ≡ slot_for (first_that (is_of l i) subs)
        → ((k j : ℕ) → ((k ≡ l) × (j ≡ i) → ⊥) → first_that (is_of k j) subs ≡ first_that (is_of k j) m.subscriptions)
        → (k j : ℕ) → k < 4 → j < 32 → subscription_at (with_subscription s (l * 32 + i) x) (k * 32 + j) ≡ slot_for (first_that (is_of k j) subs)
    placed x subs here there k j kb jb = by (eq_or_ne k l) (eq_or_ne j i)
      where
        at : (k ≡ l) × (j ≡ i) → subscription_at (with_subscription s (l * 32 + i) x) (k * 32 + j) ≡ slot_for (first_that (is_of k j) subs)
        at e = rw (e.0, e.1) (get_or-set_same s.subscriptions (l * 32 + i) x no_subscription its_place ∙ here)

        off : ((k ≡ l) × (j ≡ i) → ⊥) → subscription_at (with_subscription s (l * 32 + i) x) (k * 32 + j) ≡ slot_for (first_that (is_of k j) subs)
        off n =
            get_or-set_other s.subscriptions (l * 32 + i) (k * 32 + j) x no_subscription (other_place k j jb n)
            ∙ h.subscriptions k j kb jb ∙ sym (ap slot_for (there k j n))

        by : (k ≡ l) ⊎ (k ≡ l → ⊥) → (j ≡ i) ⊎ (j ≡ i → ⊥) → subscription_at (with_subscription s (l * 32 + i) x) (k * 32 + j) ≡ slot_for (first_that (is_of k j) subs)
        by (inl a) (inl b) = at (a, b)
        by (inl a) (inr b) = off (λ e. b e.1)
        by (inr a) b = off (λ e. a e.0)

    abbrev left : List Subscription
    left = without l i m.subscriptions

    left_first : (k j : ℕ) → ((k ≡ l) × (j ≡ i) → ⊥) → first_that (is_of k j) left ≡ first_that (is_of k j) m.subscriptions
    left_first k j n = first_left (is_of k j) (is_of l i) (others_not l i k j n) m.subscriptions

    left_few : (k j : ℕ) → count (is_of k j) left ≤ 1
    left_few k j = omega (arith, count_keep (λ x. not (is_of l i x)) (is_of k j) m.subscriptions, h.one_each k j)

    ends : SameItems (with_subscription s (l * 32 + i) no_subscription) (with_subscriptions left m)
    ends =
        with_subscriptions_lem (with_subscription s (l * 32 + i) no_subscription).subscriptions left
        (placed no_subscription left (sym (ap slot_for (first_out (is_of l i) m.subscriptions))) left_first)
        left_few
        (λ x e. h.within x (keep_among (λ x. not (is_of l i x)) m.subscriptions e))
        (length-set s.subscriptions (l * 32 + i) no_subscription ∙ h.subscription_places)

    module _ (interval : ℕ) (on_change : Bool) (t : ℕ) where
      abbrev new : Subscription
      new = record { link = l; status = i; interval = interval; on_change = on_change; since = t }

      new_first : first_that (is_of l i) (left ++ (new ∷ [])) ≡ some new
      new_first = first_last (is_of l i) left new ∙ rw (first_out (is_of l i) m.subscriptions, is_own new)

      other_first : (k j : ℕ) → ((k ≡ l) × (j ≡ i) → ⊥) → first_that (is_of k j) (left ++ (new ∷ [])) ≡ first_that (is_of k j) m.subscriptions
      other_first k j n =
          first_last (is_of k j) left new
          ∙ rw (not_own, left_first k j n) (same (first_that (is_of k j) m.subscriptions))
        where
          not_own : is_of k j new ≡ false
          not_own = bool_cases (is_of k j new) (λ e. not_both (is_own new) (others_not l i k j n new e)) (λ e. e)

          same : (o : Option Subscription) → maybe none some o ≡ o
          same none = refl
          same (some x) = refl

      new_few : (k j : ℕ) → count (is_of k j) (left ++ (new ∷ [])) ≤ 1
      new_few k j =
          bool_cases (is_of k j new)
          (λ e. omega (arith, count_last (is_of k j) left new, bit_true (is_of k j new) e, none_left e))
          (λ e. omega (arith, count_last (is_of k j) left new, bit_false (is_of k j new) e, left_few k j))
        where
          none_left : is_of k j new ≡ true → count (is_of k j) left ≡ 0
          none_left e = rw (sym (its_link k j new e), sym (its_status k j new e)) (count_out (is_of l i) m.subscriptions)

      subscribes : SameItems (with_subscription s (l * 32 + i) (subscribed interval on_change t)) (with_subscriptions (left ++ (new ∷ [])) m)
      subscribes =
          with_subscriptions_lem (with_subscription s (l * 32 + i) (subscribed interval on_change t)).subscriptions (left ++ (new ∷ []))
          (placed (subscribed interval on_change t) (left ++ (new ∷ [])) (sym (ap slot_for new_first)) other_first)
          new_few
          (last_among (Within m) left new (λ x e. h.within x (keep_among (λ x. not (is_of l i x)) m.subscriptions e)) (record { link = lb; status = ib }))
          (length-set s.subscriptions (l * 32 + i) (subscribed interval on_change t) ∙ h.subscription_places)

    pub same_subscribing : SameSubscribing s m l i
    same_subscribing =
        record {
          subscribe = subscribes;
          at_once = λ t up. record {
            issued = ap (λ (r : Entry). r ∷ []) (same_record (link_at s l) l i t (up l) ib);
            told = one_more (value_told i (value_at m i) (h.values i) (not (is_up (life_at m l))) t) no_more;
          };
          end = ends;
        }

  -- ---- the records of a place: e says them by its subscription, g by the machine's, where it passes f
  pub at_place : (l i : ℕ) → l < 4 → i < 32 → (f : Subscription → Bool) (g : Subscription → Issued) (e : Slot → List Entry) → e no_subscription ≡ []
      → ((x : Subscription) → is_of l i x ≡ true → Among x m.subscriptions → e (slot_for (some x)) ≡ map (unnumbered s.site) (map g (pick (f x) (x ∷ []) [])))
      → e (subscription_at s (l * 32 + i)) ≡ map (unnumbered s.site) (map g (keep (λ x. both (is_of l i x) (f x)) m.subscriptions))
  at_place l i lb ib f g e z r =
      ap e (h.subscriptions l i lb ib)
      ∙ by (first_that (is_of l i) m.subscriptions) refl
      ∙ sym (ap (λ (xs : List Subscription). map (unnumbered s.site) (map g xs)) (keep_first (is_of l i) f m.subscriptions (h.one_each l i)))
    where
      by : (o : Option Subscription) → first_that (is_of l i) m.subscriptions ≡ o
          → e (slot_for o) ≡ map (unnumbered s.site) (map g (maybe [] (λ x. pick (f x) (x ∷ []) []) o))
      by none q = z
      by (some x) q = r x (first_passes (is_of l i) m.subscriptions x q) (first_among (is_of l i) m.subscriptions x q)

  -- no subscription beyond the configured links and the statuses of the table
  pub no_place : (l i : ℕ) → (m.setup.links ≤ l) ⊎ (length m.statuses ≤ i) → (f : Subscription → Bool) → keep (λ x. both (is_of l i x) (f x)) m.subscriptions ≡ []
  no_place l i b f =
      keep_first (is_of l i) f m.subscriptions (h.one_each l i)
      ∙ ap (maybe [] (λ x. pick (f x) (x ∷ []) [])) (by (first_that (is_of l i) m.subscriptions) refl)
    where
      by : (o : Option Subscription) → first_that (is_of l i) m.subscriptions ≡ o → first_that (is_of l i) m.subscriptions ≡ none
      by none q = q
      by (some x) q = absurd (go b)
        where
          w : Within m x
          w = h.within x (first_among (is_of l i) m.subscriptions x q)

          go : (m.setup.links ≤ l) ⊎ (length m.statuses ≤ i) → ⊥
          go (inl a) = absurd (omega (arith, a, w.link, its_link l i x (first_passes (is_of l i) m.subscriptions x q)))
          go (inr a) = absurd (omega (arith, a, w.status, its_status l i x (first_passes (is_of l i) m.subscriptions x q)))
