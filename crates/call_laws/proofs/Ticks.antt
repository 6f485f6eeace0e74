-- The plan of tick is sound.
-- Assumes nothing.
use Rattle.basis.proofs.Std.{ℕ, zero, suc, ◌+◌, ◌*◌, ◌/◌, ◌%◌, ◌≤◌, ◌<◌, ◌≡◌, refl, sym, ◌∙◌, ap, subst, true, false, true≢false, List, map, ◌⊎◌, inl, inr, arith, get_or, length-map, get_or-map, picked, lt_or_ge}
use Rattle.subscription.specs.declared.Subscription.{Subscription}
use Rattle.subscription.specs.Subscription.{none, due_at, tick_of}
use Rattle.site.specs.declared.Site.{Site}
use Rattle.site.specs.Site.{link_at, owner_of, close_at}
use Rattle.site.specs.Parts.{status_at}
use Rattle.site.specs.Records.{status_record}
use Rattle.call_tick.specs.Closing.{late_at, close_late, closed_to}
use Rattle.call_tick.specs.Intervals.{renewed, record_at, records_of}
use Rattle.call_tick.specs.Tick.{site_after, issued_at, tick_plan}
use Rattle.call_tick.specs.Claims.{except_for}
use Rattle.call_tick.proofs.Closed.{stays}
use Rattle.call_laws.specs.Sound.{SoundSubscriptions, Each, EntryOf, SoundAt}
use Rattle.call_laws.specs.SoundPlans.{Reworked, SoundPlan}
use Rattle.call_laws.specs.SoundPlans.Reworked.{same, unmarks}
use Rattle.call_laws.proofs.SoundEntries.{each_if, each_to}
use Rattle.call_laws.proofs.Parts.{with_subscriptions_lem, close}
use Rattle.call_laws.proofs.Inputs.{status_entry_lem}

-- nothing that is not there is due, and a tick leaves it so
never_due : (time : ℕ) → (tick_of none time).issues ≡ false
unfolding tick_of due_at
never_due time = refl

renewed_at : (time : ℕ) (xs : List Subscription) (i : ℕ) → get_or xs i none ≡ none → get_or (map (renewed time) xs) i none ≡ none
unfolding tick_of due_at
renewed_at time xs i e = get_or-map (renewed time) xs i none ∙ ap (renewed time) e

renewed_sound : (time links statuses : ℕ) (xs : List Subscription) → SoundSubscriptions links statuses xs → SoundSubscriptions links statuses (map (renewed time) xs)
renewed_sound time links statuses xs h =
    record {
      many = length-map xs (renewed time) ∙ h.many;
      others = λ l k g o. renewed_at time xs (l * 32 + k) (h.others l k g o);
    }

module _ (s : Site) (time : ℕ) (h : SoundAt time s) where
  closed_sound : (n : ℕ) → SoundAt time (closed_to s time n)
  unfolding close_late
  closed_sound zero = h
  closed_sound (suc l) =
      let before = closed_sound l in
      picked (SoundAt time) (late_at (closed_to s time l) l time) (close_at (closed_to s time l) l) (closed_to s time l)
      (λ e. close time (closed_to s time l) l before) (λ e. before)

  closed_pool : (n : ℕ) → Reworked s.pool (closed_to s time n).pool
  unfolding close_late
  closed_pool zero = same
  closed_pool (suc l) =
      let before = closed_pool l in
      picked (λ (t : Site). Reworked s.pool t.pool) (late_at (closed_to s time l) l time) (close_at (closed_to s time l) l) (closed_to s time l)
      (λ e. unmarks (owner_of (closed_to s time l) l) before) (λ e. before)

  -- what start was given is as it was
  as_given : except_for s.pool s.links s.subscriptions s ≡ except_for s.pool s.links s.subscriptions (closed_to s time 4)
  as_given = sym (stays (except_for s.pool s.links s.subscriptions) (λ t l. refl) s time 4)

  site_sound : SoundAt time (site_after s time)
  unfolding site_after
  site_sound =
      with_subscriptions_lem time (closed_to s time 4) (closed_sound 4) (map (renewed time) s.subscriptions)
      (subst (λ (t : Site). SoundSubscriptions t.linkcount t.table.statuscount (map (renewed time) s.subscriptions)) as_given
      (renewed_sound time s.linkcount s.table.statuscount s.subscriptions h.subscriptions))

  -- a place whose subscription issues is of a configured link and a status of the table
  place_of : (i : ℕ) → i / 32 * 32 + i % 32 ≡ i
  place_of i = omega arith

  absent : (i : ℕ) → (s.linkcount ≤ i / 32) ⊎ (s.table.statuscount ≤ i % 32) → (tick_of (get_or s.subscriptions i none) time).issues ≡ false
  absent i o =
      let e : get_or s.subscriptions i none ≡ none =
      subst (λ (j : ℕ). get_or s.subscriptions j none ≡ none) (place_of i) (h.subscriptions.others (i / 32) (i % 32) (omega arith) o) in
      ap (λ (x : Subscription). (tick_of x time).issues) e ∙ never_due time

  configured : (i : ℕ) → (tick_of (get_or s.subscriptions i none) time).issues ≡ true → i / 32 < s.linkcount
  configured i t = by (lt_or_ge (i / 32) s.linkcount)
    where
      by : (i / 32 < s.linkcount) ⊎ (s.linkcount ≤ i / 32) → i / 32 < s.linkcount
      by (inl g) = g
      by (inr g) = absurd (true≢false (sym t ∙ absent i (inl g)))

  in_table : (i : ℕ) → (tick_of (get_or s.subscriptions i none) time).issues ≡ true → i % 32 < s.table.statuscount
  in_table i t = by (lt_or_ge (i % 32) s.table.statuscount)
    where
      by : (i % 32 < s.table.statuscount) ⊎ (s.table.statuscount ≤ i % 32) → i % 32 < s.table.statuscount
      by (inl g) = g
      by (inr g) = absurd (true≢false (sym t ∙ absent i (inr g)))

  entries_sound : Each (EntryOf s time) (issued_at s time)
  unfolding records_of
  entries_sound =
      each_to (EntryOf s time) (record_at s.site s.subscriptions s.statuses (site_after s time).links time) 128
      (λ i g. each_if (EntryOf s time) (tick_of (get_or s.subscriptions i none) time).issues (status_record (link_at (site_after s time) (i / 32)) (status_at s (i % 32)) (owner_of s (i / 32)) (i % 32) time)
      (λ t. status_entry_lem s time h (link_at (site_after s time) (i / 32)) (i / 32) (i % 32) (status_at s (i % 32)).value (status_at s (i % 32)).known (h.statuses.each (i % 32)).value (configured i t) (in_table i t)))

  pub tick_plan_lem : SoundPlan s time (tick_plan s time)
  unfolding site_after
  tick_plan_lem =
      record {
        site = site_sound;
        number = sym (ap (λ (t : Site). t.site) as_given);
        pool = closed_pool 4;
        issued = subst (λ (t : Site). Each (EntryOf t time) (issued_at s time)) as_given entries_sound;
      }
