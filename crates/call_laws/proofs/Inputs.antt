-- The plans of connect, disconnect and the three inputs are sound.
-- Assumes nothing.
use Rattle.basis.proofs.Std.{ℕ, ◌+◌, ◌*◌, ◌^◌, ◌<◌, Bool, true, false, arith, ltb-true, eqb, lit<, lit≤, ℤ, both, refl, picked, both_true}
use Rattle.number.specs.Signed.{Signed32, word_of}
use Rattle.number.proofs.RoundTrip.{word_lt}
use Rattle.status.specs.Status.{holding}
use Rattle.aggregated.specs.declared.Aggregated.{Aggregated}
use Rattle.aggregated.specs.declared.Set.{Set}
use Rattle.aggregated.specs.Aggregated.{set_of}
use Rattle.aggregated.specs.Issued.{issued_of as aggregated_record}
use Rattle.alarm.specs.Issued.{issued_of as alarm_record}
use Rattle.link.specs.declared.Link.{Link}
use Rattle.link.specs.Steps.{connect_of}
use Rattle.subscription.specs.Subscription.{issues_on}
use Rattle.site.specs.declared.Site.{Site}
use Rattle.site.specs.Site.{link_at, has_primary, owner_of}
use Rattle.site.specs.Parts.{alarm_at, subscription_at}
use Rattle.site.specs.Records.{status_record}
use Rattle.call_link.specs.Connect.{connect_plan, disconnect_plan}
use Rattle.call_input.specs.Inputs.{alarm_change, alarm_plan, status_change, status_entry, status_plan, aggregated_change, aggregated_entry, aggregated_plan}
use Rattle.call_laws.specs.Sound.{SoundAggregated, EntryOf, SoundAt}
use Rattle.call_laws.specs.SoundPlans.{SoundPlan}
use Rattle.call_laws.specs.SoundPlans.Reworked.{same, unmarks}
use Rattle.call_laws.proofs.SoundEntries.{each_if, each_to, status_valid, aggregated_valid}
use Rattle.call_laws.proofs.Owners.{owner_site, owner_link, owner_few}
use Rattle.call_laws.proofs.Parts.{with_link_lem, with_alarm_lem, with_status_lem, with_aggregated_lem, close}
use Rattle.call_laws.proofs.Alarms.{input_sound, few_statuses, alarm_record_lem}

module _ (s : Site) (time : ℕ) (h : SoundAt time s) where
  pub connect_plan_lem : (l : ℕ) → SoundPlan s time (connect_plan s l)
  connect_plan_lem l = record { site = with_link_lem time s h l (connect_of (link_at s l)); number = refl; pool = same; issued = tt }

  pub disconnect_plan_lem : (l : ℕ) → SoundPlan s time (disconnect_plan s l)
  disconnect_plan_lem l = record { site = close time s l h; number = refl; pool = unmarks (owner_of s l) same; issued = tt }

  pub alarm_plan_lem : (k : ℕ) (active : Bool) → k < s.table.alarmcount → SoundPlan s time (alarm_plan s k active time)
  alarm_plan_lem k active i =
      let c = alarm_change s k active time in
      let a = input_sound time (alarm_at s k) (h.alarms.each k) active in
      record {
        site = with_alarm_lem time s h k c.alarm a;
        number = refl;
        pool = same;
        issued =
            each_if (EntryOf s time) (both c.records (has_primary s)) (alarm_record c.alarm (owner_of s s.primary) k)
            (λ t. alarm_record_lem s.linkcount s.primary s.period s.table h.start s.site h.site time h.last c.alarm a k
            (ltb-true s.primary s.linkcount (both_true c.records (has_primary s) t).1) i);
      }

  pub status_entry_lem : (n : Link) (l k value known : ℕ) → value < 2 ^ 32 → l < s.linkcount → k < s.table.statuscount
      → EntryOf s time (status_record n (record { value = value; known = known }) (owner_of s l) k time)
  status_entry_lem n l k value known v g i =
      let few = few_statuses s.linkcount s.primary s.period s.table h.start in
      let four = h.start.most_links in
      record {
        valid = status_valid (record { value = value; known = known }) (owner_of s l) k time _ v (owner_few s.site l h.site (omega (arith, g, four))) (omega (arith, i, few)) h.last;
        of_site = owner_site s.site l (omega (arith, g, four));
        link = rw (owner_link s.site l (omega (arith, g, four))) g;
        item = i;
        time = omega arith;
        for_primary = λ e. absurd (omega (arith, e));
      }

  pub status_plan_lem : (k : ℕ) (value : ℤ) → Signed32 value → k < s.table.statuscount → SoundPlan s time (status_plan s k value time)
  status_plan_lem k value v i =
      let x = status_change s k value in
      record {
        site = with_status_lem time s h k (holding (word_of value)) (record { known = lit≤ tt; value = word_lt value v });
        number = refl;
        pool = same;
        issued = each_to (EntryOf s time) (status_entry s k x time) s.linkcount
            (λ l g. each_if (EntryOf s time) (issues_on (subscription_at s (l * 32 + k)) x.changed) (status_record (link_at s l) x.status (owner_of s l) k time)
            (λ t. status_entry_lem (link_at s l) l k (word_of value) 1 (word_lt value v) g i));
      }

  set_sound : (value : ℕ) → value < 256 → SoundAggregated time (set_of s.aggregated value time).aggregated
  unfolding set_of
  set_sound value v =
      picked (λ (x : Set). SoundAggregated time x.aggregated) (eqb s.aggregated.value value)
      (record { aggregated = s.aggregated; changed = false })
      (record { aggregated = record { time = time; value = value }; changed = true })
      (λ e. h.aggregated) (λ e. record { value = v; time = omega arith })

  aggregated_entry_lem : (a : Aggregated) → SoundAggregated time a → (l : ℕ) → l < s.linkcount → EntryOf s time (aggregated_record a (owner_of s l))
  aggregated_entry_lem a g l i =
      let four = h.start.most_links in
      let before = g.time in
      let end = h.last in
      record {
        valid = aggregated_valid a (owner_of s l) (owner_few s.site l h.site (omega (arith, i, four))) (omega (arith, before, end));
        of_site = owner_site s.site l (omega (arith, i, four));
        link = rw (owner_link s.site l (omega (arith, i, four))) i;
        item = lit< tt;
        time = g.time;
        for_primary = λ e. absurd (omega (arith, e));
      }

  pub aggregated_plan_lem : (value : ℕ) → value < 256 → SoundPlan s time (aggregated_plan s value time)
  aggregated_plan_lem value v =
      let x = aggregated_change s value time in
      record {
        site = with_aggregated_lem time s h x.aggregated (set_sound value v);
        number = refl;
        pool = same;
        issued = each_to (EntryOf s time) (aggregated_entry s x) s.linkcount
            (λ l g. each_if (EntryOf s time) x.changed (aggregated_record x.aggregated (owner_of s l)) (λ t. aggregated_entry_lem x.aggregated (set_sound value v) l g));
      }
