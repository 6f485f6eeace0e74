-- What StatusSubscribe and StatusUnsubscribe come to is a sound plan.
-- Assumes nothing.
use Rattle.basis.proofs.Std.{ℕ, zero, suc, ◌+◌, ◌*◌, ◌≤◌, ◌<◌, ◌≡◌, refl, ◌∙◌, Bool, List, [], ◌⊎◌, inl, inr, arith, set, length-set, get_or-set_other, pick, picked}
use Rattle.entry.specs.declared.Entry.{Entry}
use Rattle.subscription.specs.declared.Subscription.{Subscription}
use Rattle.subscription.specs.Subscription.{none}
use Rattle.read_lists.specs.declared.StatusEntry.{StatusEntry}
use Rattle.read_lists.specs.declared.StatusFields.{StatusFields}
use Rattle.packet_lookup.specs.declared.Sought.{Sought}
use Rattle.packet_lookup.specs.declared.Sought.TheVariants.{Is, Nothing}
use Rattle.packet_lookup.specs.Sought.{component_sought, status_sought, entry_at, all_statuses}
use Rattle.site.specs.declared.Site.{Site}
use Rattle.site.specs.Site.{link_at}
use Rattle.site.specs.Parts.{status_at}
use Rattle.packet_answer.specs.declared.Question.{Question}
use Rattle.packet_answer.specs.Taken.{Taken, not_acked, unknown_status}
use Rattle.packet_subscribe.specs.Subscribing.{wanted, replaced_at, replaced, record_of, records, changed, judged, asked, subscribing_taken}
use Rattle.call_laws.specs.Sound.{SoundSubscriptions, Each, EntryOf, SoundAt}
use Rattle.call_laws.specs.SoundPlans.{Reworked, SoundPlan}
use Rattle.call_laws.specs.SoundPlans.Reworked.{same}
use Rattle.call_laws.proofs.Parts.{with_subscriptions_lem}
use Rattle.call_laws.proofs.SoundEntries.{each_append}
use Rattle.call_laws.proofs.Alarms.{few_statuses}
use Rattle.call_laws.proofs.Inputs.{status_entry_lem}
use Rattle.call_laws.proofs.Found.{Below, status_below}
use Rattle.call_laws.proofs.Taken.{not_acked_lem, by_verdict_lem}

-- a place of a configured link and a status of the table is none of the others
elsewhere : (links statuses l k m j : ℕ) → l < links → k < statuses → statuses ≤ 32 → j < 32 → (links ≤ m) ⊎ (statuses ≤ j) → m * 32 + j ≡ l * 32 + k → ⊥
elsewhere links statuses l k m j a b c d (inl h) e = omega arith
elsewhere links statuses l k m j a b c d (inr h) e = omega arith

store_sound : (links statuses : ℕ) (xs : List Subscription) → SoundSubscriptions links statuses xs → (l k : ℕ) (x : Subscription) → l < links → k < statuses → statuses ≤ 32
    → SoundSubscriptions links statuses (set xs (l * 32 + k) x)
store_sound links statuses xs h l k x a b c =
    record {
      many = length-set xs (l * 32 + k) x ∙ h.many;
      others = λ m j d o. get_or-set_other xs (l * 32 + k) (m * 32 + j) x none (elsewhere links statuses l k m j a b c d o) ∙ h.others m j d o;
    }

module _ (s : Site) (q : Question) (h : SoundAt q.time s) (configured : q.link < s.linkcount) where
  few : s.table.statuscount ≤ 32
  few = few_statuses s.linkcount s.primary s.period s.table h.start

  -- the site with other subscriptions
  record So (t : Site) : Type 0 where
    site : SoundAt q.time t
    number : t.site ≡ s.site
    pool : Reworked s.pool t.pool
    links : t.linkcount ≡ s.linkcount
    table : t.table.statuscount ≡ s.table.statuscount
    entries : (es : List Entry) → Each (EntryOf s q.time) es → Each (EntryOf t q.time) es

  replaced_at_lem : (t : Site) → So t → (x : Subscription) (k : Sought) → Below s.table.statuscount k → So (replaced_at t q.link x k)
  replaced_at_lem t h x (Is k) i =
      record {
        site = with_subscriptions_lem q.time t h.site (set t.subscriptions (q.link * 32 + k) x)
            (store_sound t.linkcount t.table.statuscount t.subscriptions h.site.subscriptions q.link k x (rw h.links configured) (rw h.table i) (rw h.table few));
        number = h.number;
        pool = h.pool;
        links = h.links;
        table = h.table;
        entries = h.entries;
      }
  replaced_at_lem t h x Nothing i = h

  replaced_sound : (subscribing : Bool) (c : ℕ) (es : List StatusEntry) (n : ℕ) → So (replaced subscribing s q.link q.time c es n)
  replaced_sound subscribing c es zero = record { site = h; number = refl; pool = same; links = refl; table = refl; entries = λ xs a. a }
  replaced_sound subscribing c es (suc n) =
      replaced_at_lem (replaced subscribing s q.link q.time c es n) (replaced_sound subscribing c es n) (wanted subscribing (entry_at es n) q.time) (status_sought s.table c (entry_at es n))
      (status_below s.linkcount s.primary s.period s.table h.start c (entry_at es n))

  record_sound : (k : Sought) → Below s.table.statuscount k → Each (EntryOf s q.time) (record_of s q.link q.time k)
  record_sound (Is k) i = (status_entry_lem s q.time h (link_at s q.link) q.link k (status_at s k).value (status_at s k).known (h.statuses.each k).value configured i, tt)
  record_sound Nothing i = tt

  records_sound : (c : ℕ) (es : List StatusEntry) (n : ℕ) → Each (EntryOf s q.time) (records s q.link q.time c es n)
  records_sound c es zero = tt
  records_sound c es (suc n) =
      each_append (EntryOf s q.time) (records s q.link q.time c es n) (record_of s q.link q.time (status_sought s.table c (entry_at es n))) (records_sound c es n)
      (record_sound (status_sought s.table c (entry_at es n)) (status_below s.linkcount s.primary s.period s.table h.start c (entry_at es n)))

  module _ (subscribing : Bool) (f : StatusFields) where
    changed_sound : (c : ℕ) → SoundPlan s q.time (changed subscribing s q f c).plan
    unfolding changed
    changed_sound c =
        let so = replaced_sound subscribing c f.entries f.count in
        record {
          site = so.site;
          number = so.number;
          pool = so.pool;
          issued = so.entries (pick subscribing (records s q.link q.time c f.entries f.count) [])
              (picked (Each (EntryOf s q.time)) subscribing (records s q.link q.time c f.entries f.count) [] (λ e. records_sound c f.entries f.count) (λ e. tt));
        }

    judged_sound : (c : ℕ) → SoundPlan s q.time (judged subscribing s q f c).plan
    unfolding judged
    judged_sound c =
        picked (λ (t : Taken). SoundPlan s q.time t.plan) (all_statuses s.table c f.entries f.count) (changed subscribing s q f c) (not_acked s q unknown_status)
        (λ e. changed_sound c) (λ e. not_acked_lem s q h unknown_status)

    asked_sound : (x : Sought) → SoundPlan s q.time (asked subscribing s q f x).plan
    asked_sound (Is c) = judged_sound c
    asked_sound Nothing = not_acked_lem s q h unknown_status

    pub subscribing_sound : SoundPlan s q.time (subscribing_taken subscribing s q f).plan
    unfolding subscribing_taken
    subscribing_sound =
        by_verdict_lem s q h f.verdict (asked subscribing s q f (component_sought s.table f.component))
        (asked_sound (component_sought s.table f.component))
