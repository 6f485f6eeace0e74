-- A sound site with something else in one part, and at a later time.
-- Assumes nothing.
use Rattle.basis.proofs.Std.{ℕ, zero, suc, ◌≤◌, ◌≡◌, ◌∙◌, List, [], ◌∷◌, arith, length, get_or, set, replicate, length-set}
use Rattle.answer.specs.Times.{last_time}
use Rattle.pool.specs.declared.Pool.{Pool}
use Rattle.pool.specs.Pool.{unmark_of}
use Rattle.link.specs.declared.Link.{Link}
use Rattle.link.specs.Fields.{closed_link}
use Rattle.alarm.specs.declared.Alarm.{Alarm}
use Rattle.alarm.specs.Alarm.{beginning}
use Rattle.status.specs.declared.Status.{Status}
use Rattle.status.specs.Status.{unknown}
use Rattle.subscription.specs.declared.Subscription.{Subscription}
use Rattle.aggregated.specs.declared.Aggregated.{Aggregated}
use Rattle.site.specs.declared.Site.{Site}
use Rattle.site.specs.Site.{with_pool, with_links, with_subscriptions, with_aggregated, with_link, owner_of, close_at}
use Rattle.site.specs.Parts.{with_alarm, with_status}
use Rattle.call_laws.specs.Sound.{SoundAlarm, SoundStatus, SoundAggregated, SoundSubscriptions, EachHeld, HeldOf, SoundAt}
use Rattle.call_laws.proofs.Held.{held_unmark, held_so}
use Rattle.call_laws.proofs.SoundEntries.{later_entry}

-- what holds of each element holds of each after a store of one of which it holds
pub each_set : {A : Type 0} (P : A → Type 0) (d : A) (xs : List A) (i : ℕ) (x : A) → P x → ((k : ℕ) → P (get_or xs k d)) → (k : ℕ) → P (get_or (set xs i x) k d)
each_set P d [] i x p h k = h k
each_set P d (y ∷ xs) zero x p h zero = p
each_set P d (y ∷ xs) zero x p h (suc k) = h (suc k)
each_set P d (y ∷ xs) (suc i) x p h zero = h zero
each_set P d (y ∷ xs) (suc i) x p h (suc k) = each_set P d xs i x p (λ j. h (suc j)) k

-- what holds of x and of what is read past the end holds of all that repeats x
pub each_replicate : {A : Type 0} (P : A → Type 0) (d x : A) → P d → P x → (n k : ℕ) → P (get_or (replicate n x) k d)
each_replicate P d x p q zero k = p
each_replicate P d x p q (suc n) zero = q
each_replicate P d x p q (suc n) (suc k) = each_replicate P d x p q n k

later_alarm : (now then : ℕ) → now ≤ then → (a : Alarm) → SoundAlarm now a → SoundAlarm then a
later_alarm now then h a s =
    let before : a.time ≤ now = s.time in
    record { acknowledged = s.acknowledged; active = s.active; suspended = s.suspended; event = s.event; time = omega (arith, before, h) }

module _ (now : ℕ) (s : Site) (h : SoundAt now s) where
  -- sound now, it is sound at a later time
  pub later : (then : ℕ) → now ≤ then → then ≤ last_time → SoundAt then s
  later then g m =
      let before : s.aggregated.time ≤ now = h.aggregated.time in
      record {
        site = h.site;
        start = h.start;
        last = m;
        next = h.next;
        links = h.links;
        subscriptions = h.subscriptions;
        alarms = record { many = h.alarms.many; each = λ k. later_alarm now then g _ (h.alarms.each k) };
        statuses = h.statuses;
        aggregated = record { value = h.aggregated.value; time = omega (arith, before, g) };
        held = held_so (HeldOf s now) (HeldOf s then) (λ e f o. later_entry s.site s.linkcount s.primary s.table now then g e (f o)) s.pool.places h.held;
      }

  pub with_pool_lem : (p : Pool) → EachHeld (HeldOf s now) p.places → SoundAt now (with_pool s p)
  with_pool_lem p g =
      record {
        site = h.site;
        start = h.start;
        last = h.last;
        next = h.next;
        links = h.links;
        subscriptions = h.subscriptions;
        alarms = h.alarms;
        statuses = h.statuses;
        aggregated = h.aggregated;
        held = g;
      }

  pub with_links_lem : (ls : List Link) → length ls ≡ 4 → SoundAt now (with_links s ls)
  with_links_lem ls g =
      record {
        site = h.site;
        start = h.start;
        last = h.last;
        next = h.next;
        links = g;
        subscriptions = h.subscriptions;
        alarms = h.alarms;
        statuses = h.statuses;
        aggregated = h.aggregated;
        held = h.held;
      }

  pub with_link_lem : (l : ℕ) (k : Link) → SoundAt now (with_link s l k)
  with_link_lem l k = with_links_lem (set s.links l k) (length-set s.links l k ∙ h.links)

  pub with_subscriptions_lem : (xs : List Subscription) → SoundSubscriptions s.linkcount s.table.statuscount xs → SoundAt now (with_subscriptions s xs)
  with_subscriptions_lem xs g =
      record {
        site = h.site;
        start = h.start;
        last = h.last;
        next = h.next;
        links = h.links;
        subscriptions = g;
        alarms = h.alarms;
        statuses = h.statuses;
        aggregated = h.aggregated;
        held = h.held;
      }

  pub with_alarm_lem : (k : ℕ) (a : Alarm) → SoundAlarm now a → SoundAt now (with_alarm s k a)
  with_alarm_lem k a g =
      record {
        site = h.site;
        start = h.start;
        last = h.last;
        next = h.next;
        links = h.links;
        subscriptions = h.subscriptions;
        alarms = record {
          many = length-set s.alarms k a ∙ h.alarms.many;
          each = each_set (SoundAlarm now) (beginning 0) s.alarms k a g h.alarms.each;
        };
        statuses = h.statuses;
        aggregated = h.aggregated;
        held = h.held;
      }

  pub with_status_lem : (k : ℕ) (x : Status) → SoundStatus x → SoundAt now (with_status s k x)
  with_status_lem k x g =
      record {
        site = h.site;
        start = h.start;
        last = h.last;
        next = h.next;
        links = h.links;
        subscriptions = h.subscriptions;
        alarms = h.alarms;
        statuses = record {
          many = length-set s.statuses k x ∙ h.statuses.many;
          each = each_set SoundStatus unknown s.statuses k x g h.statuses.each;
        };
        aggregated = h.aggregated;
        held = h.held;
      }

  pub with_aggregated_lem : (a : Aggregated) → SoundAggregated now a → SoundAt now (with_aggregated s a)
  with_aggregated_lem a g =
      record {
        site = h.site;
        start = h.start;
        last = h.last;
        next = h.next;
        links = h.links;
        subscriptions = h.subscriptions;
        alarms = h.alarms;
        statuses = h.statuses;
        aggregated = g;
        held = h.held;
      }

pub close : (now : ℕ) (s : Site) (l : ℕ) → SoundAt now s → SoundAt now (close_at s l)
close now s l h =
    with_pool_lem now (with_link s l closed_link) (with_link_lem now s h l closed_link) (unmark_of s.pool (owner_of s l)) (held_unmark (HeldOf s now) s.pool (owner_of s l) h.held)
