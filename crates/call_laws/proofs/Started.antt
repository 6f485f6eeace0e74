-- A site that start made is sound.
-- Assumes nothing.
use Rattle.basis.proofs.Std.{ℕ, zero, suc, ◌+◌, ◌*◌, ◌/◌, ◌%◌, ◌≤◌, ◌<◌, ◌≡◌, refl, ap, ◌⊎◌, inl, inr, arith, lit<, lit≤, eqb, length-replicate, lt-ltb, eq-eqb, ne_eqb, eqb-true, picked}
use Rattle.answer.specs.declared.Answer.{Answer}
use Rattle.answer.specs.declared.Answer.TheVariants.{Done, Refused}
use Rattle.entry.specs.declared.Entry.{Entry}
use Rattle.pool.specs.declared.Pool.{Pool}
use Rattle.pool.specs.Pool.{empty_of}
use Rattle.alarm.specs.Alarm.{beginning}
use Rattle.status.specs.Status.{unknown}
use Rattle.link.specs.Fields.{closed_link}
use Rattle.subscription.specs.declared.Subscription.{Subscription}
use Rattle.subscription.specs.Subscription.{none}
use Rattle.table_whole.specs.Table.{Table}
use Rattle.table_whole.specs.Allowed.{Allowed}
use Rattle.table_whole.specs.Memory.{memory_of}
use Rattle.call_start.specs.Fresh.{alone, site_for, cleared_for, pool_for, fresh, primary_of}
use Rattle.call_start.specs.Starts.{Within}
use Rattle.call_start.specs.Starts.Starts.{starts, refuses}
use Rattle.call_laws.specs.Sound.{EachHeld, SoundAlarm, SoundStatus, HeldOf, Sound}
use Rattle.call_laws.specs.SoundPlans.{Started}
use Rattle.call_laws.proofs.Held.{held_empty, held_clear, held_all}
use Rattle.call_laws.proofs.Parts.{each_replicate}

first_alarm : (now time : ℕ) → time ≤ now → SoundAlarm now (beginning time)
first_alarm now time h = record { acknowledged = lit≤ tt; active = lit≤ tt; suspended = lit≤ tt; event = lit≤ tt; time = h }

no_value_lem : SoundStatus unknown
no_value_lem = record { known = lit≤ tt; value = lit< tt }

primary_kept : (links primary : ℕ) → links ≤ 4 → (primary < links) ⊎ (primary ≡ 4294967295) → (primary_of primary < links) ⊎ (primary_of primary ≡ 65535)
primary_kept links primary m (inl h) = rw (lt-ltb primary 4 (omega (arith, h, m))) (inl h)
primary_kept links primary m (inr h) = rw h (inr refl)

a_site : (site : ℕ) → (site < 2) ⊎ (site ≡ alone) → site_for site < 2
a_site site (inl h) = rw (ne_eqb site alone (omega (arith, h))) h
a_site site (inr h) = rw (eq-eqb site alone h) (lit< tt)

-- after a start none of its site's records is held, whatever the pool was
module _ (P : Entry → Type 0) (site : ℕ) (others : (e : Entry) → (e.link / 4 ≡ site_for site → ⊥) → P e) where
  held_cleared : (p : Pool) → site_for site ≡ site → EachHeld P (cleared_for site p).places
  held_cleared p z =
      held_clear P _ (4 * site + 3) (held_clear _ _ (4 * site + 2) (held_clear _ _ (4 * site + 1) (held_clear _ p (4 * site)
      (held_all _ (λ e a b c d. others e (λ g. go e g a b c d)) p.places))))
    where
      go : (e : Entry) → e.link / 4 ≡ site_for site → (e.link ≡ 4 * site → ⊥) → (e.link ≡ 4 * site + 1 → ⊥) → (e.link ≡ 4 * site + 2 → ⊥) → (e.link ≡ 4 * site + 3 → ⊥) → ⊥
      go e g a b c d = by (e.link % 4) refl
        where
          by : (k : ℕ) → e.link % 4 ≡ k → ⊥
          by zero m = a (omega (arith, g, z, m))
          by (suc zero) m = b (omega (arith, g, z, m))
          by (suc (suc zero)) m = c (omega (arith, g, z, m))
          by (suc (suc (suc zero))) m = d (omega (arith, g, z, m))
          by (suc (suc (suc (suc k)))) m = absurd (omega (arith, m))

  pub held_begun : (p : Pool) → EachHeld P (pool_for site p).places
  unfolding pool_for
  held_begun p = picked (λ (q : Pool). EachHeld P q.places) (eqb site alone) (empty_of 8) (cleared_for site p) (λ e. held_empty P 8) (λ e. held_cleared p (rw e refl))

module _ (edition : ℕ) (t : Table) (a : Allowed edition t) (p : Pool) (site links primary period first time : ℕ) (w : Within site links primary period first time) where
  fresh_sound : Sound (fresh (pool_for site p) (site_for site) (memory_of t) links (primary_of primary) period first time)
  unfolding fresh
  fresh_sound =
      record {
        site = a_site site w.a_site_or_alone_lem;
        start = record {
          fewest_links = w.fewest_links;
          most_links = w.most_links;
          a_link_or_none_lem = primary_kept links primary w.most_links w.a_link_or_none_lem;
          shortest_period = w.shortest_period;
          longest_period = w.longest_period;
          edition = edition;
          read = t;
          allowed = a;
          kept = refl;
        };
        last = w.latest;
        next = omega (arith, w.highest_first);
        links = length-replicate 4 closed_link;
        subscriptions = record {
          many = length-replicate 128 none;
          others = λ l k h o. each_replicate (λ (x : Subscription). x ≡ none) none none refl refl 128 (l * 32 + k);
        };
        alarms = record {
          many = length-replicate 32 (beginning time);
          each = each_replicate (SoundAlarm time) (beginning 0) (beginning time) (first_alarm time 0 (omega arith)) (first_alarm time time (omega arith)) 32;
        };
        statuses = record { many = length-replicate 32 unknown; each = each_replicate SoundStatus unknown unknown no_value_lem no_value_lem 32 };
        aggregated = record { value = lit< tt; time = omega arith };
        held = held_begun (HeldOf (fresh (pool_for site p) (site_for site) (memory_of t) links (primary_of primary) period first time) time) site (λ e o g. absurd (o (eqb-true (e.link / 4) (site_for site) g))) p;
      }

abbrev pub which : Answer → ℕ
which (Done d) = 0
which (Refused x) = 1

pub started : Started
started b p site links primary period first time r d (starts {edition = edition} {t = t} a e w) done = fresh_sound edition t a p site links primary period first time w
started b p site links primary period first time r d (refuses n) done = absurd (omega (arith, ap which done))
