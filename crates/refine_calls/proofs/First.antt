-- The site that start makes is the machine that begins.
-- Assumes nothing.
use Rattle.basis.proofs.Std.{ℕ, zero, suc, ◌+◌, ◌*◌, ◌<◌, ◌≡◌, refl, sym, ap, ◌∙◌, true, false, List, [], ◌∷◌, map, Option, none, arith, ℤ, length, get_or, replicate, length-replicate, get_or-replicate, get_or-map}
use Rattle.pool.specs.declared.Pool.{Pool}
use Rattle.alarm.specs.Alarm.{beginning}
use Rattle.status.specs.Status.{unknown}
use Rattle.subscription.specs.Subscription.{none as no_subscription}
use Rattle.link.specs.Fields.{closed_link}
use Rattle.table_whole.specs.Table.{Row, no_row, Table}
use Rattle.table_whole.specs.Allowed.{Allowed}
use Rattle.table_whole.specs.Memory.{memory_of}
use Rattle.call_start.specs.Fresh.{fresh as fresh_site, primary_of}
use Rattle.call_start.specs.Starts.{Within}
use Rattle.machine.specs.Words.{maybe}
use Rattle.machine.specs.State.{Alarm, alarm_of, fresh, Pool as Listed}
use Rattle.machine.specs.State.Event.{Issue}
use Rattle.machine.specs.Table.{first}
use Rattle.machine.specs.Box.{with_pool}
use Rattle.demand_held.proofs.Lists.{length-map}
use Rattle.refine_parts.specs.Same.{Beside, SamePool}
use Rattle.refine_parts.specs.Life.{SameLife}
use Rattle.refine_parts.proofs.LifeLists.{among_none}
use Rattle.refine_parts.proofs.LifeActs.{no_life}
use Rattle.refine_parts.specs.Items.{alarm_for, status_for, SameItems}
use Rattle.refine_calls.specs.Abstracts.{Abstracts}
use Rattle.refine_calls.specs.Start.{start_for}
use Rattle.refine_calls.proofs.Values.{primary_kept, its_link}

-- a list of one value
all_alike : {A : Type 0} (n i : ℕ) (a : A) → get_or (replicate n a) i a ≡ a
all_alike zero i a = refl
all_alike (suc n) zero a = refl
all_alike (suc n) (suc i) a = all_alike n i a

one_value : {A B : Type 0} (a d : B) (xs : List A) (i : ℕ) → i < length xs → get_or (map (λ (x : A). a) xs) i d ≡ a
one_value a d [] i h = absurd (omega arith)
one_value a d (x ∷ xs) zero h = refl
one_value a d (x ∷ xs) (suc i) h = one_value a d xs i (omega arith)

-- what an alarm and a status begin as
abbrev begun : ℕ → Row → Alarm
begun time r = alarm_of false true false Issue time

abbrev no_value : Row → Option ℤ
no_value r = none

no_value_lem : (rows : List Row) (i : ℕ) → get_or (map no_value rows) i none ≡ none
no_value_lem rows i = get_or-map no_value rows i no_row

all_down : (n k l : ℕ) → SameLife (get_or (replicate n closed_link) l closed_link) (get_or (replicate k (fresh false)) l (fresh false))
all_down n k l = rw (all_alike n l closed_link, all_alike k l (fresh false)) no_life

module _ (edition : ℕ) (t : Table) (v : Allowed edition t) (p : Pool) (k : ℕ) (table : List ℕ) (links primary period q time : ℕ) {site : ℕ} (w : Within site links primary period q time) (other : Listed) where
  first_items : SameItems (fresh_site p k (memory_of t) links (primary_of primary) period q time) (with_pool other (first t (start_for k table links primary period q time)))
  unfolding fresh_site
  first_items =
      record {
        setup = record {
          edition = edition;
          allowed = v;
          table = refl;
          links = refl;
          few = w.most_links;
          primary = primary_kept links primary w.a_link_or_none_lem w.most_links;
          its_link = its_link links primary w.a_link_or_none_lem;
          period = refl;
        };
        alarms = λ i h.
            let b : i < length t.alarms = omega (arith, h, length-map (begun time) t.alarms) in
            get_or-replicate 32 i (beginning time) (beginning 0) (omega (arith, b, v.most_alarms))
            ∙ sym (ap alarm_for (one_value (begun time no_row) (begun 0 no_row) t.alarms i b));
        alarm_count = length-map (begun time) t.alarms;
        alarm_places = length-replicate 32 (beginning time);
        statuses = λ i h. all_alike 32 i unknown ∙ sym (ap status_for (no_value_lem t.statuses i));
        values = λ i x e. absurd (let z : ◌≡◌ {A = ℕ} 0 1 = ap (maybe 0 (λ (n : ℤ). 1)) (sym (no_value_lem t.statuses i) ∙ e) in omega arith);
        status_count = length-map no_value t.statuses;
        status_places = length-replicate 32 unknown;
        aggregated = refl;
        byte = omega arith;
        subscriptions = λ l i h k. all_alike 128 (l * 32 + i) no_subscription;
        one_each = λ l i. omega arith;
        within = λ x a. among_none refl a;
        subscription_places = length-replicate 128 no_subscription;
      }

  -- where its pool is the machine's
  pub first_same : {beside : Beside} → SamePool links beside k p q other
      → Abstracts beside (fresh_site p k (memory_of t) links (primary_of primary) period q time) (with_pool other (first t (start_for k table links primary period q time)))
  unfolding fresh_site
  first_same same =
      record {
        items = first_items;
        last = refl;
        link_places = length-replicate 4 closed_link;
        life_count = length-replicate links (fresh false);
        lives = all_down 4 links;
        pool = same;
      }
