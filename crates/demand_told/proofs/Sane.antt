-- What the machine keeps can be told: times up to the last, values of 32 bits, numbers that the table has.
-- Assumes nothing.
use Rattle.basis.proofs.Std.{ℕ, zero, suc, ◌%◌, ◌≤◌, ◌<◌, ◌≡◌, ◌∙◌, Bool, true, false, not, List, [], ◌∷◌, Option, some, none, leb, ltb, ℤ, length, get_or, arith, picked}
use Rattle.answer.specs.Times.{last_time}
use Rattle.number.specs.Signed.{Signed32}
use Rattle.table_whole.specs.Table.{Table}
use Rattle.table_whole.specs.Allowed.{Allowed}
use Rattle.write_laws.specs.Formed.{FormedValue}
use Rattle.write_laws.specs.Formed.FormedValue.{recent, old, unknown}
use Rattle.machine.specs.Words.{changed}
use Rattle.machine.specs.State.{Alarm, alarm_of, Subscription, Content, Issued, Held, Pool, Life, Machine, with_alarm, with_status, with_aggregated, with_subscriptions, with_life, with_held, alarm_at, value_at, Effect}
use Rattle.machine.specs.State.Event.{Issue}
use Rattle.machine.specs.State.Content.{of_alarm, of_status, of_aggregated}
use Rattle.machine.specs.Messages.{value_of}
use Rattle.machine.specs.Pool.{is_for, is_own, lose, lose_of, make_room, holds, is_full, fullest, issue, issue_all}
use Rattle.machine.specs.Step.{after}
use Rattle.machine.specs.Box.{with_pool}
use Rattle.demand_held.proofs.Lists.{length_changed, Each, each_append, each_but_first}
use Rattle.demand_held.proofs.Lists.Each.{no_more, one_more}

-- ---- lists
pub each_at : {A : Type 0} {P : A → Type 0} (d : A) {xs : List A} → Each P xs → P d → (i : ℕ) → P (get_or xs i d)
each_at d no_more p i = p
each_at d (one_more q r) p zero = q
each_at d (one_more q r) p (suc i) = each_at d r p i

pub each_changed : {A : Type 0} {P : A → Type 0} (i : ℕ) (y : A) {xs : List A} → P y → Each P xs → Each P (changed i (λ x. y) xs)
each_changed i y p no_more = no_more
each_changed zero y p (one_more q r) = one_more p r
each_changed (suc i) y p (one_more q r) = one_more q (each_changed i y p r)

-- ---- what can be told
-- a value of 32 bits or none, recent or old
abbrev pub Tells : Option ℤ → Type 0
Tells o = (is_old : Bool) → FormedValue (value_of is_old o)

pub tells : (v : ℤ) → Signed32 v → Tells (some v)
tells v h true = old h
tells v h false = recent h

abbrev pub Tellable : Table → Content → Type 0
Tellable t (of_alarm i a) = (i < length t.alarms) × (a.time ≤ last_time)
Tellable t (of_status i v is_old time) = (i < length t.statuses) × (Tells v × (time ≤ last_time))
Tellable t (of_aggregated v time) = (v < 256) × (time ≤ last_time)

abbrev pub HeldOf : Table → Held → Type 0
HeldOf t h = Tellable t h.content

abbrev pub IssuedOf : Table → Issued → Type 0
IssuedOf t i = Tellable t i.content

pub record Sane (m : Machine) : Type 0 where
  pub edition : ℕ
  pub table : Allowed edition m.setup.table
  pub alarm_count : length m.alarms ≡ length m.setup.table.alarms
  pub status_count : length m.statuses ≡ length m.setup.table.statuses
  pub alarms : Each (λ (a : Alarm). a.time ≤ last_time) m.alarms
  pub statuses : Each Tells m.statuses
  pub aggregated : m.aggregated < 256
  pub aggregated_time_lem : m.aggregated_time ≤ last_time
  pub held : Each (HeldOf m.setup.table) m.pool.held

module _ {m : Machine} (s : Sane m) where
  pub alarm_time : (i : ℕ) → (alarm_at m i).time ≤ last_time
  alarm_time i = each_at (alarm_of false true false Issue 0) s.alarms (omega arith) i

  pub value_formed : (i : ℕ) → Tells (value_at m i)
  value_formed i = each_at none s.statuses (λ is_old. unknown) i

  pub sane_life : (l : ℕ) (k : Life) → Sane (with_life l k m)
  sane_life l k =
      record {
        edition = s.edition;
        table = s.table;
        alarm_count = s.alarm_count;
        status_count = s.status_count;
        alarms = s.alarms;
        statuses = s.statuses;
        aggregated = s.aggregated;
        aggregated_time_lem = s.aggregated_time_lem;
        held = s.held;
      }

  pub sane_subscriptions : (subs : List Subscription) → Sane (with_subscriptions subs m)
  sane_subscriptions subs =
      record {
        edition = s.edition;
        table = s.table;
        alarm_count = s.alarm_count;
        status_count = s.status_count;
        alarms = s.alarms;
        statuses = s.statuses;
        aggregated = s.aggregated;
        aggregated_time_lem = s.aggregated_time_lem;
        held = s.held;
      }

  pub sane_held : (hs : List Held) → Each (HeldOf m.setup.table) hs → Sane (with_held hs m)
  sane_held hs e =
      record {
        edition = s.edition;
        table = s.table;
        alarm_count = s.alarm_count;
        status_count = s.status_count;
        alarms = s.alarms;
        statuses = s.statuses;
        aggregated = s.aggregated;
        aggregated_time_lem = s.aggregated_time_lem;
        held = e;
      }

  pub sane_alarm : (i : ℕ) (a : Alarm) → a.time ≤ last_time → Sane (with_alarm i a m)
  sane_alarm i a t =
      record {
        edition = s.edition;
        table = s.table;
        alarm_count = length_changed i (λ x. a) m.alarms ∙ s.alarm_count;
        status_count = s.status_count;
        alarms = each_changed i a t s.alarms;
        statuses = s.statuses;
        aggregated = s.aggregated;
        aggregated_time_lem = s.aggregated_time_lem;
        held = s.held;
      }

  pub sane_status : (i : ℕ) (v : ℤ) → Tells (some v) → Sane (with_status i v m)
  sane_status i v f =
      record {
        edition = s.edition;
        table = s.table;
        alarm_count = s.alarm_count;
        status_count = length_changed i (λ x. some v) m.statuses ∙ s.status_count;
        alarms = s.alarms;
        statuses = each_changed i (some v) f s.statuses;
        aggregated = s.aggregated;
        aggregated_time_lem = s.aggregated_time_lem;
        held = s.held;
      }

  pub sane_aggregated : (v t : ℕ) → v < 256 → t ≤ last_time → Sane (with_aggregated v t m)
  sane_aggregated v t f g =
      record {
        edition = s.edition;
        table = s.table;
        alarm_count = s.alarm_count;
        status_count = s.status_count;
        alarms = s.alarms;
        statuses = s.statuses;
        aggregated = f;
        aggregated_time_lem = g;
        held = s.held;
      }

-- with other records, of its own and beside them
pub sane_pool : {m : Machine} → Sane m → (p : Pool) → Each (HeldOf m.setup.table) p.held → Sane (with_pool p m)
sane_pool s p e =
    record {
      edition = s.edition;
      table = s.table;
      alarm_count = s.alarm_count;
      status_count = s.status_count;
      alarms = s.alarms;
      statuses = s.statuses;
      aggregated = s.aggregated;
      aggregated_time_lem = s.aggregated_time_lem;
      held = e;
    }

-- ---- issuing
module _ (t : Table) where
  each_lose : (l : ℕ) (p : Pool) → Each (HeldOf t) p.held → Each (HeldOf t) (lose l p).held
  unfolding lose
  each_lose l p e = each_but_first (is_for l) e

  each_lose_of : (o : ℕ) (p : Pool) → Each (HeldOf t) p.held → Each (HeldOf t) (lose_of o p).held
  unfolding lose_of
  each_lose_of o p e = picked (λ (q : Pool). Each (HeldOf t) q.held) (is_own p o) _ _ (λ f. each_lose (o % 4) p e) (λ f. e)

  each_room : (l : ℕ) (p : Pool) → Each (HeldOf t) p.held → Each (HeldOf t) (make_room l p).held
  unfolding make_room
  each_room l p e =
      picked (λ (q : Pool). Each (HeldOf t) q.held) (leb 64 (holds p l)) _ _ (λ f. each_lose l p e)
      (λ f. picked (λ (q : Pool). Each (HeldOf t) q.held) (not (is_full p)) _ _ (λ f. e)
      (λ f. picked (λ (q : Pool). Each (HeldOf t) q.held) (ltb (holds p l) 16) _ _ (λ f. each_lose_of (fullest p) p e) (λ f. each_lose l p e)))

  each_issue : (i : Issued) (p : Pool) → IssuedOf t i → Each (HeldOf t) p.held → Each (HeldOf t) (issue i p).held
  unfolding issue
  each_issue i p f e = each_append (each_room i.link p e) (one_more f no_more)

  each_issued : (is : List Issued) (p : Pool) → Each (IssuedOf t) is → Each (HeldOf t) p.held → Each (HeldOf t) (issue_all is p).held
  each_issued [] p no_more e = e
  each_issued (i ∷ is) p (one_more f r) e = each_issued is (issue i p) r (each_issue i p f e)

pub record Lays (e : Effect) : Type 0 where
  pub sane : Sane e.leaves
  pub issues : Each (IssuedOf e.leaves.setup.table) e.issues

pub sane_after : (t : ℕ) (e : Effect) → Lays e → Sane (after t e)
sane_after t e s =
    record {
      edition = s.sane.edition;
      table = s.sane.table;
      alarm_count = s.sane.alarm_count;
      status_count = s.sane.status_count;
      alarms = s.sane.alarms;
      statuses = s.sane.statuses;
      aggregated = s.sane.aggregated;
      aggregated_time_lem = s.sane.aggregated_time_lem;
      held = each_issued e.leaves.setup.table e.issues e.leaves.pool s.issues s.sane.held;
    }
