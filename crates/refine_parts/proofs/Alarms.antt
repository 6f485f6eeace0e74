-- An event of an alarm, and its record.
-- Assumes nothing.
use Rattle.basis.proofs.Std.{ℕ, ◌<◌, ◌≡◌, refl, sym, ap, ◌∙◌, subst, Bool, true, false, not, [], ◌∷◌, map, Option, some, none, ◌⊎◌, inl, inr, arith, eqb, length, length-set, get_or-set_same, get_or-set_other, lt-ltb, le-ltb, pick, both, bit, eq_or_ne}
use Rattle.alarm.specs.declared.Changed.{Changed}
use Rattle.alarm.specs.Alarm.{beginning, input_of, acknowledge_of, suspend_of}
use Rattle.alarm.specs.Issued.{issued_of}
use Rattle.call_input.proofs.Lists.{set_same}
use Rattle.site.specs.declared.Site.{Site}
use Rattle.site.specs.Site.{has_primary, owner_of}
use Rattle.site.specs.Parts.{alarm_at as alarm_in, with_alarm as with_alarm_in}
use Rattle.packet_answer.specs.declared.Question.{Question}
use Rattle.packet_alarm.specs.Orders.{records_of, change_taken}
use Rattle.call_input.specs.Inputs.{alarm_plan}
use Rattle.machine.specs.Words.{maybe, or_else}
use Rattle.machine.specs.State.{Alarm, alarm_of, Issued, issued_for, Machine, with_alarm, alarm_at}
use Rattle.machine.specs.State.Event.{Issue}
use Rattle.machine.specs.State.Content.{of_alarm}
use Rattle.machine.specs.Readings.{entry_for}
use Rattle.machine.specs.Items.{with_input, acknowledged_at, suspended_at, resumed_at, is_silent, told, happens}
use Rattle.demand_held.proofs.Lists.{Each, length_changed}
use Rattle.demand_held.proofs.Lists.Each.{no_more, one_more}
use Rattle.refine_parts.specs.Record.{unnumbered, IsTold}
use Rattle.refine_parts.proofs.Entries.{contents}
use Rattle.refine_parts.specs.Items.{alarm_for, SameItems, SameEffect}
use Rattle.refine_parts.specs.ItemActs.{SameOrders}
use Rattle.refine_parts.proofs.Setup.{moved}
use Rattle.refine_parts.proofs.ItemLists.{get_d_changed_same, get_d_changed_other}

-- ---- one alarm
pub record SameChange (c : Changed) (a : Alarm) (o : Option Alarm) : Type 0 where
  pub alarm : c.alarm ≡ alarm_for (or_else a o)
  pub records : c.records ≡ maybe false (λ x. not (is_silent x.event x.suspended)) o

same_input : (a : Alarm) (active : Bool) (t : ℕ) → SameChange (input_of (alarm_for a) active t) a (with_input active t a)
unfolding input_of
same_input a active t = by active a.active a.acknowledged a.suspended
  where
    by : (active act ack sus : Bool)
        → SameChange (input_of (alarm_for (alarm_of act ack sus a.event a.time)) active t) (alarm_of act ack sus a.event a.time)
        (with_input active t (alarm_of act ack sus a.event a.time))
    by true true ack sus = record { alarm = refl; records = refl }
    by true false ack true = record { alarm = refl; records = refl }
    by true false ack false = record { alarm = refl; records = refl }
    by false true ack true = record { alarm = refl; records = refl }
    by false true ack false = record { alarm = refl; records = refl }
    by false false ack sus = record { alarm = refl; records = refl }

same_acknowledge : (a : Alarm) (t : ℕ) → SameChange (acknowledge_of (alarm_for a) t) a (acknowledged_at t a)
unfolding acknowledge_of
same_acknowledge a t = by a.acknowledged
  where
    by : (ack : Bool)
        → SameChange (acknowledge_of (alarm_for (alarm_of a.active ack a.suspended a.event a.time)) t) (alarm_of a.active ack a.suspended a.event a.time)
        (acknowledged_at t (alarm_of a.active ack a.suspended a.event a.time))
    by true = record { alarm = refl; records = refl }
    by false = record { alarm = refl; records = refl }

same_suspend : (a : Alarm) (t : ℕ) → SameChange (suspend_of (alarm_for a) true t) a (suspended_at t a)
unfolding suspend_of
same_suspend a t = by a.suspended
  where
    by : (sus : Bool)
        → SameChange (suspend_of (alarm_for (alarm_of a.active a.acknowledged sus a.event a.time)) true t) (alarm_of a.active a.acknowledged sus a.event a.time)
        (suspended_at t (alarm_of a.active a.acknowledged sus a.event a.time))
    by true = record { alarm = refl; records = refl }
    by false = record { alarm = refl; records = refl }

same_resume : (a : Alarm) (t : ℕ) → SameChange (suspend_of (alarm_for a) false t) a (resumed_at t a)
unfolding suspend_of
same_resume a t = by a.suspended
  where
    by : (sus : Bool)
        → SameChange (suspend_of (alarm_for (alarm_of a.active a.acknowledged sus a.event a.time)) false t) (alarm_of a.active a.acknowledged sus a.event a.time)
        (resumed_at t (alarm_of a.active a.acknowledged sus a.event a.time))
    by true = record { alarm = refl; records = refl }
    by false = record { alarm = refl; records = refl }

-- ---- its record
one_bit : (b : Bool) → eqb (bit b) 1 ≡ b
one_bit true = refl
one_bit false = refl

pub alarm_record_lem : (a : Alarm) (l i : ℕ) → issued_of (alarm_for a) l i ≡ entry_for l 0 (of_alarm i a)
alarm_record_lem a l i = rw (one_bit a.acknowledged, one_bit a.active, one_bit a.suspended)

module _ (s : Site) (m : Machine) (h : SameItems s m) where
  has_primary_lem : (p : Option ℕ) → m.setup.primary ≡ p → has_primary s ≡ maybe false (λ x. true) p
  has_primary_lem none e = rw (h.setup.primary, h.setup.links, e) (le-ltb 65535 m.setup.links (omega (arith, h.setup.few)))
  has_primary_lem (some p) e = rw (h.setup.primary, h.setup.links, e) (lt-ltb p m.setup.links (h.setup.its_link p e))

  -- the record for the primary, where an event makes one
  event_issued : (i : ℕ) (a : Alarm)
      → records_of s i (record { alarm = alarm_for a; happened = true; records = not (is_silent a.event a.suspended) }) ≡ map (unnumbered s.site) (told m i a)
  event_issued i a = by (is_silent a.event a.suspended) m.setup.primary refl
    where
      by : (silent : Bool) (p : Option ℕ) → m.setup.primary ≡ p
          → pick (both (not silent) (has_primary s)) (issued_of (alarm_for a) (owner_of s s.primary) i ∷ []) []
          ≡ map (unnumbered s.site) (pick silent [] (maybe [] (λ x. issued_for x (of_alarm i a) ∷ []) m.setup.primary))
      by true p e = refl
      by false none e = rw (has_primary_lem none e, e)
      by false (some p) e = rw (has_primary_lem (some p) e, h.setup.primary, e, alarm_record_lem a (owner_of s p) i)

  event_told : (i : ℕ) (a : Alarm) → Each (λ (x : Issued). IsTold x.content) (told m i a)
  event_told i a = by (is_silent a.event a.suspended) m.setup.primary
    where
      by : (silent : Bool) (p : Option ℕ) → Each (λ (x : Issued). IsTold x.content) (pick silent [] (maybe [] (λ x. issued_for x (of_alarm i a) ∷ []) p))
      by true p = no_more
      by false none = no_more
      by false (some p) = one_more (contents.alarm i a) no_more

  module _ (i : ℕ) (b : i < length m.alarms) where
    -- i is one of the places
    placed : i < length s.alarms
    placed = omega (arith, h.alarm_places, h.alarm_count, b, h.setup.allowed.most_alarms)

    pub alarm_set : (a : Alarm) → SameItems (with_alarm_in s i (alarm_for a)) (with_alarm i a m)
    alarm_set a =
        record {
          setup = moved h.setup;
          alarms = λ j e. at j e (eq_or_ne j i);
          alarm_count = length_changed i (λ x. a) m.alarms ∙ h.alarm_count;
          alarm_places = length-set s.alarms i (alarm_for a) ∙ h.alarm_places;
          statuses = h.statuses;
          values = h.values;
          status_count = h.status_count;
          status_places = h.status_places;
          aggregated = h.aggregated;
          byte = h.byte;
          subscriptions = h.subscriptions;
          one_each = h.one_each;
          within = λ x e. record { link = (h.within x e).link; status = (h.within x e).status };
          subscription_places = h.subscription_places;
        }
      where
        at : (j : ℕ) → j < length (with_alarm i a m).alarms → (j ≡ i) ⊎ (j ≡ i → ⊥)
            → alarm_in (with_alarm_in s i (alarm_for a)) j ≡ alarm_for (alarm_at (with_alarm i a m) j)
        at j e (inl q) =
            rw q (get_or-set_same s.alarms i (alarm_for a) (beginning 0) placed
            ∙ sym (ap alarm_for (get_d_changed_same (λ (x : Alarm). a) (alarm_of false true false Issue 0) m.alarms i b)))
        at j e (inr q) =
            get_or-set_other s.alarms i j (alarm_for a) (beginning 0) q
            ∙ h.alarms j (subst (λ (n : ℕ). j < n) (length_changed i (λ (x : Alarm). a) m.alarms) e)
            ∙ sym (ap alarm_for (get_d_changed_other (λ (x : Alarm). a) (alarm_of false true false Issue 0) m.alarms i j q))

    alarm_kept : SameItems (with_alarm_in s i (alarm_for (alarm_at m i))) m
    alarm_kept = rw (set_same s.alarms i (alarm_for (alarm_at m i)) (beginning 0) (h.alarms i b)) h

    -- an event, or none: the items, and the records
    event_items : (c : Changed) (o : Option Alarm) → SameChange c (alarm_at m i) o → SameItems (with_alarm_in s i c.alarm) (happens m i o).leaves
    unfolding happens
    event_items c none e = rw e.alarm alarm_kept
    event_items c (some a) e = rw e.alarm (alarm_set a)

    event_records : (c : Changed) (o : Option Alarm) → SameChange c (alarm_at m i) o → records_of s i c ≡ map (unnumbered s.site) (happens m i o).issues
    unfolding happens
    event_records c none e = rw e.records
    event_records c (some a) e = rw (e.records, e.alarm) (event_issued i a)

    all_told : (o : Option Alarm) → Each (λ (x : Issued). IsTold x.content) (happens m i o).issues
    unfolding happens
    all_told none = no_more
    all_told (some a) = event_told i a

    pub same_alarm_lem : (active : Bool) (t : ℕ) → SameEffect (alarm_plan s i active t) (happens m i (with_input active t (alarm_at m i)))
    same_alarm_lem active t =
        let c : SameChange (input_of (alarm_in s i) active t) (alarm_at m i) (with_input active t (alarm_at m i)) =
        rw (h.alarms i b) (same_input (alarm_at m i) active t) in
        record {
          items = event_items (input_of (alarm_in s i) active t) (with_input active t (alarm_at m i)) c;
          records = record { issued = event_records (input_of (alarm_in s i) active t) (with_input active t (alarm_at m i)) c; told = all_told (with_input active t (alarm_at m i)) };
        }

    pub same_orders : (q : Question) → SameOrders s m i q
    unfolding change_taken
    same_orders q =
        let a : SameChange (acknowledge_of (alarm_in s i) q.time) (alarm_at m i) (acknowledged_at q.time (alarm_at m i)) = rw (h.alarms i b) (same_acknowledge (alarm_at m i) q.time) in
        let u : SameChange (suspend_of (alarm_in s i) true q.time) (alarm_at m i) (suspended_at q.time (alarm_at m i)) = rw (h.alarms i b) (same_suspend (alarm_at m i) q.time) in
        let r : SameChange (suspend_of (alarm_in s i) false q.time) (alarm_at m i) (resumed_at q.time (alarm_at m i)) = rw (h.alarms i b) (same_resume (alarm_at m i) q.time) in
        record {
          acknowledge = record {
            items = event_items (acknowledge_of (alarm_in s i) q.time) (acknowledged_at q.time (alarm_at m i)) a;
            records = record { issued = event_records (acknowledge_of (alarm_in s i) q.time) (acknowledged_at q.time (alarm_at m i)) a; told = all_told (acknowledged_at q.time (alarm_at m i)) };
          };
          suspend = record {
            items = event_items (suspend_of (alarm_in s i) true q.time) (suspended_at q.time (alarm_at m i)) u;
            records = record { issued = event_records (suspend_of (alarm_in s i) true q.time) (suspended_at q.time (alarm_at m i)) u; told = all_told (suspended_at q.time (alarm_at m i)) };
          };
          resume = record {
            items = event_items (suspend_of (alarm_in s i) false q.time) (resumed_at q.time (alarm_at m i)) r;
            records = record { issued = event_records (suspend_of (alarm_in s i) false q.time) (resumed_at q.time (alarm_at m i)) r; told = all_told (resumed_at q.time (alarm_at m i)) };
          };
        }
