-- The host's three inputs are the machine's.
-- Assumes nothing.
use Rattle.basis.proofs.Std.{ℕ, ◌<◌, ◌≡◌, refl, sym, ap, ◌∙◌, Bool, true, false, Option, some, none, arith, leb, ℤ, length, leb-false, pick}
use Rattle.number.specs.Signed.{Signed32}
use Rattle.table_whole.specs.declared.SiteTable.{SiteTable}
use Rattle.site.specs.declared.Site.{Site}
use Rattle.site.specs.Site.{link_at}
use Rattle.call_input.specs.Inputs.{alarm_plan, status_plan, aggregated_plan}
use Rattle.call_laws.specs.Calls.Call.{alarm, status, aggregated}
use Rattle.machine.specs.State.{Machine, life_at, alarm_at, Act}
use Rattle.machine.specs.State.Act.{alarm_input, status_value, aggregated_value}
use Rattle.machine.specs.Items.{with_input, happens, becomes, aggregates}
use Rattle.machine.specs.Effects.{effect_of}
use Rattle.machine.specs.Step.{bad_time, sequence_ends, conditions}
use Rattle.demand_held.specs.Held.{packet_link}
use Rattle.demand_held.proofs.Lists.{Each}
use Rattle.demand_held.proofs.Issue.{For}
use Rattle.demand_held.proofs.Lays.{lays}
use Rattle.refine_parts.specs.Same.{Beside}
use Rattle.refine_parts.proofs.Questions.{questions}
use Rattle.refine_parts.specs.Items.{SameUp, SameEffect}
use Rattle.refine_parts.specs.ItemActs.{SameInputs}
use Rattle.refine_parts.proofs.ItemActs.{item_acts}
use Rattle.refine_calls.specs.Abstracts.{Abstracts}
use Rattle.refine_calls.specs.Calls.{SameCall}
use Rattle.refine_calls.proofs.Links.{same_time}
use Rattle.refine_calls.specs.Inputs.{InputCalls}
use Rattle.refine_calls.specs.Inputs.OfInput.{of_alarm, of_status, of_aggregated}
use Rattle.refine_calls.proofs.Items.{same_spent, of_happens, of_becomes, of_aggregates, items_plan}

-- numbers 3, 5 and 10: the tests are the same, the last of them where the number of the item is one
same_numbers : (a : Bool) {b b2 c c2 : Bool} → b ≡ b2 → (a ≡ false → c ≡ c2)
    → pick {A = Option ℕ} a (some 3) (pick b (some 5) (pick c (some 10) none)) ≡ pick a (some 3) (pick b2 (some 5) (pick c2 (some 10) none))
same_numbers true e f = refl
same_numbers false e f = rw (e, f refl)

none_some : {l : ℕ} {A : Type 0} → none ≡ some l → A
none_some e = absurd (let z : ◌≡◌ {A = ℕ} 0 1 = cc in omega arith)

-- an item that number 3 does not refuse
there : (x a b : Bool) → pick {A = Option ℕ} x (some 3) (pick a (some 5) (pick b (some 10) none)) ≡ none → x ≡ false
there true a b e = none_some (sym e)
there false a b e = refl

module _ {beside : Beside} (s : Site) (m : Machine) (h : Abstracts beside s m) where
  alarm_count : s.table.alarmcount ≡ length m.setup.table.alarms
  alarm_count = ap (λ (t : SiteTable). t.alarmcount) h.items.setup.table

  status_count : s.table.statuscount ≡ length m.setup.table.statuses
  status_count = ap (λ (t : SiteTable). t.statuscount) h.items.setup.table

  pub same_up : SameUp s m
  same_up l = (questions.phases (link_at s l) (life_at m l) (h.lives l)).up

  inputs : SameInputs s m
  inputs = (item_acts.acts s m h.items).inputs

  pub for_links : (t : ℕ) (a : Act) → packet_link a ≡ none → Each (For m.setup.links) (effect_of m t a).issues
  for_links t a e = (lays m h.items.setup.its_link t a (λ l f. none_some (sym e ∙ f))).issued

  -- ---- an alarm's
  module _ (i : ℕ) (active : Bool) (t : ℕ) where
    alarm_effect : leb (length m.setup.table.alarms) i ≡ false → SameEffect (alarm_plan s i active t) (happens m i (with_input active t (alarm_at m i)))
    alarm_effect e = inputs.alarm i active t (omega (arith, leb-false (length m.setup.table.alarms) i e, h.items.alarm_count))

    alarm_links : Each (For m.setup.links) (happens m i (with_input active t (alarm_at m i))).issues
    unfolding effect_of
    alarm_links = for_links t (alarm_input i active) refl

    alarm_same : SameCall beside s m (alarm i active t)
    unfolding conditions effect_of
    alarm_same =
        record {
          number =
              rw alarm_count
              (same_numbers (leb (length m.setup.table.alarms) i) (same_time s m h t)
              (λ e. same_spent s m h (alarm_plan s i active t) (happens m i (with_input active t (alarm_at m i))) refl refl (alarm_effect e).records));
          plan = λ e.
              items_plan s m h _ _ _ _ _ (happens m i (with_input active t (alarm_at m i))) (of_happens m i (with_input active t (alarm_at m i))) alarm_links
              (alarm_effect (there (leb (length m.setup.table.alarms) i) (bad_time m t) (sequence_ends m (happens m i (with_input active t (alarm_at m i)))) e));
        }

  -- ---- a status' value
  module _ (i : ℕ) (v : ℤ) (r : Signed32 v) (t : ℕ) where
    status_effect : leb (length m.setup.table.statuses) i ≡ false → SameEffect (status_plan s i v t) (becomes m i v t)
    status_effect e = inputs.status i v t (omega (arith, leb-false (length m.setup.table.statuses) i e, h.items.status_count)) r same_up

    status_links : Each (For m.setup.links) (becomes m i v t).issues
    unfolding effect_of
    status_links = for_links t (status_value i v) refl

    status_same : SameCall beside s m (status i v t)
    unfolding conditions effect_of
    status_same =
        record {
          number =
              rw status_count
              (same_numbers (leb (length m.setup.table.statuses) i) (same_time s m h t)
              (λ e. same_spent s m h (status_plan s i v t) (becomes m i v t) refl refl (status_effect e).records));
          plan = λ e.
              items_plan s m h _ _ _ _ _ (becomes m i v t) (of_becomes m i v t) status_links
              (status_effect (there (leb (length m.setup.table.statuses) i) (bad_time m t) (sequence_ends m (becomes m i v t)) e));
        }

  -- ---- the aggregated value
  module _ (v : ℕ) (b : v < 256) (t : ℕ) where
    aggregated_effect : SameEffect (aggregated_plan s v t) (aggregates m v t)
    aggregated_effect = inputs.aggregated v t b

    aggregated_links : Each (For m.setup.links) (aggregates m v t).issues
    unfolding effect_of
    aggregated_links = for_links t (aggregated_value v) refl

    aggregated_same : SameCall beside s m (aggregated v t)
    unfolding conditions effect_of
    aggregated_same =
        record {
          number = same_numbers false (same_time s m h t) (λ e. same_spent s m h (aggregated_plan s v t) (aggregates m v t) refl refl aggregated_effect.records);
          plan = λ e. items_plan s m h _ _ _ _ _ (aggregates m v t) (of_aggregates m v t) aggregated_links aggregated_effect;
        }

pub input_calls : InputCalls
input_calls beside s m h c (of_alarm i active t) u = alarm_same s m h i active t
input_calls beside s m h c (of_status i v t) u = status_same s m h i v u t
input_calls beside s m h c (of_aggregated v t) u = aggregated_same s m h v u t
