-- A tick is the machine's.
-- Assumes nothing.
use Rattle.basis.proofs.Std.{ℕ, ◌≡◌, refl, sym, ap, ap₂, ◌∙◌, subst, Bool, List, map, Option, some, none, pick}
use Rattle.entry.specs.declared.Entry.{Entry}
use Rattle.link.specs.declared.Link.{Link}
use Rattle.status.specs.declared.Status.{Status}
use Rattle.subscription.specs.declared.Subscription.{Subscription as Slot}
use Rattle.site.specs.declared.Site.{Site}
use Rattle.site.specs.Site.{with_subscriptions as with_slots}
use Rattle.site.specs.Call.{issues, batch_of}
use Rattle.call_tick.specs.Closing.{closed_to}
use Rattle.call_tick.specs.Intervals.{renewed, records_of}
use Rattle.call_tick.specs.Tick.{site_after, issued_at, tick_plan}
use Rattle.call_tick.proofs.Closed.{stays}
use Rattle.call_laws.specs.Calls.Call.{tick}
use Rattle.machine.specs.State.{Setup, Machine}
use Rattle.machine.specs.State.Act.{tick as ticking}
use Rattle.machine.specs.Life.{close_all}
use Rattle.machine.specs.Items.{intervals}
use Rattle.machine.specs.Effects.{late, ticks, effect_of}
use Rattle.machine.specs.Step.{bad_time, sequence_ends, conditions}
use Rattle.demand_held.proofs.Lists.{Each}
use Rattle.demand_held.proofs.Issue.{For}
use Rattle.refine_parts.specs.Same.{Beside}
use Rattle.refine_parts.specs.Items.{SameIssued, SameEffect}
use Rattle.refine_parts.proofs.ItemActs.{item_acts}
use Rattle.refine_calls.specs.Abstracts.{Abstracts}
use Rattle.refine_calls.specs.Calls.{SameCall}
use Rattle.refine_calls.specs.Calls.SameCommands.{no_command}
use Rattle.refine_calls.proofs.Links.{same_time}
use Rattle.refine_calls.proofs.Items.{same_spent, of_intervals, items_changed}
use Rattle.refine_calls.proofs.Inputs.{for_links, same_up}
use Rattle.refine_calls.specs.Tick.{TickCalls}
use Rattle.refine_calls.specs.Tick.OfTick.{of_tick}
use Rattle.refine_calls.proofs.Closing.{all_setup, all_closed, same_mask}

module _ {beside : Beside} (s : Site) (m : Machine) (h : Abstracts beside s m) (t : ℕ) where
  -- once the links are closed
  abbrev left : Site
  left = closed_to s t 4

  abbrev left_of : Machine
  left_of = close_all (late t m) m

  -- closing leaves the subscriptions, the values and the next number
  same_slots : left.subscriptions ≡ s.subscriptions
  same_slots = stays (λ (x : Site). x.subscriptions) (λ x l. refl) s t 4

  same_values : left.statuses ≡ s.statuses
  same_values = stays (λ (x : Site). x.statuses) (λ x l. refl) s t 4

  same_site : left.site ≡ s.site
  same_site = stays (λ (x : Site). x.site) (λ x l. refl) s t 4

  site_kept : (site_after s t).site ≡ s.site
  unfolding site_after
  site_kept = same_site

  same_next : (site_after s t).next ≡ s.next
  unfolding site_after
  same_next = stays (λ (x : Site). x.next) (λ x l. refl) s t 4

  -- ---- the subscriptions and their records are those of the site left
  site_left : site_after s t ≡ with_slots left (map (renewed t) left.subscriptions)
  unfolding site_after
  site_left = ap (λ (xs : List Slot). with_slots left (map (renewed t) xs)) (sym same_slots)

  -- the links are as the tick leaves them
  same_links : (site_after s t).links ≡ left.links
  unfolding site_after
  same_links = refl

  abbrev issued_left : List Entry
  issued_left = records_of left.site left.subscriptions left.statuses left.links t

  issued_left_lem : issued_at s t ≡ issued_left
  issued_left_lem =
      ap₂ (λ (k : ℕ) (ns : List Link). records_of k s.subscriptions s.statuses ns t) (sym same_site) same_links
      ∙ ap₂ (λ (xs : List Slot) (ks : List Status). records_of left.site xs ks left.links t) (sym same_slots) (sym same_values)

  renewing : SameEffect (issues (with_slots left (map (renewed t) left.subscriptions)) issued_left) (intervals t left_of)
  renewing = (item_acts.acts left left_of (all_closed s m h t).items).tick t left.links (same_up left left_of (all_closed s m h t))

  same_records : SameIssued (tick_plan s t) (intervals t left_of).issues
  same_records = record { issued = issued_left_lem ∙ rw site_left renewing.records.issued; told = renewing.records.told }

  leaves_same : Abstracts beside (site_after s t) (intervals t left_of).leaves
  leaves_same =
      subst (λ (x : Site). Abstracts beside x (intervals t left_of).leaves) (sym site_left)
      (items_changed left left_of (all_closed s m h t) (map (renewed t) left.subscriptions) left.alarms left.statuses left.aggregated
      (intervals t left_of) (of_intervals t left_of) renewing.items)

  for_configured : Each (For m.setup.links) (intervals t left_of).issues
  unfolding effect_of ticks
  for_configured = for_links s m h t ticking refl

  links_same : Each (For (intervals t left_of).leaves.setup.links) (intervals t left_of).issues
  links_same = subst (λ (u : Setup). Each (For u.links) (intervals t left_of).issues) (sym ((of_intervals t left_of).setup ∙ all_setup (late t m) m)) for_configured

  -- ---- number 10
  spent_same : (batch_of (tick_plan s t)).spent ≡ sequence_ends m (ticks t m)
  unfolding ticks
  spent_same = same_spent s m h (tick_plan s t) (ticks t m) same_next site_kept same_records

  abbrev numbered : Bool → Option ℕ
  numbered spent = pick (bad_time m t) (some 5) (pick spent (some 10) none)

  tick_same : SameCall beside s m (tick t)
  unfolding conditions effect_of ticks
  tick_same =
      record {
        number = rw (same_time s m h t) (ap numbered spent_same);
        plan = λ e.
            record {
              leaves = leaves_same;
              issued = same_records;
              for_links = links_same;
              messages = refl;
              closed = same_mask s m h t;
              hint = refl;
              commands = no_command;
            };
      }

pub tick_calls : TickCalls
tick_calls beside s m h c (of_tick t) u = tick_same s m h t
