-- The plan of pump is sound.
-- Assumes nothing.
use Rattle.basis.proofs.Std.{ℕ, refl}
use Rattle.identity.specs.declared.Identity.{Identity}
use Rattle.pool.specs.declared.Sought.{Sought}
use Rattle.pool.specs.declared.Sought.TheVariants.{Found as FoundEntry, Nothing as NoEntry}
use Rattle.pool.specs.Pool.{mark_of, oldest_unsent}
use Rattle.link.specs.declared.Due.{Due}
use Rattle.link.specs.declared.Due.TheVariants.{Nothing, Version, Watchdog, Aggregated, Alarm, Entry}
use Rattle.link.specs.Steps.{version_out_of, watchdog_out_of, aggregated_passed_of, alarm_passed_of}
use Rattle.site.specs.declared.Site.{Site}
use Rattle.site.specs.Site.{link_at, with_link, owner_of}
use Rattle.send_after.specs.declared.Carried.{Carried}
use Rattle.send_after.specs.declared.Carried.TheVariants.{Held, NoRecord}
use Rattle.send_after.specs.Outgoing.{marked, carried_at, message_out, alarm_sent_with}
use Rattle.call_pump.specs.Pump.{due_at, entry_plan, plan_for, pump_plan}
use Rattle.call_laws.specs.Sound.{EachHeld, HeldOf, SoundAt}
use Rattle.call_laws.specs.SoundPlans.{Reworked, SoundPlan}
use Rattle.call_laws.specs.SoundPlans.Reworked.{same, marks}
use Rattle.call_laws.proofs.Held.{held_mark}
use Rattle.call_laws.proofs.Parts.{with_pool_lem, with_link_lem}

module _ (s : Site) (time : ℕ) (h : SoundAt time s) (l : ℕ) (id : Identity) where
  mark_held : (c : Carried) → EachHeld (HeldOf s time) (marked s.pool (owner_of s l) c).places
  mark_held (Held q) = held_mark (HeldOf s time) s.pool (owner_of s l) q h.held
  mark_held NoRecord = h.held

  marked_pool : (c : Carried) → Reworked s.pool (marked s.pool (owner_of s l) c)
  marked_pool (Held q) = marks (owner_of s l) q same
  marked_pool NoRecord = same

  alarm_sent : (c : Carried) → SoundAt time (alarm_sent_with c s l time id)
  alarm_sent c =
      let k = alarm_passed_of (message_out (link_at s l) id time c) in
      with_pool_lem time (with_link s l k) (with_link_lem time s h l k) (marked s.pool (owner_of s l) c) (mark_held c)

  entry_plan_lem : (x : Sought) → SoundPlan s time (entry_plan x s l time id)
  entry_plan_lem NoEntry = record { site = h; number = refl; pool = same; issued = tt }
  entry_plan_lem (FoundEntry x) =
      let k = message_out (link_at s l) id time (Held x.entry.sequence) in
      record {
        site = with_pool_lem time (with_link s l k) (with_link_lem time s h l k) (mark_of s.pool (owner_of s l) x.entry.sequence) (mark_held (Held x.entry.sequence));
        number = refl;
        pool = marks (owner_of s l) x.entry.sequence same;
        issued = tt;
      }

  plan_for_lem : (d : Due) → SoundPlan s time (plan_for d s l time id)
  plan_for_lem Nothing = record { site = h; number = refl; pool = same; issued = tt }
  plan_for_lem Version = record { site = with_link_lem time s h l (version_out_of (link_at s l) id time); number = refl; pool = same; issued = tt }
  plan_for_lem Watchdog = record { site = with_link_lem time s h l (watchdog_out_of (link_at s l) id time); number = refl; pool = same; issued = tt }
  plan_for_lem Aggregated = record { site = with_link_lem time s h l (aggregated_passed_of (message_out (link_at s l) id time NoRecord)); number = refl; pool = same; issued = tt }
  plan_for_lem (Alarm k) = record { site = alarm_sent (carried_at s l k); number = refl; pool = marked_pool (carried_at s l k); issued = tt }
  plan_for_lem Entry = entry_plan_lem (oldest_unsent s.pool (owner_of s l))

  pub pump_plan_lem : SoundPlan s time (pump_plan s l time id)
  pump_plan_lem = plan_for_lem (due_at s l time)
