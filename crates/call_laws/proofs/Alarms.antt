-- A sound alarm after an input or an order, and its record.
-- Assumes nothing.
use Rattle.basis.proofs.Std.{ℕ, ◌≤◌, ◌<◌, refl, Bool, true, false, arith, eqb, lit<, lit≤, bit, picked}
use Rattle.entry.specs.Valid.{last_time}
use Rattle.entry.specs.Valid.OfKind.{an_alarm}
use Rattle.entry.proofs.FlagLaws.{bit_le}
use Rattle.alarm.specs.declared.Alarm.{Alarm}
use Rattle.alarm.specs.declared.Changed.{Changed}
use Rattle.alarm.specs.declared.Order.{Order}
use Rattle.alarm.specs.declared.Order.TheVariants.{Acknowledge, Suspend, Resume}
use Rattle.alarm.specs.Alarm.{nothing, event, issued, input_of, acknowledge_of, suspend_of, order_of}
use Rattle.alarm.specs.Issued.{issued_of}
use Rattle.table_whole.specs.declared.SiteTable.{SiteTable}
use Rattle.site.specs.Site.{owner}
use Rattle.call_laws.specs.Sound.{SoundAlarm, SoundStart, SoundEntry}
use Rattle.call_laws.proofs.Owners.{owner_site, owner_link, owner_few}

module _ (now : ℕ) (a : Alarm) (h : SoundAlarm now a) where
  abbrev Good : Changed → Type 0
  Good c = SoundAlarm now c.alarm

  pub input_sound : (active : Bool) → SoundAlarm now (input_of a active now).alarm
  unfolding input_of
  input_sound active =
      picked Good (eqb a.active (bit active)) (nothing a) (event (issued a active now) (eqb a.suspended 0)) (λ e. h)
      (λ e. record {
        acknowledged = picked (λ (n : ℕ). n ≤ 1) active 0 a.acknowledged (λ t. lit≤ tt) (λ t. h.acknowledged);
        active = bit_le active;
        suspended = h.suspended;
        event = lit≤ tt;
        time = omega arith;
      })

  acknowledge_sound : SoundAlarm now (acknowledge_of a now).alarm
  unfolding acknowledge_of
  acknowledge_sound =
      picked Good (eqb a.acknowledged 1) (nothing a)
      (event (record { time = now; event = 1; acknowledged = 1; active = a.active; suspended = a.suspended }) true) (λ e. h)
      (λ e. record { acknowledged = lit≤ tt; active = h.active; suspended = h.suspended; event = lit≤ tt; time = omega arith })

  suspend_sound : (suspended : Bool) → SoundAlarm now (suspend_of a suspended now).alarm
  unfolding suspend_of
  suspend_sound suspended =
      picked Good (eqb a.suspended (bit suspended)) (nothing a)
      (event (record { time = now; event = 2; acknowledged = a.acknowledged; active = a.active; suspended = bit suspended }) true) (λ e. h)
      (λ e. record { acknowledged = h.acknowledged; active = h.active; suspended = bit_le suspended; event = lit≤ tt; time = omega arith })

  pub order_sound : (order : Order) → SoundAlarm now (order_of a order now).alarm
  order_sound Acknowledge = acknowledge_sound
  order_sound Suspend = suspend_sound true
  order_sound Resume = suspend_sound false

-- the table has at most 32 alarms and 32 statuses
module _ (links primary period : ℕ) (t : SiteTable) (s : SoundStart links primary period t) where
  pub few_alarms : t.alarmcount ≤ 32
  few_alarms = rw s.kept s.allowed.most_alarms

  pub few_statuses : t.statuscount ≤ 32
  few_statuses = rw s.kept s.allowed.most_statuses

  -- the record of a sound alarm for the primary
  pub alarm_record_lem : (site : ℕ) → site < 2 → (now : ℕ) → now ≤ last_time → (a : Alarm) → SoundAlarm now a → (k : ℕ) → primary < links → k < t.alarmcount
      → SoundEntry site links primary t now (issued_of a (owner site primary) k)
  alarm_record_lem site b now m a h k p i =
      let few = few_alarms in
      let four = s.most_links in
      let before = h.time in
      let which = h.event in
      record {
        valid = record {
          link = owner_few site primary b (omega (arith, p, four));
          time = omega (arith, before, m);
          sequence = lit< tt;
          of_kind = an_alarm (record {
            kind = refl;
            item = omega (arith, i, few);
            event = a.event;
            acknowledged = eqb a.acknowledged 1;
            active = eqb a.active 1;
            suspended = eqb a.suspended 1;
            event_is = omega (arith, which);
            flags = refl;
            value = refl;
          });
        };
        of_site = owner_site site primary (omega (arith, p, four));
        link = rw (owner_link site primary (omega (arith, p, four))) p;
        item = i;
        time = h.time;
        for_primary = λ e. owner_link site primary (omega (arith, p, four));
      }
