-- What a packet names in the table of a sound site is one of the table's.
-- Assumes nothing.
use Rattle.basis.proofs.Std.{ℕ, ◌<◌, sym, subst, Bool, true, false, ltb, length, pick}
use Rattle.label.specs.declared.Label.{Label}
use Rattle.label.specs.Label.{text_of}
use Rattle.table_item.specs.declared.Found.{Found}
use Rattle.table_item.specs.declared.Found.TheVariants.{At, Nothing as Missing}
use Rattle.table_whole.specs.declared.SiteTable.{SiteTable}
use Rattle.table_whole.specs.Lookup.{Finds, find_alarm, find_status}
use Rattle.table_whole.specs.Lookup.Finds.{only, absent}
use Rattle.table_whole.proofs.Lookups.{alarm_found, status_found}
use Rattle.read_lists.specs.declared.StatusEntry.{StatusEntry}
use Rattle.packet_lookup.specs.declared.Sought.{Sought}
use Rattle.packet_lookup.specs.declared.Sought.TheVariants.{Is, Nothing}
use Rattle.packet_lookup.specs.declared.SoughtAlarm.{SoughtAlarm}
use Rattle.packet_lookup.specs.declared.SoughtAlarm.TheVariants.{Alarm, NoComponent, NoAlarm}
use Rattle.packet_lookup.specs.Sought.{numbered, component_sought, alarm_in, or_no_alarm, alarm_of, alarm_sought, status_sought}
use Rattle.call_laws.specs.Sound.{SoundStart}

abbrev FoundBelow : ℕ → Found → Type 0
FoundBelow n (At i) = i < n
FoundBelow n Missing = Unit {0}

abbrev pub Below : ℕ → Sought → Type 0
Below n (Is k) = k < n
Below n Nothing = Unit {0}

abbrev pub AlarmBelow : ℕ → SoughtAlarm → Type 0
AlarmBelow n (Alarm k) = k < n
AlarmBelow n NoComponent = Unit {0}
AlarmBelow n NoAlarm = Unit {0}

found_below : (n : ℕ) (P : ℕ → Type 0) (f : Found) → Finds n P f → FoundBelow n f
found_below n P (At i) (only h p o) = h
found_below n P Missing (absent a) = tt

numbered_below : (n : ℕ) (f : Found) → FoundBelow n f → Below n (numbered f)
numbered_below n (At i) h = by (ltb i 32)
  where
    by : (t : Bool) → Below n (pick t (Is i) Nothing)
    by true = h
    by false = tt
numbered_below n Missing h = tt

or_below : (n : ℕ) (x : Sought) → Below n x → AlarmBelow n (or_no_alarm x)
or_below n (Is k) h = h
or_below n Nothing h = tt

module _ (links primary period : ℕ) (t : SiteTable) (s : SoundStart links primary period t) where
  alarm_in_lem : (component : ℕ) (code : Label) → Below t.alarmcount (alarm_in t component code)
  alarm_in_lem component code =
      numbered_below t.alarmcount (find_alarm t component (text_of code))
      (subst (λ (m : SiteTable). FoundBelow m.alarmcount (find_alarm m component (text_of code))) (sym s.kept)
      (found_below (length s.read.alarms) _ _ (alarm_found s.read s.allowed component (text_of code))))

  pub alarm_below : (id code : Label) → AlarmBelow t.alarmcount (alarm_sought t id code)
  alarm_below id code = by (component_sought t id)
    where
      by : (x : Sought) → AlarmBelow t.alarmcount (alarm_of t code x)
      by (Is component) = or_below t.alarmcount (alarm_in t component code) (alarm_in_lem component code)
      by Nothing = tt

  pub status_below : (component : ℕ) (e : StatusEntry) → Below t.statuscount (status_sought t component e)
  status_below component e =
      numbered_below t.statuscount (find_status t component (text_of e.code) (text_of e.name))
      (subst (λ (m : SiteTable). FoundBelow m.statuscount (find_status m component (text_of e.code) (text_of e.name))) (sym s.kept)
      (found_below (length s.read.statuses) _ _ (status_found s.read s.allowed component (text_of e.code) (text_of e.name))))
