-- The record of an alarm's last event.
-- Assumes nothing.
use Rattle.std.specs.Prelude.{ℕ, eqb}
use Rattle.entry.specs.declared.Entry.{Entry}
use Rattle.entry.specs.Flags.{alarm_flags}
use Rattle.alarm.specs.declared.Alarm.{Alarm}

-- kind 0, the alarm's number, its event and states in the flags, no value; the pool gives the sequence number
abbrev pub issued_of : Alarm → ℕ → ℕ → Entry
issued_of a link number =
    record {
      time = a.time;
      value = 0;
      sequence = 0;
      link = link;
      kind = 0;
      item = number;
      flags = alarm_flags a.event (eqb a.acknowledged 1) (eqb a.active 1) (eqb a.suspended 1);
    }
