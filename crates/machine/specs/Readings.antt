-- What a host reads of a link: how many records are held and lost, the phase, the chosen version, and the held records, oldest first.
-- Assumes nothing.
use Rattle.std.specs.Prelude.{ℕ, Bool, true, false, List, [], ◌∷◌, map, ltb, ℤ, get_or}
use Rattle.std.proofs.Math.Option.{Option, some, none}
use Rattle.number.specs.Signed.{word_of}
use Rattle.entry.specs.declared.Entry.{Entry}
use Rattle.entry.specs.Flags.{alarm_flags, status_flags}
use Rattle.entry.specs.Layout.{bytes_of}
use Rattle.machine.specs.Words.{Bytes, if'◌then◌else◌, keep}
use Rattle.machine.specs.State.{event_number, Alarm, Content, Held, Machine, life_at}
use Rattle.machine.specs.State.Content.{of_alarm, of_status, of_aggregated}
use Rattle.machine.specs.Life.{is_down, is_greeting, is_beating}
use Rattle.machine.specs.Pool.{is_for, holds, owner_of}

pub record Reading : Type 0 where
  pub held : ℕ
  pub lost : ℕ
  pub phase : ℕ  -- 0 Down, 1 Greeting, 2 Beating, 3 Up
  pub version : List ℕ
  pub records : List Bytes  -- sixteen bytes each

-- request 10: link 3, "kind 2 (0 alarm, 1 status, 2 aggregated), item 6 (0 to 31, aggregated 0), flags 6, time 48, value 32", sequence 31
abbrev pub entry : ℕ → ℕ → ℕ → ℕ → ℕ → ℕ → ℕ → Entry
entry link kind item flags time value sequence =
    record { time = time; value = value; sequence = sequence; link = link; kind = kind; item = item; flags = flags }

-- "A status holds a signed 32-bit value, two's complement (0 if unknown)"
abbrev pub status_entry : ℕ → ℕ → Bool → ℕ → ℕ → Option ℤ → Entry
status_entry link number old time sequence none = entry link 1 number (status_flags false old) time 0 sequence
status_entry link number old time sequence (some v) = entry link 1 number (status_flags true old) time (word_of v) sequence

abbrev pub entry_for : ℕ → ℕ → Content → Entry
entry_for link sequence (of_alarm i a) =
    entry link 0 i (alarm_flags (event_number a.event) a.acknowledged a.active a.suspended) a.time 0 sequence
entry_for link sequence (of_status i v old time) = status_entry link i old time sequence v
entry_for link sequence (of_aggregated v time) = entry link 2 0 0 time v sequence

-- request 10, "The record's link field becomes three bits (first bit the site)": it is the owner
abbrev pub record_bytes : ℕ → Held → Bytes
record_bytes site h = bytes_of (entry_for (owner_of site h.link) h.sequence h.content)

abbrev pub phase_of : Machine → ℕ → ℕ
phase_of m l = if' is_down (life_at m l) then 0 else if' is_greeting (life_at m l) then 1 else if' is_beating (life_at m l) then 2 else 3

unfoldable pub reading : Machine → ℕ → Reading
reading m l =
    record {
      held = holds m.pool l;
      lost = get_or m.pool.lost l 0;
      phase = phase_of m l;
      version = (life_at m l).version;
      records = map (record_bytes m.pool.site) (keep (is_for l) m.pool.held);
    }
