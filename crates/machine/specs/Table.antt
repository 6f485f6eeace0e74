-- Document 01, "Site table": what is looked up in it, and the machine that start makes.
-- Assumes nothing.
use Rattle.std.specs.Prelude.{ℕ, ◌≡◌, Bool, true, false, List, [], map, eqb, ltb, leb, length, get_or, replicate}
use Rattle.std.proofs.Math.Option.{Option, some, none}
use Rattle.basis.specs.Lists.{same_bytes}
use Rattle.answer.specs.Times.{last_time}
use Rattle.table_whole.specs.Table.{Row, no_row, Table}
use Rattle.table_whole.specs.Bytes.{table_bytes}
use Rattle.table_whole.specs.Allowed.{Allowed}
use Rattle.machine.specs.Words.{Bytes, ◌and◌, maybe, place_of}
use Rattle.machine.specs.State.{Setup, Start, Machine, machine, no_share, shared_pool, alarm_of, fresh}
use Rattle.machine.specs.State.Event.{Issue}

abbrev pub last_sequence : ℕ
last_sequence = 2147483647

abbrev pub component_text : Table → ℕ → Bytes
component_text t c = get_or t.components c []

abbrev pub alarm_row : Table → ℕ → Row
alarm_row t i = get_or t.alarms i no_row

abbrev pub status_row : Table → ℕ → Row
status_row t i = get_or t.statuses i no_row

abbrev pub command_row : Table → ℕ → Row
command_row t i = get_or t.commands i no_row

-- the number of a component by its id, of an alarm by component and code, of a status or a command by component, code and name
abbrev pub component_of : Table → Bytes → Option ℕ
component_of t id = place_of (same_bytes id) t.components

abbrev pub alarm_number : Table → ℕ → Bytes → Option ℕ
alarm_number t c code = place_of (λ r. eqb r.component c and same_bytes r.code code) t.alarms

abbrev pub is_called : ℕ → Bytes → Bytes → Row → Bool
is_called c code name r = eqb r.component c and same_bytes r.code code and same_bytes r.name name

abbrev pub status_number : Table → ℕ → Bytes → Bytes → Option ℕ
status_number t c code name = place_of (is_called c code name) t.statuses

abbrev pub command_number : Table → ℕ → Bytes → Bytes → Option ℕ
command_number t c code name = place_of (is_called c code name) t.commands

-- "link count [1 to 4], primary (or none), watchdog period (1 to 3,600 seconds), first sequence number (0 to number 10's limit)
-- and time (0 to 253402300799999)"; request 10: the site, 0 or 1
abbrev pub good_start : Start → Bool
good_start s =
    leb 1 s.links and leb s.links 4
    and maybe true (λ p. ltb p s.links) s.primary
    and leb 1 s.period and leb s.period 3600
    and leb s.first last_sequence
    and leb s.time last_time
    and leb s.site 1

-- "An alarm starts inactive, acknowledged, not suspended, last event Issue at start." "The aggregated value starts all false at the
-- start time." "Lost counts are kept per link, from start."
abbrev pub first : Table → Start → Machine
first t s =
    machine (record { table = t; links = s.links; primary = s.primary; period = s.period })
    s.time
    (map (λ r. alarm_of false true false Issue s.time) t.alarms)
    (map (λ r. none) t.statuses)
    0
    s.time
    []
    (replicate s.links (fresh false))
    (shared_pool s.site s.first [] (replicate s.links 0) no_share)

-- "11: start values, site table .. not accepted": the machine that a start makes, or none; "edition 1 tables are still read"
pub data Begins (s : Start) : Option Machine → Type 0 where
  begins : {edition : ℕ} {t : Table} → Allowed edition t → table_bytes edition t ≡ s.table → good_start s ≡ true → Begins s (some (first t s))
  not_good : good_start s ≡ false → Begins s none
  no_table : ((edition : ℕ) (t : Table) → Allowed edition t → table_bytes edition t ≡ s.table → ⊥) → Begins s none
