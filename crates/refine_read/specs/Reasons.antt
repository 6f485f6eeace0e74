-- The machine's list of reasons in the order in which the code asks for them.
-- Assumes nothing.
use Rattle.std.specs.Prelude.{ℕ, ◌≡◌, Bool, true, false, not, leb, length, drop}
use Prim.Native.String.{String}
use Rattle.std.proofs.Math.Option.{Option, some, none}
use Rattle.json_value.specs.Grammar.{Json}
use Rattle.read_head.specs.declared.Verdict.{Verdict}
use Rattle.read_head.specs.declared.Verdict.TheVariants.{Good, Missing, Bad}
use Rattle.machine.specs.Words.{if'◌then◌else◌, ◌and◌, maybe, is_some, is_number, any, first_of}
use Rattle.machine.specs.State.{Machine, life_at}
use Rattle.machine.specs.Json.{string_at, entries_of, element_is, is_type}
use Rattle.machine.specs.Table.{command_row}
use Rattle.machine.specs.Life.{is_beating, is_primary, is_older}
use Rattle.machine.specs.Answers.{component_asked, alarm_asked, status_asked, command_asked, value_asked, in_range, is_unexpected, reasons}
use Rattle.refine_read.specs.Verdicts.{verdict_in}
use Rattle.refine_read.specs.Head.{type_name, m_type_of}

-- "Missing element", "Bad value", then what comes behind them
abbrev pub by_verdict : Verdict → Option String → Option String
by_verdict Good further = further
by_verdict Missing further = some "Missing element"
by_verdict Bad further = some "Bad value"

-- behind the first six: a command's range, the three checks, what is unknown, "Busy"
abbrev pub further_reason : Machine → ℕ → Json → Option String
further_reason m l j = first_of (drop 6 (reasons m l j))

-- "Reasons, first that applies: mType "Missing element" or "Bad value"; "Unexpected" ..; "Not ready" ..; "Missing element"; "Bad value"; .."
abbrev pub reason_by : Machine → ℕ → Json → Option String
reason_by m l j =
    by_verdict (m_type_of j)
    (if' is_unexpected (life_at m l) j then some "Unexpected"
    else if' is_beating (life_at m l) and not (is_type "Watchdog" j) then some "Not ready"
    else by_verdict (verdict_in (is_older (life_at m l)) j) (further_reason m l j))

-- "Busy" (a reply is due and 16 are awaited)
abbrev pub busy_if : Machine → ℕ → Bool → Option String
busy_if m l replies = if' replies and leb 16 (length (life_at m l).awaited) then some "Busy" else none

abbrev pub any_unknown : Machine → Json → Bool
any_unknown m j = any (λ e. not (is_some (status_asked m j e))) (entries_of "sS" j)

abbrev pub any_unknown_command : Machine → Json → Bool
any_unknown_command m j = any (λ e. not (is_some (command_asked m j e))) (entries_of "arg" j)

abbrev pub any_out_of_range : Machine → Json → Bool
any_out_of_range m j =
    any (λ e. maybe false (λ i. not (in_range (command_row m.setup.table i) (value_asked e))) (command_asked m j e)) (entries_of "arg" j)

-- what they come to for each type besides Version
pub record FurtherReasons (m : Machine) (l : ℕ) (j : Json) : Type 0 where
  pub watchdog : is_type "Watchdog" j ≡ true → further_reason m l j ≡ none
  pub alarm : is_type "Alarm" j ≡ true
      → further_reason m l j
      ≡ (if' is_some (component_asked m j) then if' is_some (alarm_asked m j) then busy_if m l (element_is "aSp" "Request" j and is_primary m l) else some "Unknown alarm"
      else some "Unknown component")
  pub aggregated : is_type "AggregatedStatusRequest" j ≡ true
      → further_reason m l j ≡ (if' is_number 0 (component_asked m j) then busy_if m l true else some "Unknown component")
  -- never "Busy" where the answer carries the acknowledgement
  pub status_request : (included : Bool) → string_at "type" j ≡ some (type_name "StatusRequest" included)
      → further_reason m l j ≡ (if' is_some (component_asked m j) and any_unknown m j then some "Unknown status" else busy_if m l (not included))
  pub status_subscribe : is_type "StatusSubscribe" j ≡ true
      → further_reason m l j ≡ (if' is_some (component_asked m j) and not (any_unknown m j) then none else some "Unknown status")
  pub status_unsubscribe : is_type "StatusUnsubscribe" j ≡ true
      → further_reason m l j ≡ (if' is_some (component_asked m j) and not (any_unknown m j) then none else some "Unknown status")
  pub command_request : (included : Bool) → string_at "type" j ≡ some (type_name "CommandRequest" included)
      → further_reason m l j
      ≡ (if' is_some (component_asked m j) then if' any_out_of_range m j then some "Bad value" else if' any_unknown_command m j then some "Unknown command" else busy_if m l (not included)
      else busy_if m l (not included))
