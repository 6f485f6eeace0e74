-- Cases of document 01, "Site table": Start's values at both sides of their limits, and what a start makes. Claims; the proofs are `refl`.
-- Assumes nothing.
use Rattle.std.specs.Prelude.{ℕ, ◌≡◌, true, false, [], ◌∷◌, map}
use Rattle.std.proofs.Math.Option.{Option, some, none}
use Rattle.basis.specs.Text.{text}
use Rattle.machine.specs.State.{alarm_of, Life, life_of, exchange, pool_of, Start, machine}
use Rattle.machine.specs.State.Event.{Issue}
use Rattle.machine.specs.Table.{good_start, component_of, alarm_number, status_number, command_number}
use Rattle.machine.specs.Example.{noon}
use Rattle.machine_cases.specs.Junction.{table, begun}

abbrev pub start_of : ℕ → Option ℕ → ℕ → ℕ → ℕ → Start
start_of links primary period first time = record { site = 0; table = []; links = links; primary = primary; period = period; first = first; time = time }

abbrev pub down : Life
down = life_of false (exchange false false false) (exchange false false false) [] 0 0 []

pub record Starts : Type 0 where
  -- "1 to 4 supervisors", "primary (or none)": one of the links
  pub links : map good_start (start_of 0 none 1 0 0 ∷ start_of 1 none 1 0 0 ∷ start_of 4 none 1 0 0 ∷ start_of 5 none 1 0 0 ∷ [])
      ≡ false ∷ true ∷ true ∷ false ∷ []
  pub primary : map good_start (start_of 1 (some 0) 1 0 0 ∷ start_of 1 (some 1) 1 0 0 ∷ start_of 3 (some 2) 1 0 0 ∷ start_of 3 (some 3) 1 0 0 ∷ [])
      ≡ true ∷ false ∷ true ∷ false ∷ []
  -- "watchdog period (1 to 3,600 seconds)"
  pub period : map good_start (start_of 1 none 0 0 0 ∷ start_of 1 none 1 0 0 ∷ start_of 1 none 3600 0 0 ∷ start_of 1 none 3601 0 0 ∷ [])
      ≡ false ∷ true ∷ true ∷ false ∷ []
  -- "first sequence number (0 to number 10's limit)"
  pub first : map good_start (start_of 1 none 1 0 0 ∷ start_of 1 none 1 2147483647 0 ∷ start_of 1 none 1 2147483648 0 ∷ []) ≡ true ∷ true ∷ false ∷ []
  -- "and time (0 to 253402300799999)"
  pub time : map good_start (start_of 1 none 1 0 0 ∷ start_of 1 none 1 0 253402300799999 ∷ start_of 1 none 1 0 253402300800000 ∷ [])
      ≡ true ∷ true ∷ false ∷ []
  -- "An alarm starts inactive, acknowledged, not suspended, last event Issue at start." "A status without a value so far". "The aggregated value
  -- starts all false at the start time." Every link is Down, nothing subscribed, held or lost
  pub begins : begun
      ≡ machine (record { table = table; links = 4; primary = some 1; period = 2 })
      noon
      (alarm_of false true false Issue noon ∷ alarm_of false true false Issue noon ∷ alarm_of false true false Issue noon ∷ [])
      (none ∷ none ∷ none ∷ none ∷ [])
      0 noon []
      (down ∷ down ∷ down ∷ down ∷ [])
      (pool_of 5 [] (0 ∷ 0 ∷ 0 ∷ 0 ∷ []))
  -- a component by its id, an alarm by component and code, a status or a command by component, code and name
  pub component : component_of table (text "K2") ≡ some 2
  pub no_component : component_of table (text "K20") ≡ none
  pub alarms : map (λ c. alarm_number table c (text "A1")) (0 ∷ 1 ∷ 2 ∷ []) ≡ none ∷ some 0 ∷ some 1 ∷ []
  pub second_alarm : alarm_number table 2 (text "A2") ≡ some 2
  pub statuses : map (λ c. status_number table c (text "S1") (text "level")) (0 ∷ 1 ∷ 2 ∷ []) ≡ some 0 ∷ some 1 ∷ none ∷ []
  pub other_statuses : status_number table 1 (text "S1") (text "flow") ∷ status_number table 1 (text "S2") (text "flow")
      ∷ status_number table 1 (text "S2") (text "level") ∷ []
      ≡ some 2 ∷ some 3 ∷ none ∷ []
  pub commands : map (λ c. command_number table c (text "M1") (text "boom")) (0 ∷ 1 ∷ 2 ∷ []) ≡ none ∷ some 1 ∷ some 0 ∷ []
  pub other_commands : command_number table 1 (text "M1") (text "lamp") ∷ command_number table 1 (text "M2") (text "lamp")
      ∷ command_number table 1 (text "M2") (text "boom") ∷ []
      ≡ some 2 ∷ some 3 ∷ none ∷ []
