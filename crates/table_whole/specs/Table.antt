-- A site table: what the box is.
-- Assumes nothing.
use Rattle.std.specs.Prelude.{ℕ, List, [], ℤ, pos}

-- an alarm, a status or a command; an alarm has no name, only an alarm has priority and category, only a command a range
pub record Row : Type 0 where
  pub component : ℕ
  pub priority : ℕ
  pub category : ℕ
  pub code : List ℕ
  pub name : List ℕ
  pub lowest : ℤ
  pub highest : ℤ

abbrev pub no_row : Row
no_row = record { component = 0; priority = 0; category = 0; code = []; name = []; lowest = pos 0; highest = pos 0 }

pub record Table : Type 0 where
  pub site : List ℕ
  pub sxl : List ℕ
  pub components : List (List ℕ)
  pub alarms : List Row
  pub statuses : List Row
  pub commands : List Row
