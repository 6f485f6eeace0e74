-- Finding a component, an alarm, a status or a command by what it is called: at most one hit.
-- Assumes nothing.
use Rattle.std.specs.Prelude.{ℕ, ◌<◌, ◌≡◌, List, [], get_or}
use Rattle.table_item.specs.declared.Found.{Found}
use Rattle.table_item.specs.declared.Found.TheVariants.{At, Nothing}
use Rattle.table_item.specs.Find.{find_label, find_item}
use Rattle.table_whole.specs.declared.SiteTable.{SiteTable}
use Rattle.table_whole.specs.Table.{Row, no_row, Table}

abbrev pub find_component : SiteTable → List ℕ → Found
find_component m id = find_label m.components m.componentcount id

abbrev pub find_alarm : SiteTable → ℕ → List ℕ → Found
find_alarm m component code = find_item m.alarms m.alarmcount component code []

abbrev pub find_status : SiteTable → ℕ → List ℕ → List ℕ → Found
find_status m component code name = find_item m.statuses m.statuscount component code name

abbrev pub find_command : SiteTable → ℕ → List ℕ → List ℕ → Found
find_command m component code name = find_item m.commands m.commandcount component code name

-- the only one of n places that is so, or none is
pub data Finds (n : ℕ) (P : ℕ → Type 0) : Found → Type 0 where
  only : {i : ℕ} → i < n → P i → ((j : ℕ) → j < n → P j → j ≡ i) → Finds n P (At i)
  absent : ((j : ℕ) → j < n → P j → ⊥) → Finds n P Nothing

-- place i of the table is called so
abbrev pub ComponentIs : Table → List ℕ → ℕ → Type 0
ComponentIs t id i = get_or t.components i [] ≡ id

pub record RowIs (component : ℕ) (code name : List ℕ) (r : Row) : Type 0 where
  pub component_is : r.component ≡ component
  pub code_is : r.code ≡ code
  pub name_is : r.name ≡ name

abbrev pub AlarmIs : Table → ℕ → List ℕ → ℕ → Type 0
AlarmIs t component code i = RowIs component code [] (get_or t.alarms i no_row)

abbrev pub StatusIs : Table → ℕ → List ℕ → List ℕ → ℕ → Type 0
StatusIs t component code name i = RowIs component code name (get_or t.statuses i no_row)

abbrev pub CommandIs : Table → ℕ → List ℕ → List ℕ → ℕ → Type 0
CommandIs t component code name i = RowIs component code name (get_or t.commands i no_row)
