-- Which tables document 01 allows, said on their fields.
-- Assumes nothing.
use Rattle.std.specs.Prelude.{ℕ, ◌≤◌, ◌<◌, ◌≡◌, true, List, [], ◌∷◌, pos, length, get_or}
use Rattle.number.specs.Signed.{Signed16, at_most}
use Rattle.number.specs.Alphabet.{is_label}
use Rattle.table_whole.specs.Table.{Row, no_row, Table}

-- each element is so
pub data Every {A : Type 0} (P : A → Type 0) : List A → Type 0 where
  none : Every P []
  more : {x : A} {xs : List A} → P x → Every P xs → Every P (x ∷ xs)

-- 1 to 32 bytes of the alphabet
abbrev pub IsString : List ℕ → Type 0
IsString s = is_label s ≡ true

pub record NoRange (r : Row) : Type 0 where
  pub lowest : r.lowest ≡ pos 0
  pub highest : r.highest ≡ pos 0

pub record IsAlarm (components : ℕ) (r : Row) : Type 0 where
  pub component : r.component < components
  pub lowest : 1 ≤ r.priority
  pub highest : r.priority ≤ 3
  pub category : r.category ≤ 1
  pub code : IsString r.code
  pub name : r.name ≡ []
  pub no_range : NoRange r

pub record IsStatus (components : ℕ) (r : Row) : Type 0 where
  pub component : r.component < components
  pub priority : r.priority ≡ 0
  pub category : r.category ≡ 0
  pub code : IsString r.code
  pub name : IsString r.name
  pub no_range : NoRange r

-- "lowest and highest value as signed 16-bit numbers, the lowest not above the highest"
pub record IsCommand (components : ℕ) (r : Row) : Type 0 where
  pub component : r.component < components
  pub priority : r.priority ≡ 0
  pub category : r.category ≡ 0
  pub code : IsString r.code
  pub name : IsString r.name
  pub lowest : Signed16 r.lowest
  pub highest : Signed16 r.highest
  pub range : at_most r.lowest r.highest ≡ true

-- two rows are called the same
pub record SameRow (r q : Row) : Type 0 where
  pub component : r.component ≡ q.component
  pub code : r.code ≡ q.code
  pub name : r.name ≡ q.name

-- no two places hold the same
abbrev pub NoneTwice : {A : Type 0} → (A → A → Type 0) → A → List A → Type 0
NoneTwice same d xs = (i j : ℕ) → i < length xs → j < length xs → same (get_or xs i d) (get_or xs j d) → i ≡ j

-- edition 1 has no commands
pub data EditionOf (t : Table) : ℕ → Type 0 where
  first : t.commands ≡ [] → EditionOf t 1
  second : EditionOf t 2

pub record Allowed (edition : ℕ) (t : Table) : Type 0 where
  pub edition_of : EditionOf t edition
  pub fewest_components : 1 ≤ length t.components
  pub most_components : length t.components ≤ 8
  pub most_alarms : length t.alarms ≤ 32
  pub most_statuses : length t.statuses ≤ 32
  pub most_commands : length t.commands ≤ 16
  pub site : IsString t.site
  pub sxl : IsString t.sxl
  pub components : Every IsString t.components
  pub alarms : Every (IsAlarm (length t.components)) t.alarms
  pub statuses : Every (IsStatus (length t.components)) t.statuses
  pub commands : Every (IsCommand (length t.components)) t.commands
  pub no_component_twice : NoneTwice (λ (a b : List ℕ). a ≡ b) [] t.components
  pub no_alarm_twice : NoneTwice SameRow no_row t.alarms
  pub no_status_twice : NoneTwice SameRow no_row t.statuses
  pub no_command_twice : NoneTwice SameRow no_row t.commands
