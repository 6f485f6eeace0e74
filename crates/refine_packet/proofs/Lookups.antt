-- Lookups are the machine's.
-- Assumes nothing.
use Rattle.basis.proofs.Std.{ℕ, zero, suc, ◌<◌, arith, ◌≡◌, refl, sym, ap, ap₂, ◌∙◌, Bool, List, [], ◌∷◌, Option, some, none, eqb, ℤ, length, get_or, eqb-true, eq-eqb, both, same_bytes, both_true, both_of, same_true, same_self}
use Rattle.number.specs.Signed.{at_most}
use Rattle.number.proofs.RoundTrip.{signed_word_16}
use Rattle.label.specs.Label.{label_of, text_of}
use Rattle.table_item.specs.declared.Item.{Item}
use Rattle.table_item.specs.Item.{no_item}
use Rattle.table_whole.specs.Table.{Row, no_row, Table}
use Rattle.table_whole.specs.Allowed.{Every, IsCommand, Allowed}
use Rattle.table_whole.specs.Allowed.Every.{more}
use Rattle.table_whole.specs.Memory.{memory_of}
use Rattle.table_whole.specs.Lookup.{find_component, find_alarm, find_status, find_command, ComponentIs, AlarmIs, StatusIs, CommandIs}
use Rattle.table_whole.proofs.Kept.{text_label, kept_item}
use Rattle.table_whole.proofs.Lookups.{component_found, alarm_found, status_found, command_found}
use Rattle.packet_lookup.specs.declared.SoughtAlarm.TheVariants.{Alarm, NoComponent, NoAlarm}
use Rattle.packet_lookup.specs.Sought.{numbered, component_sought, or_no_alarm, alarm_of, alarm_sought}
use Rattle.machine.specs.Words.{Bytes, maybe}
use Rattle.packet_command.specs.Commanding.{in_range}
use Rattle.machine.specs.Table.{component_of, alarm_number, status_number, command_number, command_row, is_called}
use Rattle.machine.specs.Answers.{in_range as in_range_of}
use Rattle.refine_packet.specs.Lookups.{sought_for, Lookups, SameLookups}
use Rattle.refine_packet.proofs.Places.{placed, within, same_place}

every_at : {A : Type 0} {P : A → Type 0} (d : A) (xs : List A) → Every P xs → (i : ℕ) → i < length xs → P (get_or xs i d)
every_at d [] e i h = absurd (omega arith)
every_at d (x ∷ xs) (more p e) zero h = p
every_at d (x ∷ xs) (more p e) (suc i) h = every_at d xs e i (omega arith)

abbrev is_row : ℕ → Bytes → Row → Bool
is_row c code r = both (eqb r.component c) (same_bytes r.code code)

module _ (edition : ℕ) (t : Table) (ok : Allowed edition t) where
  component_same : (id : Bytes) → numbered (find_component (memory_of t) id) ≡ sought_for (component_of t id)
  component_same id =
      same_place (same_bytes id) [] t.components (omega (arith, ok.most_components)) (ComponentIs t id)
      (λ i h e. sym (same_true id (get_or t.components i []) e))
      (λ i h p. ap (same_bytes id) p ∙ same_self id)
      (find_component (memory_of t) id) (component_found t ok id) (component_of t id) (placed (same_bytes id) [] t.components 0)

  alarm_same : (c : ℕ) (code : Bytes) → numbered (find_alarm (memory_of t) c code) ≡ sought_for (alarm_number t c code)
  alarm_same c code =
      same_place (is_row c code) no_row t.alarms ok.most_alarms (AlarmIs t c code)
      (λ i h e.
      let r : Row = get_or t.alarms i no_row in
      let q = both_true (eqb r.component c) (same_bytes r.code code) e in
      record { component_is = eqb-true r.component c q.0; code_is = same_true r.code code q.1; name_is = (every_at no_row t.alarms ok.alarms i h).name })
      (λ i h p.
      let r : Row = get_or t.alarms i no_row in
      both_of (eq-eqb r.component c p.component_is) (ap (λ (x : Bytes). same_bytes x code) p.code_is ∙ same_self code))
      (find_alarm (memory_of t) c code) (alarm_found t ok c code) (alarm_number t c code) (placed (is_row c code) no_row t.alarms 0)

  status_same : (c : ℕ) (code name : Bytes) → numbered (find_status (memory_of t) c code name) ≡ sought_for (status_number t c code name)
  status_same c code name =
      same_place (is_called c code name) no_row t.statuses ok.most_statuses (StatusIs t c code name)
      (λ i h e.
      let r : Row = get_or t.statuses i no_row in
      let q = both_true (eqb r.component c) (both (same_bytes r.code code) (same_bytes r.name name)) e in
      let u = both_true (same_bytes r.code code) (same_bytes r.name name) q.1 in
      record { component_is = eqb-true r.component c q.0; code_is = same_true r.code code u.0; name_is = same_true r.name name u.1 })
      (λ i h p.
      let r : Row = get_or t.statuses i no_row in
      both_of (eq-eqb r.component c p.component_is)
      (both_of (ap (λ (x : Bytes). same_bytes x code) p.code_is ∙ same_self code) (ap (λ (x : Bytes). same_bytes x name) p.name_is ∙ same_self name)))
      (find_status (memory_of t) c code name) (status_found t ok c code name) (status_number t c code name) (placed (is_called c code name) no_row t.statuses 0)

  command_same : (c : ℕ) (code name : Bytes) → numbered (find_command (memory_of t) c code name) ≡ sought_for (command_number t c code name)
  command_same c code name =
      same_place (is_called c code name) no_row t.commands (omega (arith, ok.most_commands)) (CommandIs t c code name)
      (λ i h e.
      let r : Row = get_or t.commands i no_row in
      let q = both_true (eqb r.component c) (both (same_bytes r.code code) (same_bytes r.name name)) e in
      let u = both_true (same_bytes r.code code) (same_bytes r.name name) q.1 in
      record { component_is = eqb-true r.component c q.0; code_is = same_true r.code code u.0; name_is = same_true r.name name u.1 })
      (λ i h p.
      let r : Row = get_or t.commands i no_row in
      both_of (eq-eqb r.component c p.component_is)
      (both_of (ap (λ (x : Bytes). same_bytes x code) p.code_is ∙ same_self code) (ap (λ (x : Bytes). same_bytes x name) p.name_is ∙ same_self name)))
      (find_command (memory_of t) c code name) (command_found t ok c code name) (command_number t c code name) (placed (is_called c code name) no_row t.commands 0)

  -- a command's range, as it is kept
  command_allowed : (i : ℕ) → i < length t.commands → IsCommand (length t.components) (command_row t i)
  command_allowed i b = every_at no_row t.commands ok.commands i b

  range_same : (i : ℕ) → i < length t.commands → (v : ℤ) → in_range (get_or (memory_of t).commands i no_item) v ≡ in_range_of (command_row t i) v
  range_same i b v =
      ap (λ (x : Item). in_range x v) (kept_item 16 t.commands i b)
      ∙ ap₂ (λ (x y : ℤ). both (at_most x v) (at_most v y)) (signed_word_16 (command_row t i).lowest (command_allowed i b).lowest) (signed_word_16 (command_row t i).highest (command_allowed i b).highest)

  sought_component : (id : Bytes) → component_sought (memory_of t) (label_of id) ≡ sought_for (component_of t id)
  sought_component id = ap (λ (x : Bytes). numbered (find_component (memory_of t) x)) (text_label id) ∙ component_same id

  no_alarm_lem : (o : Option ℕ) → or_no_alarm (sought_for o) ≡ maybe NoAlarm Alarm o
  no_alarm_lem none = refl
  no_alarm_lem (some i) = refl

  sought_alarm : (id code : Bytes) → alarm_sought (memory_of t) (label_of id) (label_of code) ≡ maybe NoComponent (λ (c : ℕ). maybe NoAlarm Alarm (alarm_number t c code)) (component_of t id)
  sought_alarm id code = ap (alarm_of (memory_of t) (label_of code)) (sought_component id) ∙ by (component_of t id)
    where
      by : (o : Option ℕ) → alarm_of (memory_of t) (label_of code) (sought_for o) ≡ maybe NoComponent (λ (c : ℕ). maybe NoAlarm Alarm (alarm_number t c code)) o
      by none = refl
      by (some c) = ap or_no_alarm (ap (λ (x : Bytes). numbered (find_alarm (memory_of t) c x)) (text_label code) ∙ alarm_same c code) ∙ no_alarm_lem (alarm_number t c code)

  lookups : Lookups t
  lookups =
      record {
        component = sought_component;
        alarm = sought_alarm;
        status = λ c e. status_same c (text_of e.code) (text_of e.name);
        command = λ c e. command_same c (text_of e.code) (text_of e.name);
        alarm_there = λ c code. within (is_row c code) no_row t.alarms (alarm_number t c code) (placed (is_row c code) no_row t.alarms 0);
        status_there = λ c code name. within (is_called c code name) no_row t.statuses (status_number t c code name) (placed (is_called c code name) no_row t.statuses 0);
        command_there = λ c code name. within (is_called c code name) no_row t.commands (command_number t c code name) (placed (is_called c code name) no_row t.commands 0);
        range = range_same;
      }

pub same_lookups : SameLookups
same_lookups = lookups
