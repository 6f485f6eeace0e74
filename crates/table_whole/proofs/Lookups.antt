-- Of an allowed table, what is looked up is the only one called so.
-- Assumes nothing.
use Rattle.basis.proofs.Std.{◌≡◌, sym, ap, ◌∙◌, Bool, true, true≢false, List, [], ℕ, ◌<◌, arith, length, get_or, same_true}
use Rattle.table_item.specs.declared.Found.{Found}
use Rattle.table_item.specs.declared.Found.TheVariants.{At, Nothing}
use Rattle.table_item.specs.Item.{is_item}
use Rattle.table_item.specs.Find.{first_from, label_at, item_at}
use Rattle.table_item.proofs.Own.{Looked, looked}
use Rattle.table_item.proofs.Own.Looked.{hit, miss}
use Rattle.table_whole.specs.Table.{Row, no_row, Table}
use Rattle.table_whole.specs.Allowed.{SameRow, NoneTwice, Allowed}
use Rattle.table_whole.specs.Memory.{memory_of}
use Rattle.table_whole.specs.Lookup.{find_component, find_alarm, find_status, find_command, Finds, ComponentIs, RowIs, AlarmIs, StatusIs, CommandIs}
use Rattle.table_whole.specs.Lookup.Finds.{only, absent}
use Rattle.table_whole.proofs.Kept.{same_bytes_lem, kept_labels, kept_text, kept_items, kept_item, row_is, is_row}

-- a test that says whether a place is so, and no two places that are
finds : (f : ℕ → Bool) (n : ℕ) (P : ℕ → Type 0) → ((i : ℕ) → i < n → f i ≡ true → P i) → ((i : ℕ) → i < n → P i → f i ≡ true)
    → ((i j : ℕ) → i < n → j < n → P i → P j → i ≡ j) → (r : Found) → Looked f 0 n r → Finds n P r
finds f n P is so once (At k) (hit l h t none) =
    let lt : k < n = omega arith in
    only lt (is k lt t) (λ j hj p. once j k hj lt p (is k lt t))
finds f n P is so once Nothing (miss none) = absent (λ j hj p. true≢false (sym (so j hj p) ∙ none j (omega arith) (omega arith)))

pub component_found : {edition : ℕ} (t : Table) → Allowed edition t → (id : List ℕ) → Finds (length t.components) (ComponentIs t id) (find_component (memory_of t) id)
component_found t v id =
    let cs = t.components in
    finds (label_at (kept_labels cs) id) (length cs) (ComponentIs t id)
    (λ i h e. sym (kept_text cs i h) ∙ same_true _ _ e)
    (λ i h p. same_bytes_lem (kept_text cs i h ∙ p))
    (λ i j hi hj p q. v.no_component_twice i j hi hj (p ∙ sym q))
    (find_component (memory_of t) id) (looked (label_at (kept_labels cs) id) 0 (length cs))

module _ (most : ℕ) (rows : List Row) (twice : NoneTwice SameRow no_row rows) (component : ℕ) (code name : List ℕ) where
  called : ℕ → Bool
  called = item_at (kept_items most rows) component code name

  row_found : Finds (length rows) (λ (i : ℕ). RowIs component code name (get_or rows i no_row)) (first_from called 0 (length rows))
  unfolding called
  row_found =
      finds called (length rows) (λ (i : ℕ). RowIs component code name (get_or rows i no_row))
      (λ i h e.
      let p = row_is (get_or rows i no_row) component code name (ap (is_item component code name) (sym (kept_item most rows i h)) ∙ e) in
      record { component_is = p.0; code_is = p.1.0; name_is = p.1.1 })
      (λ i h p. ap (is_item component code name) (kept_item most rows i h) ∙ is_row (get_or rows i no_row) component code name p.component_is p.code_is p.name_is)
      (λ i j hi hj p q. twice i j hi hj (record {
        component = p.component_is ∙ sym q.component_is;
        code = p.code_is ∙ sym q.code_is;
        name = p.name_is ∙ sym q.name_is;
      }))
      (first_from called 0 (length rows)) (looked called 0 (length rows))

pub alarm_found : {edition : ℕ} (t : Table) → Allowed edition t → (component : ℕ) (code : List ℕ) → Finds (length t.alarms) (AlarmIs t component code) (find_alarm (memory_of t) component code)
unfolding called
alarm_found t v component code = row_found 32 t.alarms v.no_alarm_twice component code []

pub status_found : {edition : ℕ} (t : Table) → Allowed edition t → (component : ℕ) (code name : List ℕ)
    → Finds (length t.statuses) (StatusIs t component code name) (find_status (memory_of t) component code name)
unfolding called
status_found t v component code name = row_found 32 t.statuses v.no_status_twice component code name

pub command_found : {edition : ℕ} (t : Table) → Allowed edition t → (component : ℕ) (code name : List ℕ)
    → Finds (length t.commands) (CommandIs t component code name) (find_command (memory_of t) component code name)
unfolding called
command_found t v component code name = row_found 16 t.commands v.no_command_twice component code name
