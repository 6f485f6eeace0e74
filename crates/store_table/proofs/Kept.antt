-- A table that is allowed, kept in its bytes and read again.
-- Assumes nothing.
use Rattle.basis.proofs.Std.{◌≡◌, refl, sym, ap, subst, ◌∙◌, ⊎_elim, List, [], ◌∷◌, map, ℕ, zero, suc, ◌-◌, ◌<◌, ◌≤◌, arith, length, get_or, length-map, get_or-eq_default, lt_or_ge}
use Rattle.label.specs.Padded.{padded}
use Rattle.label.specs.Label.{label_of}
use Rattle.label.proofs.Padded.{length_padded}
use Rattle.label.proofs.Reading.{label_short}
use Rattle.table_item.specs.Item.{no_item}
use Rattle.table_whole.specs.Table.{Row, no_row, Table}
use Rattle.table_whole.specs.Allowed.{Every, IsString, IsAlarm, IsStatus, IsCommand, Allowed}
use Rattle.table_whole.specs.Allowed.Every.{none, more}
use Rattle.table_whole.specs.Memory.{item_of, memory_of}
use Rattle.table_whole.proofs.Kept.{kept, behind_read}
use Rattle.store_table.specs.Layout.{table_of, layout_of}
use Rattle.store_table.specs.Laid.{LabelFits, ItemFits, TableFits}
use Rattle.store_table.proofs.Forth.{table_forth}

every_at : {A : Type 0} {P : A → Type 0} (d : A) (l : List A) → Every P l → (k : ℕ) → k < length l → P (get_or l k d)
every_at d [] none k h = absurd (omega arith)
every_at d (x ∷ l) (more p e) zero h = p
every_at d (x ∷ l) (more p e) (suc k) h = every_at d l e k (omega arith)

label_fits : (s : List ℕ) → IsString s → LabelFits (label_of s)
label_fits s h = length_padded 32 0 s (label_short s h)

-- each element of a list in its place, and the empty ones behind it
module _ {A X : Type 0} (f : A → X) (P : X → Type 0) (d : A) (n : ℕ) (l : List A) (most : length l ≤ n) (each : (k : ℕ) → k < length l → P (f (get_or l k d))) (empty : P (f d)) where
  padded_long : length (padded n (f d) (map f l)) ≡ n
  padded_long = length_padded n (f d) (map f l) (omega (arith, length-map l f))

  padded_fits : (k : ℕ) → k < n → P (get_or (padded n (f d) (map f l)) k (f d))
  padded_fits k h = ⊎_elim
      (λ (g : k < length l). subst P (sym (kept f d n l k g)) (each k g))
      (λ (g : length l ≤ k).
      let q : get_or (padded n (f d) (map f l)) k (f d) ≡ f d =
      behind_read (n - length (map f l)) (f d) (map f l) k ∙ get_or-eq_default (map f l) (f d) {n = k} (omega (arith, length-map l f)) in
      subst P (sym q) empty)
      (lt_or_ge k (length l))

no_item_fits : ItemFits no_item
no_item_fits = record { code = refl; name = refl }

alarm_fits : (n : ℕ) (r : Row) → IsAlarm n r → ItemFits (item_of r)
alarm_fits n r a = record { code = label_fits r.code a.code; name = ap (λ (s : List ℕ). length (padded 32 0 s)) a.name }

status_fits : (n : ℕ) (r : Row) → IsStatus n r → ItemFits (item_of r)
status_fits n r a = record { code = label_fits r.code a.code; name = label_fits r.name a.name }

command_fits : (n : ℕ) (r : Row) → IsCommand n r → ItemFits (item_of r)
command_fits n r a = record { code = label_fits r.code a.code; name = label_fits r.name a.name }

pub kept_fits : {edition : ℕ} (t : Table) → Allowed edition t → TableFits (memory_of t)
kept_fits t a =
    let n = length t.components in
    let cs : (k : ℕ) → k < length t.components → LabelFits (label_of (get_or t.components k [])) =
    λ k h. label_fits (get_or t.components k []) (every_at [] t.components a.components k h) in
    let rs : (k : ℕ) → k < length t.alarms → ItemFits (item_of (get_or t.alarms k no_row)) =
    λ k h. alarm_fits n (get_or t.alarms k no_row) (every_at no_row t.alarms a.alarms k h) in
    let ss : (k : ℕ) → k < length t.statuses → ItemFits (item_of (get_or t.statuses k no_row)) =
    λ k h. status_fits n (get_or t.statuses k no_row) (every_at no_row t.statuses a.statuses k h) in
    let ks : (k : ℕ) → k < length t.commands → ItemFits (item_of (get_or t.commands k no_row)) =
    λ k h. command_fits n (get_or t.commands k no_row) (every_at no_row t.commands a.commands k h) in
    record {
      site = label_fits t.site a.site;
      sxl = label_fits t.sxl a.sxl;
      components = padded_long label_of LabelFits [] 8 t.components a.most_components cs refl;
      alarms = padded_long item_of ItemFits no_row 32 t.alarms a.most_alarms rs no_item_fits;
      statuses = padded_long item_of ItemFits no_row 32 t.statuses a.most_statuses ss no_item_fits;
      commands = padded_long item_of ItemFits no_row 16 t.commands a.most_commands ks no_item_fits;
      component = padded_fits label_of LabelFits [] 8 t.components a.most_components cs refl;
      alarm = padded_fits item_of ItemFits no_row 32 t.alarms a.most_alarms rs no_item_fits;
      status = padded_fits item_of ItemFits no_row 32 t.statuses a.most_statuses ss no_item_fits;
      command = padded_fits item_of ItemFits no_row 16 t.commands a.most_commands ks no_item_fits;
    }

-- what start lays out is what is read
pub kept_table : {edition : ℕ} (t : Table) → Allowed edition t → table_of (layout_of (memory_of t)) ≡ memory_of t
kept_table t a = table_forth (memory_of t) (kept_fits t a)
