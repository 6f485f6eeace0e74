-- The rows of the table of a sound site, as they are kept.
-- Assumes nothing.
use Rattle.basis.proofs.Std.{ℕ, zero, suc, ◌<◌, ◌≡◌, sym, ◌∙◌, ap, subst, true, List, [], ◌∷◌, arith, length, get_or}
use Rattle.number.specs.Alphabet.{is_label}
use Rattle.label.specs.Label.{label_of, no_label, text_of}
use Rattle.table_item.specs.Item.{no_item}
use Rattle.table_whole.specs.declared.SiteTable.{SiteTable}
use Rattle.table_whole.specs.Table.{no_row}
use Rattle.table_whole.specs.Allowed.{Every, IsAlarm, IsStatus}
use Rattle.table_whole.specs.Allowed.Every.{more}
use Rattle.table_whole.specs.Memory.{item_of}
use Rattle.table_whole.proofs.Kept.{text_label, kept_text, kept_item}
use Rattle.write_laws.specs.Formed.{Label}
use Rattle.call_laws.specs.Sound.{SoundStart}

every_at : {A : Type 0} {P : A → Type 0} (d : A) (xs : List A) → Every P xs → (i : ℕ) → i < length xs → P (get_or xs i d)
every_at d [] e i h = absurd (omega arith)
every_at d (x ∷ xs) (more p e) zero h = p
every_at d (x ∷ xs) (more p e) (suc i) h = every_at d xs e i (omega arith)

-- a string of the table, as it is kept
pub label_text : (x : List ℕ) → is_label x ≡ true → Label (text_of (label_of x))
label_text x e = record { label = ap is_label (text_label x) ∙ e }

module _ (links primary period : ℕ) (t : SiteTable) (s : SoundStart links primary period t) where
  pub component_label : (c : ℕ) → c < length s.read.components → Label (text_of (get_or t.components c no_label))
  component_label c h =
      subst (λ (m : SiteTable). Label (text_of (get_or m.components c no_label))) (sym s.kept)
      (record { label = ap is_label (kept_text s.read.components c h) ∙ every_at [] s.read.components s.allowed.components c h })

  pub site_label : Label (text_of t.site)
  site_label = subst (λ (m : SiteTable). Label (text_of m.site)) (sym s.kept) (label_text s.read.site s.allowed.site)

  pub sxl_label : Label (text_of t.sxl)
  sxl_label = subst (λ (m : SiteTable). Label (text_of m.sxl)) (sym s.kept) (label_text s.read.sxl s.allowed.sxl)

  in_alarms : (k : ℕ) → k < t.alarmcount → k < length s.read.alarms
  in_alarms k h = subst (λ (m : SiteTable). k < m.alarmcount) s.kept h

  in_statuses : (k : ℕ) → k < t.statuscount → k < length s.read.statuses
  in_statuses k h = subst (λ (m : SiteTable). k < m.statuscount) s.kept h

  pub alarm_row : (k : ℕ) → k < t.alarmcount → item_of (get_or s.read.alarms k no_row) ≡ get_or t.alarms k no_item
  alarm_row k h =
      subst (λ (m : SiteTable). item_of (get_or s.read.alarms k no_row) ≡ get_or m.alarms k no_item) (sym s.kept) (sym (kept_item 32 s.read.alarms k (in_alarms k h)))

  pub alarm_allowed : (k : ℕ) → k < t.alarmcount → IsAlarm (length s.read.components) (get_or s.read.alarms k no_row)
  alarm_allowed k h = every_at no_row s.read.alarms s.allowed.alarms k (in_alarms k h)

  pub status_row : (k : ℕ) → k < t.statuscount → item_of (get_or s.read.statuses k no_row) ≡ get_or t.statuses k no_item
  status_row k h =
      subst (λ (m : SiteTable). item_of (get_or s.read.statuses k no_row) ≡ get_or m.statuses k no_item) (sym s.kept) (sym (kept_item 32 s.read.statuses k (in_statuses k h)))

  pub status_allowed : (k : ℕ) → k < t.statuscount → IsStatus (length s.read.components) (get_or s.read.statuses k no_row)
  status_allowed k h = every_at no_row s.read.statuses s.allowed.statuses k (in_statuses k h)
