-- The lists of a table as things read in turn.
-- Assumes nothing.
use Rattle.basis.proofs.Std.{◌≡◌, refl, ap, List, ℕ, zero, suc, ◌+◌, ◌≤◌, ◌<◌, length}
use Rattle.label.specs.declared.Label.{Label}
use Rattle.label.specs.declared.LabelRead.{LabelRead}
use Rattle.label.specs.Label.{string, label_of, no_label}
use Rattle.label.specs.Reading.{far, read_at}
use Rattle.label.proofs.Stands.{Stands}
use Rattle.label.proofs.Reading.{read_sound, read_complete}
use Rattle.table_item.specs.Item.{no_item}
use Rattle.table_row.specs.declared.Kind.{Kind}
use Rattle.table_row.specs.declared.LabelsRead.{LabelsRead}
use Rattle.table_row.specs.declared.ItemsRead.{ItemsRead}
use Rattle.table_row.specs.Rows.{item_at, labels_to, items_to, more_labels, more_items}
use Rattle.table_whole.specs.Allowed.{IsString}
use Rattle.table_whole.proofs.Turns.{One, place_to, kept_to}
use Rattle.table_whole.proofs.RowLaws.{starts}

module _ (s : List ℕ) where
  abbrev pub label_value : ℕ → Label
  label_value at = (read_at s at).label

  abbrev pub label_next : ℕ → ℕ
  label_next at = (read_at s at).next

  pub label_one : length s < far → (at : ℕ) → label_next at ≤ length s → One label_of no_label string IsString label_value label_next s 8 at
  label_one f at h =
      let g = read_sound s at f h in
      record {
        thing = g.text;
        valid = g.label;
        stands = g.stands;
        value_is = ap (λ (r : LabelRead). r.label) g.is;
        next_is = ap (λ (r : LabelRead). r.next) g.is;
        within = starts s at g.text g.stands;
      }

  pub label_known : (at : ℕ) (x : List ℕ) → IsString x → Stands s at (string x) → (label_value at ≡ label_of x) × (label_next at ≡ at + length (string x))
  label_known at x v st =
      let e = read_complete {s = s} {at = at} x v st in
      (ap (λ (r : LabelRead). r.label) e, ap (λ (r : LabelRead). r.next) e)

  abbrev pub labels_in : ℕ → ℕ → LabelsRead
  labels_in at i = record { labels = kept_to 8 no_label label_value label_next at i; next = place_to label_next at i }

  pub labels_turns : (at i : ℕ) → labels_to s at i ≡ labels_in at i
  unfolding labels_to
  labels_turns at zero = refl
  labels_turns at (suc i) = ap (more_labels s i) (labels_turns at i)

  module _ (kind : Kind) (n : ℕ) where
    abbrev pub items_in : ℕ → ℕ → ItemsRead
    items_in at i =
        record {
          items = kept_to 32 no_item (λ (p : ℕ). (item_at s kind n p).item) (λ (p : ℕ). (item_at s kind n p).next) at i;
          next = place_to (λ (p : ℕ). (item_at s kind n p).next) at i;
        }

    pub items_turns : (at i : ℕ) → items_to s kind n at i ≡ items_in at i
    unfolding items_to
    items_turns at zero = refl
    items_turns at (suc i) = ap (more_items s kind n i) (items_turns at i)
