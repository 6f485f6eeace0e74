-- What reading a string at a place gives: the string and the place behind it, or a place that is far behind every table.
-- Assumes nothing.
use Rattle.std.specs.Prelude.{ℕ, ◌+◌, ◌-◌, Bool, List, ltb, leb, length, get_or, take, drop}
use Rattle.basis.specs.Pick.{pick, both}
use Rattle.number.specs.Alphabet.{is_label}
use Rattle.label.specs.declared.LabelRead.{LabelRead}
use Rattle.label.specs.Label.{label_of, no_label}

abbrev pub far : ℕ
far = 8192

-- what would be the string at a place
abbrev pub text_at : List ℕ → ℕ → List ℕ
text_at s at = take (get_or s at 0) (drop (at + 1) s)

abbrev pub good_at : List ℕ → ℕ → Bool
good_at s at = both (ltb at (length s)) (both (leb (get_or s at 0) (length s - (at + 1))) (is_label (text_at s at)))

abbrev pub missed : LabelRead
missed = record { label = no_label; next = far }

unfoldable pub read_at : List ℕ → ℕ → LabelRead
read_at s at =
    pick (good_at s at)
    (record { label = label_of (text_at s at); next = at + 1 + get_or s at 0 })
    missed
