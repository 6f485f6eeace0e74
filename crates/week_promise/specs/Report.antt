-- The report that is printed of a week's entries.
-- Assumes nothing.
use Rattle.std.specs.Prelude.{ℕ, List, [], ◌∷◌, ◌++◌, ℤ, length}
use Rattle.basis.specs.Pick.{pick}
use Rattle.basis.specs.Text.{text}
use Rattle.number.specs.Decimal.{digits, decimal_of}
use Rattle.week_entry.specs.declared.Entry.{Entry}
use Rattle.week_text.specs.Line.{line, header, too_many_line}
use Rattle.week_promise.specs.Tally.{Status, tally, fits}
use Rattle.week_promise.specs.Figures.{smallest, largest, sum, middle}

abbrev pub dash : List ℕ
dash = text "-"

-- min, max, sum, middle
abbrev pub figure_fields : List ℤ → List (List ℕ)
figure_fields [] = dash ∷ dash ∷ dash ∷ dash ∷ []
figure_fields (v ∷ vs) = decimal_of (smallest v vs) ∷ decimal_of (largest v vs) ∷ decimal_of (sum (v ∷ vs)) ∷ decimal_of (middle v vs) ∷ []

unfoldable pub line_of : Status → List ℕ
line_of s = line (s.component ∷ s.code ∷ s.name ∷ digits (length s.values) ∷ digits s.nulls ∷ figure_fields s.values)

unfoldable pub lines_of : List Status → List ℕ
lines_of [] = []
lines_of (s ∷ ss) = line_of s ++ lines_of ss

unfoldable pub text_of_tally : List Status → List ℕ
text_of_tally ss = pick (fits ss) (header ++ lines_of ss) too_many_line

abbrev pub report_text : List Entry → List ℕ
report_text es = text_of_tally (tally es)
