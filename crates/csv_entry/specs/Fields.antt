-- A record's twelve fields, by its kind, and its line: the fields with commas between them, and CRLF.
-- Assumes nothing.
use Rattle.std.specs.Prelude.{Bool, List, [], ◌∷◌, ◌++◌, ℕ, eqb}
use Rattle.basis.specs.Pick.{pick, bit}
use Rattle.output.specs.Put.{concat}
use Rattle.number.specs.Decimal.{digits, decimal_of}
use Rattle.number.specs.Signed.{signed_of}
use Rattle.entry.specs.declared.Entry.{Entry}
use Rattle.entry.specs.Flags.{event_of, is_acknowledged, is_active, is_suspended, is_known, is_old}
use Rattle.csv_words.specs.Words.{kind_word, event_word, columns}

-- 0 or 1
abbrev pub yes_no : Bool → List ℕ
yes_no b = digits (bit b)

-- link, kind, item
abbrev pub start_of : ℕ → Entry → List (List ℕ)
start_of k e = digits e.link ∷ kind_word k ∷ digits e.item ∷ []

-- event, ack, active, suspended
abbrev pub states_of : ℕ → List (List ℕ)
states_of f = event_word (event_of f) ∷ yes_no (is_acknowledged f) ∷ yes_no (is_active f) ∷ yes_no (is_suspended f) ∷ []

-- known, old
abbrev pub quality_of : ℕ → List (List ℕ)
quality_of f = yes_no (is_known f) ∷ yes_no (is_old f) ∷ []

-- time, value, sequence
abbrev pub end_of : Entry → List ℕ → List (List ℕ)
end_of e value = digits e.time ∷ value ∷ digits e.sequence ∷ []

abbrev pub alarm_fields : Entry → List (List ℕ)
alarm_fields e = start_of 0 e ++ states_of e.flags ++ ([] ∷ [] ∷ []) ++ end_of e []

abbrev pub status_fields : Entry → List (List ℕ)
status_fields e = start_of 1 e ++ ([] ∷ [] ∷ [] ∷ [] ∷ []) ++ quality_of e.flags ++ end_of e (decimal_of (signed_of e.value))

abbrev pub aggregated_fields : Entry → List (List ℕ)
aggregated_fields e = start_of 2 e ++ ([] ∷ [] ∷ [] ∷ [] ∷ []) ++ ([] ∷ [] ∷ []) ++ end_of e (digits e.value)

unfoldable pub fields_of : Entry → List (List ℕ)
fields_of e = pick (eqb e.kind 0) (alarm_fields e) (pick (eqb e.kind 1) (status_fields e) (aggregated_fields e))

abbrev pub comma : List ℕ
comma = 44 ∷ []

abbrev pub crlf : List ℕ
crlf = 13 ∷ 10 ∷ []

-- fields that others follow
abbrev pub with_commas : List (List ℕ) → List (List ℕ)
with_commas [] = []
with_commas (d ∷ ds) = d ∷ comma ∷ with_commas ds

-- each field with what stands behind it
abbrev pub pieces_of : List (List ℕ) → List (List ℕ)
pieces_of [] = []
pieces_of (d ∷ []) = d ∷ crlf ∷ []
pieces_of (d ∷ c ∷ ds) = d ∷ comma ∷ pieces_of (c ∷ ds)

abbrev pub line_from : List (List ℕ) → List ℕ
line_from ds = concat (pieces_of ds)

unfoldable pub line_of : Entry → List ℕ
line_of e = line_from (fields_of e)

unfoldable pub header_line : List ℕ
header_line = line_from columns
