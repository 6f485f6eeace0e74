-- What the fields of a line come to: the record that is written with exactly these fields, or the first reason against it.
-- Assumes nothing.
use Rattle.std.specs.Prelude.{◌≡◌, Bool, true, false, List, [], ◌∷◌, ◌++◌, map, ℕ, suc, ◌+◌, ◌*◌, ◌<◌, eqb, length, get_or, Result, Ok, Err}
use Rattle.basis.specs.Pick.{pick, both}
use Rattle.basis.specs.Text.{text}
use Rattle.entry.specs.declared.Entry.{Entry}
use Rattle.entry.specs.Valid.{Valid}
use Rattle.csv_words.specs.Words.{kind_word}
use Rattle.csv_entry.specs.Fields.{fields_of}
use Rattle.csv_entry.specs.declared.Reason.{Reason}
use Rattle.csv_entry.specs.declared.Reason.TheVariants.{Count, Kind, Presence, Contents}

-- a line's record, or the first reason against it
abbrev pub Judged : Type 0
Judged = Result Entry Reason

-- the columns of an alarm, of a status, of the aggregated status: 1 where the kind has it
abbrev pub marks : List ℕ
marks = text "111111100101" ++ text "111000011111" ++ text "111000000111"

abbrev pub has_column : ℕ → ℕ → Bool
has_column k j = eqb (get_or marks (12 * k + j) 0) 49

-- one of the two, and not the other
abbrev pub differ : Bool → Bool → Bool
differ true b = pick b false true
differ false b = b

-- texts of these lengths, from column j on: the kind has what is not empty, and lacks what is empty
unfoldable pub present_from : ℕ → ℕ → List ℕ → Bool
present_from k j [] = true
present_from k j (n ∷ ns) = both (differ (eqb n 0) (has_column k j)) (present_from k (suc j) ns)

abbrev pub present : ℕ → List (List ℕ) → Bool
present k ds = present_from k 0 (map length ds)

pub data Judges (ds : List (List ℕ)) : Judged → Type 0 where
  other_count : (length ds ≡ 12 → ⊥) → Judges ds (Err Count)
  no_kind : length ds ≡ 12 → ((k : ℕ) → k < 3 → get_or ds 1 [] ≡ kind_word k → ⊥) → Judges ds (Err Kind)
  not_present : (k : ℕ) → length ds ≡ 12 → k < 3 → get_or ds 1 [] ≡ kind_word k → present k ds ≡ false → Judges ds (Err Presence)
  no_record : (k : ℕ) → length ds ≡ 12 → k < 3 → get_or ds 1 [] ≡ kind_word k → present k ds ≡ true
      → ((e : Entry) → Valid e → fields_of e ≡ ds → ⊥) → Judges ds (Err Contents)
  a_record : {e : Entry} → Valid e → fields_of e ≡ ds → Judges ds (Ok e)

-- what twelve texts come to that name kind k
pub data Holds (k : ℕ) (ds : List (List ℕ)) : Judged → Type 0 where
  none : ((e : Entry) → Valid e → e.kind ≡ k → fields_of e ≡ ds → ⊥) → Holds k ds (Err Contents)
  one : {e : Entry} → Valid e → fields_of e ≡ ds → Holds k ds (Ok e)
