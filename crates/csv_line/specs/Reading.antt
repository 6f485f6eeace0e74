-- What a line comes to, what all lines of a text come to, and the header before them.
-- Assumes nothing.
use Rattle.std.specs.Prelude.{◌≡◌, Bool, false, List, [], ◌∷◌, ℕ, drop, Some, None, Err}
use Rattle.csv_field.specs.Grammar.{Parts, Faulty}
use Rattle.entry.specs.Valid.{Decides}
use Rattle.csv_field.specs.Places.{Noted}
use Rattle.csv_field.specs.declared.Notes.{Notes}
use Rattle.csv_field.specs.declared.Line.{Line}
use Rattle.csv_words.specs.Words.{columns}
use Rattle.csv_entry.specs.Judged.{Judged, Judges}
use Rattle.csv_entry.specs.declared.Reason.TheVariants.{Quoting}

-- a line that begins t: bad quotes first, then what its fields come to; r follows it
pub data ReadsLine (t : List ℕ) : Judged → List ℕ → Type 0 where
  spoilt : {r : List ℕ} → Faulty t r → ReadsLine t (Err Quoting) r
  judged : {ds : List (List ℕ)} {j : Judged} {r : List ℕ} → Parts t ds r → Judges ds j → ReadsLine t j r

-- line by line; behind a last CRLF there is no line
pub data ReadsLines : List ℕ → List Judged → Type 0 where
  end : ReadsLines [] []
  line : {t r : List ℕ} {j : Judged} {js : List Judged} → (t ≡ [] → ⊥) → ReadsLine t j r → ReadsLines r js → ReadsLines t (j ∷ js)

pub data Answers : Type 0 where
  wrong_header : Answers
  lines : List Judged → Answers

-- a whole file: the first line's fields are the twelve names, or nothing else is read
pub data ReadsFile (s : List ℕ) : Answers → Type 0 where
  no_header : ((r : List ℕ) → Parts s columns r → ⊥) → ReadsFile s wrong_header
  header : {r : List ℕ} {js : List Judged} → Parts s columns r → ReadsLines r js → ReadsFile s (lines js)

-- the line that was taken at the text's start is the header
abbrev pub HasHeader : List ℕ → Line → Type 0
HasHeader s l = Parts s columns (drop l.next s)

-- whether a line that was taken is the header: none is without notes, and others are where the fields that were noted are the columns
pub record TellsHeader (l : Line) (r : Bool) : Type 0 where
  pub spoilt : l.notes ≡ None → r ≡ false
  pub noted : (n : Notes) → l.notes ≡ Some n → (ds : List (List ℕ)) → Noted n ds → Decides r (ds ≡ columns)

-- what a line that was taken comes to: without notes bad quotes, else what the fields come to that were noted
pub data JudgesLine (l : Line) : Judged → Type 0 where
  spoilt : l.notes ≡ None → JudgesLine l (Err Quoting)
  judged : {r : Judged} (n : Notes) → l.notes ≡ Some n → ((ds : List (List ℕ)) → Noted n ds → Judges ds r) → JudgesLine l r
