-- What is claimed of lines and files. proofs/Kept.antt proves it.
-- Assumes nothing.
use Rattle.std.specs.Prelude.{◌≡◌, List, [], ◌∷◌, ◌++◌, map, ℕ, ◌≤◌, length, Ok}
use Rattle.output.specs.Put.{concat}
use Rattle.entry.specs.declared.Entry.{Entry}
use Rattle.entry.specs.Valid.{Valid}
use Rattle.csv_field.specs.Grammar.{Parts}
use Rattle.csv_entry.specs.Fields.{fields_of, line_of, header_line}
use Rattle.csv_entry.specs.Judged.{Judged}
use Rattle.csv_line.specs.Reading.{ReadsLine, ReadsFile, Answers, lines}

pub data AllValid : List Entry → Type 0 where
  none : AllValid []
  next : {e : Entry} {es : List Entry} → Valid e → AllValid es → AllValid (e ∷ es)

pub record Claims : Type 0 where
  -- a written line reads as its record, whatever follows it
  pub read_written : {e : Entry} (rest : List ℕ) → Valid e → ReadsLine (line_of e ++ rest) (Ok e) rest
  -- what is accepted is a record, and is written with the same fields
  pub written_read : {t r : List ℕ} {e : Entry} → ReadsLine t (Ok e) r → Valid e × Parts t (fields_of e) r
  -- equal lines are of equal records
  pub one_line : {e f : Entry} → Valid e → Valid f → line_of e ≡ line_of f → e ≡ f
  pub room : {e : Entry} → Valid e → length (line_of e) ≤ 66
  -- a line comes to one thing, and one thing follows it
  pub one_result : {t r q : List ℕ} {a b : Judged} → ReadsLine t a r → ReadsLine t b q → (a ≡ b) × (r ≡ q)
  -- the header and the lines of records read back to those records
  pub file_back : {es : List Entry} → AllValid es → ReadsFile (header_line ++ concat (map line_of es)) (lines (map Ok es))
  -- every text gives answers for all its lines
  pub every_text : (s : List ℕ) → (a : Answers) × ReadsFile s a
