-- What is claimed of reading by calls. proofs/Kept.antt proves it.
-- Assumes nothing.
use Rattle.std.specs.Prelude.{◌≡◌, List, ℕ, ◌^◌, ◌≤◌, ◌<◌, length}
use Rattle.csv_line.specs.Reading.{Answers, ReadsFile}
use Rattle.csvc.specs.Calls.{ReadsOn, Reads}
use Rattle.csvc.specs.Whole.{Calls, SaysFile}
use Rattle.csvc.specs.declared.Read.{Read}

pub record Claims : Type 0 where
  -- a call has one answer
  pub one_result : {s : List ℕ} {at line : ℕ} {a b : Read} → Reads s at line a → Reads s at line b → a ≡ b
  -- a line that is read ends behind its beginning, within the text: the calls come to the end
  pub goes_further : {s : List ℕ} {at line : ℕ} {r : Read} → ReadsOn s at line r → (r.answer ≡ 7 → ⊥) → (at < r.next) × (r.next ≤ length s)
  -- call after call, the answers are those of the whole text
  pub whole : {s : List ℕ} {line : ℕ} {rs : List Read} {a : Answers} → length s < 2 ^ 64 → Calls s 0 line rs → ReadsFile s a → SaysFile s a rs
