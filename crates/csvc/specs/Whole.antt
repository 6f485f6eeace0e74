-- The answers of call after call over a whole text: from place 0 on, each call with the place and the line that the last one gave.
-- Assumes nothing.
use Rattle.std.specs.Prelude.{◌≡◌, List, [], ◌∷◌, ℕ, ◌+◌, ◌≤◌, length, take, drop}
use Rattle.csv_field.specs.Grammar.{Parts}
use Rattle.csv_field.specs.Marks.{breaks}
use Rattle.csv_words.specs.Words.{columns}
use Rattle.csv_entry.specs.Judged.{Judged}
use Rattle.csv_line.specs.Reading.{Answers, wrong_header, lines}
use Rattle.csvc.specs.Calls.{number_for, bytes_for, Reads}
use Rattle.csvc.specs.declared.Read.{Read}

-- the answers at which the caller stops: a wrong header, the end
pub data Stop : ℕ → Type 0 where
  at_header : Stop 1
  at_end : Stop 7

pub data Calls (s : List ℕ) : ℕ → ℕ → List Read → Type 0 where
  stops : {at line : ℕ} {r : Read} → Reads s at line r → Stop r.answer → Calls s at line (r ∷ [])
  goes_on_lem : {at line : ℕ} {r : Read} {rs : List Read} → Reads s at line r → (Stop r.answer → ⊥) → Calls s r.next r.line rs → Calls s at line (r ∷ rs)

-- what the calls say of the lines from `at` on: each line's own number, one more than the line breaks before it, and what it comes to; then the end
pub data Says (s : List ℕ) : ℕ → List Judged → List Read → Type 0 where
  end : {at : ℕ} {r : Read} → r.answer ≡ 7 → r.next ≡ length s → Says s at [] (r ∷ [])
  line : {at : ℕ} {j : Judged} {js : List Judged} {r : Read} {rs : List Read} → r.own ≡ 1 + breaks (take at s) → r.answer ≡ number_for j → r.bytes ≡ bytes_for j
      → Says s r.next js rs → Says s at (j ∷ js) (r ∷ rs)

-- what they say of a whole text
pub data SaysFile (s : List ℕ) : Answers → List Read → Type 0 where
  refuses : {r : Read} → r.own ≡ 1 → r.answer ≡ 1 → SaysFile s wrong_header (r ∷ [])
  tells : {js : List Judged} {rs : List Read} (at : ℕ) → at ≤ length s → Parts s columns (drop at s) → Says s at js rs → SaysFile s (lines js) rs
