-- What the code notes of a line: the texts of its fields as they stand there, up to 12 of them, and how many there are, where 13 stands for more than 12.
-- Assumes nothing.
use Rattle.std.specs.Prelude.{◌≡◌, false, List, [], map, ℕ, ◌+◌, ◌≤◌, ◌<◌, ltb, length, get_or, set, drop, Some, None, Result, Ok, Err}
use Rattle.std.specs.Borrow.{Bor}
use Rattle.basis.specs.Pick.{pick}
use Rattle.csv_field.specs.Marks.{unquoted}
use Rattle.csv_field.specs.Split.{Took, field, fault, Split, fields, faulty}
use Rattle.csv_field.specs.declared.Field.{Field}
use Rattle.csv_field.specs.declared.Notes.{Notes}
use Rattle.csv_field.specs.declared.Line.{Line}

-- a field that begins at `at`, its text as it stands there; one without quotes is what stands there
pub data Takes (s : List ℕ) (at : ℕ) : Took → Result Field ℕ → Type 0 where
  takes : {d : List ℕ} (f : Field) → d ≡ unquoted false f.text.now → at ≤ f.next → f.next ≤ length s → Takes s at (field d (drop f.next s)) (Ok f)
  fails : (e : ℕ) → at ≤ e → e ≤ length s → Takes s at (fault (drop e s)) (Err e)

-- the texts that lent slices hold
abbrev pub texts_of : List (Bor (List ℕ)) → List (List ℕ)
texts_of ts = map (λ t. t.now) ts

-- one more field
unfoldable pub noted : Notes → Bor (List ℕ) → Notes
noted n t = pick (ltb n.count 12) (record { count = n.count + 1; texts = set n.texts n.count t }) (record { count = 13; texts = n.texts })

pub record Noted (n : Notes) (ds : List (List ℕ)) : Type 0 where
  pub room : length n.texts ≡ 12
  pub count : length ds ≤ 12 → n.count ≡ length ds
  pub more : 12 < length ds → n.count ≡ 13
  pub each : (j : ℕ) → j < 12 → j < length ds → get_or ds j [] ≡ unquoted false (get_or (texts_of n.texts) j [])

-- a line that begins at `at`
pub data Splits (s : List ℕ) (at : ℕ) : Split → Line → Type 0 where
  splits : {ds : List (List ℕ)} (l : Line) (n : Notes) → l.notes ≡ Some n → Noted n ds → at ≤ l.next → l.next ≤ length s → Splits s at (fields ds (drop l.next s)) l
  spoilt : (l : Line) → l.notes ≡ None → at ≤ l.next → l.next ≤ length s → Splits s at (faulty (drop l.next s)) l
