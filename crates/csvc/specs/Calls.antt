-- What the calls answer, and what they leave in the output.
-- Assumes nothing.
use Rattle.std.specs.Prelude.{◌≡◌, List, ℕ, ◌+◌, ◌-◌, ◌^◌, ◌≤◌, ◌<◌, leb, length, take, drop, replicate, Ok, Err}
use Rattle.basis.specs.Pick.{pick}
use Rattle.output.specs.Put.{put}
use Rattle.entry.specs.declared.Entry.{Entry}
use Rattle.entry.specs.Layout.{bytes_of}
use Rattle.entry.specs.Valid.{Valid}
use Rattle.csv_field.specs.Grammar.{Parts}
use Rattle.csv_field.specs.Marks.{breaks, is_ended}
use Rattle.csv_words.specs.Words.{columns}
use Rattle.csv_entry.specs.Fields.{line_of, header_line}
use Rattle.csv_entry.specs.Judged.{Judged}
use Rattle.csv_entry.specs.declared.Reason.TheVariants.{Quoting, Count, Kind, Presence, Contents}
use Rattle.csv_line.specs.Reading.{ReadsLine}
use Rattle.csvc.specs.declared.Told.{Told}
use Rattle.csvc.specs.declared.Read.{Read}

abbrev pub told : ℕ → ℕ → Told
told written number = record { written = written; number = number }

-- the header needs 73 bytes
pub data Heads (out out' : List ℕ) : Told → Type 0 where
  no_room : length out < 73 → out' ≡ out → Heads out out' (told 0 4)
  written : 73 ≤ length out → out' ≡ put out 0 header_line → Heads out out' (told 73 0)

-- a line needs 66 bytes, judged before the record
pub data Writes (bytes out out' : List ℕ) : Told → Type 0 where
  no_room : length out < 66 → out' ≡ out → Writes bytes out out' (told 0 4)
  refused : 66 ≤ length out → ((e : Entry) → Valid e → bytes_of e ≡ bytes → ⊥) → out' ≡ out → Writes bytes out out' (told 0 11)
  written : {e : Entry} → 66 ≤ length out → Valid e → bytes_of e ≡ bytes → out' ≡ put out 0 (line_of e) → Writes bytes out out' (told (length (line_of e)) 0)

-- n more lines; the count stays at 2 ^ 64 - 1
unfoldable pub added : ℕ → ℕ → ℕ
added line n = pick (leb n (2 ^ 64 - 1 - line)) (line + n) (2 ^ 64 - 1)

-- the number of the line behind t: the line breaks in t count, those in quotes too, and its end where it is no line break
unfoldable pub line_behind : List ℕ → ℕ → ℕ
line_behind t line = pick (is_ended t) (added line (breaks t)) (added (added line (breaks t)) 1)

abbrev pub zeros : List ℕ
zeros = replicate 16 0

-- the reason's number, and the record's bytes
abbrev pub number_for : Judged → ℕ
number_for (Ok e) = 0
number_for (Err Quoting) = 2
number_for (Err Count) = 3
number_for (Err Kind) = 4
number_for (Err Presence) = 5
number_for (Err Contents) = 6

abbrev pub bytes_for : Judged → List ℕ
bytes_for (Ok e) = bytes_of e
bytes_for (Err r) = zeros

-- no line: the text's end, a wrong header
abbrev pub nothing_read : List ℕ → ℕ → ℕ → Read
nothing_read s line answer = record { next = length s; line = line; own = line; answer = answer; bytes = zeros }

-- a line from `at` to next
abbrev pub line_read : List ℕ → ℕ → ℕ → ℕ → Judged → Read
line_read s at line next j = record {
  next = next;
  line = line_behind (take (next - at) (drop at s)) line;
  own = line;
  answer = number_for j;
  bytes = bytes_for j;
}

-- a line that begins at `at` and is not the header
pub data ReadsOn (s : List ℕ) (at line : ℕ) : Read → Type 0 where
  ended : length s ≤ at → ReadsOn s at line (nothing_read s line 7)
  goes_on_lem : {j : Judged} (next : ℕ) → at < length s → at ≤ next → next ≤ length s → ReadsLine (drop at s) j (drop next s)
      → ReadsOn s at line (line_read s at line next j)

-- the header, and the line behind it, which is line 2
pub data ReadsFirst (s : List ℕ) : Read → Type 0 where
  wrong_header : ((r : List ℕ) → Parts s columns r → ⊥) → ReadsFirst s (nothing_read s 1 1)
  header : {r : Read} (next : ℕ) → next ≤ length s → Parts s columns (drop next s) → ReadsOn s next 2 r → ReadsFirst s r

pub data Reads (s : List ℕ) (at line : ℕ) : Read → Type 0 where
  first : {r : Read} → at ≡ 0 → ReadsFirst s r → Reads s at line r
  further : {r : Read} → (at ≡ 0 → ⊥) → ReadsOn s at line r → Reads s at line r
