-- Claims of records as lines, kept.
-- Assumes nothing.
use Rattle.basis.proofs.Std.{ℕ, ◌^◌, ◌<◌, List, [], ◌∷◌, length}
use Rattle.csv_line.specs.Reading.{Answers, ReadsFile}
use Rattle.csv_field.proofs.Kept.{kept as csv_fields}
use Rattle.csv_line.proofs.Kept.{kept as csv_lines}
use Rattle.csvc.proofs.Kept.{kept as csv_calls}
use Rattle.csvc.specs.Calls.{Heads, Writes, Reads}
use Rattle.csvc.specs.Whole.{Calls, SaysFile}
use Rattle.csvc.specs.declared.Told.{Told}
use Rattle.csvc.specs.declared.Read.{Read}
use Rattle.certain.specs.Csv.{HeaderCall, LineCall, ReadCall, ReadCalls, Csv}

heads : {out out' : List ℕ} {r : Told} → HeaderCall out out' r → Heads out out' r
heads (HeaderCall.header_call κs out r e x) = x

writes : {bytes out out' : List ℕ} {r : Told} → LineCall bytes out out' r → Writes bytes out out' r
writes (LineCall.line_call κs bytes out r e x) = x

reads : {s : List ℕ} {at line : ℕ} {r : Read} → ReadCall s at line r → Reads s at line r
reads (ReadCall.read_call κs text at line r e x) = x

all_calls : {s : List ℕ} {at line : ℕ} {rs : List Read} → ReadCalls s at line rs → Calls s at line rs
all_calls (ReadCalls.stops x t) = Calls.stops (reads x) t
all_calls (ReadCalls.goes_on_lem x n y) = Calls.goes_on_lem (reads x) n (all_calls y)

whole : {s : List ℕ} {from : ℕ} {rs : List Read} {a : Answers} → length s < 2 ^ 64 → ReadCalls s 0 from rs → ReadsFile s a → SaysFile s a rs
whole n c f = csv_calls.whole n (all_calls c) f

pub csv : Csv
csv = record {
  fields = csv_fields;
  lines = csv_lines;
  calls = csv_calls;
  header = heads;
  line = writes;
  read = reads;
  whole = whole;
  back = λ v n c. whole n c (csv_lines.file_back v);
}
