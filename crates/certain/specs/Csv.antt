-- Records as lines of RFC 4180 and back: what the contracts of the three exported functions allow a host to see, and what is claimed of it.
-- Assumes nothing.
use Rattle.std.specs.Prelude.{ℕ, ◌^◌, ◌<◌, List, [], ◌∷◌, ◌++◌, map, length, Ok}
use contract.Lifetimes.{Lfts}
use Rattle.std.specs.Borrow.{Bor, MutBor}
use denote.Triple.Clauses.{AtExit}
use borrow.Fn.Kinds.{ended_of}
use Rattle.output.specs.Put.{concat}
use Rattle.entry.specs.declared.Entry.{Entry}
use Rattle.csv_entry.specs.Fields.{line_of, header_line}
use Rattle.csv_line.specs.Reading.{Answers, ReadsFile}
use Rattle.csv_line.specs.Claims.{AllValid}
use Rattle.csv_field.specs.Claims.{Claims as CsvFields}
use Rattle.csv_line.specs.Claims.{Claims as CsvLines}
use Rattle.csvc.specs.Claims.{Claims as CsvCalls}
use Rattle.csvc.specs.Calls.{Heads, Writes, Reads}
use Rattle.csvc.specs.Whole.{Stop, SaysFile}
use Rattle.csvc.specs.declared.Told.{Told}
use Rattle.csvc.specs.declared.Read.{Read}
use Rattle.csvc.proofs.rsmp_csv_header.Reads as rsmp_header
use Rattle.csvc.proofs.rsmp_csv_header.Kinds as header_kinds
use Rattle.csvc.proofs.rsmp_csv_line.Reads as rsmp_line
use Rattle.csvc.proofs.rsmp_csv_line.Kinds as line_kinds
use Rattle.csvc.proofs.rsmp_csv_read.Reads as rsmp_read
use Rattle.csvc.proofs.rsmp_csv_read.Kinds as read_kinds

-- each cites the contract of the function of its name: the output before and afterwards, and what is told
pub data HeaderCall : List ℕ → List ℕ → Told → Type 0 where
  header_call : (κs : Lfts 1) (out : MutBor (List ℕ)) (r : Told) (e : AtExit (ended_of 1 header_kinds.ps header_kinds.r) κs)
      → rsmp_header.Learnt κs (out, tt) r e → HeaderCall out.now e.0.now r

-- the record's bytes come first
pub data LineCall : List ℕ → List ℕ → List ℕ → Told → Type 0 where
  line_call : (κs : Lfts 2) (bytes : Bor (List ℕ)) (out : MutBor (List ℕ)) (r : Told) (e : AtExit (ended_of 2 line_kinds.ps line_kinds.r) κs)
      → rsmp_line.Learnt κs (bytes, (out, tt)) r e → LineCall bytes.now out.now e.1.0.now r

pub data ReadCall : List ℕ → ℕ → ℕ → Read → Type 0 where
  read_call : (κs : Lfts 1) (text : Bor (List ℕ)) (at line : ℕ) (r : Read) (e : AtExit (ended_of 1 read_kinds.ps read_kinds.r) κs)
      → rsmp_read.Learnt κs (text, (at, (line, tt))) r e → ReadCall text.now at line r

-- call after call, each with the place and the line that the last one gave, to the stop
pub data ReadCalls (s : List ℕ) : ℕ → ℕ → List Read → Type 0 where
  stops : {at line : ℕ} {r : Read} → ReadCall s at line r → Stop r.answer → ReadCalls s at line (r ∷ [])
  goes_on_lem : {at line : ℕ} {r : Read} {rs : List Read} → ReadCall s at line r → (Stop r.answer → ⊥) → ReadCalls s r.next r.line rs → ReadCalls s at line (r ∷ rs)

pub record Csv : Type 0 where
  -- a line's fields; what lines and files come to; what the calls answer
  pub fields : CsvFields
  pub lines : CsvLines
  pub calls : CsvCalls
  -- what the exported functions' contracts allow is what these are about
  pub header : {out out' : List ℕ} {r : Told} → HeaderCall out out' r → Heads out out' r
  pub line : {bytes out out' : List ℕ} {r : Told} → LineCall bytes out out' r → Writes bytes out out' r
  pub read : {s : List ℕ} {at line : ℕ} {r : Read} → ReadCall s at line r → Reads s at line r
  -- a whole text by calls from place 0 on is what it comes to; the header and the lines of records come back to those records
  pub whole : {s : List ℕ} {from : ℕ} {rs : List Read} {a : Answers} → length s < 2 ^ 64 → ReadCalls s 0 from rs → ReadsFile s a → SaysFile s a rs
  pub back : {es : List Entry} {from : ℕ} {rs : List Read} → AllValid es → length (header_line ++ concat (map line_of es)) < 2 ^ 64
      → ReadCalls (header_line ++ concat (map line_of es)) 0 from rs → SaysFile (header_line ++ concat (map line_of es)) (Answers.lines (map Ok es)) rs
