-- What the calls answer, from what the functions that they call leave.
-- Assumes nothing.
use Rattle.basis.proofs.Std.{ℕ, ◌+◌, ◌≤◌, ◌≡◌, refl, ap, subst, ◌∙◌, List, [], ◌∷◌, arith, length, drop}
use Rattle.output.specs.Put.{Out, Wrote, concat}
use Rattle.output.proofs.Laws.{piece_fits, fits}
use Rattle.entry.specs.declared.Entry.{Entry}
use Rattle.entry.specs.declared.Unpacked.TheVariants.{Accepted, Refused}
use Rattle.entry.specs.Layout.{bytes_of}
use Rattle.entry.specs.Valid.{Valid}
use Rattle.entry.specs.Reading.{reads, refuses}
use Rattle.entry.specs.Reading as Entries
use Rattle.answer.specs.declared.Refusal.{Refusal}
use Rattle.csv_field.specs.Grammar.{Parts}
use Rattle.csv_field.specs.Split.{Split, split, fields}
use Rattle.csv_field.specs.Places.{Splits, splits, spoilt}
use Rattle.csv_field.specs.declared.Line.{Line}
use Rattle.csv_field.proofs.Meaning as Meaning
use Rattle.csv_words.specs.Words.{columns}
use Rattle.csv_entry.specs.Fields.{fields_of, pieces_of, line_of, header_line}
use Rattle.csv_entry.proofs.Room.{room}
use Rattle.csvc.specs.Calls.{told, Heads, Writes}

header_length : length header_line ≡ 73
unfolding header_line
header_length = refl

pub header_told : {xs ys : List ℕ} {r : ℕ} → Wrote xs 0 (header_line ∷ []) ys r → 73 ≤ length xs → Heads xs ys (told r 0)
header_told {xs} {ys} {r} w h =
    let e = w.all ∙ piece_fits xs 0 header_line (omega (arith, header_length, h)) in
    let n : r ≡ 0 + length header_line = ap (λ (o : Out). o.end) e in
    let k : 73 ≡ r = omega (arith, n, header_length) in
    subst (λ (m : ℕ). Heads xs ys (told m 0)) k (Heads.written h (ap (λ (o : Out). o.bytes) e))

pub line_told : {xs ys bytes : List ℕ} {r : ℕ} {e : Entry} → Wrote xs 0 (pieces_of (fields_of e)) ys r → 66 ≤ length xs → Valid e → bytes_of e ≡ bytes → Writes bytes xs ys (told r 0)
unfolding line_of
line_told {xs} {ys} {bytes} {r} {e} w h v b =
    let l : 0 + length (concat (pieces_of (fields_of e))) ≤ length xs = omega (arith, room v, h) in
    let f = fits w l in
    let k : length (concat (pieces_of (fields_of e))) ≡ r = omega (arith, f.1) in
    subst (λ (m : ℕ). Writes bytes xs ys (told m 0)) k (Writes.written {e = e} h v b f.0)

pub accepted : {b : List ℕ} {e : Entry} → Entries.Reads b (Accepted e) → Valid e × (bytes_of e ≡ b)
accepted (reads v f) = (v, f)

pub not_accepted : {b : List ℕ} {f : Refusal} → Entries.Reads b (Refused f) → (e : Entry) → Valid e → bytes_of e ≡ b → ⊥
not_accepted (refuses n) = n

pub sixteen_bytes : (e : Entry) → length (bytes_of e) ≡ 16
unfolding bytes_of
sixteen_bytes e = refl

-- a line that was taken

pub ordered : {s : List ℕ} {at : ℕ} {p : Split} {l : Line} → Splits s at p l → (at ≤ l.next) × (l.next ≤ length s)
ordered (splits l n g k a b) = (a, b)
ordered (spoilt l g a b) = (a, b)

-- the header ends where the line does
pub header_end : {s : List ℕ} {l : Line} → Splits s 0 (split s) l → (r : List ℕ) → Parts s columns r → Parts s columns (drop l.next s)
header_end {s} {l} p r q = go (Meaning.complete q) p
  where
    go : {x : Split} → x ≡ fields columns r → Splits s 0 x l → Parts s columns (drop l.next s)
    go e (splits {ds} l n g k a b) = let z : r ≡ drop l.next s = cc in subst (Parts s columns) z q
    go e (spoilt l g a b) = absurd (let z : ◌≡◌ {A = ℕ} 0 1 = cc in omega arith)
