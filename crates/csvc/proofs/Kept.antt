-- Claims of the calls, kept.
-- Assumes nothing.
use Rattle.basis.proofs.Std.{ℕ, ◌≤◌, ◌<◌, ◌≡◌, refl, sym, ap, ap₂, subst, ◌∙◌, List, [], arith, length, length-drop, drop}
use Rattle.csv_field.specs.Split.{fields}
use Rattle.csv_field.proofs.Meaning as Meaning
use Rattle.csv_words.specs.Words.{columns}
use Rattle.csv_line.proofs.Laws as Lines
use Rattle.csvc.specs.Calls.{line_read, ReadsOn, ReadsFirst, Reads}
use Rattle.csvc.specs.Claims.{Claims}
use Rattle.csvc.specs.declared.Read.{Read}
use Rattle.csvc.proofs.Whole.{whole}

-- one place ends a text's part
one_place : (s : List ℕ) (n m : ℕ) → n ≤ length s → m ≤ length s → drop n s ≡ drop m s → n ≡ m
one_place s n m a b e = let f : length (drop n s) ≡ length (drop m s) = ap length e in omega (arith, f, length-drop n s, length-drop m s)

once_on : {s : List ℕ} {at line : ℕ} {a b : Read} → ReadsOn s at line a → ReadsOn s at line b → a ≡ b
once_on (ReadsOn.ended h) (ReadsOn.ended g) = refl
once_on (ReadsOn.ended h) (ReadsOn.goes_on_lem n g o l p) = absurd (omega arith)
once_on (ReadsOn.goes_on_lem n g o l p) (ReadsOn.ended h) = absurd (omega arith)
once_on {s} {at} {line} (ReadsOn.goes_on_lem n g o l p) (ReadsOn.goes_on_lem m g' o' l' q) = let x = Lines.one_result p q in ap₂ (line_read s at line) (one_place s n m l l' x.1) x.0

once_first : {s : List ℕ} {a b : Read} → ReadsFirst s a → ReadsFirst s b → a ≡ b
once_first (ReadsFirst.wrong_header n) (ReadsFirst.wrong_header m) = refl
once_first {s} (ReadsFirst.wrong_header n) (ReadsFirst.header m l p r) = absurd (n (drop m s) p)
once_first {s} (ReadsFirst.header m l p r) (ReadsFirst.wrong_header n) = absurd (n (drop m s) p)
once_first {s} {a} (ReadsFirst.header n l p x) (ReadsFirst.header m k q y) =
    let e : fields columns (drop n s) ≡ fields columns (drop m s) = sym (Meaning.complete p) ∙ Meaning.complete q in
    let f : drop n s ≡ drop m s = cc in
    once_on (subst (λ (i : ℕ). ReadsOn s i 2 a) (one_place s n m l k f) x) y

once : {s : List ℕ} {at line : ℕ} {a b : Read} → Reads s at line a → Reads s at line b → a ≡ b
once (Reads.first e x) (Reads.first f y) = once_first x y
once (Reads.first e x) (Reads.further n y) = absurd (n e)
once (Reads.further n x) (Reads.first e y) = absurd (n e)
once (Reads.further n x) (Reads.further m y) = once_on x y

further : {s : List ℕ} {at line : ℕ} {r : Read} → ReadsOn s at line r → (r.answer ≡ 7 → ⊥) → (at < r.next) × (r.next ≤ length s)
further (ReadsOn.ended h) n = absurd (n refl)
further {s} {at} (ReadsOn.goes_on_lem m g o l p) n =
    let some : (drop at s ≡ [] → ⊥) = λ e. let z : length (drop at s) ≡ 0 = ap length e in omega (arith, z, length-drop at s) in
    (omega (arith, Lines.line_shorter p some, length-drop m s, length-drop at s), l)

pub kept : Claims
kept = record { one_result = once; goes_further = further; whole = λ n c q. whole n c q }
