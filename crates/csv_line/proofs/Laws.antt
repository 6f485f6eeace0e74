-- The laws of lines and files.
-- Assumes nothing.
use Rattle.basis.proofs.Std.{ℕ, zero, suc, ◌≤◌, ◌<◌, ◌≡◌, refl, sym, ap, subst, ◌∙◌, List, [], ◌∷◌, ◌++◌, map, arith, length, ⊎_elim}
use Rattle.output.specs.Put.{concat}
use Rattle.entry.specs.declared.Entry.{Entry}
use Rattle.entry.specs.Valid.{Valid}
use Rattle.csv_field.specs.Grammar.{Parts}
use Rattle.csv_field.specs.Split.{Split, split, fields, faulty}
use Rattle.csv_field.proofs.Meaning as Meaning
use Rattle.csv_words.specs.Words.{columns}
use Rattle.csv_entry.specs.Fields.{fields_of, line_from, line_of, header_line}
use Rattle.std.specs.Prelude.{Ok, Err}
use Rattle.csv_entry.specs.Judged.{Judged, Judges, a_record}
use Rattle.csv_entry.specs.declared.Reason.TheVariants.{Quoting}
use Rattle.csv_entry.proofs.Simple.{line_parts}
use Rattle.csv_entry.proofs.Shape.{twelve}
use Rattle.csv_entry.proofs.Back as Back
use Rattle.csv_entry.proofs.Judging.{one_answer}
use Rattle.csv_entry.proofs.Room.{split_line}
use Rattle.csv_entry.proofs.Total.{answer, texts_told}
use Rattle.csv_line.specs.Reading.{ReadsLine, spoilt, judged, ReadsLines, ReadsFile, Answers, lines, wrong_header, header, no_header}
use Rattle.csv_line.specs.Claims.{AllValid}
use Rattle.csv_line.proofs.Taken.{columns_simple}
use Rattle.csv_line.proofs.Shorter.{parts_within, faulty_within}

pub read_written : {e : Entry} (rest : List ℕ) → Valid e → ReadsLine (line_of e ++ rest) (Ok e) rest
read_written {e} rest v = judged (Meaning.sound (line_of e ++ rest) rest (fields_of e) (split_line e rest)) (a_record v refl)

pub written_read : {t r : List ℕ} {e : Entry} → ReadsLine t (Ok e) r → Valid e × Parts t (fields_of e) r
written_read {t} {r} {e} (judged {ds} p j) = go j
  where
    go : Judges ds (Ok e) → Valid e × Parts t (fields_of e) r
    go (a_record v f) = (v, subst (λ (l : List (List ℕ)). Parts t l r) (sym f) p)

pub one_line : {e f : Entry} → Valid e → Valid f → line_of e ≡ line_of f → e ≡ f
one_line {e} {f} v w h =
    let q : fields (fields_of e) [] ≡ fields (fields_of f) [] = sym (split_line e []) ∙ ap (λ (l : List ℕ). split (l ++ [])) h ∙ split_line f [] in
    let g : fields_of e ≡ fields_of f = cc in
    Back.one_line v w g

never : (t : List ℕ) {r q : List ℕ} {ds : List (List ℕ)} → split t ≡ faulty r → split t ≡ fields ds q → ⊥
never t x y = let z : ◌≡◌ {A = ℕ} 0 1 = cc in omega arith

pub one_result : {t r q : List ℕ} {a b : Judged} → ReadsLine t a r → ReadsLine t b q → (a ≡ b) × (r ≡ q)
one_result {t} {r} {q} (spoilt x) (spoilt y) = let h : faulty r ≡ faulty q = sym (Meaning.spoilt' x) ∙ Meaning.spoilt' y in (refl, cc)
one_result {t} (spoilt x) (judged p j) = absurd (never t (Meaning.spoilt' x) (Meaning.complete p))
one_result {t} (judged p j) (spoilt x) = absurd (never t (Meaning.spoilt' x) (Meaning.complete p))
one_result {t} {r} {q} {a} {b} (judged {ds} p j) (judged {ds = es} o k) =
    let h : fields ds r ≡ fields es q = sym (Meaning.complete p) ∙ Meaning.complete o in
    let g : es ≡ ds = cc in
    (one_answer j (subst (λ (l : List (List ℕ)). Judges l b) g k), cc)

-- a line takes something of its text
pub line_shorter : {t r : List ℕ} {j : Judged} → ReadsLine t j r → (t ≡ [] → ⊥) → length r < length t
line_shorter (spoilt f) n = faulty_within f
line_shorter (judged p j) n = parts_within p n

some_line : (ds : List (List ℕ)) (rest : List ℕ) → 2 ≤ length ds → line_from ds ++ rest ≡ [] → ⊥
some_line [] rest h e = omega arith
some_line (d ∷ []) rest h e = omega arith
some_line ([] ∷ c ∷ ds) rest h e = let z : ◌≡◌ {A = ℕ} 0 1 = cc in omega arith
some_line ((b ∷ d) ∷ c ∷ ds) rest h e = let z : ◌≡◌ {A = ℕ} 0 1 = cc in omega arith

line_some : (e : Entry) (rest : List ℕ) → line_of e ++ rest ≡ [] → ⊥
unfolding line_of
line_some e rest = some_line (fields_of e) rest (omega (arith, twelve e))

lines_back : {es : List Entry} → AllValid es → ReadsLines (concat (map line_of es)) (map Ok es)
lines_back AllValid.none = ReadsLines.end
lines_back (AllValid.next {e} {es} v w) = ReadsLines.line (line_some e (concat (map line_of es))) (read_written (concat (map line_of es)) v) (lines_back w)

header_parts : (rest : List ℕ) → Parts (header_line ++ rest) columns rest
unfolding header_line
header_parts rest = line_parts _ _ rest columns_simple

pub file_back : {es : List Entry} → AllValid es → ReadsFile (header_line ++ concat (map line_of es)) (lines (map Ok es))
file_back {es} v = header (header_parts (concat (map line_of es))) (lines_back v)

-- every text

abbrev Read : List ℕ → Type 0
Read t = (j : Judged) × (r : List ℕ) × ReadsLine t j r × ((t ≡ [] → ⊥) → length r < length t)

line_read : (t : List ℕ) → Read t
line_read t = go (split t) refl
  where
    go : (p : Split) → split t ≡ p → Read t
    go (fields ds r) e = let a = answer ds in let p = Meaning.sound t r ds e in (a.0, r, judged p a.1, λ n. parts_within p n)
    go (faulty r) e = let f = Meaning.spoilt t r e in (Err Quoting, r, spoilt f, λ n. faulty_within f)

lines_read : (n : ℕ) (t : List ℕ) → length t < n → (js : List Judged) × ReadsLines t js
lines_read zero t h = absurd (omega arith)
lines_read (suc n) [] h = ([], ReadsLines.end)
lines_read (suc n) (b ∷ t) h =
    let x = line_read (b ∷ t) in
    let some : (b ∷ t ≡ [] → ⊥) = λ e. let z : ◌≡◌ {A = ℕ} 0 1 = cc in omega arith in
    let k = x.3 some in
    let y = lines_read n x.1 (omega arith) in
    (x.0 ∷ y.0, ReadsLines.line some x.2 y.1)

pub every_text : (s : List ℕ) → (a : Answers) × ReadsFile s a
every_text s = go (split s) refl
  where
    go : (p : Split) → split s ≡ p → (a : Answers) × ReadsFile s a
    go (faulty r) e = (wrong_header, no_header (λ q p. never s e (Meaning.complete p)))
    go (fields ds r) e = ⊎_elim
        (λ (h : ds ≡ columns). let y = lines_read (suc (length r)) r (omega arith) in (lines y.0, header (subst (λ (l : List (List ℕ)). Parts s l r) h (Meaning.sound s r ds e)) y.1))
        (λ (h : ds ≡ columns → ⊥). (wrong_header, no_header (λ q p. let f : fields ds r ≡ fields columns q = sym e ∙ Meaning.complete p in h cc)))
        (texts_told ds columns)
