-- The answers of call after call are those of the whole text.
-- Assumes nothing.
use Rattle.basis.proofs.Std.{ℕ, ◌+◌, ◌-◌, ◌^◌, ◌≤◌, ◌<◌, ◌≡◌, refl, sym, ap, subst, ◌∙◌, List, [], ◌∷◌, ◌++◌, append_assoc, arith, length, length-drop, length-take-le, take, drop, drop_of_length-le, take-add}
use Rattle.csv_field.specs.Grammar.{Parts}
use Rattle.csv_field.specs.Split.{fields}
use Rattle.csv_field.specs.Marks.{breaks}
use Rattle.csv_field.proofs.Meaning as Meaning
use Rattle.csv_words.specs.Words.{columns}
use Rattle.csv_entry.specs.Judged.{Judged}
use Rattle.std.specs.Prelude.{Ok, Err}
use Rattle.csv_entry.specs.declared.Reason.TheVariants.{Quoting, Count, Kind, Presence, Contents}
use Rattle.csv_line.specs.Reading.{ReadsLine, ReadsLines, ReadsFile, Answers}
use Rattle.csv_line.proofs.Laws as Lines
use Rattle.csv_line.proofs.Taken.{columns_simple}
use Rattle.csvc.specs.Calls.{number_for, bytes_for, line_behind, ReadsOn, ReadsFirst, Reads}
use Rattle.csvc.specs.Whole.{Stop, Calls, Says, SaysFile}
use Rattle.csvc.specs.declared.Read.{Read}
use Rattle.csvc.proofs.Ends.{Ended, parts_ended, line_ended, rest_shorter}
use Rattle.csvc.proofs.Breaks.{crlf, breaks_most, clear_breaks, breaks_joined, line_behind_lem, part_is}

-- a line begins at `at`, and has that number: CRLF stands before it
record Begins (s : List ℕ) (at line : ℕ) : Type 0 where
  pub part : List ℕ
  pub is : take at s ≡ part ++ crlf
  pub counted : line ≡ 1 + breaks (take at s)

left_of : (s : List ℕ) (at : ℕ) → at < length s → drop at s ≡ [] → ⊥
left_of s at h e = let z : length (drop at s) ≡ 0 = ap length e in omega (arith, z, length-drop at s)

-- the first line behind the header is line 2
begins_first : {s : List ℕ} {at : ℕ} → Parts s columns (drop at s) → at < length s → Begins s at 2
begins_first {s} {at} p h =
    let w = parts_ended p (left_of s at h) in
    let e = part_is w.part (drop at s) at w.is (omega (arith, length-drop at s)) in
    record { part = w.part; is = e; counted = omega (arith, ap breaks e, clear_breaks (w.clear columns_simple)) }

no_stop : (j : Judged) → Stop (number_for j) → ⊥
no_stop j x = go (number_for j) (below j) x
  where
    below : (j : Judged) → (number_for j ≡ 1 → ⊥) × (number_for j ≡ 7 → ⊥)
    below (Ok e) = ((λ e. omega arith), (λ e. omega arith))
    below (Err Quoting) = ((λ e. omega arith), (λ e. omega arith))
    below (Err Count) = ((λ e. omega arith), (λ e. omega arith))
    below (Err Kind) = ((λ e. omega arith), (λ e. omega arith))
    below (Err Presence) = ((λ e. omega arith), (λ e. omega arith))
    below (Err Contents) = ((λ e. omega arith), (λ e. omega arith))

    go : (m : ℕ) → (m ≡ 1 → ⊥) × (m ≡ 7 → ⊥) → Stop m → ⊥
    go m n Stop.at_header = n.0 refl
    go m n Stop.at_end = n.1 refl

module _ {s : List ℕ} (n : length s < 2 ^ 64) where
  -- the next line, where there is one
  begins_next : {at line next : ℕ} → Begins s at line → at < next → next < length s → Ended (drop at s) (drop next s) → Begins s next (line_behind (take (next - at) (drop at s)) line)
  begins_next {at} {line} {next} x h g e =
      let q = e.part in
      let part = part_is q (drop next s) (next - at) e.is (omega (arith, length-drop at s, length-drop next s)) in
      let k : at + (next - at) ≡ next = omega arith in
      let all : take next s ≡ take at s ++ (q ++ crlf) = ap (λ (m : ℕ). take m s) (sym k) ∙ take-add at (next - at) s ∙ ap (λ (l : List ℕ). take at s ++ l) part in
      let both : take next s ≡ x.part ++ (13 ∷ 10 ∷ (q ++ crlf)) = all ∙ ap (λ (l : List ℕ). l ++ (q ++ crlf)) x.is ∙ append_assoc x.part crlf (q ++ crlf) in
      let sum : breaks (take next s) ≡ breaks (take at s) + breaks (q ++ crlf) = ap breaks both ∙ breaks_joined x.part (q ++ crlf) ∙ ap (λ (l : List ℕ). breaks l + breaks (q ++ crlf)) (sym x.is) in
      let most = breaks_most (take next s) in
      record {
        part = take at s ++ q;
        is = all ∙ sym (append_assoc (take at s) q crlf);
        counted = ap (λ (l : List ℕ). line_behind l line) part ∙ line_behind_lem q line (omega (arith, x.counted, sum, most, length-take-le next s (omega arith))) ∙ omega (arith, x.counted, sum);
      }

  says : {at line : ℕ} {rs : List Read} {t : List ℕ} {js : List Judged} → (at ≡ 0 → ⊥) → (at < length s → Begins s at line) → Calls s at line rs → ReadsLines t js → t ≡ drop at s → Says s at js rs
  says z h (Calls.stops (Reads.first e x) st) q f = absurd (z e)
  says z h (Calls.stops (Reads.further m (ReadsOn.ended l)) st) ReadsLines.end f = Says.end refl refl
  says z h (Calls.stops (Reads.further m (ReadsOn.ended l)) st) (ReadsLines.line some x y) f = absurd (some (f ∙ drop_of_length-le s l))
  says z h (Calls.stops (Reads.further m (ReadsOn.goes_on_lem {j} next g o l p)) st) q f = absurd (no_stop j st)
  says z h (Calls.goes_on_lem (Reads.first e x) ns c) q f = absurd (z e)
  says z h (Calls.goes_on_lem (Reads.further m (ReadsOn.ended l)) ns c) q f = absurd (ns Stop.at_end)
  says {at} z h (Calls.goes_on_lem (Reads.further m (ReadsOn.goes_on_lem {j} next g o l p)) ns c) ReadsLines.end f = absurd (left_of s at g (sym f))
  says {at} {line} z h (Calls.goes_on_lem (Reads.further m (ReadsOn.goes_on_lem {j} next g o l p)) ns c) (ReadsLines.line {t} {r} {j = i} {js} some x y) f =
      let w = Lines.one_result p (subst (λ (u : List ℕ). ReadsLine u i r) f x) in
      let k : at < next = omega (arith, Lines.line_shorter p (left_of s at g), length-drop next s, length-drop at s) in
      Says.line (h g).counted (ap number_for w.0) (ap bytes_for w.0)
      (says (λ (e : next ≡ 0). omega arith) (λ (b : next < length s). begins_next (h g) k b (line_ended p (left_of s next b))) c y (sym w.1))

  -- behind the header
  behind : {next : ℕ} {rs : List Read} {a : Answers} → next ≤ length s → Parts s columns (drop next s) → ((next ≡ 0 → ⊥) → Calls s next 2 rs) → ReadsFile s a → SaysFile s a rs
  behind {next} l p c (ReadsFile.no_header x) = absurd (x (drop next s) p)
  behind {next} l p c (ReadsFile.header {r} {js} x y) =
      let z : (next ≡ 0 → ⊥) = λ e. omega (arith, rest_shorter p (omega arith), length-drop next s) in
      let q : fields columns r ≡ fields columns (drop next s) = sym (Meaning.complete x) ∙ Meaning.complete p in
      let f : r ≡ drop next s = cc in
      SaysFile.tells next l p (says z (begins_first p) (c z) y f)

  pub whole : {line : ℕ} {rs : List Read} {a : Answers} → Calls s 0 line rs → ReadsFile s a → SaysFile s a rs
  whole (Calls.stops (Reads.first e (ReadsFirst.wrong_header x)) st) (ReadsFile.no_header y) = SaysFile.refuses refl refl
  whole (Calls.stops (Reads.first e (ReadsFirst.wrong_header x)) st) (ReadsFile.header {r} p y) = absurd (x r p)
  whole (Calls.stops (Reads.first e (ReadsFirst.header next l p x)) st) q = behind l p (λ z. Calls.stops (Reads.further z x) st) q
  whole (Calls.stops (Reads.further z x) st) q = absurd (z refl)
  whole (Calls.goes_on_lem (Reads.first e (ReadsFirst.wrong_header x)) ns c) q = absurd (ns Stop.at_header)
  whole (Calls.goes_on_lem (Reads.first e (ReadsFirst.header next l p x)) ns c) q = behind l p (λ z. Calls.goes_on_lem (Reads.further z x) ns c) q
  whole (Calls.goes_on_lem (Reads.further z x) ns c) q = absurd (z refl)
