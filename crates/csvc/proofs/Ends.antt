-- The text of a line: what stands before what follows the line, and the CRLF at its end.
-- Assumes nothing.
use Rattle.basis.proofs.Std.{ℕ, ◌≤◌, ◌<◌, ◌≡◌, refl, sym, ap, ◌∙◌, List, [], ◌∷◌, ◌++◌, append_assoc, append-nil, arith, length, length-append}
use Rattle.csv_field.specs.Grammar.{Quoted, Plain, Field, Fault, Behind, Parts, Faulty}
use Rattle.csv_entry.proofs.Simple.{Simple, AllSimple}
use Rattle.csv_entry.specs.Judged.{Judged}
use Rattle.csv_line.specs.Reading.{ReadsLine, spoilt, judged}

-- no byte is CR
pub data Clear : List ℕ → Type 0 where
  none : Clear []
  next : {b : ℕ} {t : List ℕ} → (b ≡ 13 → ⊥) → Clear t → Clear (b ∷ t)

clear_both : {p q : List ℕ} → Clear p → Clear q → Clear (p ++ q)
clear_both Clear.none y = y
clear_both (Clear.next n x) y = Clear.next n (clear_both x y)

first_simple : {b : ℕ} {d : List ℕ} → Simple (b ∷ d) → 45 ≤ b
first_simple (Simple.next h x) = h

rest_simple : {b : ℕ} {d : List ℕ} → Simple (b ∷ d) → Simple d
rest_simple (Simple.next h x) = x

first_all : {d : List ℕ} {ds : List (List ℕ)} → AllSimple (d ∷ ds) → Simple d
first_all (AllSimple.next x y) = x

rest_all : {d : List ℕ} {ds : List (List ℕ)} → AllSimple (d ∷ ds) → AllSimple ds
rest_all (AllSimple.next x y) = y

-- a field's own text, with its quotes
record Text (t r d : List ℕ) : Type 0 where
  pub part : List ℕ
  pub is : t ≡ part ++ r
  pub clear : Simple d → Clear part

more_text : {t r d : List ℕ} (b : ℕ) → Text t r d → Text (b ∷ t) r (b ∷ d)
more_text b x = record {
  part = b ∷ x.part;
  is = ap (λ (l : List ℕ). b ∷ l) x.is;
  clear = λ s. let h = first_simple s in Clear.next (λ (e : b ≡ 13). omega arith) (x.clear (rest_simple s));
}

quoted_text : {t r d : List ℕ} → Quoted t r d → Text t r d
quoted_text (Quoted.close u) = record { part = 34 ∷ []; is = refl; clear = λ s. Clear.next (λ (e : ◌≡◌ {A = ℕ} 34 13). omega arith) Clear.none }
quoted_text (Quoted.twice x) =
    let y = quoted_text x in
    record {
      part = 34 ∷ 34 ∷ y.part;
      is = ap (λ (l : List ℕ). 34 ∷ 34 ∷ l) y.is;
      clear = λ s. absurd (let h = first_simple s in omega arith);
    }
quoted_text (Quoted.other {b} n x) = more_text b (quoted_text x)

plain_text : {t r d : List ℕ} → Plain t r d → Text t r d
plain_text Plain.quote = record { part = []; is = refl; clear = λ s. Clear.none }
plain_text (Plain.stop x) = record { part = []; is = refl; clear = λ s. Clear.none }
plain_text (Plain.more {b} n m x) = more_text b (plain_text x)

field_text : {t r d : List ℕ} → Field t r d → Text t r d
field_text (Field.quoted x s) =
    let y = quoted_text x in
    record {
      part = 34 ∷ y.part;
      is = ap (λ (l : List ℕ). 34 ∷ l) y.is;
      clear = λ s. Clear.next (λ (e : ◌≡◌ {A = ℕ} 34 13). omega arith) (y.clear s);
    }
field_text (Field.plain u x s) = plain_text x

-- a line that CRLF ends
pub record Ended (t r : List ℕ) : Type 0 where
  pub part : List ℕ
  pub is : t ≡ part ++ (13 ∷ 10 ∷ r)

after : {t u r : List ℕ} (p : List ℕ) → t ≡ p ++ u → Ended u r → Ended t r
after {t} {u} {r} p e x = record { part = p ++ x.part; is = e ∙ ap (λ (l : List ℕ). p ++ l) x.is ∙ sym (append_assoc p x.part (13 ∷ 10 ∷ r)) }

behind_ended : {t r : List ℕ} → Behind t r → (r ≡ [] → ⊥) → Ended t r
behind_ended Behind.line n = record { part = []; is = refl }
behind_ended Behind.end n = absurd (n refl)
behind_ended (Behind.more {b} m x) n = after (b ∷ []) refl (behind_ended x n)

faulty_ended : {t r : List ℕ} → Faulty t r → (r ≡ [] → ⊥) → Ended t r
faulty_ended (Faulty.here (Fault.inside u x) y) n = let z = plain_text x in after z.part z.is (behind_ended y n)
faulty_ended (Faulty.here (Fault.behind x m) y) n = let z = quoted_text x in after (34 ∷ z.part) (ap (λ (l : List ℕ). 34 ∷ l) z.is) (behind_ended y n)
faulty_ended (Faulty.here (Fault.not_closed {t} x) y) n = after (34 ∷ t) (sym (append-nil (34 ∷ t))) (behind_ended y n)
faulty_ended (Faulty.later x y) n = let z = field_text x in after z.part z.is (after (44 ∷ []) refl (faulty_ended y n))

pub record Whole (ds : List (List ℕ)) (t r : List ℕ) : Type 0 where
  pub part : List ℕ
  pub is : t ≡ part ++ (13 ∷ 10 ∷ r)
  pub clear : AllSimple ds → Clear part

pub parts_ended : {t r : List ℕ} {ds : List (List ℕ)} → Parts t ds r → (r ≡ [] → ⊥) → Whole ds t r
parts_ended (Parts.last x) n = let z = field_text x in record { part = z.part; is = z.is; clear = λ s. z.clear (first_all s) }
parts_ended (Parts.end x) n = absurd (n refl)
parts_ended {t} {r} (Parts.more x y) n =
    let z = field_text x in
    let w = parts_ended y n in
    record {
      part = z.part ++ (44 ∷ w.part);
      is = z.is ∙ ap (λ (l : List ℕ). z.part ++ (44 ∷ l)) w.is ∙ sym (append_assoc z.part (44 ∷ w.part) (13 ∷ 10 ∷ r));
      clear = λ s. clear_both (z.clear (first_all s)) (Clear.next (λ (e : ◌≡◌ {A = ℕ} 44 13). omega arith) (w.clear (rest_all s)));
    }

pub line_ended : {t r : List ℕ} {j : Judged} → ReadsLine t j r → (r ≡ [] → ⊥) → Ended t r
line_ended (spoilt x) n = faulty_ended x n
line_ended (judged p x) n = let w = parts_ended p n in record { part = w.part; is = w.is }

parts_rest : {t r : List ℕ} {ds : List (List ℕ)} → Parts t ds r → length r ≤ length t
parts_rest (Parts.last {r = r} x) = let z = field_text x in omega (arith, ap length z.is, length-append z.part (13 ∷ 10 ∷ r))
parts_rest (Parts.end x) = omega arith
parts_rest (Parts.more {t = u} x y) = let z = field_text x in omega (arith, parts_rest y, ap length z.is, length-append z.part (44 ∷ u))

-- what follows a line of two fields is shorter
pub rest_shorter : {t r : List ℕ} {ds : List (List ℕ)} → Parts t ds r → 1 < length ds → length r < length t
rest_shorter (Parts.last x) h = absurd (omega arith)
rest_shorter (Parts.end x) h = absurd (omega arith)
rest_shorter (Parts.more {t = u} x y) h = let z = field_text x in omega (arith, parts_rest y, ap length z.is, length-append z.part (44 ∷ u))
