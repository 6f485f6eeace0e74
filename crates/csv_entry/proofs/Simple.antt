-- The fields of records have no mark in them, so that a line of them is taken apart into them again.
-- Assumes nothing.
use Rattle.basis.proofs.Std.{ℕ, suc, ◌≤◌, ◌≡◌, refl, sym, ap, ap₂, subst, Bool, false, List, [], ◌∷◌, ◌++◌, append_assoc, arith, eqb, ne_eqb, negsuc, pos, ℤ}
use Rattle.output.specs.Put.{concat}
use Rattle.number.specs.Decimal.{digits, decimal_of}
use Rattle.number.proofs.Digits.{Row, digits_row}
use Rattle.csv_field.specs.Grammar.{Stop, Unquoted, Plain, Field, Parts}
use Rattle.csv_field.specs.Marks.{unquoted}
use Rattle.csv_entry.specs.Fields.{crlf, comma, pieces_of, line_from}

-- all bytes are above the comma
pub data Simple : List ℕ → Type 0 where
  none : Simple []
  next : {b : ℕ} {d : List ℕ} → 45 ≤ b → Simple d → Simple (b ∷ d)

pub data AllSimple : List (List ℕ) → Type 0 where
  none : AllSimple []
  next : {d : List ℕ} {ds : List (List ℕ)} → Simple d → AllSimple ds → AllSimple (d ∷ ds)

row_simple : {d : List ℕ} → Row d → Simple d
row_simple Row.none = Simple.none
row_simple (Row.next {b} l u r) = Simple.next {b = b} (omega arith) (row_simple r)

pub digits_simple : (n : ℕ) → Simple (digits n)
digits_simple n = row_simple (digits_row n)

pub decimal_simple : (v : ℤ) → Simple (decimal_of v)
unfolding decimal_of
decimal_simple (pos n) = digits_simple n
decimal_simple (negsuc n) = Simple.next {b = 45} (omega arith) (digits_simple (suc n))

-- a simple text and what stands behind a field
not_stop : {b : ℕ} {t : List ℕ} → 45 ≤ b → Stop (b ∷ t) → ⊥
not_stop h Stop.comma = omega arith
not_stop h Stop.line = omega arith

plain : {d r : List ℕ} → Simple d → Stop r → Plain (d ++ r) r d
plain Simple.none s = Plain.stop s
plain (Simple.next {b} h x) s = Plain.more {b = b} (λ (e : b ≡ 34). omega arith) (not_stop h) (plain x s)

stop_unquoted : {r : List ℕ} → Stop r → Unquoted r
stop_unquoted Stop.comma t e = let z : ◌≡◌ {A = ℕ} 44 34 = cc in omega arith
stop_unquoted Stop.line t e = let z : ◌≡◌ {A = ℕ} 13 34 = cc in omega arith
stop_unquoted Stop.end t e = let z : ◌≡◌ {A = ℕ} 0 1 = cc in omega arith

simple_unquoted : {d r : List ℕ} → Simple d → Stop r → Unquoted (d ++ r)
simple_unquoted Simple.none s = stop_unquoted s
simple_unquoted (Simple.next {b} h x) s = λ t e. let z : b ≡ 34 = cc in omega arith

field : {d r : List ℕ} → Simple d → Stop r → Field (d ++ r) r d
field x s = Field.plain (simple_unquoted x s) (plain x s) s

-- a line, and whatever follows it
pub line_parts : (d : List ℕ) (ds : List (List ℕ)) (rest : List ℕ) → AllSimple (d ∷ ds) → Parts (line_from (d ∷ ds) ++ rest) (d ∷ ds) rest
line_parts d [] rest (AllSimple.next x y) =
    let e : d ++ (crlf ++ []) ++ rest ≡ d ++ (13 ∷ 10 ∷ rest) = append_assoc d (crlf ++ []) rest in
    subst (λ (t : List ℕ). Parts t (d ∷ []) rest) (sym e) (Parts.last (field x Stop.line))
line_parts d (c ∷ ds) rest (AllSimple.next x y) =
    let e : d ++ (comma ++ concat (pieces_of (c ∷ ds))) ++ rest ≡ d ++ (44 ∷ (line_from (c ∷ ds) ++ rest)) = append_assoc d (comma ++ concat (pieces_of (c ∷ ds))) rest in
    subst (λ (t : List ℕ). Parts t (d ∷ c ∷ ds) rest) (sym e) (Parts.more (field x Stop.comma) (line_parts c ds rest y))

-- a text without quotes is what it is written as, quoted or not
pub same_text : (t : List ℕ) {d : List ℕ} → Simple d → unquoted false t ≡ d → t ≡ d
unfolding unquoted
same_text [] Simple.none e = refl
same_text [] (Simple.next h x) e = e
same_text (b ∷ t) Simple.none e = absurd (let z : ◌≡◌ {A = ℕ} 0 1 = cc in omega arith)
same_text (b ∷ t) (Simple.next {b = c} {d} h x) e =
    let f : b ≡ c = cc in
    let n : (b ≡ 34 → ⊥) = λ (q : b ≡ 34). omega arith in
    let k : b ∷ unquoted (eqb b 34) t ≡ c ∷ d = e in
    let g : unquoted (eqb b 34) t ≡ d = cc in
    ap₂ (λ (a : ℕ) (l : List ℕ). a ∷ l) f (same_text t x (subst (λ (q : Bool). unquoted q t ≡ d) (ne_eqb b 34 n) g))

pub text_same : {d : List ℕ} → Simple d → unquoted false d ≡ d
unfolding unquoted
text_same Simple.none = refl
text_same (Simple.next {b} {d} h x) = let n : (b ≡ 34 → ⊥) = λ (q : b ≡ 34). omega arith in rw (ne_eqb b 34 n) (ap (λ (l : List ℕ). b ∷ l) (text_same x))
