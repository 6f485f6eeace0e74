-- The guessed record held against the texts, as the code goes: column by column, and its own line taken apart again.
-- Assumes nothing.
use Rattle.basis.proofs.Std.{ℕ, ◌+◌, ◌-◌, ◌≤◌, ◌<◌, ◌≡◌, refl, sym, ap, subst, ◌∙◌, Bool, true, false, List, [], map, append-nil, arith, add-one, untrue, eqb, get_or, length, take, drop, drop-cons, drop_of_length-le}
use Rattle.output.specs.Put.{Wrote, concat}
use Rattle.output.proofs.Laws.{fits, same_length, sent}
use Rattle.entry.specs.declared.Entry.{Entry}
use Rattle.entry.specs.Valid.{Valid, Decides}
use Rattle.csv_field.specs.Split.{Split, split, fields}
use mathlib.Core.Bool.{beq}
use Rattle.std.specs.Prelude.{Some}
use Rattle.csv_field.specs.Places.{texts_of, Noted, Splits, splits, spoilt}
use Rattle.csv_field.specs.declared.Notes.{Notes}
use Rattle.csv_field.specs.declared.Line.{Line}
use Rattle.csv_entry.specs.Fields.{fields_of, line_of, pieces_of}
use Rattle.csv_entry.specs.Judged.{differ, has_column, present_from}
use Rattle.csv_entry.proofs.Shape.{fields_simple, twelve}
use Rattle.csv_entry.proofs.Room.{room, split_line}
use Rattle.csv_entry.proofs.Twelve.{simple_raws}

differs : (a b : Bool) → beq a b ≡ false → differ a b ≡ true
differs true true e = untrue (sym e)
differs true false e = refl
differs false true e = refl
differs false false e = untrue (sym e)

differs_not : (a b : Bool) → beq a b ≡ true → differ a b ≡ false
differs_not true true e = refl
differs_not true false e = untrue e
differs_not false true e = untrue e
differs_not false false e = refl

module _ (k : ℕ) (ts : List (List ℕ)) (j : ℕ) where
  pub present_end : length ts ≤ j → present_from k j (map length (drop j ts)) ≡ true
  unfolding present_from
  present_end h = ap (λ (l : List (List ℕ)). present_from k j (map length l)) (drop_of_length-le ts {i = j} h)

  module _ (h : j < length ts) {a b : Bool} (e : a ≡ eqb (length (get_or ts j [])) 0) (g : b ≡ has_column k j) where
    pub present_on : beq a b ≡ false → present_from k j (map length (drop j ts)) ≡ present_from k (j + 1) (map length (drop (j + 1) ts))
    unfolding present_from
    present_on n = rw (drop-cons ts j [] h, ← g, ← e, differs a b n, add-one j)

    pub present_off : beq a b ≡ true → present_from k j (map length (drop j ts)) ≡ false
    unfolding present_from
    present_off n = rw (drop-cons ts j [] h, ← g, ← e, differs_not a b n)

-- the record's line in 66 bytes
module _ (e : Entry) where
  pub line_written : {xs ys : List ℕ} {r : ℕ} → Wrote xs 0 (pieces_of (fields_of e)) ys r → length xs ≡ 66 → Valid e → (r ≤ length ys) × (take (r - 0) ys ≡ line_of e)
  unfolding line_of
  line_written {xs} {ys} {r} w h v =
      let l : 0 + length (concat (pieces_of (fields_of e))) ≤ length xs = omega (arith, room v, h) in
      let k : r ≤ length ys = omega (arith, (fits w l).1, same_length w, l) in
      let z : r - 0 ≡ r = omega arith in
      (k, ap (λ (m : ℕ). take m ys) z ∙ sent w k)

  -- it is taken apart again
  pub line_noted : {t : List ℕ} {l : Line} → t ≡ line_of e → Splits t 0 (split (drop 0 t)) l → (n : Notes) × (l.notes ≡ Some n) × Noted n (fields_of e)
  line_noted {t} {l} h p = go (ap split (h ∙ sym (append-nil (line_of e))) ∙ split_line e []) p
    where
      go : {x : Split} → x ≡ fields (fields_of e) [] → Splits t 0 x l → (n : Notes) × (l.notes ≡ Some n) × Noted n (fields_of e)
      go q (splits {ds} l m is n a b) = let z : ds ≡ fields_of e = cc in (m, is, subst (Noted m) z n)
      go q (spoilt l is a b) = absurd (let z : ◌≡◌ {A = ℕ} 0 1 = cc in omega arith)

  pub line_agrees : (ts : List (List ℕ)) {m : Notes} → Noted m (fields_of e) → {r : Bool} → Decides r (ts ≡ texts_of m.texts) → Decides r (fields_of e ≡ ts)
  line_agrees ts k d =
      let f = simple_raws k (twelve e) (fields_simple e) in
      record { yes = λ h. sym f ∙ sym (d.yes h); only = λ h. d.only (sym h ∙ sym f) }
