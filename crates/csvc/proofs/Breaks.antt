-- Line breaks counted over texts that CRLF ends.
-- Assumes nothing.
use Rattle.basis.proofs.Std.{ℕ, ◌+◌, ◌-◌, ◌^◌, ◌≤◌, ◌<◌, ◌≡◌, refl, sym, ap, ◌∙◌, Bool, true, false, List, [], ◌∷◌, ◌++◌, append_assoc, arith, bit, ne_eqb, le-leb, length, length-append, take, drop, drop-append_seam, take-append_seam}
use Rattle.csv_field.specs.Marks.{is_break, breaks, is_ended}
use Rattle.csvc.specs.Calls.{added, line_behind}
use Rattle.csvc.proofs.Ends.{Clear}

abbrev pub crlf : List ℕ
crlf = 13 ∷ 10 ∷ []

bit_le : (b : Bool) → bit b ≤ 1
bit_le true = omega arith
bit_le false = omega arith

pub breaks_most : (t : List ℕ) → breaks t ≤ length t
unfolding breaks
breaks_most [] = omega arith
breaks_most (b ∷ t) = omega (arith, bit_le (is_break (b ∷ t)), breaks_most t)

pub clear_breaks : {p : List ℕ} → Clear p → breaks (p ++ crlf) ≡ 1
unfolding breaks
clear_breaks Clear.none = refl
clear_breaks (Clear.next {b} {t} n c) =
    let e : bit (is_break (b ∷ (t ++ crlf))) ≡ 0 = rw (ne_eqb b 13 n) in
    omega (arith, e, clear_breaks c)

same_break : (b : ℕ) (p q : List ℕ) → is_break (b ∷ (p ++ (13 ∷ 10 ∷ q))) ≡ is_break (b ∷ (p ++ crlf))
same_break b [] q = refl
same_break b (c ∷ p) q = refl

pub breaks_joined : (p q : List ℕ) → breaks (p ++ (13 ∷ 10 ∷ q)) ≡ breaks (p ++ crlf) + breaks q
unfolding breaks
breaks_joined [] q = omega arith
breaks_joined (b ∷ p) q = omega (arith, ap bit (same_break b p q), breaks_joined p q)

is_ended_lem : (p : List ℕ) → is_ended (p ++ crlf) ≡ true
is_ended_lem p =
    let e : length (p ++ crlf) - 2 ≡ length p = omega (arith, length-append p crlf) in
    ap is_break (ap (λ (k : ℕ). drop k (p ++ crlf)) e ∙ drop-append_seam p crlf)

-- the number of the line behind one that CRLF ends
pub line_behind_lem : (p : List ℕ) (line : ℕ) → line + breaks (p ++ crlf) < 2 ^ 64 → line_behind (p ++ crlf) line ≡ line + breaks (p ++ crlf)
unfolding line_behind added
line_behind_lem p line h = rw (is_ended_lem p, le-leb (breaks (p ++ crlf)) (2 ^ 64 - 1 - line) (omega arith))

-- the part of a text before what follows its first line
pub part_is : {t : List ℕ} (p r : List ℕ) (n : ℕ) → t ≡ p ++ (13 ∷ 10 ∷ r) → n + length r ≡ length t → take n t ≡ p ++ crlf
part_is {t} p r n e h =
    let f : t ≡ (p ++ crlf) ++ r = e ∙ sym (append_assoc p crlf r) in
    let k : n ≡ length (p ++ crlf) = omega (arith, h, ap length f, length-append (p ++ crlf) r) in
    ap (take n) f ∙ ap (λ (m : ℕ). take m ((p ++ crlf) ++ r)) k ∙ take-append_seam (p ++ crlf) r
