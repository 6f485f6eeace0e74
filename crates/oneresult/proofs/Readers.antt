-- Two ends of one reading are one.
-- Assumes nothing.
use Rattle.basis.proofs.Std.{ℕ, ◌≤◌, ◌-◌, ◌≡◌, refl, sym, ap, ap₂, ◌∙◌, subst, Bool, true, false, true≢false, List, [], arith, length, drop, length-drop}
use Rattle.json_text.specs.Decoded.{Parsed}
use Rattle.json_text.specs.Decoded.Parsed.{ok, none}
use Rattle.json_text.specs.declared.Read.{Read}
use Rattle.json_text.specs.declared.Read.TheVariants as Read
use Rattle.json_text.specs.Ends.{Ends, ends, fails}
use Rattle.json_value.specs.Grammar.{Json}
use Rattle.json_value.specs.declared.Mark.{Mark}
use Rattle.json_value.specs.declared.Mark.TheVariants as Mark
use Rattle.json_value.specs.Answers.{Skipped, Marks, closes, commas, neither}
use Rattle.json_value.specs.Reader.{read_mark}
use Rattle.json_find.specs.declared.FourFound.{FourFound}
use Rattle.json_find.specs.Four.{FindsFour, Follows, after_none, after_end, next_by}
use Rattle.json_sure.specs.declared.Judged.{Judged}
use Rattle.json_sure.specs.declared.Judged.TheVariants as Judged
use Rattle.json_sure.specs.Judges.{Judges}

-- two places of a text with the same rest are one
pub same_place : (s : List ℕ) (a b : ℕ) → a ≤ length s → b ≤ length s → drop a s ≡ drop b s → a ≡ b
same_place s a b h k e =
    let f : length s - a ≡ length s - b = sym (length-drop a s) ∙ ap (λ (t : List ℕ). length t) e ∙ length-drop b s in omega arith

abbrev rest : {A : Type 0} → Parsed A → List ℕ → List ℕ
rest (ok a r) d = r
rest none d = d

abbrev is_read : {A : Type 0} → Parsed A → Bool
is_read (ok a r) = true
is_read none = false

abbrev is_true : Parsed Bool → Bool
is_true (ok b r) = b
is_true none = false

ends_of : {A : Type 0} {s : List ℕ} {at : ℕ} {p o : Parsed A} {r q : Read} → p ≡ o → Ends s at p r → Ends s at o q → r ≡ q
ends_of {s} w (ends e h k) (ends f m n) = ap Read.End (same_place s e f k n (ap (λ (p : Parsed _). rest p []) w))
ends_of w (ends e h k) fails = absurd (true≢false (ap (λ (p : Parsed _). is_read p) w))
ends_of w fails (ends e h k) = absurd (true≢false (sym (ap (λ (p : Parsed _). is_read p) w)))
ends_of w fails fails = refl

pub ends_once : {A : Type 0} {s : List ℕ} {at : ℕ} {p : Parsed A} {r q : Read} → Ends s at p r → Ends s at p q → r ≡ q
ends_once a b = ends_of refl a b

marks_of : {s : List ℕ} {at : ℕ} {p o : Parsed Bool} {r q : Mark} → p ≡ o → Marks s at p r → Marks s at o q → r ≡ q
marks_of {s} w (closes e h k) (closes f m n) = ap Mark.Close (same_place s e f k n (ap (λ (p : Parsed Bool). rest p []) w))
marks_of w (closes e h k) (commas f m n) = absurd (true≢false (ap is_true w))
marks_of w (closes e h k) neither = absurd (true≢false (ap (λ (p : Parsed Bool). is_read p) w))
marks_of w (commas e h k) (closes f m n) = absurd (true≢false (sym (ap is_true w)))
marks_of {s} w (commas e h k) (commas f m n) = ap Mark.Comma (same_place s e f k n (ap (λ (p : Parsed Bool). rest p []) w))
marks_of w (commas e h k) neither = absurd (true≢false (ap (λ (p : Parsed Bool). is_read p) w))
marks_of w neither (closes f m n) = absurd (true≢false (sym (ap (λ (p : Parsed Bool). is_read p) w)))
marks_of w neither (commas f m n) = absurd (true≢false (sym (ap (λ (p : Parsed Bool). is_read p) w)))
marks_of w neither neither = refl

pub marks_once : {s : List ℕ} {at : ℕ} {p : Parsed Bool} {r q : Mark} → Marks s at p r → Marks s at p q → r ≡ q
marks_once a b = marks_of refl a b

pub skipped_once : {s : List ℕ} {at r q : ℕ} → at ≤ length s → Skipped s at r → Skipped s at q → r ≡ q
skipped_once {s} {at} {r} {q} h a b = same_place s r q (a.within h) (b.within h) (sym a.rest ∙ b.rest)

-- what was read, where a reading ends
was_read : {A : Type 0} {s : List ℕ} {at e : ℕ} {p : Parsed A} → Ends s at p (Read.End e) → (a : A) × (p ≡ ok a (drop e s))
was_read (ends {a} e h k) = (a, refl)

abbrev is_end : Read → Bool
is_end (Read.End e) = true
is_end Read.Bad = false

abbrev end_of : Read → ℕ
end_of (Read.End e) = e
end_of Read.Bad = 0

-- a place with what it says
judged_of : {key : ℕ} {s : List ℕ} {at : ℕ} {p : Parsed Json} (r q : Judged) → Judges key s at p r → Judges key s at p q → r ≡ q
judged_of (Judged.End e b) (Judged.End f c) x y =
    let w = was_read x.place in
    ap₂ (λ (n : ℕ) (d : Bool). Judged.End n d) (ap end_of (ends_once x.place y.place)) (x.says w.0 _ w.1 ∙ sym (y.says w.0 _ w.1))
judged_of (Judged.End e b) Judged.Bad x y = absurd (true≢false (ap is_end (ends_once x.place y.place)))
judged_of Judged.Bad (Judged.End f c) x y = absurd (true≢false (sym (ap is_end (ends_once x.place y.place))))
judged_of Judged.Bad Judged.Bad x y = refl

pub judges_once : {key : ℕ} {s : List ℕ} {at : ℕ} {p : Parsed Json} {r q : Judged} → Judges key s at p r → Judges key s at p q → r ≡ q
judges_once {r} {q} a b = judged_of r q a b

abbrev four_found : Read → Read → Read → Read → Read → FourFound
four_found a b c d e = record { first = a; second = b; third = c; fourth = d; end = e }

pub finds_four_once : {s : List ℕ} {at : ℕ} {a b c d : List ℕ} {r q : FourFound} → FindsFour s at a b c d r → FindsFour s at a b c d q → r ≡ q
finds_four_once {r} {q} x y =
    ap (λ (p : Read). four_found p r.second r.third r.fourth r.end) (ends_once x.one y.one)
    ∙ ap (λ (p : Read). four_found q.first p r.third r.fourth r.end) (ends_once x.two y.two)
    ∙ ap (λ (p : Read). four_found q.first q.second p r.fourth r.end) (ends_once x.three y.three)
    ∙ ap (λ (p : Read). four_found q.first q.second q.third p r.end) (ends_once x.four y.four)
    ∙ ap (λ (p : Read). four_found q.first q.second q.third q.fourth p) (ends_once x.whole y.whole)

follows_of : {s : List ℕ} {close : ℕ} {d e r q : Read} → d ≡ e → Follows s close d r → Follows s close e q → r ≡ q
follows_of w after_none after_none = refl
follows_of w after_none (after_end e m h) = absurd (true≢false (sym (ap is_end w)))
follows_of w (after_end e m h) after_none = absurd (true≢false (ap is_end w))
follows_of {s} {close} w (after_end e m h) (after_end f n k) = ap next_by (marks_once h (subst (λ (z : ℕ). Marks s z (read_mark close (drop z s)) n) (sym (ap end_of w)) k))

pub follows_once : {s : List ℕ} {close : ℕ} {end r q : Read} → Follows s close end r → Follows s close end q → r ≡ q
follows_once a b = follows_of refl a b
