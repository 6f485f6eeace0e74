-- the part of the slice behind the length byte
use Rattle.basis.proofs.Std.{ℕ, ◌+◌, ◌-◌, ◌≡◌, sym, ap, ◌∙◌, true, false, List, add-sub_cancel_left, get_or, take, drop, take_all}
use Rattle.number.specs.Alphabet.{is_label}
use Rattle.label.specs.Label.{label_of}
use Rattle.label.specs.Reading.{text_at}
use Rattle.label.proofs.Reading.{label_short, read_behind, read_cut, read_label, read_no_label}
use Rattle.label.proofs.read.Goals as goal

text : (s : List ℕ) (at n : ℕ) → n ≡ get_or s at 0 → take (at + 1 + n - (at + 1)) (drop (at + 1) s) ≡ text_at s at
text s at n e = ap (λ (m : ℕ). take m (drop (at + 1) s)) (add-sub_cancel_left (at + 1) n ∙ e)

pub returns-then-s-at : goal.returns-then-s-at
returns-then-s-at c = c.missed.ensures ∙ sym (read_behind _ _ c.if-s-at.true)

pub returns-then-s-from : goal.returns-then-s-from
returns-then-s-from c = c.missed-then-s-from.ensures ∙ sym (read_cut _ _ c.if-s-at.false (rw c.from-n.ensures at c.if-s-from.true))

pub returns-then-is_label : goal.returns-then-is_label
returns-then-is_label c =
    let a = c.args in
    let s = a.s.now in
    let w = c.from-n.ensures in
    let t = text s a.at c.from-n.result w in
    let g : is_label (text_at s a.at) ≡ true = ap is_label (sym t) ∙ sym c.is_label.ensures ∙ c.if-is_label.true in
    let o = c.of.ensures ∙ ap (λ (l : List ℕ). label_of (take 32 l)) t ∙ ap label_of (take_all 32 (text_at s a.at) (label_short (text_at s a.at) g)) in
    rw (o, w) (sym (read_label s a.at c.if-s-at.false (rw w at c.if-s-from.false) g))

pub returns-else-is_label : goal.returns-else-is_label
returns-else-is_label c =
    let a = c.args in
    let s = a.s.now in
    let w = c.from-n.ensures in
    let t = text s a.at c.from-n.result w in
    let g : is_label (text_at s a.at) ≡ false = ap is_label (sym t) ∙ sym c.is_label.ensures ∙ c.if-is_label.false in
    c.missed-else-is_label.ensures ∙ sym (read_no_label s a.at c.if-s-at.false (rw w at c.if-s-from.false) g)
