use Rattle.basis.proofs.Std.{◌≡◌, sym, ap, subst, ◌∙◌, ℕ, length, get_or, rules}
use mir.Syntax.{w8}
use mir.Val.{Fits}
use Rattle.entry.specs.declared.Entry.{Entry}
use Rattle.entry.specs.Layout.{bytes_of}
use Rattle.entry.specs.Valid.{Valid}
use Rattle.entry.specs.Reading.{reads, refuses}
use Rattle.entry.proofs.ValidLaws.{not_held}
use Rattle.entry.proofs.RoundTrip.{back, forth}
use Rattle.entry.proofs.unpack.Goals as goal

pub returns-then-valid : goal.returns-then-valid
returns-then-valid c =
    let b = c.args.p.bytes in
    let l : length b ≡ 16 = search (c, rules) in
    let f : (i : ℕ) → Fits w8 (get_or b i 0) = λ i. search (c, rules) in
    reads (c.valid.ensures.yes c.if-valid.true) (ap bytes_of c.unchecked-e.ensures ∙ forth b l (λ i. (f i).fits))

pub returns-else-valid : goal.returns-else-valid
returns-else-valid c =
    let b = c.args.p.bytes in
    refuses
    (λ (e : Entry) (v : Valid e) (p : bytes_of e ≡ b). not_held c.valid.ensures c.if-valid.false (subst Valid (sym (c.unchecked-e.ensures ∙ back v b p)) v))
