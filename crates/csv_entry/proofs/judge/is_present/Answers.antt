use Rattle.basis.proofs.Std.{ℕ, ◌≡◌, ◌<◌, List, sym, ap, ◌∙◌, arith, eqb, length, rules}
use Rattle.csv_field.specs.Places.{texts_of}
use Rattle.csv_entry.proofs.Twelve.{text_at, texts_length}
use Rattle.csv_entry.proofs.Held.{present_end, present_on, present_off}
use Rattle.csv_entry.proofs.judge.is_present.Goals as goal

pub returns-then-is_empty-has_column : goal.returns-then-is_empty-has_column
returns-then-is_empty-has_column c =
    let ts = c.args.texts.now in
    let j = c.loop-j.j in
    let n : length ts ≡ 12 = search rules in
    let h : j < length (texts_of ts) = omega (arith, texts_length ts, n) in
    let e = c.is_empty.ensures ∙ ap (λ (t : List ℕ). eqb (length t) 0) (sym (text_at ts j)) in
    sym (c.loop-j.invariant ∙ present_off c.args.k (texts_of ts) j h e c.has_column.ensures c.if-is_empty-has_column.true)

pub loop-j-preserved : goal.loop-j-preserved
loop-j-preserved c =
    let ts = c.args.texts.now in
    let j = c.loop-j.j in
    let n : length ts ≡ 12 = search rules in
    let h : j < length (texts_of ts) = omega (arith, texts_length ts, n) in
    let e = c.is_empty.ensures ∙ ap (λ (t : List ℕ). eqb (length t) 0) (sym (text_at ts j)) in
    c.loop-j.invariant ∙ present_on c.args.k (texts_of ts) j h e c.has_column.ensures c.if-is_empty-has_column.false

pub returns : goal.returns
returns c =
    let ts = c.args.texts.now in
    let n : length ts ≡ 12 = search rules in
    sym (c.loop-j.invariant ∙ present_end c.args.k (texts_of ts) c.loop-j.j (omega (arith, texts_length ts, n, c.loop-j-test.false)))
