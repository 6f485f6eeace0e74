use Rattle.basis.proofs.Std.{◌≡◌, ap, ◌∙◌, length, same_bytes, rules}
use Rattle.read_head.specs.Values.{verdict_of}
use Rattle.read_head.proofs.Copies.{is_lent}
use Rattle.read_head.proofs.verdict_of.Goals as goal

pub slice_bounds-word_verdict-end : goal.slice_bounds-word_verdict-end
slice_bounds-word_verdict-end c =
    let z : length c.args.e.copy.bytes ≡ 36 = search rules in
    search rules

pub returns-then-c : goal.returns-then-c
returns-then-c c =
    let e = c.args.e in
    let z : length e.copy.bytes ≡ 36 = search rules in
    c.word_verdict.ensures ∙ ap (verdict_of (λ d. same_bytes d c.args.fixed.now)) (is_lent e c.if-e.true c.if-c.true z _ c.at_most_36-n.ensures)
