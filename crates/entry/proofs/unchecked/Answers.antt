use Rattle.basis.proofs.Std.{◌≡◌, sym, ap, ap₂, ◌∙◌, ℕ, ◌+◌, ◌*◌, ◌^◌, length, rules}
use Rattle.bits.specs.Fields.{split}
use Rattle.entry.specs.Layout.{entry_of, widths}
use Rattle.entry.proofs.Words.{sixteen}
use Rattle.entry.proofs.unchecked.Goals as goal

pub slice_bounds-number-end : goal.slice_bounds-number-end
slice_bounds-number-end c =
    let e : length c.args.p.bytes ≡ 16 = search (c, rules) in
    search rules

pub slice_bounds-number-end-2 : goal.slice_bounds-number-end-2
slice_bounds-number-end-2 c =
    let e : length c.args.p.bytes ≡ 16 = search (c, rules) in
    search rules

pub returns : goal.returns
returns c =
    let e : length c.args.p.bytes ≡ 16 = search (c, rules) in
    c.fields.ensures
    ∙ ap (λ (n : ℕ). entry_of (split widths n))
    (ap₂ (λ (h l : ℕ). h * 2 ^ 64 + l) c.number-h.ensures c.number-l.ensures ∙ sym (sixteen c.args.p.bytes e))
