use Rattle.basis.proofs.Std.{◌+◌, ◌≤◌, ◌∙◌, length, rules}
use Rattle.names.proofs.Lending.{past_names, has_start, in_bytes, same_part}
use Rattle.names.proofs.is_name_in.Goals as goal

pub returns-then-lengths-i : goal.returns-then-lengths-i
returns-then-lengths-i c = c.is_empty.ensures ∙ past_names c.requires c.args.s.now c.args.i c.if-lengths-i.true

pub bounds-starts-i : goal.bounds-starts-i
bounds-starts-i c = has_start c.requires c.args.s.now c.args.i c.if-lengths-i.false

pub slice_bounds-eq-end : goal.slice_bounds-eq-end
slice_bounds-eq-end c =
    let h : c.from-start.result + c.from.result ≤ length c.args.bytes.now = rw (c.from-start.ensures, c.from.ensures) (in_bytes c.requires c.args.s.now c.args.i c.if-lengths-i.false) in
    search rules

pub returns : goal.returns
returns c = (rw (c.from-start.ensures, c.from.ensures) at c.eq.ensures) ∙ same_part c.requires c.args.s.now c.args.i c.if-lengths-i.false
