use Rattle.basis.proofs.Std.{refl, sym, ◌∙◌, arith}
use Rattle.csv_field.proofs.Fields.{quoted_open, quoted_bad, quoted_good}
use Rattle.csv_field.proofs.quoted.Goals as goal

pub returns-then-s-end : goal.returns-then-s-end
returns-then-s-end c =
    quoted_open c.args.s.now c.args.at _ c.requires c.quoted_end-end.ensures c.if-s-end.true

pub overflow_add-end : goal.overflow_add-end
overflow_add-end c = omega arith

pub overflow_add-result : goal.overflow_add-result
overflow_add-result c = omega arith

pub returns-then-is_stop : goal.returns-then-is_stop
returns-then-is_stop c =
    quoted_good c.args.s.now c.args.at _ c.requires c.quoted_end-end.ensures c.if-s-end.false refl (sym c.is_stop.ensures ∙ c.if-is_stop.true)

pub overflow_add-result-2 : goal.overflow_add-result-2
overflow_add-result-2 c = omega arith

pub returns : goal.returns
returns c =
    quoted_bad c.args.s.now c.args.at _ c.requires c.quoted_end-end.ensures c.if-s-end.false (sym c.is_stop.ensures ∙ c.if-is_stop.false)
