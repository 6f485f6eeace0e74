use Rattle.basis.proofs.Std.{sym, refl, ◌∙◌, arith}
use Rattle.csv_field.proofs.Lines.{none_yet, go_on, done, stops, took, missed, comma_after}
use Rattle.csv_field.proofs.take_line.Goals as goal

pub loop-f-init : goal.loop-f-init
loop-f-init c = none_yet c.args.s.now c.args.at c.requires refl refl

pub take_field-requires : goal.take_field-requires
take_field-requires c = c.loop-f.invariant.to

pub overflow_add-i : goal.overflow_add-i
overflow_add-i c = omega (arith, comma_after c.in-Ok.ensures (sym c.is_at.ensures ∙ c.if-is_at.true))

pub loop-f-smaller : goal.loop-f-smaller
loop-f-smaller c = omega (arith, (took c.in-Ok.ensures).1, comma_after c.in-Ok.ensures (sym c.is_at.ensures ∙ c.if-is_at.true))

pub loop-f-preserved : goal.loop-f-preserved
loop-f-preserved c = rw c.note.ensures (go_on c.loop-f.invariant c.in-Ok.ensures (sym c.is_at.ensures ∙ c.if-is_at.true))

pub behind-next-requires : goal.behind-next-requires
behind-next-requires c = (took c.in-Ok.ensures).2

pub returns-else-is_at : goal.returns-else-is_at
returns-else-is_at c = done c.loop-f.invariant c.in-Ok.ensures (sym c.is_at.ensures ∙ c.if-is_at.false) c.behind-next.ensures c.note.ensures

pub line_end-requires : goal.line_end-requires
line_end-requires c = (missed c.in-Err.ensures).2

pub returns-in-Err : goal.returns-in-Err
returns-in-Err c = stops c.loop-f.invariant c.in-Err.ensures c.line_end.ensures
