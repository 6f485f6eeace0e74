use Rattle.basis.proofs.Std.{sym, ◌∙◌}
use Rattle.csvc.specs.Calls.{line_behind}
use Rattle.csvc.proofs.line_behind.Goals as goal

pub returns-then-is_ended : goal.returns-then-is_ended
unfolding line_behind
returns-then-is_ended c =
    let e = c.is_ended in
    rw (sym e.ensures ∙ c.if-is_ended.true, sym c.count_breaks-n.ensures) c.add-next.ensures

pub returns-else-is_ended : goal.returns-else-is_ended
unfolding line_behind
returns-else-is_ended c =
    let e = c.is_ended in
    rw (sym e.ensures ∙ c.if-is_ended.false, sym c.count_breaks-n.ensures, sym c.add-next.ensures) c.add.ensures
