use Rattle.basis.proofs.Std.{rules, sym, ◌∙◌}
use Rattle.read_head.proofs.time_text.Goals as goal

pub returns-in-Is : goal.returns-in-Is
returns-in-Is c = sym (rw (sym c.read_time-t.ensures.equals ∙ c.in-Is.is))

pub returns-in-No : goal.returns-in-No
returns-in-No c = c.no_time.ensures ∙ sym (rw (sym c.read_time-t.ensures.equals ∙ c.in-No.is))
