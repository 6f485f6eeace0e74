use Rattle.basis.proofs.Std.{sym, ◌∙◌, rules}
use mir.Syntax.{w32}
use mir.Val.{SFits}
use mir.Facts.{to_z-of_z}
use Rattle.read_commands.proofs.valued_by.Goals as goal

pub returns-in-Is : goal.returns-in-Is
returns-in-Is c =
    let fits : SFits w32 c.in-Is.value = record { sfits = search rules } in
    sym (rw (c.in-Is.is, to_z-of_z fits))

pub returns-in-No : goal.returns-in-No
returns-in-No c = c.no_value.ensures ∙ sym (rw c.in-No.is)
