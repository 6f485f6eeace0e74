use Rattle.basis.proofs.Std.{refl, sym, subst, ◌∙◌}
use Rattle.entry.specs.Reading.{Reads}
use Rattle.csvc.specs.Calls.{Writes}
use Rattle.csvc.proofs.Answers.{line_told, accepted, not_accepted}
use Rattle.csvc.proofs.write_line.Goals as goal

pub returns-in-Accepted : goal.returns-in-Accepted
returns-in-Accepted c =
    let b = c.sixteen in
    let x = accepted (subst (Reads b.result.bytes) c.in-Accepted.is c.unpack.ensures) in
    line_told c.put_line-n.ensures c.requires.1 x.0 (x.1 ∙ b.ensures)

pub returns-in-Refused : goal.returns-in-Refused
returns-in-Refused c =
    let b = c.sixteen in
    let n = not_accepted (subst (Reads b.result.bytes) c.in-Refused.is c.unpack.ensures) in
    Writes.refused c.requires.1 (λ e v q. n e v (q ∙ sym b.ensures)) refl
