use Rattle.basis.proofs.Std.{rules, ap, ◌∙◌}
use Rattle.read_head.specs.Word.{word_of}
use Rattle.read_head.proofs.Copies.{says, found_at}
use Rattle.read_head.specs.Head.{identity_of}
use Rattle.read_head.proofs.answered.Goals as goal

pub returns-in-Good : goal.returns-in-Good
returns-in-Good c =
    let o = c.identity_of.ensures ∙ ap identity_of (ap word_of c.element_of.ensures ∙ says (found_at _ _)) in
    c.answered_with.ensures ∙ rw (o, c.in-Good.is)
