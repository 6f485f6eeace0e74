use Rattle.basis.proofs.Std.{rules, sym, ◌∙◌, eq-eqb, ne_eqb}
use Rattle.read_head.proofs.head_for.Goals as goal

pub returns-then-i-eq-MESSAGE_ACK : goal.returns-then-i-eq-MESSAGE_ACK
returns-then-i-eq-MESSAGE_ACK c = c.answered.ensures ∙ sym (rw (eq-eqb _ 2 c.if-i-eq-MESSAGE_ACK.true))

pub returns-then-i-eq-MESSAGE_NOT_ACK : goal.returns-then-i-eq-MESSAGE_NOT_ACK
returns-then-i-eq-MESSAGE_NOT_ACK c = c.answered-then-i-eq-MESSAGE_NOT_ACK.ensures ∙ sym (rw (ne_eqb _ 2 c.if-i-eq-MESSAGE_ACK.false, eq-eqb _ 3 c.if-i-eq-MESSAGE_NOT_ACK.true))

pub returns : goal.returns
returns c =
    c.asked.ensures
    ∙ rw (c.kind_for.ensures, c.included_for.ensures) (sym (rw (ne_eqb _ 2 c.if-i-eq-MESSAGE_ACK.false, ne_eqb _ 3 c.if-i-eq-MESSAGE_NOT_ACK.false)))
