-- `sitec::messages::hand` meets its contract.
-- Assumes nothing.
use Rattle.basis.proofs.Std.{refl, sym, ◌∙◌}
use Rattle.sitec.proofs.messages.hand.Goals as goal

pub returns-then-hands : goal.returns-then-hands
returns-then-hands c = rw (sym c.hands.ensures ∙ c.if-hands.true) c.hand_over.ensures

pub returns-else-hands : goal.returns-else-hands
returns-else-hands c = rw (sym c.hands.ensures ∙ c.if-hands.false) refl
