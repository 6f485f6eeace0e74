-- `call_packet::may_judge` meets its contract.
-- Assumes nothing.
use Rattle.basis.proofs.Std.{refl, sym, ◌∙◌}
use Rattle.link.specs.Steps.{may_judge_of}
use Rattle.call_packet.proofs.may_judge.Goals as goal

pub returns-then-not-version_taken : goal.returns-then-not-version_taken
unfolding may_judge_of
returns-then-not-version_taken c = λ ps t. rw (sym (c.version_taken.ensures ps t) ∙ c.if-not-version_taken.true) (c.version_out.ensures ps t)

pub returns-else-not-version_taken : goal.returns-else-not-version_taken
unfolding may_judge_of
returns-else-not-version_taken c = λ ps t. rw (sym (c.version_taken.ensures ps t) ∙ c.if-not-version_taken.false, c.if-not-version_taken.false) refl
