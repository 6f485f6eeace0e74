-- `call_packet::expected` meets its contract.
-- Assumes nothing.
use Rattle.basis.proofs.Std.{ℕ, sym, ap, ◌∙◌, ltb}
use Rattle.call_packet.proofs.expected.Goals as goal

pub returns-then-is_version : goal.returns-then-is_version
returns-then-is_version c = λ ps t. rw (sym c.is_version.ensures ∙ c.if-is_version.true) (c.may_judge.ensures ps t)

pub returns : goal.returns
returns c = λ ps t. rw (sym c.is_version.ensures ∙ c.if-is_version.false) (ap (λ (n : ℕ). ltb 0 n) c.kind_number.ensures)
