-- `packet_answer::close` meets its contract.
-- Assumes nothing.
use Rattle.basis.proofs.Std.{ℕ, ap, ◌∙◌}
use Rattle.answer.specs.declared.Answer.TheVariants.{Done}
use Rattle.store_site.proofs.TurnsLaws.{turns_moves, moves_then}
use Rattle.packet_answer.specs.Ending.{report}
use Rattle.packet_answer.proofs.Ends.{closes}
use Rattle.packet_answer.proofs.close.Goals as goal

pub returns : goal.returns
returns c =
    let done = c.done.ensures in
    let wrote = c.refusal-end in
    λ t. closes t c.args.q c.args.reason wrote.ensures
    (done.0 ∙ ap (λ (m : ℕ). Done (report 0 0 wrote.result m)) c.bit_of.ensures)
    (moves_then c.close.ensures (turns_moves _ done.1))
