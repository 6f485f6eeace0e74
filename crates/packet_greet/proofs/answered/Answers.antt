-- `packet_greet::answered` meets its contract.
-- Assumes nothing.
use Rattle.basis.proofs.Std.{ap, ◌∙◌}
use Rattle.link.specs.declared.Link.{Link}
use Rattle.link.specs.Steps.{answered_by}
use Rattle.store_site.proofs.TurnsLaws.{turns_moves, moves_then}
use Rattle.packet_greet.proofs.Answers.{answer_closes_lem, answer_goes_on}
use Rattle.packet_greet.proofs.answered.Goals as goal

pub returns-then-a : goal.returns-then-a
returns-then-a c =
    let k = c.link-k.ensures in
    let done = c.done.ensures in
    λ t. answer_closes_lem t c.args.l c.args.time c.args.id c.args.acknowledged
    (c.answered-a.ensures ∙ ap (λ (x : Link). answered_by x c.args.id c.args.acknowledged) (k c.args.p.now t))
    c.if-a.true c.bit_of.ensures done.0
    (moves_then c.close.ensures (turns_moves _ done.1))

pub returns : goal.returns
returns c =
    let k = c.link-k.ensures in
    let done = c.done-2.ensures in
    λ t. answer_goes_on t c.args.l c.args.time c.args.id c.args.acknowledged
    (c.answered-a.ensures ∙ ap (λ (x : Link). answered_by x c.args.id c.args.acknowledged) (k c.args.p.now t))
    c.if-a.false done.0
    (moves_then (moves_then c.settled.ensures (turns_moves _ c.put_link.ensures)) (turns_moves _ done.1))
