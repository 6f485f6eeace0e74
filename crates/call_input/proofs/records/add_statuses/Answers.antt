-- `call_input::records::add_statuses` meets its contract.
-- Assumes nothing.
use Rattle.basis.proofs.Std.{◌≡◌, ◌∙◌, arith}
use Rattle.call_input.proofs.InPlace.{issued_all_lem, statuses_none, statuses_next}
use Rattle.call_input.proofs.records.add_statuses.Goals as goal

pub loop-l-init : goal.loop-l-init
loop-l-init c = statuses_none c.args.number c.args.x c.args.time c.args.p.now c.args.w.now

pub loop-l-preserved : goal.loop-l-preserved
loop-l-preserved c = statuses_next c.args.number c.args.x c.args.time c.loop-l.l c.loop-l.invariant c.add_status.ensures

pub returns : goal.returns
returns c =
    let l = c.loop-l in
    let all : l.l ≡ c.link_count-count.result = omega arith in
    issued_all_lem (λ t. all ∙ c.link_count-count.ensures c.args.p.now t) l.invariant
