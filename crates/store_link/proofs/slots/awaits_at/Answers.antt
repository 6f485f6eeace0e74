-- `store_link::slots::awaits_at` meets its contract.
-- Assumes nothing.
use Rattle.basis.proofs.Std.{ℕ, ◌+◌, ◌*◌, sym, ◌∙◌, arith, rules, get_or}
use mir.Val.{Fits}
use mir.Syntax.{w8}
use Rattle.store_link.proofs.Asked.{answers_is, sought, sought_on, found, not_found}
use Rattle.store_link.proofs.slots.awaits_at.Goals as goal

pub loop-k-init : goal.loop-k-init
loop-k-init c = λ id h. sought c.args.w.now c.args.i id

pub returns-then-answers_to : goal.returns-then-answers_to
returns-then-answers_to c =
    let l = c.loop-k in
    let f : (j : ℕ) → Fits w8 (get_or c.args.id.bytes j 0) = λ j. search (c, rules) in
    let h =
    answers_is c.args.id (search (c, rules)) (λ j. (f j).fits) c.halves-a.ensures.first c.halves-a.ensures.second c.args.w.now (λ j. (c.shared_slice_known-1.given j).fits) in
    found c.args.w.now c.args.i c.args.id l.k (omega arith) (l.invariant c.args.id h) (sym (h (c.args.i + 4 * l.k)) ∙ sym c.answers_to.ensures ∙ c.if-answers_to.true)

pub loop-k-preserved : goal.loop-k-preserved
loop-k-preserved c =
    let l = c.loop-k in
    λ id h. sought_on c.args.w.now c.args.i id l.k (omega arith) (l.invariant id h) (sym (h (c.args.i + 4 * l.k)) ∙ sym c.answers_to.ensures ∙ c.if-answers_to.false)

pub returns : goal.returns
returns c =
    let l = c.loop-k in
    let f : (j : ℕ) → Fits w8 (get_or c.args.id.bytes j 0) = λ j. search (c, rules) in
    let h =
    answers_is c.args.id (search (c, rules)) (λ j. (f j).fits) c.halves-a.ensures.first c.halves-a.ensures.second c.args.w.now (λ j. (c.shared_slice_known-1.given j).fits) in
    not_found c.args.w.now c.args.i c.args.id l.k (omega arith) (l.invariant c.args.id h)
