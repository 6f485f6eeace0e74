use Rattle.basis.proofs.Std.{◌≡◌, sym, ◌∙◌, ⊎_elim, length, arith}
use Rattle.identity.proofs.Lowered.{lowered_length, lowered_step, lowered_end}
use Rattle.identity.proofs.same_lowered.Goals as goal

pub returns-then-s-t : goal.returns-then-s-t
returns-then-s-t c =
    let a = c.args in
    lowered_length a.s.now a.t.now c.if-s-t.true

pub loop-c-preserved : goal.loop-c-preserved
loop-c-preserved c =
    let e = c.in-Some.ensures.steps in
    let i = c.loop-c.invariant in
    let l : length c.next.new.self.a.rest.now ≡ length c.next.new.self.b.rest.now = let n = rw (e.0, e.1) at i.0 in omega (arith, n) in
    (l, i.1 ∙ rw c.lower_hex.ensures (lowered_step e.0 e.1 c.loop-c.same))

pub returns : goal.returns
returns c =
    let i = c.loop-c.invariant in
    let none : length c.loop-c.c-iterator.a.rest.now ≡ 0 = ⊎_elim (λ e. e.1.0) (λ e. i.0 ∙ e.1.0) c.in-None.ensures.steps in
    sym (i.1 ∙ lowered_end _ _ none (sym i.0 ∙ none) c.loop-c.same)
