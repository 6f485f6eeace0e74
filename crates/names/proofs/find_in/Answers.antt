use Rattle.basis.proofs.Std.{Bool, ◌≡◌, sym, ap, ◌∙◌, ◌+◌, ◌-◌, arith, rules, pick}
use Rattle.names.specs.Names.{find_in}
use Rattle.names.specs.declared.Found.TheVariants.{At}
use Rattle.names.proofs.Search.{turn}
use Rattle.names.proofs.find_in.Goals as goal

pub returns-then-is_name_in : goal.returns-then-is_name_in
returns-then-is_name_in c =
    let l = c.loop-i in
    let a = c.args in
    sym (l.invariant ∙ turn a.s.now l.i a.end (search rules) ∙ ap (λ (b : Bool). pick b (At l.i) (find_in a.s.now (l.i + 1) (a.end - (l.i + 1)))) (sym c.is_name_in.ensures ∙ c.if-is_name_in.true))

pub loop-i-preserved : goal.loop-i-preserved
loop-i-preserved c =
    let l = c.loop-i in
    let a = c.args in
    l.invariant ∙ turn a.s.now l.i a.end (search rules) ∙ ap (λ (b : Bool). pick b (At l.i) (find_in a.s.now (l.i + 1) (a.end - (l.i + 1)))) (sym c.is_name_in.ensures ∙ c.if-is_name_in.false)

pub returns : goal.returns
returns c =
    let l = c.loop-i in
    let a = c.args in
    let e : a.end - l.i ≡ 0 = omega arith in
    sym (l.invariant ∙ ap (find_in a.s.now l.i) e)
