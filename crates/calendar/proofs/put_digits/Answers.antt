use Rattle.basis.proofs.Std.{◌≡◌, refl, sym, ap, ◌∙◌, ℕ, suc, ◌+◌, ◌-◌, arith, rules, add-one, length-set}
use Rattle.output.specs.Put.{put}
use Rattle.output.proofs.Put.{put_nothing}
use Rattle.calendar.specs.Text.{decimals}
use Rattle.calendar.proofs.Digits.{put_digit}
use Rattle.calendar.proofs.put_digits.Goals as goal

pub loop-i-init : goal.loop-i-init
loop-i-init c = (search rules, refl)

pub loop-i-preserved : goal.loop-i-preserved
loop-i-preserved c =
    let l = c.loop-i in
    let a = c.args in
    let p : l.i - 1 + 1 ≡ l.i = omega arith in
    let q : suc (l.i - 1) ≡ l.i = sym (add-one (l.i - 1)) ∙ p in
    let d = put_digit l.t a.at (l.i - 1) l.m (omega (arith, l.invariant)) in
    (length-set l.t _ _ ∙ l.invariant.0, d ∙ ap (λ (k : ℕ). put l.t a.at (decimals k l.m)) q ∙ l.invariant.1)

pub returns : goal.returns
returns c =
    let l = c.loop-i in
    let a = c.args in
    let e : l.i ≡ 0 = omega arith in
    sym (put_nothing l.t a.at) ∙ ap (λ (k : ℕ). put l.t a.at (decimals k l.m)) (sym e) ∙ l.invariant.1
