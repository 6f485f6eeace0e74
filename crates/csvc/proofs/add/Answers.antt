use Rattle.basis.proofs.Std.{◌-◌, ◌^◌, ◌≤◌, ◌<◌, arith, le-leb, lt-leb, le_or_lt, ⊎_elim}
use Rattle.csvc.specs.Calls.{added}
use Rattle.csvc.proofs.add.Goals as goal

pub returns : goal.returns
unfolding added
returns c =
    let line = c.args.line in
    let n = c.args.n in
    ⊎_elim
    (λ (h : n ≤ 2 ^ 64 - 1 - line). rw (le-leb n (2 ^ 64 - 1 - line) h) (omega (arith, c.saturating_add.ensures)))
    (λ (h : 2 ^ 64 - 1 - line < n). rw (lt-leb n (2 ^ 64 - 1 - line) h) (omega (arith, c.saturating_add.ensures)))
    (le_or_lt n (2 ^ 64 - 1 - line))
