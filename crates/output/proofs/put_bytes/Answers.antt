use Rattle.basis.proofs.Std.{◌≡◌, refl, ◌+◌, ◌<◌, arith, add-one, length, length-set, paste-zero, paste-suc}
use Rattle.output.proofs.Put.{pasted}
use Rattle.output.proofs.Laws.{placed, refused}
use Rattle.output.proofs.put_bytes.Goals as goal

pub returns-then-out-at : goal.returns-then-out-at
returns-then-out-at c = refused (omega arith)

pub returns-then-out-at-2 : goal.returns-then-out-at-2
returns-then-out-at-2 c = refused (omega arith)

pub loop-k-init : goal.loop-k-init
loop-k-init c =
    let a = c.args in
    (refl, paste-zero a.out.now a.at a.b.now)

pub loop-k-preserved : goal.loop-k-preserved
loop-k-preserved c =
    let l = c.loop-k in
    let a = c.args in
    let h : a.at + l.k < length a.out.now = omega (arith, c) in (
      simp length-set l.invariant.0,
      rw (l.invariant.1, add-one, paste-suc a.out.now a.at a.b.now l.k 0 h (omega arith)),
    )

pub shape_of-out : goal.shape_of-out
shape_of-out c = c.loop-k.invariant.0

pub returns : goal.returns
returns c =
    let l = c.loop-k in
    let a = c.args in
    let e : l.k ≡ length a.b.now = omega arith in
    rw (l.invariant.1, e, pasted a.out.now a.at a.b.now) (placed (omega arith))
