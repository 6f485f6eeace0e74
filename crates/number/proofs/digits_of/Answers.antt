use Rattle.basis.proofs.Std.{sym, append-nil, arith, length-set, rules}
use Rattle.number.specs.Decimal.{digits}
use Rattle.number.proofs.Places.{room, turn, ends}
use Rattle.number.proofs.digits_of.Goals as goal

pub loop-left-init : goal.loop-left-init
loop-left-init c = (search rules, omega arith, omega arith, omega arith, sym (append-nil (digits c.args.n)))

pub loop-left-preserved : goal.loop-left-preserved
loop-left-preserved c =
    let l = c.loop-left in
    let h = c.loop-left-test.true in
    let r = room l.from l.left h l.invariant.3 in (
      simp length-set l.invariant.0,
      omega (arith, r.0),
      omega arith,
      r.1,
      rw c.last_digit.ensures (turn l.bytes c.args.n l.left l.from (omega arith) l.invariant.4 h (omega arith)),
    )

pub returns : goal.returns
returns c =
    let l = c.loop-left in (
      rw c.last_digit-2.ensures (ends l.bytes c.args.n l.left l.from (omega arith) l.invariant.4 c.loop-left-test.false),
      omega arith,
      omega arith,
    )
