-- `store_call::spent` meets its contract.
-- Assumes nothing.
use Rattle.basis.proofs.Std.{◌<◌, ◌∙◌, lt-ltb, arith, length}
use Rattle.store_site.specs.Layout.{site_of}
use Rattle.store_call.proofs.IssuedLaws.{spent_none, spent_past, spent_here}
use Rattle.store_call.proofs.spent.Goals as goal

pub returns-then-n-eq0 : goal.returns-then-n-eq0
returns-then-n-eq0 c = λ ps t es e. spent_none (site_of ps c.args.w.now t) es (e ∙ c.if-n-eq0.true)

pub returns-then-next-gt2147483648 : goal.returns-then-next-gt2147483648
returns-then-next-gt2147483648 c =
    λ ps t es e.
    let h : 0 < length es = omega (arith, c.if-n-eq0.false) in
    lt-ltb _ _ c.if-next-gt2147483648.true ∙ spent_past (site_of ps c.args.w.now t) es h (omega (arith, c.next-next.ensures ps t))

pub returns-else-next-gt2147483648 : goal.returns-else-next-gt2147483648
returns-else-next-gt2147483648 c =
    λ ps t es e.
    let h : 0 < length es = omega (arith, c.if-n-eq0.false) in
    rw (c.next-next.ensures ps t, ← e) (spent_here (site_of ps c.args.w.now t) es h (omega (arith, c.next-next.ensures ps t)))
