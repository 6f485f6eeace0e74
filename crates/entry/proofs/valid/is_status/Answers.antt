use Rattle.basis.proofs.Std.{sym, ◌∙◌, le-leb, eqb-true, eqb-false, arith, rules}
use Rattle.entry.specs.Valid.{Status}
use Rattle.entry.proofs.ValidLaws.{holds, fails, a_known, status_test, status_flags_lem}
use Rattle.entry.proofs.valid.is_status.Goals as goal
use Rattle.entry.proofs.valid.is_status.Goals.{then-e-lt64, else-e-lt64}

pub returns-then-e-ge32 : goal.returns-then-e-ge32
returns-then-e-ge32 c =
    rw (le-leb 32 c.args.e.flags c.if-e-ge32.true)
    (elim c.if-e-lt64.branch [
      | then-e-lt64 w ↦ let t = w.if-e-lt64.true in holds (a_known _ t.0 t.1 c.if-e-ge32.true t.2 (eqb-true _ _ (sym w.value-is ∙ c.if-e-eq0.true)) (search rules))
      | else-e-lt64 w ↦ cc
    ])

pub returns-else-e-ge32 : goal.returns-else-e-ge32
returns-else-e-ge32 c =
    elim c.if-e-lt64.branch [
      | then-e-lt64 w ↦ let t = w.if-e-lt64.true in status_test _ t.0 t.1 c.if-e-ge32.false (eqb-true _ _ (sym w.value-is ∙ c.if-e-eq0.true))
      | else-e-lt64 w ↦ cc
    ]

pub returns-else-e-eq0 : goal.returns-else-e-eq0
returns-else-e-eq0 c =
    rw c.if-e-eq0.false
    (fails
    (λ (s : Status c.args.e). elim c.if-e-lt64.branch [
      | then-e-lt64 w ↦ eqb-false _ _ (sym w.value-is ∙ c.if-e-eq0.false) (status_flags_lem s).1
      | else-e-lt64 w ↦ let n = w.if-e-lt64.either in omega (arith, s.kind, s.item, status_flags_lem s)
    ]))
