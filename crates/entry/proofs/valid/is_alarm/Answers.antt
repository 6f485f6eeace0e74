use Rattle.basis.proofs.Std.{sym, ◌∙◌, eqb-true, eqb-false, arith}
use Rattle.entry.specs.Valid.{Alarm}
use Rattle.entry.proofs.ValidLaws.{alarm_test, fails, alarm_flags_lem}
use Rattle.entry.proofs.valid.is_alarm.Goals as goal
use Rattle.entry.proofs.valid.is_alarm.Goals.{then-e-lt48, else-e-lt48}

pub returns-then-e-eq0 : goal.returns-then-e-eq0
returns-then-e-eq0 c =
    elim c.if-e-lt48.branch [
      | then-e-lt48 w ↦ let t = w.if-e-lt48.true in alarm_test _ t.0 t.1 t.2 (eqb-true _ _ (sym w.value-is ∙ c.if-e-eq0.true))
      | else-e-lt48 w ↦ cc
    ]

pub returns-else-e-eq0 : goal.returns-else-e-eq0
returns-else-e-eq0 c =
    rw c.if-e-eq0.false
    (fails
    (λ (a : Alarm c.args.e). elim c.if-e-lt48.branch [
      | then-e-lt48 w ↦ eqb-false _ _ (sym w.value-is ∙ c.if-e-eq0.false) (alarm_flags_lem a).1
      | else-e-lt48 w ↦ let n = w.if-e-lt48.either in omega (arith, a.kind, a.item, alarm_flags_lem a)
    ]))
