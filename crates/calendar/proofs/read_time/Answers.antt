use Rattle.calendar.proofs.Rest.{ReadsRest, rest_most}
use Rattle.calendar.proofs.Reading.{read_as, short, rest, joined}
use Rattle.basis.proofs.Std.{refl, subst, arith, take, drop}
use Rattle.calendar.specs.declared.Second.TheVariants.{Is as IsSecond, No as NoSecond}
use Rattle.calendar.specs.declared.Time.TheVariants.{Is, No}
use Rattle.calendar.specs.Text.{second_text, last_second}
use Rattle.calendar.specs.Read.{Answers}
use Rattle.calendar.proofs.read_time.Goals as goal

pub returns-then-s-lt19 : goal.returns-then-s-lt19
returns-then-s-lt19 c = let s = c.args.s.now in read_as s No (short s c.if-s-lt19.true)

pub overflow_mul-result : goal.overflow_mul-result
overflow_mul-result c =
    let s = c.args.s.now in
    let p = subst (Answers second_text last_second (take 19 s)) c.in-Is.is c.read_second-seconds.ensures in
    omega (arith, (p.accepted _ refl).0)

pub overflow_add-result : goal.overflow_add-result
overflow_add-result c =
    let s = c.args.s.now in
    let p = subst (Answers second_text last_second (take 19 s)) c.in-Is.is c.read_second-seconds.ensures in
    let q = subst (ReadsRest (drop 19 s)) c.in-Is-rest.is (rest s _ c.read_rest-rest.ensures) in
    omega (arith, (p.accepted _ refl).0, rest_most q)

pub returns-in-Is-rest : goal.returns-in-Is-rest
returns-in-Is-rest c =
    let s = c.args.s.now in
    let p = subst (Answers second_text last_second (take 19 s)) c.in-Is.is c.read_second-seconds.ensures in
    let q = subst (ReadsRest (drop 19 s)) c.in-Is-rest.is (rest s _ c.read_rest-rest.ensures) in
    read_as s _ (joined s (IsSecond _) (Is _ _) p q)

pub returns-in-No-rest : goal.returns-in-No-rest
returns-in-No-rest c =
    let s = c.args.s.now in
    let p = subst (Answers second_text last_second (take 19 s)) c.in-Is.is c.read_second-seconds.ensures in
    let q = subst (ReadsRest (drop 19 s)) c.in-No-rest.is (rest s _ c.read_rest-rest.ensures) in
    read_as s No (joined s (IsSecond _) No p q)

pub returns-in-No : goal.returns-in-No
returns-in-No c =
    let s = c.args.s.now in
    let p = subst (Answers second_text last_second (take 19 s)) c.in-No.is c.read_second-seconds.ensures in
    read_as s No (joined s NoSecond _ p (rest s _ c.read_rest-rest.ensures))
