use Rattle.calendar.specs.Days.{day_of}
use Rattle.calendar.proofs.Months.{month_below}
use Rattle.basis.proofs.Std.{arith, rules}
use Rattle.calendar.proofs.day_of.Goals as goal

pub returns-in-1970-to-9999-1-to-12-1-to-31 : goal.returns-in-1970-to-9999-1-to-12-1-to-31
unfolding day_of
returns-in-1970-to-9999-1-to-12-1-to-31 c =
    let m = rw c.leap.ensures.0 at c.month_start.ensures.0 in
    (λ v. omega (arith, c.year_start.ensures.0, m), omega (arith, c.year_start.ensures.1, c.month_start.ensures.1))

pub returns-in_default-4 : goal.returns-in_default-4
returns-in_default-4 c = let d = c.args.d in (λ v. absurd (omega (arith, v.day.1, month_below d.year d.month)), search rules)
