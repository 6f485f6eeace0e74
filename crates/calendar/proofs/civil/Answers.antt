use Rattle.calendar.proofs.Counted.{date_is}
use Rattle.calendar.proofs.civil.Goals as goal

pub returns : goal.returns
returns c =
    let y = c.year_of-y in
    let m = rw c.leap.ensures.0 at c.month_of-m.ensures in
    date_is c.args.n c.requires y.result c.month_of-m.result y.ensures m
