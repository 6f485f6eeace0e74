use Rattle.basis.proofs.Std.{arith, rules}
use Rattle.write_member.proofs.Time.{as_piece}
use Rattle.write_member.proofs.moment.Goals as goal

pub returns : goal.returns
returns c =
    let e = c.no_later-time.ensures in
    rw (← e) (as_piece (omega (arith, e)) c.put_time.ensures)
