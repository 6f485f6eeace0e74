use Rattle.basis.proofs.Std.{tests}
use Rattle.calendar.specs.Days.{leap_of}
use Rattle.calendar.proofs.leap.Goals as goal
use Rattle.calendar.proofs.leap.Goals.{then-y-eq0+then-y-ne0, then-y-eq0+else-y-ne0, else-y-eq0}

pub returns : goal.returns
unfolding leap_of
returns c =
    elim c.if-y-eq0.branch [
      | then-y-eq0+then-y-ne0 w ↦ search tests
      | then-y-eq0+else-y-ne0 w ↦ search tests
      | else-y-eq0 w ↦ search tests
    ]
