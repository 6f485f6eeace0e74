use Rattle.basis.proofs.Std.{tests}
use Rattle.calendar.specs.Read.{read_rest}
use Rattle.calendar.proofs.read_rest.Goals as goal

pub returns-in-90 : goal.returns-in-90
unfolding read_rest
returns-in-90 c = search tests

pub returns-in-46 : goal.returns-in-46
unfolding read_rest
returns-in-46 c = search tests

pub returns-in_default : goal.returns-in_default
unfolding read_rest
returns-in_default c = search tests

pub returns-in_default-2 : goal.returns-in_default-2
unfolding read_rest
returns-in_default-2 c = search tests

pub returns-in_default-3 : goal.returns-in_default-3
unfolding read_rest
returns-in_default-3 c = search tests

pub returns-in_default-4 : goal.returns-in_default-4
unfolding read_rest
returns-in_default-4 c = search tests
