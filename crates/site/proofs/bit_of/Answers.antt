use Rattle.basis.proofs.Std.{tests}
use Rattle.site.proofs.bit_of.Goals as goal

pub returns-then-l-eq0 : goal.returns-then-l-eq0
returns-then-l-eq0 c = search tests

pub returns-then-l-eq1 : goal.returns-then-l-eq1
returns-then-l-eq1 c = search tests

pub returns-then-l-eq2 : goal.returns-then-l-eq2
returns-then-l-eq2 c = search tests

pub returns-then-l-eq3 : goal.returns-then-l-eq3
returns-then-l-eq3 c = search tests

pub returns : goal.returns
returns c = search tests
