use Rattle.output.proofs.Laws.{then}
use Rattle.output.proofs.put2.Goals as goal

pub returns : goal.returns
returns c = then c.put_bytes-end.ensures c.put_bytes.ensures
