use Rattle.names.proofs.put.Goals as goal

pub returns : goal.returns
returns c = rw (← c.span_of-s.ensures.named) c.put_bytes.ensures
