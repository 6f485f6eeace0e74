use Rattle.entry.proofs.Words.{entry_bytes}
use Rattle.entry.proofs.pack.Goals as goal

pub returns : goal.returns
returns c =
    cc (entry_bytes c.args.e)
