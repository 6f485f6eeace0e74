use Rattle.identity.proofs.Text.{by_fours}
use Rattle.identity.proofs.identity_text.Goals as goal

pub returns : goal.returns
returns c =
    by_fours c.args.id.bytes _ _ _ _ c.digits-x.ensures c.digits-y.ensures c.digits-z.ensures c.digits-w.ensures
