-- `store_whole::numbers` meets its contract.
-- Assumes nothing.
use Rattle.basis.proofs.Std.{refl, [], ◌∷◌, lit≤}
use Rattle.bits.proofs.Fields.{next_field}
use Rattle.store_whole.proofs.numbers.Goals as goal

pub returns : goal.returns
returns c =
    let e1 = next_field [] [] 1 c.args.site refl (lit≤ tt) refl c.push-w.ensures in
    let e2 = next_field (1 ∷ []) (c.args.site ∷ []) 31 c.args.period refl (lit≤ tt) e1 c.push-w-2.ensures in
    let e3 = next_field (1 ∷ 31 ∷ []) (c.args.site ∷ c.args.period ∷ []) 16 c.args.links refl (lit≤ tt) e2 c.push-w-3.ensures in
    next_field (1 ∷ 31 ∷ 16 ∷ []) (c.args.site ∷ c.args.period ∷ c.args.links ∷ []) 16 c.args.primary refl (lit≤ tt) e3 c.push.ensures
