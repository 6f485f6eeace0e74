-- `store_words::quad` meets its contract.
-- Assumes nothing.
use Rattle.basis.proofs.Std.{refl, [], ◌∷◌, lit≤}
use Rattle.bits.proofs.Fields.{next_field}
use Rattle.store_words.proofs.quad.Goals as goal

pub returns : goal.returns
returns c =
    let g = c.args in
    let e1 = next_field [] [] 16 g.a refl (lit≤ tt) refl c.push-w.ensures in
    let e2 = next_field (16 ∷ []) (g.a ∷ []) 16 g.b refl (lit≤ tt) e1 c.push-w-2.ensures in
    let e3 = next_field (16 ∷ 16 ∷ []) (g.a ∷ g.b ∷ []) 16 g.c refl (lit≤ tt) e2 c.push-w-3.ensures in
    next_field (16 ∷ 16 ∷ 16 ∷ []) (g.a ∷ g.b ∷ g.c ∷ []) 16 g.d refl (lit≤ tt) e3 c.push.ensures
