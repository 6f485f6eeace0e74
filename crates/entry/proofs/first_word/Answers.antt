use Rattle.basis.proofs.Std.{refl, [], ◌∷◌, ◌/◌, lit≤}
use Rattle.bits.proofs.Fields.{next_field}
use Rattle.entry.proofs.first_word.Goals as goal

pub returns : goal.returns
returns c =
    let e = c.args.e in
    let e1 = next_field [] [] 3 e.link refl (lit≤ tt) refl c.push-w.ensures in
    let e2 = next_field (3 ∷ []) (e.link ∷ []) 2 e.kind refl (lit≤ tt) e1 c.push-w-2.ensures in
    let e3 = next_field (3 ∷ 2 ∷ []) (e.link ∷ e.kind ∷ []) 6 e.item refl (lit≤ tt) e2 c.push-w-3.ensures in
    let e4 = next_field (3 ∷ 2 ∷ 6 ∷ []) (e.link ∷ e.kind ∷ e.item ∷ []) 6 e.flags refl (lit≤ tt) e3 c.push-w-4.ensures in
    next_field (3 ∷ 2 ∷ 6 ∷ 6 ∷ []) (e.link ∷ e.kind ∷ e.item ∷ e.flags ∷ []) 47 (e.time / 2) refl (lit≤ tt) e4 c.push.ensures
