use Rattle.basis.proofs.Std.{refl, [], ◌∷◌, lit≤}
use Rattle.bits.proofs.Fields.{next_field}
use Rattle.entry.proofs.last_word.Goals as goal

pub returns : goal.returns
returns c =
    let e = c.args.e in
    let e1 = next_field [] [] 1 e.time refl (lit≤ tt) refl c.push-w.ensures in
    let e2 = next_field (1 ∷ []) (e.time ∷ []) 32 e.value refl (lit≤ tt) e1 c.push-w-2.ensures in
    next_field (1 ∷ 32 ∷ []) (e.time ∷ e.value ∷ []) 31 e.sequence refl (lit≤ tt) e2 c.push.ensures
