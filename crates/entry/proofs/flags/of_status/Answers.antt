use Rattle.basis.proofs.Std.{refl, ap, ◌∙◌, [], ◌∷◌, ℕ, ◌%◌, ◌^◌, lit≤, bit}
use Rattle.bits.specs.Fields.{pushed}
use Rattle.bits.proofs.Fields.{next_field}
use Rattle.entry.specs.Flags.{status_flags}
use Rattle.entry.proofs.flags.of_status.Goals as goal

pub returns : goal.returns
unfolding status_flags
returns c =
    let s = c.args in
    let a = bit s.known in
    let b = bit s.old in
    let e1 = next_field [] [] 1 a refl (lit≤ tt) refl (c.push-f.ensures ∙ ap (λ (x : ℕ). pushed 0 1 x % 2 ^ 64) c.bit.ensures) in
    let e2 = next_field (1 ∷ []) (a ∷ []) 1 b refl (lit≤ tt) e1 (c.push-f-2.ensures ∙ ap (λ (x : ℕ). pushed c.push-f.result 1 x % 2 ^ 64) c.bit-2.ensures) in
    next_field (1 ∷ 1 ∷ []) (a ∷ b ∷ []) 4 0 refl (lit≤ tt) e2 c.push.ensures
