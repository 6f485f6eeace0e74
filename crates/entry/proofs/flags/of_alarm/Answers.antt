use Rattle.basis.proofs.Std.{refl, ap, ◌∙◌, [], ◌∷◌, ℕ, ◌%◌, ◌^◌, lit≤, bit}
use Rattle.bits.specs.Fields.{pushed}
use Rattle.bits.proofs.Fields.{next_field}
use Rattle.entry.specs.Flags.{alarm_flags}
use Rattle.entry.proofs.flags.of_alarm.Goals as goal

pub returns : goal.returns
unfolding alarm_flags
returns c =
    let s = c.args in
    let a = bit s.acknowledged in
    let b = bit s.active in
    let d = bit s.suspended in
    let e1 = next_field [] [] 2 s.event refl (lit≤ tt) refl c.push-f.ensures in
    let e2 = next_field (2 ∷ []) (s.event ∷ []) 1 a refl (lit≤ tt) e1 (c.push-f-2.ensures ∙ ap (λ (x : ℕ). pushed c.push-f.result 1 x % 2 ^ 64) c.bit.ensures) in
    let e3 = next_field (2 ∷ 1 ∷ []) (s.event ∷ a ∷ []) 1 b refl (lit≤ tt) e2 (c.push-f-3.ensures ∙ ap (λ (x : ℕ). pushed c.push-f-2.result 1 x % 2 ^ 64) c.bit-2.ensures) in
    let e4 = next_field (2 ∷ 1 ∷ 1 ∷ []) (s.event ∷ a ∷ b ∷ []) 1 d refl (lit≤ tt) e3 (c.push-f-4.ensures ∙ ap (λ (x : ℕ). pushed c.push-f-3.result 1 x % 2 ^ 64) c.bit-3.ensures) in
    next_field (2 ∷ 1 ∷ 1 ∷ 1 ∷ []) (s.event ∷ a ∷ b ∷ d ∷ []) 1 0 refl (lit≤ tt) e4 c.push.ensures
