-- The claims about numbers are kept.
-- Assumes nothing.
use Rattle.basis.proofs.Std.{ℕ, ◌≡◌, refl, sym, subst, ap, ◌∙◌, List, [], ◌∷◌, ◌++◌, length, length-append, arith}
use Rattle.json_text.specs.Decoded.Parsed.{ok}
use Rattle.json_number.specs.Number.{Number, Ended}
use Rattle.json_number.specs.Machine.{read_number}
use Rattle.json_number.specs.Claims.{Claims}
use Rattle.json_number.proofs.Sound as Sound
use Rattle.json_number.proofs.Complete as Complete

-- what stands before one rest is one list
pub append_cancel : (a b r : List ℕ) → a ++ r ≡ b ++ r → a ≡ b
append_cancel [] [] r e = refl
append_cancel [] (y ∷ b) r e = absurd (omega (arith, ap length e, length-append b r))
append_cancel (x ∷ a) [] r e = absurd (omega (arith, ap length e, length-append a r))
append_cancel (x ∷ a) (y ∷ b) r e = let h : a ++ r ≡ b ++ r = cc in let p : x ≡ y = cc in let q = append_cancel a b r h in cc

pub sound : (t r d : List ℕ) → read_number t ≡ ok d r → Number t r × Ended r × (t ≡ d ++ r)
sound t r d e = subst (Sound.NumberIf t) e (Sound.number t)

pub complete : {t r d : List ℕ} → Number t r → Ended r → t ≡ d ++ r → read_number t ≡ ok d r
complete {t} {r} {d} n e h =
    let x = Complete.number n e in
    let y = sound t r x.0 x.1 in
    x.1 ∙ ap (λ (f : List ℕ). ok f r) (append_cancel x.0 d r (sym y.2 ∙ h))

pub kept : Claims
kept = record { sound = sound; complete = complete }
