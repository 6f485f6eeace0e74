-- What a comparison byte by byte shows of a text whose letters A to F are made small.
-- Assumes nothing.
use Rattle.basis.proofs.Std.{[], ◌≡◌, refl, sym, ap, subst, ◌∙◌, Bool, true, false, List, ◌∷◌, ℕ, ◌<◌, eqb, length, get_or, length-map, ext_get_or, same_bytes, both, same_is, untrue}
use Rattle.std.specs.Prelude.{◌&&◌}
use Rattle.identity.specs.Hex.{lower_hex, lowered}
use Rattle.identity.proofs.Fill.{mapped}

pub lowered_length : (s t : List ℕ) → (length s ≡ length t → ⊥) → false ≡ same_bytes (lowered s) t
lowered_length s t n = same_is (lowered s) t false untrue (λ e. absurd (n (sym (length-map s lower_hex) ∙ ap length e)))

pub lowered_same : (s t : List ℕ) → length s ≡ length t → ((k : ℕ) → k < length s → lower_hex (get_or s k 0) ≡ get_or t k 0) → true ≡ same_bytes (lowered s) t
lowered_same s t l f =
    let e : lowered s ≡ t = ext_get_or 0 (lowered s) t (length-map s lower_hex ∙ l) (λ k h. let g : k < length s = subst (λ (n : ℕ). k < n) (length-map s lower_hex) h in mapped lower_hex s k g ∙ f k g) in
    same_is (lowered s) t true (λ _. e) (λ _. refl)

pub lowered_step : {s t s' t' : List ℕ} {c d : ℕ} → s ≡ c ∷ s' → t ≡ d ∷ t' → (same : Bool)
    → both same (same_bytes (lowered s) t) ≡ both (same && eqb (lower_hex c) d) (same_bytes (lowered s') t')
lowered_step e f true = rw (e, f)
lowered_step e f false = refl

pub lowered_end : (s t : List ℕ) → length s ≡ 0 → length t ≡ 0 → (same : Bool) → both same (same_bytes (lowered s) t) ≡ same
lowered_end [] [] n m true = refl
lowered_end [] (d ∷ t) n m true = cc
lowered_end (c ∷ s) t n m true = cc
lowered_end s t n m false = refl
