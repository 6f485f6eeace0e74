-- A mark and the marks before it, one after the other.
-- Assumes nothing.
use Rattle.basis.proofs.Std.{ℕ, ◌+◌, ◌<◌, ◌≤◌, ◌≡◌, refl, ap, ◌∙◌, Bool, true, false, List, eqb, length, get_or, drop, pick, both, not}
use Rattle.std.proofs.Common.{◌&&◌}
use Rattle.json_character.proofs.Lists.{next, past}
use Rattle.json_sure.specs.Sure.{is_new}

carried : (e new rest : Bool) → both new (pick e false rest) ≡ both (new && not e) rest
carried true true rest = refl
carried true false rest = refl
carried false true rest = refl
carried false false rest = refl

module _ (m i : ℕ) (xs : List ℕ) where
  pub new_step : i < length xs → (new : Bool) → both new (is_new m (drop i xs)) ≡ both (new && not (eqb (get_or xs i 0) m)) (is_new m (drop (i + 1) xs))
  unfolding is_new
  new_step h new = ap (λ (t : List ℕ). both new (is_new m t)) (next xs i h) ∙ carried (eqb (get_or xs i 0) m) new (is_new m (drop (i + 1) xs))

  pub new_end : length xs ≤ i → (new : Bool) → both new (is_new m (drop i xs)) ≡ new
  unfolding is_new
  new_end h new = ap (λ (t : List ℕ). both new (is_new m t)) (past xs i h) ∙ true_last new
    where
      true_last : (b : Bool) → both b true ≡ b
      true_last true = refl
      true_last false = refl

pub ruleset new_steps = (new_step, new_end)
