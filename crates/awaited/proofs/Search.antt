-- What is found stands at the identity's first place.
-- Assumes nothing.
use Rattle.std.specs.Prelude.{Some, cond}
use Rattle.std.specs.List.{position, position_or_len}
use Rattle.std.proofs.lemmas.List.Quantifiers.{position-Some}
use Rattle.std.proofs.lemmas.List.Recursion.{found_at}
use Rattle.basis.proofs.Std.{ℕ, ◌≡◌, ◌≤◌, refl, List, [], ◌∷◌, arith, length, get_or, bool_cases}
use Rattle.identity.specs.declared.Identity.{Identity}
use Rattle.awaited.specs.declared.Slot.{Slot}
use Rattle.awaited.specs.declared.Found.TheVariants.{For, Nothing}
use Rattle.awaited.specs.Slot.{purpose_of, awaits_for}
use Rattle.awaited.specs.Awaited.{find_in}

module _ (id : Identity) where
  step : (x : Slot) (l : List Slot) → find_in id (x ∷ l) ≡ cond (awaits_for id x) (For (purpose_of x)) (find_in id l)
  unfolding find_in
  step x l = bool_cases (awaits_for id x) (λ t. rw t) (λ t. rw t)

  pub find_at : (l : List Slot) (i : ℕ) (d : Slot) → position (awaits_for id) l ≡ Some i → find_in id l ≡ For (purpose_of (get_or l i d))
  unfolding find_in
  find_at l i d e =
      let p = position-Some (awaits_for id) l i d e in
      found_at (find_in id) (awaits_for id) (λ (x : Slot). For (purpose_of x)) Nothing refl step l i d p.0 p.2 p.1

  pub find_none : (l : List Slot) → length l ≤ position_or_len (awaits_for id) l → find_in id l ≡ Nothing
  unfolding find_in
  find_none [] h = refl
  find_none (x ∷ l) h =
      bool_cases (awaits_for id x) (λ t. absurd (omega (arith, (rw t at h)))) (λ t. rw t (find_none l (omega (arith, (rw t at h)))))
