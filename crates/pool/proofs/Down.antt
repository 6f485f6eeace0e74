-- What one turn of a loop that goes down the places does to the folds over them, and where it starts.
-- Assumes nothing.
use Rattle.basis.proofs.Std.{ℕ, suc, ◌≤◌, ◌<◌, ◌-◌, ◌+◌, ◌≡◌, ap, ◌∙◌, List, [], ◌∷◌, Bool, true, false, arith, length, drop, get_or, drop_of_length-le, drop-cons, bit, count}
use Rattle.pool.specs.declared.Place.{Place}
use Rattle.pool.specs.declared.Spot.TheVariants.{Nowhere}
use Rattle.pool.specs.Places.{no_place, older, newer, oldest_from, newest_from}

down : {A : Type 0} (p : List A) (i : ℕ) (d : A) → i ≤ length p → 0 < i → drop (i - 1) p ≡ get_or p (i - 1) d ∷ drop i p
down p i d h g =
    let e : suc (i - 1) ≡ i = omega arith in
    let k : i - 1 < length p = omega arith in
    drop-cons p (i - 1) d k ∙ ap (λ (n : ℕ). get_or p (i - 1) d ∷ drop n p) e

bit_one : (t : Bool) → bit t ≤ 1
bit_one true = omega arith
bit_one false = omega arith

module _ (f : Place → Bool) where
  pub count_down : (p : List Place) (i : ℕ) → i ≤ length p → 0 < i → count f (drop (i - 1) p) ≡ bit (f (get_or p (i - 1) no_place)) + count f (drop i p)
  count_down p i h g = ap (count f) (down p i no_place h g)

  pub count_end : (p : List Place) (i : ℕ) → length p ≤ i → count f (drop i p) ≡ 0
  count_end p i h = ap (count f) (drop_of_length-le p h)

  pub count_most : (p : List Place) → count f p ≤ length p
  count_most [] = omega arith
  count_most (x ∷ p) = omega (arith, bit_one (f x), count_most p)

  pub oldest_down : (p : List Place) (i : ℕ) → i ≤ length p → 0 < i
      → oldest_from f (i - 1) (drop (i - 1) p) ≡ older (f (get_or p (i - 1) no_place)) (i - 1) (get_or p (i - 1) no_place) (oldest_from f i (drop i p))
  unfolding oldest_from
  oldest_down p i h g =
      let e : suc (i - 1) ≡ i = omega arith in
      ap (oldest_from f (i - 1)) (down p i no_place h g)
      ∙ ap (λ (n : ℕ). older (f (get_or p (i - 1) no_place)) (i - 1) (get_or p (i - 1) no_place) (oldest_from f n (drop i p))) e

  pub oldest_end : (p : List Place) (i : ℕ) → length p ≤ i → oldest_from f i (drop i p) ≡ Nowhere
  unfolding oldest_from
  oldest_end p i h = ap (oldest_from f i) (drop_of_length-le p h)

  pub newest_down : (p : List Place) (i : ℕ) → i ≤ length p → 0 < i
      → newest_from f (i - 1) (drop (i - 1) p) ≡ newer (f (get_or p (i - 1) no_place)) (i - 1) (get_or p (i - 1) no_place) (newest_from f i (drop i p))
  unfolding newest_from
  newest_down p i h g =
      let e : suc (i - 1) ≡ i = omega arith in
      ap (newest_from f (i - 1)) (down p i no_place h g)
      ∙ ap (λ (n : ℕ). newer (f (get_or p (i - 1) no_place)) (i - 1) (get_or p (i - 1) no_place) (newest_from f n (drop i p))) e

  pub newest_end : (p : List Place) (i : ℕ) → length p ≤ i → newest_from f i (drop i p) ≡ Nowhere
  unfolding newest_from
  newest_end p i h = ap (newest_from f i) (drop_of_length-le p h)
