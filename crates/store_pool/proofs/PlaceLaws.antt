-- A place read from two of its words; a free place: the lowest one, where its number is 0, is the oldest, and one is found exactly
-- where one is counted.
-- Assumes nothing.
use Rattle.basis.proofs.Std.{◌≡◌, refl, sym, ap, ◌∙◌, ◌⊎◌, inl, inr, Bool, true, false, List, [], ◌∷◌, ℕ, zero, suc, ◌+◌, ◌-◌, ◌*◌, ◌<◌, ◌≤◌, arith, le-leb, lt-ltb, eq-eqb, ne_eqb, ltb, leb, eqb, length, get_or, set, drop, replicate, length-drop, get_or-set_same, get_or-set_other, get_or-eq_default, pick, bit, count, eq_or_ne, lt_or_ge}
use Rattle.bits.specs.Fields.{field_of}
use Rattle.pool.specs.declared.Place.{Place}
use Rattle.pool.specs.declared.Spot.{Spot}
use Rattle.pool.specs.declared.Spot.TheVariants.{At, Nowhere}
use Rattle.pool.specs.declared.Wanted.TheVariants.{Free}
use Rattle.pool.specs.Places.{no_place, of, fits, lower, older, oldest_from, oldest}
use Rattle.pool.specs.Shares.{fuller, fullest}
use Rattle.pool.specs.Pool.{held_in, free_in}
use Rattle.pool.proofs.Fixed.{fullest_is}
use Rattle.pool.proofs.Down.{count_down, count_end, count_most}
use Rattle.store_words.specs.Words.{word}
use Rattle.store_site.specs.Rows.{place_from}
use Rattle.store_site.specs.Layout.{places_in}
use Rattle.store_site.proofs.SiteLaws.{place_at, places_length}
use Rattle.store_pool.specs.Pools.{Counts, Counted}
use Rattle.store_pool.specs.Vacant.{Vacant}
use Rattle.store_pool.specs.Vacant.Vacant.{nowhere, there}

-- two of a place's words
module _ (ws : List ℕ) (k : ℕ) (h : k < 128) where
  pub mark_at : word ws (8 + 4 * k + 3) ≡ (get_or (places_in ws) k no_place).mark
  unfolding place_from
  mark_at = ap (λ (x : Place). x.mark) (place_at ws k h)

  link_at_lem : field_of (word ws (8 + 4 * k + 2)) 48 16 ≡ (get_or (places_in ws) k no_place).entry.link
  unfolding place_from
  link_at_lem = ap (λ (x : Place). x.entry.link) (place_at ws k h)

  pub mine_not : (l : ℕ) → word ws (8 + 4 * k + 3) ≡ 0 → false ≡ of l (get_or (places_in ws) k no_place)
  mine_not l e =
      let z : (get_or (places_in ws) k no_place).mark ≡ 0 = sym mark_at ∙ e in
      rw z refl

  pub mine_if : (l : ℕ) {q : ℕ} → (word ws (8 + 4 * k + 3) ≡ 0 → ⊥) → q ≡ field_of (word ws (8 + 4 * k + 2)) 48 16 → eqb q l ≡ of l (get_or (places_in ws) k no_place)
  mine_if l n e = rw (lt-ltb 0 (get_or (places_in ws) k no_place).mark (omega (arith, n, mark_at)), e, link_at_lem)

  -- a place counted for its owner
  module _ (ns : List ℕ) where
    pub count_free : word ws (8 + 4 * k + 3) ≡ 0 → Counts (get_or (places_in ws) k no_place) ns ns
    count_free e o g = omega (arith, ap bit (mine_not o e))

    module _ {q : ℕ} (n : word ws (8 + 4 * k + 3) ≡ 0 → ⊥) (e : q ≡ field_of (word ws (8 + 4 * k + 2)) 48 16) where
      pub count_out : 8 ≤ q → Counts (get_or (places_in ws) k no_place) ns ns
      count_out f o g = omega (arith, ap bit (mine_if o n e), ap bit (ne_eqb q o (λ s. omega (arith, s))))

      pub count_one : q < 8 → length ns ≡ 8 → Counts (get_or (places_in ws) k no_place) ns (set ns q (word ns q + 1))
      count_one f m o g = by (eq_or_ne o q)
        where
          by : (o ≡ q) ⊎ (o ≡ q → ⊥) → word (set ns q (word ns q + 1)) o ≡ bit (of o (get_or (places_in ws) k no_place)) + word ns o
          by (inl z) = rw z (omega (arith, get_or-set_same ns q (word ns q + 1) 0 (omega arith), ap bit (mine_if q n e), ap bit (eq-eqb q q refl)))
          by (inr z) =
              omega (arith, get_or-set_other ns q o (word ns q + 1) 0 z, ap bit (mine_if o n e), ap bit (ne_eqb q o (λ s. z (sym s))))

-- counted from the last place down
zeros : (n o : ℕ) → ◌≡◌ {A = ℕ} (get_or (replicate n 0) o 0) 0
zeros zero o = refl
zeros (suc n) zero = refl
zeros (suc n) (suc o) = zeros n o

pub counted_none : (p : List Place) (i : ℕ) → length p ≤ i → Counted (drop i p) (replicate 8 0)
counted_none p i h o g = zeros 8 o ∙ sym (count_end (of o) p i h)

pub counted_next : (p : List Place) (i : ℕ) (ns ms : List ℕ) → i ≤ length p → 0 < i → Counted (drop i p) ns → Counts (get_or p (i - 1) no_place) ns ms → Counted (drop (i - 1) p) ms
counted_next p i ns ms h g c t o f = t o f ∙ ap (λ (n : ℕ). bit (of o (get_or p (i - 1) no_place)) + n) (c o f) ∙ sym (count_down (of o) p i h g)

-- a count has room for one more, where a place is left
pub counted_below : (p : List Place) (i : ℕ) (ns : List ℕ) → length p ≡ 128 → length ns ≡ 8 → 0 < i → Counted (drop i p) ns → (o : ℕ) → word ns o < 128
counted_below p i ns e m g c o = by (lt_or_ge o 8)
  where
    by : (o < 8) ⊎ (8 ≤ o) → word ns o < 128
    by (inl f) = omega (arith, c o f, count_most (of o) (drop i p), length-drop i p)
    by (inr f) = rw (get_or-eq_default ns 0 {n = o} (omega arith)) (omega arith)

-- the fullest by the counts is the fullest by the places
pub fuller_counted : (p : List Place) (ns : List ℕ) → Counted p ns → (a b : ℕ) → a < 8 → b < 8 → fuller (word ns) a b ≡ fuller (held_in p) a b
fuller_counted p ns c a b f g = rw (c a f, c b g) refl

fullest_step : (h : ℕ → ℕ) (j k : ℕ) → k ≡ suc j → fullest h k ≡ fuller h (fullest h j) k
unfolding fullest
fullest_step h j k e = rw e refl

-- one owner more
pub fullest_next : (h : ℕ → ℕ) (k m r : ℕ) → 1 ≤ k → m ≡ fullest h (k - 1) → r ≡ fuller h m k → r ≡ fullest h (k + 1 - 1)
fullest_next h k m r g e f =
    let z : k ≡ k + 1 - 1 = omega arith in
    f ∙ ap (λ (n : ℕ). fuller h n k) e ∙ sym (fullest_step h (k - 1) k (omega arith)) ∙ ap (fullest h) z

pub fullest_below_lem : (h : ℕ → ℕ) (k r : ℕ) → k < 8 → r ≡ fullest h (k + 1 - 1) → r < 8
fullest_below_lem h k r g e = omega (arith, (fullest_is h (k + 1 - 1)).one)

pub fullest_first : (h : ℕ → ℕ) → 0 ≡ fullest h 0
unfolding fullest
fullest_first h = refl

-- no number is lower than 0
first_lower : (i : ℕ) (x : Place) → x.entry.sequence ≡ 0 → (s : Spot) → lower i x s ≡ At i x
first_lower i x e Nowhere = refl
first_lower i x e (At j y) = rw (le-leb x.entry.sequence y.entry.sequence (omega arith))

abbrev found : Spot → Bool
found (At i x) = true
found Nowhere = false

found_lower : (i : ℕ) (x : Place) (s : Spot) → found (lower i x s) ≡ true
found_lower i x Nowhere = refl
found_lower i x (At j y) = by (leb x.entry.sequence y.entry.sequence)
  where
    by : (t : Bool) → found (pick t (At i x) (At j y)) ≡ true
    by true = refl
    by false = refl

module _ (f : Place → Bool) where
  oldest_none : (s : ℕ) (p : List Place) → ((j : ℕ) → j < length p → f (get_or p j no_place) ≡ false) → oldest_from f s p ≡ Nowhere
  unfolding oldest_from
  oldest_none s [] h = refl
  oldest_none s (x ∷ p) h = rw (h 0 (omega arith)) (oldest_none (suc s) p (λ j g. h (suc j) (omega arith)))

  oldest_first : (s k : ℕ) (p : List Place) → k < length p → ((j : ℕ) → j < k → f (get_or p j no_place) ≡ false) → f (get_or p k no_place) ≡ true
      → (get_or p k no_place).entry.sequence ≡ 0 → oldest_from f s p ≡ At (s + k) (get_or p k no_place)
  unfolding oldest_from
  oldest_first s k [] l h t e = absurd (omega arith)
  oldest_first s zero (x ∷ p) l h t e =
      let z : s ≡ s + 0 = omega arith in
      rw t (first_lower s x e (oldest_from f (suc s) p)) ∙ ap (λ (n : ℕ). At n x) z
  oldest_first s (suc k) (x ∷ p) l h t e =
      let z : suc s + k ≡ s + suc k = omega arith in
      rw (h 0 (omega arith)) (oldest_first (suc s) k p (omega arith) (λ j g. h (suc j) (omega arith)) t e) ∙ ap (λ (n : ℕ). At n (get_or p k no_place)) z

  found_counted : (s : ℕ) (p : List Place) → found (oldest_from f s p) ≡ ltb 0 (count f p)
  unfolding oldest_from
  found_counted s [] = refl
  found_counted s (x ∷ p) = by (f x) (found_counted (suc s) p)
    where
      by : (t : Bool) → found (oldest_from f (suc s) p) ≡ ltb 0 (count f p) → found (older t s x (oldest_from f (suc s) p)) ≡ ltb 0 (bit t + count f p)
      by true e = found_lower s x (oldest_from f (suc s) p) ∙ sym (lt-ltb 0 (1 + count f p) (omega arith))
      by false e =
          let z : 0 + count f p ≡ count f p = omega arith in
          rw z e

-- one is found exactly where one is counted
module _ (p : List Place) where
  pub some_free : {i : ℕ} {x : Place} → At i x ≡ oldest (fits Free) p → ltb 0 (free_in p) ≡ true
  some_free e = sym (found_counted (fits Free) 0 p) ∙ ap found (sym e)

  pub none_free : Nowhere ≡ oldest (fits Free) p → ltb 0 (free_in p) ≡ false
  none_free e = sym (found_counted (fits Free) 0 p) ∙ ap found (sym e)

-- the lowest free place is the oldest, where its number is 0
module _ (ws : List ℕ) where
  pub vacant_none : Vacant (places_in ws) Nowhere → Nowhere ≡ oldest (fits Free) (places_in ws)
  vacant_none (nowhere t) = sym (oldest_none (fits Free) 0 (places_in ws) (λ j g. t j (omega (arith, places_length ws))))

  pub vacant_first : {i : ℕ} {x : Place} → Vacant (places_in ws) (At i x) → x.entry.sequence ≡ 0 → At i x ≡ oldest (fits Free) (places_in ws)
  vacant_first {i} {x} (there h t f g) e =
      let z : 0 + i ≡ i = omega arith in
      let o = oldest_first (fits Free) 0 i (places_in ws) (omega (arith, places_length ws)) t (rw g at f) (rw g at e) in
      rw g (sym (rw z at o))
