-- What every act keeps: 128 places, records of the n owners only, none of an owner twice, all its numbers below its next, none above 64.
-- Assumes nothing.
use Rattle.basis.proofs.Std.{ℕ, suc, zero, ◌+◌, ◌≤◌, ◌<◌, ◌≡◌, refl, List, [], ◌∷◌, Bool, true, false, ◌⊎◌, inl, inr, length, get_or, replicate, length-replicate, ltb, leb, eqb, arith, eqb-true, le-leb, lt-leb, both, lt_or_ge, eq_or_ne, bit, count, both_first, both_second}
use Rattle.pool.specs.declared.Place.{Place}
use Rattle.pool.specs.declared.Pool.{Pool}
use Rattle.pool.specs.declared.Wanted.TheVariants.{Older, Numbered}
use Rattle.pool.specs.Places.{no_place, of, fits}
use Rattle.pool.specs.Pool.{empty_of, held_in, lost_of}
use Rattle.pool_laws.specs.Acts.{newer_than}
use Rattle.pool_laws.proofs.Counts.{bit_true, bit_false, bit_le, bit_lt, bit_ge, bit_eq, bit_ne, count_cons, count_nil, count_le, count_replicate}
use Rattle.pool_laws.proofs.Fullest.{outside}

-- it holds a record of owner l numbered q or later
abbrev pub from : ℕ → ℕ → Place → Bool
from l q x = both (of l x) (leb q x.entry.sequence)

-- a mark that no place has
abbrev pub mismarked : Place → Bool
mismarked x = ltb 2 x.mark

-- q says each owner's next number
pub record Inv (n : ℕ) (p : Pool) (q : ℕ → ℕ) : Type 0 where
  pub size : length p.places ≡ 128
  pub links : length p.lost ≡ n
  pub owned : count (outside n) p.places ≡ 0
  pub once : (l k : ℕ) → count (fits (Numbered l k)) p.places ≤ 1
  pub fresh : (l : ℕ) → count (from l (q l)) p.places ≡ 0
  pub most : (l : ℕ) → held_in p.places l ≤ 64
  pub marked : count mismarked p.places ≡ 0
  pub lost : (l : ℕ) → lost_of p l + held_in p.places l ≤ q l
  pub bound : (l : ℕ) → q l ≤ 2147483648

replicate_at : (n i : ℕ) → ◌≡◌ {A = ℕ} (get_or (replicate n 0) i 0) 0
replicate_at zero i = refl
replicate_at (suc n) zero = refl
replicate_at (suc n) (suc i) = replicate_at n i

pub starts : (n : ℕ) (q : ℕ → ℕ) → ((l : ℕ) → q l ≤ 2147483648) → Inv n (empty_of n) q
unfolding empty_of
starts n q h =
    record {
      size = length-replicate 128 no_place;
      links = length-replicate n 0;
      owned = count_replicate (outside n) 128 no_place refl;
      once = λ l k. omega (arith, count_replicate (fits (Numbered l k)) 128 no_place refl);
      fresh = λ l. count_replicate (from l (q l)) 128 no_place refl;
      most = λ l. omega (arith, count_replicate (of l) 128 no_place refl);
      marked = count_replicate mismarked 128 no_place refl;
      lost = λ l. omega (arith, replicate_at n l, count_replicate (of l) 128 no_place refl);
      bound = h;
    }

pub of_used : (l : ℕ) (x : Place) → of l x ≡ true → ltb 0 x.mark ≡ true
of_used l x e = both_first (ltb 0 x.mark) (eqb x.entry.link l) e

pub of_link : (l : ℕ) (x : Place) → of l x ≡ true → x.entry.link ≡ l
of_link l x e = eqb-true _ l (both_second (ltb 0 x.mark) (eqb x.entry.link l) e)

-- a record of an owner is older than q, the one numbered q, or newer
pub around : (l q : ℕ) (p : List Place) → held_in p l ≡ count (fits (Older l q)) p + (count (fits (Numbered l q)) p + count (newer_than l q) p)
around l q [] = omega (arith, count_nil (of l), count_nil (fits (Older l q)), count_nil (fits (Numbered l q)), count_nil (newer_than l q))
around l q (x ∷ p) =
    omega (arith, around l q p, one (of l x) x.entry.sequence, count_cons (of l) x p, count_cons (fits (Older l q)) x p, count_cons (fits (Numbered l q)) x p, count_cons (newer_than l q) x p)
  where
    one : (b : Bool) (n : ℕ) → bit b ≡ bit (both b (ltb n q)) + (bit (both b (eqb n q)) + bit (both b (ltb q n)))
    one false n = refl
    one true n = tri (lt_or_ge n q) (lt_or_ge q n)
      where
        tri : (n < q) ⊎ (q ≤ n) → (q < n) ⊎ (n ≤ q) → 1 ≡ bit (ltb n q) + (bit (eqb n q) + bit (ltb q n))
        tri (inl a) (inl b) = absurd (omega arith)
        tri (inl a) (inr b) = omega (arith, bit_lt n q a, bit_ne n q (λ e. omega arith), bit_ge q n b)
        tri (inr a) (inl b) = omega (arith, bit_ge n q a, bit_ne n q (λ e. omega arith), bit_lt q n b)
        tri (inr a) (inr b) = omega (arith, bit_ge n q a, bit_eq n q (omega arith), bit_ge q n b)

-- a later record is no earlier one
pub from_less : (l q r : ℕ) → q ≤ r → (p : List Place) → count (from l r) p ≤ count (from l q) p
from_less l q r h p = count_le (from l r) (from l q) (λ x. go (of l x) x.entry.sequence) p
  where
    go : (t : Bool) (k : ℕ) → bit (both t (leb r k)) ≤ bit (both t (leb q k))
    go false k = omega arith
    go true k = tri (lt_or_ge k r)
      where
        tri : (k < r) ⊎ (r ≤ k) → bit (leb r k) ≤ bit (leb q k)
        tri (inl a) = omega (arith, bit_false _ (lt-leb r k a))
        tri (inr a) = omega (arith, bit_le (leb r k), bit_true _ (le-leb q k (omega arith)))

-- a record numbered k is one numbered q or later, where q is at most k
pub numbered_from : (l k q : ℕ) → q ≤ k → (p : List Place) → count (fits (Numbered l k)) p ≤ count (from l q) p
numbered_from l k q h p = count_le (fits (Numbered l k)) (from l q) (λ x. go (of l x) x.entry.sequence) p
  where
    go : (t : Bool) (j : ℕ) → bit (both t (eqb j k)) ≤ bit (both t (leb q j))
    go false j = omega arith
    go true j = tri (eq_or_ne j k)
      where
        tri : (j ≡ k) ⊎ (j ≡ k → ⊥) → bit (eqb j k) ≤ bit (leb q j)
        tri (inl a) = omega (arith, bit_le (eqb j k), bit_true _ (le-leb q j (omega arith)))
        tri (inr a) = omega (arith, bit_ne j k a)

-- what is numbered k is older than a later number
pub numbered_older : (l k q : ℕ) → k < q → (p : List Place) → count (fits (Numbered l k)) p ≤ count (fits (Older l q)) p
numbered_older l k q h p = count_le (fits (Numbered l k)) (fits (Older l q)) (λ x. go (of l x) x.entry.sequence) p
  where
    go : (t : Bool) (j : ℕ) → bit (both t (eqb j k)) ≤ bit (both t (ltb j q))
    go false j = omega arith
    go true j = tri (eq_or_ne j k)
      where
        tri : (j ≡ k) ⊎ (j ≡ k → ⊥) → bit (eqb j k) ≤ bit (ltb j q)
        tri (inl a) = omega (arith, bit_le (eqb j k), bit_lt j q (omega arith))
        tri (inr a) = omega (arith, bit_ne j k a)

-- numbers may be left out
pub inv_later : (n : ℕ) (q r : ℕ → ℕ) (p : Pool) → Inv n p q → ((l : ℕ) → q l ≤ r l) → ((l : ℕ) → r l ≤ 2147483648) → Inv n p r
inv_later n q r p i h b =
    record {
      size = i.size;
      links = i.links;
      owned = i.owned;
      once = i.once;
      fresh = λ l. omega (arith, from_less l (q l) (r l) (h l) p.places, i.fresh l);
      most = i.most;
      marked = i.marked;
      lost = λ l. omega (arith, i.lost l, h l);
      bound = b;
    }
