-- Owners by number: o is link o % 4 of site o / 4. And each owner's next number.
-- Assumes nothing.
use Rattle.basis.proofs.Std.{ℕ, zero, suc, ◌+◌, ◌*◌, ◌/◌, ◌%◌, ◌≤◌, ◌<◌, ◌≡◌, refl, sym, ◌∙◌, ap, ap₂, Bool, true, false, ◌⊎◌, inl, inr, eqb, leb, arith, lt-ltb, le-ltb, lt-leb, leb-false, eq-eqb, ne_eqb, eqb-true, pick, picked, lt_or_ge, eq_or_ne}
use Rattle.pool.specs.declared.Pool.{Pool}
use Rattle.pool_laws.specs.Acts.{renewed}
use Rattle.pool_laws.specs.Acts.Act.{Issue, Settle, Mark, Unmark}
use Rattle.pool_laws.specs.Promises.{Reached}
use Rattle.pool_laws.specs.Promises.Reached.{empty, after, later, anew}
use Rattle.site.specs.Site.{owner}
use Rattle.refine_parts.specs.Same.{next_for}

pub owner_is : (k l : ℕ) → l < 4 → owner k l ≡ 4 * k + l
unfolding owner
owner_is k l h = rw (lt-ltb l 4 h)

pub no_owner : (k l : ℕ) → 4 ≤ l → owner k l ≡ 8
unfolding owner
no_owner k l h = rw (le-ltb l 4 h)

-- ---- two owners
pub one_side : (w o : ℕ) → w / 4 ≡ o / 4 → eqb w o ≡ eqb (w % 4) (o % 4)
one_side w o e = go (eq_or_ne w o)
  where
    go : (w ≡ o) ⊎ (w ≡ o → ⊥) → eqb w o ≡ eqb (w % 4) (o % 4)
    go (inl s) = eq-eqb w o s ∙ sym (eq-eqb (w % 4) (o % 4) (ap (λ (n : ℕ). n % 4) s))
    go (inr s) = ne_eqb w o s ∙ sym (ne_eqb (w % 4) (o % 4) (λ d. s (omega arith)))

pub two_sides : (w o : ℕ) → (w / 4 ≡ o / 4 → ⊥) → eqb w o ≡ false
two_sides w o d = ne_eqb w o (λ e. d (ap (λ (n : ℕ). n / 4) e))

-- link l's, and an owner of its site or of the other
pub own_side : (k l o : ℕ) → o < 8 → o / 4 ≡ k → eqb (owner k l) o ≡ eqb l (o % 4)
own_side k l o h e = go (lt_or_ge l 4)
  where
    go : (l < 4) ⊎ (4 ≤ l) → eqb (owner k l) o ≡ eqb l (o % 4)
    go (inl f) =
        let r : (4 * k + l) % 4 ≡ l = omega arith in
        let d : (4 * k + l) / 4 ≡ o / 4 = omega arith in
        ap (λ (w : ℕ). eqb w o) (owner_is k l f) ∙ one_side (4 * k + l) o d ∙ ap (λ (j : ℕ). eqb j (o % 4)) r
    go (inr f) = ap (λ (w : ℕ). eqb w o) (no_owner k l f) ∙ ne_eqb 8 o (λ s. omega arith) ∙ sym (ne_eqb l (o % 4) (λ s. omega arith))

pub other_side : (k l o : ℕ) → o < 8 → (o / 4 ≡ k → ⊥) → eqb (owner k l) o ≡ false
other_side k l o h d = go (lt_or_ge l 4)
  where
    go : (l < 4) ⊎ (4 ≤ l) → eqb (owner k l) o ≡ false
    go (inl f) = ap (λ (w : ℕ). eqb w o) (owner_is k l f) ∙ ne_eqb (4 * k + l) o (λ s. d (omega arith))
    go (inr f) = ap (λ (w : ℕ). eqb w o) (no_owner k l f) ∙ ne_eqb 8 o (λ s. omega arith)

-- ---- the next numbers
pub own_next : (k q r o : ℕ) → o < 8 → o / 4 ≡ k → next_for k q r o ≡ q
own_next k q r o h e = ap₂ (λ (a t : Bool). pick a 0 (pick t q r)) (lt-leb 8 o h) (eq-eqb (o / 4) k e)

pub renewed_next : (k q r w : ℕ) → w < 8 → w / 4 ≡ k → (n o : ℕ) → n ≤ suc q → renewed (next_for k q r) w n o ≤ next_for k (suc q) r o
renewed_next k q r w h e n o f =
    picked (λ (a : ℕ). a ≤ next_for k (suc q) r o) (eqb w o) n (next_for k q r o)
    (λ d. let s : w ≡ o = eqb-true w o d in omega (arith, own_next k (suc q) r o (omega arith) (sym (ap (λ (n : ℕ). n / 4) s) ∙ e)))
    (λ d. go (leb 8 o) (eqb (o / 4) k))
  where
    go : (a t : Bool) → pick a 0 (pick t q r) ≤ pick a 0 (pick t (suc q) r)
    go true t = omega arith
    go false true = omega arith
    go false false = omega arith

pub reached_next : {n : ℕ} {p : Pool} {q : ℕ → ℕ} → Reached n p q → (l : ℕ) → q l ≤ 2147483648
reached_next (empty h) l = h l
reached_next (after {q = q} (Issue e) r y) l = picked (λ (a : ℕ). a ≤ 2147483648) (eqb e.link l) (e.sequence + 1) (q l) (λ d. omega (arith, y.1.1)) (λ d. reached_next r l)
reached_next (after (Settle i k) r y) l = reached_next r l
reached_next (after (Mark i k) r y) l = reached_next r l
reached_next (after (Unmark i) r y) l = reached_next r l
reached_next (later r x g h) l = h l
reached_next (anew {q = q} o first r h) l = picked (λ (a : ℕ). a ≤ 2147483648) (eqb o l) first (q l) (λ d. h) (λ d. reached_next r l)

-- of both sites
module _ {n : ℕ} {p : Pool} (q r : ℕ) where
  own_bound : (k : ℕ) → k ≤ 1 → Reached n p (next_for k q r) → q ≤ 2147483648
  own_bound zero h a = reached_next a 0
  own_bound (suc zero) h a = reached_next a 4
  own_bound (suc (suc k)) h a = absurd (omega arith)

  other_bound : (k : ℕ) → k ≤ 1 → Reached n p (next_for k q r) → r ≤ 2147483648
  other_bound zero h a = reached_next a 4
  other_bound (suc zero) h a = reached_next a 0
  other_bound (suc (suc k)) h a = absurd (omega arith)

pub both_bounds : {n k q r : ℕ} {p : Pool} → k ≤ 1 → Reached n p (next_for k q r) → (q ≤ 2147483648) × (r ≤ 2147483648)
both_bounds {k = k} {q = q} {r = r} h a = (own_bound q r k h a, other_bound q r k h a)

pub next_bound : (k q r : ℕ) → q ≤ 2147483648 → r ≤ 2147483648 → (o : ℕ) → next_for k q r o ≤ 2147483648
next_bound k q r f g o = go (leb 8 o) (eqb (o / 4) k)
  where
    go : (a t : Bool) → pick a 0 (pick t q r) ≤ 2147483648
    go true t = omega arith
    go false true = f
    go false false = g

-- ---- the two sites of a box
module _ {A : Type 0} (own other : A) where
  north : (a : ℕ) → a ≤ 1 → pick (eqb a 0) own other ≡ pick (eqb a 1) other own
  north zero h = refl
  north (suc zero) h = refl
  north (suc (suc a)) h = absurd (omega arith)

  south : (a : ℕ) → a ≤ 1 → pick (eqb a 1) own other ≡ pick (eqb a 0) other own
  south zero h = refl
  south (suc zero) h = refl
  south (suc (suc a)) h = absurd (omega arith)

  pub seen_from : (a k j : ℕ) → a ≤ 1 → k + j ≡ 1 → pick (eqb a k) own other ≡ pick (eqb a j) other own
  seen_from a zero zero h e = absurd (omega arith)
  seen_from a zero (suc zero) h e = north a h
  seen_from a zero (suc (suc j)) h e = absurd (omega arith)
  seen_from a (suc zero) zero h e = south a h
  seen_from a (suc zero) (suc j) h e = absurd (omega arith)
  seen_from a (suc (suc k)) j h e = absurd (omega arith)

-- the same numbers, as the other site has them
pub other_next : (k j q r : ℕ) → k + j ≡ 1 → (o : ℕ) → next_for k q r o ≡ next_for j r q o
other_next k j q r e o = go (leb 8 o) refl
  where
    go : (t : Bool) → leb 8 o ≡ t → pick t 0 (pick (eqb (o / 4) k) q r) ≡ pick t 0 (pick (eqb (o / 4) j) r q)
    go true d = refl
    go false d = seen_from q r (o / 4) k j (omega (arith, leb-false 8 o d)) e
