-- Numbers that rise: what keeps them rising, and that the first of a link is its oldest.
-- Assumes nothing.
use Rattle.basis.proofs.Std.{ℕ, suc, ◌+◌, ◌≤◌, ◌<◌, ◌≡◌, refl, Bool, true, false, List, [], ◌∷◌, ◌++◌, map, ◌⊎◌, inl, inr, eqb, ltb, leb, arith, lt-leb, lt-ltb, le-ltb, le-leb, eqb-true, eq-eqb, ne_eqb, both, bit, count, Among, picked, lt_or_ge, eq_or_ne, both_no}
use Rattle.basis.specs.Lists.Among.{first, later}
use Rattle.machine.specs.Words.{keep, but_first}
use Rattle.machine.specs.State.{Held}
use Rattle.machine.specs.Pool.{is_for}
use Rattle.demand_held.specs.Held.{newer}
use Rattle.demand_held.proofs.Lists.{bit_true, bit_false, no_left}
use Rattle.demand_held.proofs.Good.{Rising}
use Rattle.demand_held.proofs.Good.Rising.{ends, rises}

pub from_lower : {b a c : ℕ} {hs : List Held} → a ≤ c → Rising b c hs → Rising b a hs
from_lower {a = a} h (ends g) = ends {a = a} (omega arith)
from_lower {a = a} h (rises {h = x} g r) = rises {a = a} {h = x} (omega arith) r

pub rising_but_first : (f : Held → Bool) {b a : ℕ} {hs : List Held} → Rising b a hs → Rising b a (but_first f hs)
rising_but_first f (ends g) = ends g
rising_but_first f {b} {a} (rises {h = h} {hs = hs} g r) =
    picked (Rising b a) (f h) hs (h ∷ but_first f hs) (λ e. from_lower (omega arith) r) (λ e. rises g (rising_but_first f r))

pub rising_keep : (f : Held → Bool) {b a : ℕ} {hs : List Held} → Rising b a hs → Rising b a (keep f hs)
rising_keep f (ends g) = ends g
rising_keep f {b} {a} (rises {h = h} {hs = hs} g r) =
    picked (Rising b a) (f h) (h ∷ keep f hs) (keep f hs) (λ e. rises g (rising_keep f r)) (λ e. from_lower (omega arith) (rising_keep f r))

pub rising_map : (g : Held → Held) → ((h : Held) → (g h).sequence ≡ h.sequence) → {b a : ℕ} {hs : List Held} → Rising b a hs → Rising b a (map g hs)
rising_map g e (ends f) = ends f
rising_map g e {b} {a} (rises {h = h} {hs = hs} f r) =
    rises {a = a} {h = g h} {hs = map g hs} (omega (arith, e h)) (rw (e h) (rising_map g e r))

pub rising_last : {b a : ℕ} {hs : List Held} (h : Held) → h.sequence ≡ b → Rising b a hs → Rising (suc b) a (hs ++ (h ∷ []))
rising_last {a = a} h e (ends f) = rises {a = a} {h = h} (omega arith) (ends {a = suc h.sequence} (omega arith))
rising_last h e (rises f r) = rises f (rising_last h e r)

pub rising_below : {b a : ℕ} {h : Held} {hs : List Held} → Rising b a hs → Among h hs → h.sequence < b
rising_below {b = b} {h = h} (ends {a = a} _) x5 = elim x5 [ ]
rising_below (rises f r) first = end r
  where
    end : {b a : ℕ} {hs : List Held} → Rising b (suc a) hs → a < b
    end (ends g) = omega arith
    end (rises g r) = omega (arith, end r)
rising_below (rises f r) (later m) = rising_below r m

-- no number stands twice
none_before : (n : ℕ) {b a : ℕ} (hs : List Held) → n < a → Rising b a hs → count (λ (h : Held). eqb h.sequence n) hs ≡ 0
none_before n [] f (ends g) = refl
none_before n (h ∷ hs) f (rises g r) = omega (arith, bit_false (eqb h.sequence n) (ne_eqb h.sequence n (λ e. omega arith)), none_before n hs (omega arith) r)

pub rising_once : (n : ℕ) {b a : ℕ} (hs : List Held) → Rising b a hs → count (λ (h : Held). eqb h.sequence n) hs ≤ 1
rising_once n [] (ends g) = omega arith
rising_once n (h ∷ hs) (rises g r) = go (eq_or_ne h.sequence n) (rising_once n hs r)
  where
    go : (h.sequence ≡ n) ⊎ (h.sequence ≡ n → ⊥) → count (λ (h : Held). eqb h.sequence n) hs ≤ 1 → count (λ (h : Held). eqb h.sequence n) (h ∷ hs) ≤ 1
    go (inl e) s = omega (arith, bit_true (eqb h.sequence n) (eq-eqb h.sequence n e), none_before n hs (omega arith) r)
    go (inr e) s = omega (arith, bit_false (eqb h.sequence n) (ne_eqb h.sequence n e), s)

-- as old as record n of link l, or older
abbrev pub older : ℕ → ℕ → Held → Bool
older l n h = both (is_for l h) (leb h.sequence n)

pub none_older : (l n : ℕ) {b a : ℕ} (hs : List Held) → n < a → Rising b a hs → count (older l n) hs ≡ 0
none_older l n [] f (ends g) = refl
none_older l n (h ∷ hs) f (rises g r) =
    omega (arith, bit_false (older l n h) (both_no (is_for l h) _ (lt-leb h.sequence n (omega arith))), none_older l n hs (omega arith) r)

one_side : (t : Bool) (n k : ℕ) → bit (both t (ltb n k)) + bit (both t (leb k n)) ≡ bit t
one_side false n k = refl
one_side true n k = go (lt_or_ge n k)
  where
    go : (n < k) ⊎ (k ≤ n) → bit (ltb n k) + bit (leb k n) ≡ 1
    go (inl h) = omega (arith, bit_true (ltb n k) (lt-ltb n k h), bit_false (leb k n) (lt-leb k n h))
    go (inr h) = omega (arith, bit_false (ltb n k) (le-ltb n k h), bit_true (leb k n) (le-leb k n h))

pub newer_older : (l n : ℕ) (hs : List Held) → newer l n hs + count (older l n) hs ≡ count (is_for l) hs
newer_older l n [] = refl
newer_older l n (h ∷ hs) = omega (arith, one_side (is_for l h) n h.sequence, newer_older l n hs)

-- a record is left, or it was the oldest of the link that lost one
pub left_or_oldest : (k : ℕ) {b a : ℕ} {h : Held} {hs : List Held} → Rising b a hs → Among h hs
    → Among h (but_first (is_for k) hs) ⊎ ((h.link ≡ k) × (count (older k h.sequence) (but_first (is_for k) hs) ≡ 0))
left_or_oldest k {b = b} {h = h} (ends {a = a} _) x5 = elim x5 [ ]
left_or_oldest k {h = h} (rises {hs = hs} f r) first =
    picked (λ (q : List Held). Among h q ⊎ ((h.link ≡ k) × (count (older k h.sequence) q ≡ 0))) (is_for k h) hs (h ∷ but_first (is_for k) hs)
    (λ e. inr (eqb-true h.link k e, none_older k h.sequence hs (omega arith) r))
    (λ e. inl first)
left_or_oldest k {h = h} (rises {h = y} {hs = hs} f r) (later m) =
    picked (λ (q : List Held). Among h q ⊎ ((h.link ≡ k) × (count (older k h.sequence) q ≡ 0))) (is_for k y) hs (y ∷ but_first (is_for k) hs)
    (λ e. inl m)
    (λ e. on e (left_or_oldest k r m))
  where
    on : is_for k y ≡ false → Among h (but_first (is_for k) hs) ⊎ ((h.link ≡ k) × (count (older k h.sequence) (but_first (is_for k) hs) ≡ 0))
        → Among h (y ∷ but_first (is_for k) hs) ⊎ ((h.link ≡ k) × (count (older k h.sequence) (y ∷ but_first (is_for k) hs) ≡ 0))
    on e (inl a) = inl (later a)
    on e (inr o) = inr (o.0, omega (arith, bit_false (older k h.sequence y) (no_left (is_for k y) _ e), o.1))
