-- A share of which others have pushed out the oldest of some links.
-- Assumes nothing.
use Rattle.basis.proofs.Std.{ℕ, suc, ◌+◌, ◌≤◌, ◌<◌, ◌≡◌, refl, sym, ◌∙◌, Bool, true, false, List, ◌⊎◌, inl, inr, length, get_or, arith, ne_eqb, eqb-true, count, Among, eq_or_ne, lt_or_ge}
use Rattle.machine.specs.Words.{but_first, changed}
use Rattle.machine.specs.State.{Held, Share}
use Rattle.machine.specs.Pool.{is_for, without}
use Rattle.demand_held.proofs.Lists.{Each, each_but_first, among_but_first, count_but_first, count_left, count_other, length_but_first, length_changed, got_changed, got_other}
use Rattle.demand_held.proofs.Good.{GoodShare, beyond}
use Rattle.demand_held.proofs.Rising.{rising_but_first}

pub data Shrunk (s : Share) : Share → Type 0 where
  as_it_was : Shrunk s s
  less : {t : Share} (l : ℕ) → 1 ≤ count (is_for l) t.held → Shrunk s t → Shrunk s (without l t)

pub shrunk_twice : {s t u : Share} → Shrunk s t → Shrunk t u → Shrunk s u
shrunk_twice a as_it_was = a
shrunk_twice a (less l one b) = less l one (shrunk_twice a b)

pub shrunk_each : {P : Held → Type 0} {s t : Share} → Shrunk s t → Each P s.held → Each P t.held
shrunk_each as_it_was h = h
shrunk_each (less l one a) h = each_but_first (is_for l) (shrunk_each a h)

pub shrunk_among : {s t : Share} {x : Held} → Shrunk s t → Among x t.held → Among x s.held
shrunk_among as_it_was h = h
shrunk_among (less {t} l one a) h = shrunk_among a (among_but_first (is_for l) t.held h)

pub shrunk_fewer : {s t : Share} (f : Held → Bool) → Shrunk s t → count f t.held ≤ count f s.held
shrunk_fewer f as_it_was = omega arith
shrunk_fewer f (less {t} l one a) = omega (arith, shrunk_fewer f a, count_left (is_for l) f t.held)

pub shrunk_shorter : {s t : Share} → Shrunk s t → length t.held ≤ length s.held
shrunk_shorter as_it_was = omega arith
shrunk_shorter (less {t} l one a) = omega (arith, shrunk_shorter a, length_but_first (is_for l) t.held one)

pub shrunk_lost : {s t : Share} → Shrunk s t → length t.lost ≡ length s.lost
shrunk_lost as_it_was = refl
shrunk_lost (less {t} l one a) = length_changed l suc t.lost ∙ shrunk_lost a

pub shrunk_good : {b : ℕ} {s t : Share} → Shrunk s t → GoodShare b s → GoodShare b t
shrunk_good as_it_was g = g
shrunk_good (less {t} l one a) g =
    let k = shrunk_good a g in
    record {
      few = omega (arith, k.few, length_changed l suc t.lost);
      links = rw (length_changed l suc t.lost) (each_but_first (is_for l) k.links);
      most = λ i. omega (arith, k.most i, count_left (is_for l) (is_for i) t.held);
      rising = rising_but_first (is_for l) k.rising;
    }

-- what is pushed out is counted lost
module _ {b : ℕ} (t : Share) (g : GoodShare b t) (k : ℕ) (one : 1 ≤ count (is_for k) t.held) where
  there : (k < length t.lost) ⊎ (length t.lost ≤ k) → k < length t.lost
  there (inl h) = h
  there (inr h) = absurd (omega (arith, one, beyond k h t.held g.links))

  pub without_counts : (l : ℕ) → get_or (without k t).lost l 0 + count (is_for l) (without k t).held ≡ get_or t.lost l 0 + count (is_for l) t.held
  without_counts l = go (eq_or_ne k l)
    where
      go : (k ≡ l) ⊎ (k ≡ l → ⊥) → get_or (changed k suc t.lost) l 0 + count (is_for l) (but_first (is_for k) t.held) ≡ get_or t.lost l 0 + count (is_for l) t.held
      go (inl e) = rw (← e) (omega (arith, got_changed k suc t.lost (there (lt_or_ge k (length t.lost))), count_but_first (is_for k) t.held one))
      go (inr n) =
          omega (arith, got_other k l suc t.lost n, count_other (is_for k) (is_for l) (λ x h. ne_eqb x.link l (λ q. n (sym (eqb-true x.link k h) ∙ q))) t.held)

pub shrunk_counts : {b : ℕ} {s t : Share} → Shrunk s t → GoodShare b s → (l : ℕ) → get_or t.lost l 0 + count (is_for l) t.held ≡ get_or s.lost l 0 + count (is_for l) s.held
shrunk_counts as_it_was g l = refl
shrunk_counts (less {t} k one a) g l = without_counts t (shrunk_good a g) k one l ∙ shrunk_counts a g l
