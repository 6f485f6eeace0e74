-- Closing upwards: what becomes of each link and of the rest of the site.
-- Assumes nothing.
use Rattle.basis.proofs.Std.{ℕ, zero, suc, ◌≤◌, ◌≡◌, refl, ◌∙◌, Bool, true, false, arith, get_or-set_other, pick}
use Rattle.link.specs.Fields.{closed_link}
use Rattle.site.specs.declared.Site.{Site}
use Rattle.site.specs.Site.{link_at, close_at}
use Rattle.call_tick.specs.Closing.{late_at, close_late, closed_to}

-- what closing keeps, closing upwards keeps
pub stays : {A : Type 0} (f : Site → A) → ((t : Site) (l : ℕ) → f (close_at t l) ≡ f t) → (s : Site) (time n : ℕ) → f (closed_to s time n) ≡ f s
unfolding close_late
stays f h s time zero = refl
stays f h s time (suc n) = by (closed_to s time n) (late_at (closed_to s time n) n time) ∙ stays f h s time n
  where
    by : (t : Site) (b : Bool) → f (pick b (close_at t n) t) ≡ f t
    by t true = h t n
    by t false = refl

module _ (s : Site) (time : ℕ) where
  other_link : (l m : ℕ) → (m ≡ l → ⊥) → link_at (close_late s l time) m ≡ link_at s m
  unfolding close_late
  other_link l m ne = by (late_at s l time)
    where
      by : (b : Bool) → link_at (pick b (close_at s l) s) m ≡ link_at s m
      by true = get_or-set_other s.links l m closed_link closed_link ne
      by false = refl

module _ (time : ℕ) {A : Type 0} (f : Site → ℕ → A) (other : (t : Site) (l m : ℕ) → (m ≡ l → ⊥) → f (close_late t l time) m ≡ f t m) where
  -- what closing another link keeps is kept where the links below n are closed, and n is not above m
  above : (s : Site) (n m : ℕ) → n ≤ m → f (closed_to s time n) m ≡ f s m
  above s zero m h = refl
  above s (suc n) m h = other (closed_to s time n) n m (λ e. omega arith) ∙ above s n m (omega arith)

-- the links below n being closed, n is late where it was
pub late_before : (s : Site) (time n : ℕ) → late_at (closed_to s time n) n time ≡ late_at s n time
late_before s time n = rw (above time link_at (λ t. other_link t time) s n n (omega arith)) refl
