-- A link's life in the machine's list of lives, where one is set or all of some are closed.
-- Assumes nothing.
use Rattle.basis.proofs.Std.{ℕ, zero, suc, ◌≡◌, refl, sym, ◌∙◌, ap, true, false, List, [], ◌∷◌, eqb, get_or, replicate, eqb-true, eqb-false, ne_eqb, bool_cases, not_both}
use Rattle.machine.specs.Words.{any, changed}
use Rattle.machine.specs.State.{Life, fresh, Machine, life_at}
use Rattle.machine.specs.Life.{close, close_all}
use Rattle.demand_told.proofs.Tests.{neither}

module _ {A : Type 0} (d : A) where
  -- what is set stands there, or the list ends before
  pub set_there : (P : A → Type 0) (l : ℕ) (x : A) (xs : List A) → P x → P d → P (get_or (changed l (λ y. x) xs) l d)
  set_there P l x [] p q = q
  set_there P zero x (y ∷ xs) p q = p
  set_there P (suc l) x (y ∷ xs) p q = set_there P l x xs p q

  pub set_other : (k l : ℕ) (x : A) (xs : List A) → (k ≡ l → ⊥) → get_or (changed k (λ y. x) xs) l d ≡ get_or xs l d
  set_other k l x [] n = refl
  set_other zero zero x (y ∷ xs) n = absurd (n refl)
  set_other zero (suc l) x (y ∷ xs) n = refl
  set_other (suc k) zero x (y ∷ xs) n = refl
  set_other (suc k) (suc l) x (y ∷ xs) n = set_other k l x xs (λ e. n (ap suc e))

  pub all_same : (P : A → Type 0) (n l : ℕ) → P d → P (get_or (replicate n d) l d)
  all_same P zero l p = p
  all_same P (suc n) zero p = p
  all_same P (suc n) (suc l) p = all_same P n l p

pub not_named : (k l : ℕ) → (k ≡ l → ⊥) → any (eqb l) (k ∷ []) ≡ false
not_named k l n = rw (ne_eqb l k (λ e. n (sym e)))

pub apart_from : (k l : ℕ) → eqb l k ≡ false → k ≡ l → ⊥
apart_from k l e f = eqb-false l k e (sym f)

-- ---- closing
pub closed_there : (P : Life → Type 0) (l : ℕ) (m : Machine) → P (fresh false) → P (life_at (close l m) l)
unfolding close
closed_there P l m p = set_there (fresh false) P l (fresh false) m.lives p p

pub closed_other : (k l : ℕ) (m : Machine) → (k ≡ l → ⊥) → life_at (close k m) l ≡ life_at m l
unfolding close
closed_other k l m n = set_other (fresh false) k l (fresh false) m.lives n

pub all_other : (l : ℕ) (ks : List ℕ) (m : Machine) → any (eqb l) ks ≡ false → life_at (close_all ks m) l ≡ life_at m l
all_other l [] m e = refl
all_other l (k ∷ ks) m e =
    let n : (eqb l k ≡ false) × (any (eqb l) ks ≡ false) = neither (eqb l k) (any (eqb l) ks) e in
    all_other l ks (close k m) n.1 ∙ closed_other k l m (apart_from k l n.0)

pub all_there : (P : Life → Type 0) (l : ℕ) (ks : List ℕ) (m : Machine) → any (eqb l) ks ≡ true → P (fresh false) → P (life_at (close_all ks m) l)
all_there P l [] m e p = not_both e refl
all_there P l (k ∷ ks) m e p =
    bool_cases (any (eqb l) ks)
    (λ f. all_there P l ks (close k m) f p)
    (λ f. rw (all_other l ks (close k m) f) (first f))
  where
    named : any (eqb l) ks ≡ false → eqb l k ≡ true
    named f = bool_cases (eqb l k) (λ g. g) (λ g. not_both e (rw (g, f)))

    first : any (eqb l) ks ≡ false → P (life_at (close k m) l)
    first f = let same : l ≡ k = eqb-true l k (named f) in rw same (closed_there P k m p)
