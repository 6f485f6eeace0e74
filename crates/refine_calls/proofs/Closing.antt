-- The links that a tick closes are the machine's, and so is what is left of them.
-- Assumes nothing.
use Rattle.basis.proofs.Std.{ℕ, zero, suc, ◌+◌, ◌-◌, ◌≤◌, ◌<◌, ◌≡◌, refl, sym, ap, ap₂, ◌∙◌, subst, Bool, true, false, List, [], ◌∷◌, ◌++◌, ◌⊎◌, inl, inr, arith, length, get_or, pick, lt_or_ge, not_both}
use Rattle.site.specs.declared.Site.{Site}
use Rattle.site.specs.Site.{link_at, close_at, mask_of}
use Rattle.call_tick.specs.Closing.{late_at, close_late, closed_to, late_mask, mask_to}
use Rattle.machine.specs.Words.{keep, up_to}
use Rattle.machine.specs.State.{Setup, Life, fresh, Machine, life_at}
use Rattle.machine.specs.Life.{close, close_all, is_late}
use Rattle.machine.specs.Effects.{late}
use Rattle.demand_held.proofs.Lists.{Each, each_keep, each_below}
use Rattle.demand_held.proofs.Lists.Each.{no_more, one_more}
use Rattle.refine_parts.specs.Same.{Beside}
use Rattle.refine_parts.proofs.Questions.{questions}
use Rattle.refine_parts.proofs.ItemLists.{get_d_changed_other, append-nil}
use Rattle.refine_calls.specs.Abstracts.{Abstracts}
use Rattle.refine_calls.specs.Calls.{mask_for}
use Rattle.refine_calls.proofs.Parts.{closed}

-- ---- lists
keep_last : {A : Type 0} (f : A → Bool) (xs : List A) (y : A) → keep f (xs ++ (y ∷ [])) ≡ keep f xs ++ pick (f y) (y ∷ []) []
keep_last f [] y = refl
keep_last {A} f (x ∷ xs) y = by (f x) (keep_last f xs y)
  where
    by : (b : Bool) → keep f (xs ++ (y ∷ [])) ≡ keep f xs ++ pick (f y) (y ∷ []) []
        → pick b (x ∷ keep f (xs ++ (y ∷ []))) (keep f (xs ++ (y ∷ []))) ≡ pick b (x ∷ keep f xs) (keep f xs) ++ pick (f y) (y ∷ []) []
    by true e = ap (λ (l : List A). x ∷ l) e
    by false e = e

-- none beyond n passes
keep_beyond : (f : ℕ → Bool) (n k : ℕ) → ((i : ℕ) → n ≤ i → f i ≡ false) → keep f (up_to (n + k)) ≡ keep f (up_to n)
keep_beyond f n zero h = let e : n + 0 ≡ n = omega arith in rw e
keep_beyond f n (suc k) h =
    let e : n + suc k ≡ suc (n + k) = omega arith in
    rw e (keep_last f (up_to (n + k)) (n + k) ∙ rw (h (n + k) (omega arith)) (append-nil (keep f (up_to (n + k))) ∙ keep_beyond f n k h))

mask_last : (xs ys : List ℕ) → mask_for (xs ++ ys) ≡ mask_for xs + mask_for ys
mask_last [] ys = omega arith
mask_last (x ∷ xs) ys = let e : mask_for (xs ++ ys) ≡ mask_for xs + mask_for ys = mask_last xs ys in omega (arith, e)

-- ---- closing one behind the other
close_more : (xs ys : List ℕ) (m : Machine) → close_all (xs ++ ys) m ≡ close_all ys (close_all xs m)
close_more [] ys m = refl
close_more (x ∷ xs) ys m = close_more xs ys (close x m)

close_setup : (l : ℕ) (m : Machine) → (close l m).setup ≡ m.setup
unfolding close
close_setup l m = refl

pub all_setup : (ls : List ℕ) (m : Machine) → (close_all ls m).setup ≡ m.setup
all_setup [] m = refl
all_setup (l ∷ ls) m = all_setup ls (close l m) ∙ close_setup l m

close_other : (l j : ℕ) (m : Machine) → (j ≡ l → ⊥) → life_at (close l m) j ≡ life_at m j
unfolding close
close_other l j m n = get_d_changed_other (λ (y : Life). fresh false) (fresh false) m.lives l j n

all_below : (j : ℕ) (ls : List ℕ) (m : Machine) → Each (λ (l : ℕ). l < j) ls → life_at (close_all ls m) j ≡ life_at m j
all_below j [] m no_more = refl
all_below j (l ∷ ls) m (one_more p r) = all_below j ls (close l m) r ∙ close_other l j m (λ e. omega (arith, e, p))

get_d_past : {A : Type 0} (xs : List A) (i : ℕ) (d : A) → length xs ≤ i → get_or xs i d ≡ d
get_d_past [] i d h = refl
get_d_past (x ∷ xs) zero d h = absurd (omega arith)
get_d_past (x ∷ xs) (suc i) d h = get_d_past xs i d (omega arith)

module _ {beside : Beside} (s : Site) (m : Machine) (h : Abstracts beside s m) (t : ℕ) where
  abbrev is_closed : ℕ → Bool
  is_closed l = is_late t (life_at m l)

  same_late : (l : ℕ) → late_at s l t ≡ is_closed l
  same_late l = (questions.waits (link_at s l) (life_at m l) (h.lives l)).late t

  -- no link beyond the configured ones
  none_beyond : (l : ℕ) → m.setup.links ≤ l → is_closed l ≡ false
  none_beyond l b = ap (is_late t) (get_d_past m.lives l (fresh false) (omega (arith, h.life_count, b)))

  configured : (l : ℕ) → is_closed l ≡ true → l < m.setup.links
  configured l e = by (lt_or_ge l m.setup.links)
    where
      by : (l < m.setup.links) ⊎ (m.setup.links ≤ l) → l < m.setup.links
      by (inl b) = b
      by (inr b) = not_both e (none_beyond l b)

  abbrev closed_below : ℕ → Machine
  closed_below n = close_all (keep is_closed (up_to n)) m

  -- one more link
  module _ (n : ℕ) (before : Abstracts beside (closed_to s t n) (closed_below n)) where
    late_now : late_at (closed_to s t n) n t ≡ is_closed n
    late_now =
        (questions.waits (link_at (closed_to s t n) n) (life_at (closed_below n) n) (before.lives n)).late t
        ∙ ap (is_late t) (all_below n (keep is_closed (up_to n)) m (each_keep is_closed (each_below n)))

    closed_if : (b : Bool) → is_closed n ≡ b → Abstracts beside (pick b (close_at (closed_to s t n) n) (closed_to s t n)) (close_all (pick b (n ∷ []) []) (closed_below n))
    closed_if true e =
        closed (closed_to s t n) (closed_below n) before n
        (subst (λ (u : Setup). n < u.links) (sym (all_setup (keep is_closed (up_to n)) m)) (configured n e))
    closed_if false e = before

    now_closed : closed_below (suc n) ≡ close_all (pick (is_closed n) (n ∷ []) []) (closed_below n)
    now_closed =
        ap (λ (ls : List ℕ). close_all ls m) (keep_last is_closed (up_to n) n)
        ∙ close_more (keep is_closed (up_to n)) (pick (is_closed n) (n ∷ []) []) m

    one_closed : Abstracts beside (close_late (closed_to s t n) n t) (closed_below (suc n))
    unfolding close_late
    one_closed =
        subst (λ (k : Machine). Abstracts beside (pick (late_at (closed_to s t n) n t) (close_at (closed_to s t n) n) (closed_to s t n)) k) (sym now_closed)
        (subst (λ (b : Bool). Abstracts beside (pick b (close_at (closed_to s t n) n) (closed_to s t n)) (close_all (pick (is_closed n) (n ∷ []) []) (closed_below n)))
        (sym late_now) (closed_if (is_closed n) refl))

  closed_below_lem : (n : ℕ) → Abstracts beside (closed_to s t n) (closed_below n)
  closed_below_lem zero = h
  closed_below_lem (suc n) = one_closed n (closed_below_lem n)

  -- the site has four links, the machine those that are configured
  late_of_four : keep is_closed (up_to 4) ≡ late t m
  late_of_four =
      let e : m.setup.links + (4 - m.setup.links) ≡ 4 = omega (arith, h.items.setup.few) in
      subst (λ (n : ℕ). keep is_closed (up_to n) ≡ late t m) e (keep_beyond is_closed m.setup.links (4 - m.setup.links) none_beyond)

  pub all_closed : Abstracts beside (closed_to s t 4) (close_all (late t m) m)
  all_closed = subst (λ (ls : List ℕ). Abstracts beside (closed_to s t 4) (close_all ls m)) late_of_four (closed_below_lem 4)

  -- ---- the links closed, as a report has them
  mask_if : (n : ℕ) (b : Bool) → pick b (mask_of n) 0 ≡ mask_for (pick b (n ∷ []) [])
  mask_if n true = omega arith
  mask_if n false = refl

  mask_below : (n : ℕ) → mask_to s t n ≡ mask_for (keep is_closed (up_to n))
  unfolding late_mask
  mask_below zero = refl
  mask_below (suc n) =
      ap₂ (λ (a b : ℕ). a + b) (mask_below n) (ap (λ (b : Bool). pick b (mask_of n) 0) (same_late n) ∙ mask_if n (is_closed n))
      ∙ sym (ap mask_for (keep_last is_closed (up_to n) n) ∙ mask_last (keep is_closed (up_to n)) (pick (is_closed n) (n ∷ []) []))

  pub same_mask : mask_to s t 4 ≡ mask_for (late t m)
  same_mask = mask_below 4 ∙ ap mask_for late_of_four
