-- Pools as runs leave them: two sites of four links at most, 64 of a link and 128 held, numbers that rise. Where one is full and an owner holds fewer
-- than 16, the fullest owner holds more than 16.
-- Assumes nothing.
use Rattle.basis.proofs.Std.{ℕ, zero, suc, ◌+◌, ◌*◌, ◌/◌, ◌%◌, ◌≤◌, ◌<◌, ◌≡◌, refl, ap, ap₂, Bool, true, List, [], ◌∷◌, ◌⊎◌, inl, inr, eqb, ltb, length, arith, ltb-true, ltb-false, lt-ltb, le-ltb, eq-eqb, ne_eqb, bit, pick, count, picked, lt_or_ge, eq_or_ne}
use Rattle.machine.specs.Words.{is_number}
use Rattle.machine.specs.State.{Setup, Content, Held, Share, Pool, own_of}
use Rattle.machine.specs.State.Content.{of_alarm, of_status, of_aggregated}
use Rattle.machine.specs.Pool.{is_for, holds, owner_of, held_by, fullest_below, fullest}
use Rattle.demand_held.specs.Crowded.{Crowded}
use Rattle.demand_held.proofs.Lists.{bit_true, bit_false, Each}
use Rattle.demand_held.proofs.Lists.Each.{no_more, one_more}

-- the numbers of a list rise, from a on and below b
pub data Rising (b : ℕ) : ℕ → List Held → Type 0 where
  ends : {a : ℕ} → a ≤ b → Rising b a []
  rises : {a : ℕ} {h : Held} {hs : List Held} → a ≤ h.sequence → Rising b (suc h.sequence) hs → Rising b a (h ∷ hs)

abbrev pub Below : ℕ → Held → Type 0
Below n h = h.link < n

-- an alarm's record is the primary's
abbrev pub fits : Setup → ℕ → Content → Bool
fits u l (of_alarm i a) = is_number l u.primary
fits u l (of_status i v old t) = true
fits u l (of_aggregated v t) = true

abbrev pub Fits : Setup → Held → Type 0
Fits u h = fits u h.link h.content ≡ true

-- what a site has in the pool, under numbers below b
pub record GoodShare (b : ℕ) (s : Share) : Type 0 where
  pub few : length s.lost ≤ 4
  pub links : Each (Below (length s.lost)) s.held
  pub most : (l : ℕ) → count (is_for l) s.held ≤ 64
  pub rising : Rising b 0 s.held

pub record Good (p : Pool) : Type 0 where
  pub own : GoodShare p.next (own_of p)
  pub above : ℕ
  pub other : GoodShare above p.beside
  pub all : length p.held + length p.beside.held ≤ 128
  pub site : p.site ≤ 1

-- what the links below n hold together
abbrev total : ℕ → List Held → ℕ
total zero hs = 0
total (suc n) hs = total n hs + count (is_for n) hs

total_none : (n : ℕ) → total n [] ≡ 0
total_none zero = refl
total_none (suc n) = omega (arith, total_none n)

total_cons : (n : ℕ) (h : Held) (hs : List Held) → total n (h ∷ hs) ≡ bit (ltb h.link n) + total n hs
total_cons zero h hs = omega (arith, bit_false (ltb h.link 0) (le-ltb h.link 0 (omega arith)))
total_cons (suc n) h hs = go (lt_or_ge h.link n) (eq_or_ne h.link n) (total_cons n h hs)
  where
    go : (h.link < n) ⊎ (n ≤ h.link) → (h.link ≡ n) ⊎ (h.link ≡ n → ⊥) → total n (h ∷ hs) ≡ bit (ltb h.link n) + total n hs
        → total (suc n) (h ∷ hs) ≡ bit (ltb h.link (suc n)) + total (suc n) hs
    go (inl a) (inl e) r = absurd (omega arith)
    go (inl a) (inr e) r =
        omega (arith, bit_true (ltb h.link n) (lt-ltb h.link n a), bit_true (ltb h.link (suc n)) (lt-ltb h.link (suc n) (omega arith)), bit_false (eqb h.link n) (ne_eqb h.link n e))
    go (inr a) (inl e) r =
        omega (arith, bit_false (ltb h.link n) (le-ltb h.link n a), bit_true (ltb h.link (suc n)) (lt-ltb h.link (suc n) (omega arith)), bit_true (eqb h.link n) (eq-eqb h.link n e))
    go (inr a) (inr e) r =
        omega (arith, bit_false (ltb h.link n) (le-ltb h.link n a), bit_false (ltb h.link (suc n)) (le-ltb h.link (suc n) (omega arith)), bit_false (eqb h.link n) (ne_eqb h.link n e))

every_one : {k : ℕ} (n : ℕ) → k ≤ n → (hs : List Held) → Each (Below k) hs → total n hs ≡ length hs
every_one n g [] no_more = total_none n
every_one n g (h ∷ hs) (one_more b r) =
    omega (arith, total_cons n h hs, bit_true (ltb h.link n) (lt-ltb h.link n (omega arith)), every_one n g hs r)

pub beyond : {n : ℕ} (l : ℕ) → n ≤ l → (hs : List Held) → Each (Below n) hs → count (is_for l) hs ≡ 0
beyond l f [] no_more = refl
beyond l f (h ∷ hs) (one_more b r) = omega (arith, bit_false (is_for l h) (ne_eqb h.link l (λ e. omega arith)), beyond l f hs r)

-- ---- the eight owners
-- what the owners below n hold together
abbrev together : Pool → ℕ → ℕ
together p zero = 0
together p (suc n) = together p n + held_by p n

at_most_lem : (p : Pool) (n : ℕ) → ((j : ℕ) → j < n → held_by p j ≤ 16) → together p n ≤ 16 * n
at_most_lem p zero h = omega arith
at_most_lem p (suc n) h = omega (arith, at_most_lem p n (λ j g. h j (omega arith)), h n (omega arith))

-- n owners of which none holds more than 16 and one fewer hold fewer than 16 n
fewer : (p : Pool) (n o : ℕ) → o < n → held_by p o < 16 → ((j : ℕ) → j < n → held_by p j ≤ 16) → together p n < 16 * n
fewer p zero o g f h = absurd (omega arith)
fewer p (suc n) o g f h = go (eq_or_ne o n) (fewer p n o)
  where
    go : (o ≡ n) ⊎ (o ≡ n → ⊥) → (o < n → held_by p o < 16 → ((j : ℕ) → j < n → held_by p j ≤ 16) → together p n < 16 * n) → together p (suc n) < 16 * suc n
    go (inl e) r = omega (arith, at_most_lem p n (λ j i. h j (omega arith)), ap (held_by p) e)
    go (inr e) r = omega (arith, r (omega arith) f (λ j i. h j (omega arith)), h n (omega arith))

all_eight : (p : Pool) → p.site ≤ 1 → together p 8 ≡ total 4 p.held + total 4 p.beside.held
all_eight p h = go p.site refl
  where
    go : (k : ℕ) → p.site ≡ k → together p 8 ≡ total 4 p.held + total 4 p.beside.held
    go zero e = rw e (omega arith)
    go (suc zero) e = rw e (omega arith)
    go (suc (suc k)) e = absurd (omega (arith, h))

pub own_held : (p : Pool) (l : ℕ) → l < 4 → held_by p (owner_of p.site l) ≡ holds p l
own_held p l h =
    let q : (4 * p.site + l) / 4 ≡ p.site = omega arith in
    let r : (4 * p.site + l) % 4 ≡ l = omega arith in
    ap₂ (λ (t : Bool) (k : ℕ). count (is_for k) (pick t p.held p.beside.held)) (eq-eqb ((4 * p.site + l) / 4) p.site q) r

most_below : (n : ℕ) (p : Pool) (l : ℕ) → l < n → held_by p l ≤ held_by p (fullest_below n p)
most_below zero p l h = absurd (omega arith)
most_below (suc n) p l h = go (lt_or_ge l n) (most_below n p l)
  where
    go : (l < n) ⊎ (n ≤ l) → (l < n → held_by p l ≤ held_by p (fullest_below n p)) → held_by p l ≤ held_by p (fullest_below (suc n) p)
    go (inl a) r =
        picked (λ (k : ℕ). held_by p l ≤ held_by p k) (ltb (held_by p (fullest_below n p)) (held_by p n)) n (fullest_below n p)
        (λ e. omega (arith, r a, ltb-true (held_by p (fullest_below n p)) (held_by p n) e))
        (λ e. r a)
    go (inr a) r =
        let same : l ≡ n = omega arith in
        rw same (picked (λ (k : ℕ). held_by p n ≤ held_by p k) (ltb (held_by p (fullest_below n p)) (held_by p n)) n (fullest_below n p)
        (λ e. omega arith)
        (λ e. ltb-false (held_by p (fullest_below n p)) (held_by p n) e))

module _ (p : Pool) (g : Good p) where
  shares : (o : ℕ) → o < 8 → held_by p o < 16 → 128 ≤ length p.held + length p.beside.held → ((j : ℕ) → j < 8 → held_by p j ≤ 16) → ⊥
  shares o h few full each =
      omega (
        arith,
        fewer p 8 o h few each,
        all_eight p g.site,
        every_one 4 g.own.few p.held g.own.links,
        every_one 4 g.other.few p.beside.held g.other.links,
      )

  owner_below : (l : ℕ) → l < length p.lost → owner_of p.site l < 8
  owner_below l h = omega (arith, g.site, g.own.few)

  owner_held : (l : ℕ) → l < length p.lost → held_by p (owner_of p.site l) ≡ holds p l
  owner_held l h = own_held p l (omega (arith, g.own.few))

  pub fullest_holds : (l : ℕ) → l < length p.lost → holds p l < 16 → 128 ≤ length p.held + length p.beside.held → 16 < held_by p (fullest p)
  fullest_holds l h few full = go (lt_or_ge 16 (held_by p (fullest p)))
    where
      go : (16 < held_by p (fullest p)) ⊎ (held_by p (fullest p) ≤ 16) → 16 < held_by p (fullest p)
      go (inl a) = a
      go (inr a) = absurd (shares (owner_of p.site l) (owner_below l h) (omega (arith, owner_held l h)) full (λ j k. omega (arith, most_below 8 p j k)))

  pub not_crowded : (l : ℕ) → Crowded p l → ⊥
  not_crowded l c = shares (owner_of p.site l) (owner_below l c.link) (omega (arith, owner_held l c.link, c.few)) c.full (λ j h. each j h (eq_or_ne j (owner_of p.site l)))
    where
      each : (j : ℕ) → j < 8 → (j ≡ owner_of p.site l) ⊎ (j ≡ owner_of p.site l → ⊥) → held_by p j ≤ 16
      each j h (inl e) = rw e (omega (arith, owner_held l c.link, c.few))
      each j h (inr e) = c.others j h e
