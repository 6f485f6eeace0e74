-- What each call does to the pool before it issues: nothing but marks, unless it is the answer that settles a record. And for which links it
-- issues.
-- Assumes nothing.
use Rattle.basis.proofs.Std.{ℕ, ◌≤◌, ◌≡◌, refl, sym, ◌∙◌, ap, Bool, true, false, not, map, ◌⊎◌, inl, inr, eqb, length, arith, eqb-true, ne_eqb, both, count, Among, eq_or_ne}
use Rattle.machine.specs.State.{Issued, Held, Pool, Setup, Machine, with_held}
use Rattle.machine.specs.Pool.{is_for, holds, settled}
use Rattle.demand_held.specs.Held.{IsHeld}
use Rattle.demand_held.specs.Held.IsHeld.{held}
use Rattle.demand_held.proofs.Lists.{Each, each_map, each_keep, among_map, among_mapped, among_keep, among_kept, count_map, count_keep, count_kept, length-map, length_keep}
use Rattle.demand_held.proofs.Good.{Good, Fits}
use Rattle.demand_held.proofs.Rising.{rising_map, rising_keep}

-- what a call leaves before it issues; E ends a record otherwise
pub record Ended (E : ℕ → ℕ → Type 0) (l : ℕ) : Type 0 where
  pub number : ℕ
  pub ends : E l number

pub record Frame (E : ℕ → ℕ → Type 0) (m k : Machine) : Type 0 where
  pub setup : k.setup ≡ m.setup
  pub next : k.pool.next ≡ m.pool.next
  pub lost : k.pool.lost ≡ m.pool.lost
  pub site : k.pool.site ≡ m.pool.site
  pub beside : k.pool.beside ≡ m.pool.beside
  pub good : Good m.pool → Good k.pool
  pub every : (u : Setup) → Each (Fits u) m.pool.held → Each (Fits u) k.pool.held
  pub spared : (r : Issued) (n : ℕ) → IsHeld r n m.pool.held → IsHeld r n k.pool.held ⊎ E r.link n
  pub origin : (r : Issued) (n : ℕ) → IsHeld r n k.pool.held → IsHeld r n m.pool.held
  pub fewer : (l : ℕ) → holds k.pool l ≤ holds m.pool l
  pub shorter : length k.pool.held ≤ length m.pool.held
  pub as_many : (l : ℕ) → (holds k.pool l ≡ holds m.pool l) ⊎ Ended E l

-- the pool is the same
pub still : {E : ℕ → ℕ → Type 0} {m : Machine} (k : Machine) → k.setup ≡ m.setup → k.pool ≡ m.pool → Frame E m k
still k s e =
    record {
      setup = s;
      next = ap (λ (p : Pool). p.next) e;
      lost = ap (λ (p : Pool). p.lost) e;
      site = ap (λ (p : Pool). p.site) e;
      beside = ap (λ (p : Pool). p.beside) e;
      good = λ g. rw e g;
      every = λ u h. rw e h;
      spared = λ r n h. inl (rw e h);
      origin = λ r n h. rw e at h;
      fewer = λ l. rw e (omega arith);
      shorter = rw e (omega arith);
      as_many = λ l. inl (rw e);
    }

pub then : {E : ℕ → ℕ → Type 0} {m k j : Machine} → Frame E m k → Frame (λ l n. ⊥) k j → Frame E m j
then {E} {m} {k} {j} a b =
    record {
      setup = b.setup ∙ a.setup;
      next = b.next ∙ a.next;
      lost = b.lost ∙ a.lost;
      site = b.site ∙ a.site;
      beside = b.beside ∙ a.beside;
      good = λ g. b.good (a.good g);
      every = λ u h. b.every u (a.every u h);
      spared = λ r n h. go r n (a.spared r n h);
      origin = λ r n h. a.origin r n (b.origin r n h);
      fewer = λ l. omega (arith, a.fewer l, b.fewer l);
      shorter = omega (arith, a.shorter, b.shorter);
      as_many = λ l. many l (a.as_many l) (b.as_many l);
    }
  where
    on : (r : Issued) (n : ℕ) → IsHeld r n j.pool.held ⊎ ⊥ → IsHeld r n j.pool.held ⊎ E r.link n
    on r n (inl h) = inl h
    on r n (inr e) = absurd e

    many : (l : ℕ) → (holds k.pool l ≡ holds m.pool l) ⊎ Ended E l → (holds j.pool l ≡ holds k.pool l) ⊎ Ended (λ l n. ⊥) l
        → (holds j.pool l ≡ holds m.pool l) ⊎ Ended E l
    many l (inl p) (inl q) = inl (q ∙ p)
    many l (inr x) q = inr x
    many l (inl p) (inr y) = absurd y.ends

    go : (r : Issued) (n : ℕ) → IsHeld r n k.pool.held ⊎ E r.link n → IsHeld r n j.pool.held ⊎ E r.link n
    go r n (inl h) = on r n (b.spared r n h)
    go r n (inr e) = inr e

-- marks are changed alone
module _ {E : ℕ → ℕ → Type 0} (m : Machine) (g : Held → Held) (same_link : (h : Held) → (g h).link ≡ h.link) (same-content : (h : Held) → (g h).content ≡ h.content) (same_number : (h : Held) → (g h).sequence ≡ h.sequence) where
  pub marks : Frame E m (with_held (map g m.pool.held) m)
  marks =
      record {
        setup = refl;
        next = refl;
        lost = refl;
        site = refl;
        beside = refl;
        good = λ p. record {
          own = record {
            few = p.own.few;
            links = each_map g (λ h b. rw (same_link h) b) p.own.links;
            most = λ l. omega (arith, p.own.most l, as_before l);
            rising = rising_map g same_number p.own.rising;
          };
          above = p.above;
          other = p.other;
          all = omega (arith, p.all, length-map g m.pool.held);
          site = p.site;
        };
        every = λ u h. each_map g (λ x f. rw (same_link x, same-content x) f) h;
        spared = λ r n h. inl (again r n h);
        origin = unmarked;
        fewer = λ l. omega (arith, as_before l);
        shorter = omega (arith, length-map g m.pool.held);
        as_many = λ l. inl (as_before l);
      }
    where
      as_before : (l : ℕ) → count (is_for l) (map g m.pool.held) ≡ holds m.pool l
      as_before l = count_map (is_for l) (is_for l) g (λ h. ap (λ (k : ℕ). eqb k l) (same_link h)) m.pool.held

      again : (r : Issued) (n : ℕ) → IsHeld r n m.pool.held → IsHeld r n (map g m.pool.held)
      again r n (held {h} a e c f) = held (among_map g a) (same_link h ∙ e) (same-content h ∙ c) (same_number h ∙ f)

      unmarked : (r : Issued) (n : ℕ) → IsHeld r n (map g m.pool.held) → IsHeld r n m.pool.held
      unmarked r n (held {h} a e c f) =
          let x = among_mapped g m.pool.held a in
          held x.among (sym (same_link x.of) ∙ ap (λ (y : Held). y.link) x.is ∙ e) (sym (same-content x.of) ∙ ap (λ (y : Held). y.content) x.is ∙ c)
          (sym (same_number x.of) ∙ ap (λ (y : Held). y.sequence) x.is ∙ f)

-- a record is settled
module _ {E : ℕ → ℕ → Type 0} (m : Machine) (k i : ℕ) (ends : E k i) where
  pub settles : Frame E m (with_held (settled k i m.pool.held) m)
  settles =
      record {
        setup = refl;
        next = refl;
        lost = refl;
        site = refl;
        beside = refl;
        good = λ p. record {
          own = record {
            few = p.own.few;
            links = each_keep other p.own.links;
            most = λ l. omega (arith, p.own.most l, count_keep other (is_for l) m.pool.held);
            rising = rising_keep other p.own.rising;
          };
          above = p.above;
          other = p.other;
          all = omega (arith, p.all, length_keep other m.pool.held);
          site = p.site;
        };
        every = λ u h. each_keep other h;
        spared = keeps;
        origin = λ r n h. was r n h;
        fewer = λ l. count_keep other (is_for l) m.pool.held;
        shorter = length_keep other m.pool.held;
        as_many = λ l. by_link l (eq_or_ne k l);
      }
    where
      other : Held → Bool
      other h = not (both (is_for k h) (eqb h.sequence i))

      was : (r : Issued) (n : ℕ) → IsHeld r n (settled k i m.pool.held) → IsHeld r n m.pool.held
      was r n (held a e c f) = held (among_kept other m.pool.held a) e c f

      not_its : (l : ℕ) → (k ≡ l → ⊥) → (h : Held) → is_for l h ≡ true → other h ≡ true
      not_its l n h t = rw (ne_eqb h.link k (λ e. n (sym e ∙ eqb-true h.link l t)))

      by_link : (l : ℕ) → (k ≡ l) ⊎ (k ≡ l → ⊥) → (holds (with_held (settled k i m.pool.held) m).pool l ≡ holds m.pool l) ⊎ Ended E l
      by_link l (inl e) = inr (record { number = i; ends = rw (← e) ends })
      by_link l (inr n) = inl (count_kept other (is_for l) (not_its l n) m.pool.held)

      by : (r : Issued) (n : ℕ) (h : Held) → Among h m.pool.held → h.link ≡ r.link → h.content ≡ r.content → h.sequence ≡ n
          → (x y : Bool) → eqb h.link k ≡ x → eqb h.sequence i ≡ y → IsHeld r n (settled k i m.pool.held) ⊎ E r.link n
      by r n h a e c f true true p q = inr (rw (← e, ← f, eqb-true h.link k p, eqb-true h.sequence i q) ends)
      by r n h a e c f true false p q = inl (held (among_keep other (rw (p, q)) a) e c f)
      by r n h a e c f false y p q = inl (held (among_keep other (rw p) a) e c f)

      keeps : (r : Issued) (n : ℕ) → IsHeld r n m.pool.held → IsHeld r n (settled k i m.pool.held) ⊎ E r.link n
      keeps r n (held {h} a e c f) = by r n h a e c f (eqb h.link k) (eqb h.sequence i) refl refl
