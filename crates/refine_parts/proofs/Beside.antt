-- The other site of a box: what one leaves in the pool it finds, and a site that begins beside it.
-- Assumes nothing.
use Rattle.basis.proofs.Std.{ℕ, zero, suc, ◌+◌, ◌*◌, ◌/◌, ◌%◌, ◌≤◌, ◌<◌, ◌≡◌, refl, sym, ◌∙◌, ap, ap₂, subst, Bool, true, false, List, [], map, ◌⊎◌, inl, inr, eqb, leb, length, get_or, replicate, length-replicate, arith, lt-leb, eq-eqb, ne_eqb, eqb-true, eqb-false, pick, eq_or_ne}
use Rattle.pool.specs.declared.Place.{Place}
use Rattle.pool.specs.declared.Pool.{Pool}
use Rattle.pool.specs.Pool.{empty_of, clear_of, lost_of}
use Rattle.pool_laws.specs.Acts.{renewed}
use Rattle.pool_laws.specs.Promises.{Reached}
use Rattle.pool_laws.specs.Promises.Reached.{empty, later, anew}
use Rattle.pool_laws.specs.View.{records}
use Rattle.pool_laws.proofs.Viewed.{viewed}
use Rattle.machine.specs.Words.{keep}
use Rattle.machine.specs.State.{Held, Share, no_share, Pool as Listed, shared_pool, pool_of, own_of}
use Rattle.machine.specs.Pool.{is_for, is_own}
use Rattle.demand_held.proofs.Lists.Each.{no_more}
use Rattle.demand_held.proofs.Good.{GoodShare}
use Rattle.demand_held.proofs.Good.Rising.{ends}
use Rattle.refine_parts.specs.Record.{place_for}
use Rattle.refine_parts.specs.Same.{Beside, beside_of, nobody, next_for, SamePool}
use Rattle.refine_parts.specs.Claims.{Rest, cleared_of, Mirrors, SameBeside}
use Rattle.refine_parts.proofs.Owners.{both_bounds, next_bound, seen_from, other_next}

nothing_lost : (n l : ℕ) → ◌≡◌ {A = ℕ} (get_or (replicate n 0) l 0) 0
nothing_lost zero l = refl
nothing_lost (suc n) zero = refl
nothing_lost (suc n) (suc l) = nothing_lost n l

nothing_held : (b n : ℕ) → n ≤ 4 → GoodShare b (record { held = []; lost = replicate n 0 })
nothing_held b n h =
    record {
      few = omega (arith, length-replicate {A = ℕ} n 0);
      links = no_more;
      most = λ l. omega arith;
      rising = ends {a = 0} (omega arith);
    }

-- ---- the other's share
nobody_there : (k : ℕ) → Rest k nobody (empty_of 8) no_share
nobody_there k =
    record {
      held = λ o h d. (viewed 8 (omega arith)).start o;
      told = no_more;
      lost = λ o h d. (viewed 8 (omega arith)).start_lost o;
      configured = refl;
      good = nothing_held 0 0 (omega arith);
      all = omega arith;
      own = 0;
      reached = empty (next_bound k 0 0 (omega arith) (omega arith));
    }

rest_of : {links k q : ℕ} {x : Beside} {p : Pool} {m : Listed} → SamePool links x k p q m → Rest k x p m.beside
rest_of {k = k} {q = q} {m = m} same =
    record {
      held = λ o h d. same.held o h ∙ ap (λ (t : Bool). map (place_for o) (keep (is_for (o % 4)) (pick t m.held m.beside.held))) (other o d);
      told = same.told_beside;
      lost = λ o h d. same.lost o h ∙ ap (λ (t : Bool). get_or (pick t m.lost m.beside.lost) (o % 4) 0) (other o d);
      configured = same.configured_beside;
      good = same.beside;
      all = omega (arith, same.good.all);
      own = q;
      reached = same.reached;
    }
  where
    other : (o : ℕ) → (o / 4 ≡ k → ⊥) → is_own m o ≡ false
    other o d = ne_eqb (o / 4) m.site (λ e. d (e ∙ same.site))

-- ---- four owners begin anew
module _ {A : Type 0} (k o : ℕ) (z v : A) where
  four : pick (eqb (4 * k + 3) o) z (pick (eqb (4 * k + 2) o) z (pick (eqb (4 * k + 1) o) z (pick (eqb (4 * k) o) z v))) ≡ pick (eqb (o / 4) k) z v
  four = go (eq_or_ne (o / 4) k)
    where
      one_of : (a : Bool) → eqb (4 * k) o ≡ a → (b : Bool) → eqb (4 * k + 1) o ≡ b → (c : Bool) → eqb (4 * k + 2) o ≡ c → (d : Bool) → eqb (4 * k + 3) o ≡ d → o / 4 ≡ k
          → pick d z (pick c z (pick b z (pick a z v))) ≡ z
      one_of a e b f c g true h s = refl
      one_of a e b f true g false h s = refl
      one_of a e true f false g false h s = refl
      one_of true e false f false g false h s = refl
      one_of false e false f false g false h s =
          let u = eqb-false (4 * k) o e in
          let v = eqb-false (4 * k + 1) o f in
          let w = eqb-false (4 * k + 2) o g in
          let y = eqb-false (4 * k + 3) o h in
          absurd (none_left k o s u v w y)
        where
          none_left : (k o : ℕ) → o / 4 ≡ k → (4 * k ≡ o → ⊥) → (4 * k + 1 ≡ o → ⊥) → (4 * k + 2 ≡ o → ⊥) → (4 * k + 3 ≡ o → ⊥) → ⊥
          none_left k o s u v w y = omega arith

      go : (o / 4 ≡ k) ⊎ (o / 4 ≡ k → ⊥)
          → pick (eqb (4 * k + 3) o) z (pick (eqb (4 * k + 2) o) z (pick (eqb (4 * k + 1) o) z (pick (eqb (4 * k) o) z v))) ≡ pick (eqb (o / 4) k) z v
      go (inl e) =
          one_of (eqb (4 * k) o) refl (eqb (4 * k + 1) o) refl (eqb (4 * k + 2) o) refl (eqb (4 * k + 3) o) refl e
          ∙ ap (λ (t : Bool). pick t z v) (sym (eq-eqb (o / 4) k e))
      go (inr d) =
          rw (
            ne_eqb (4 * k) o (λ e. d (omega arith)),
            ne_eqb (4 * k + 1) o (λ e. d (omega arith)),
            ne_eqb (4 * k + 2) o (λ e. d (omega arith)),
            ne_eqb (4 * k + 3) o (λ e. d (omega arith)),
            ne_eqb (o / 4) k d,
          )

module _ (k : ℕ) (p : Pool) where
  abbrev once : Pool
  once = clear_of p (4 * k)

  abbrev twice : Pool
  twice = clear_of once (4 * k + 1)

  abbrev thrice : Pool
  thrice = clear_of twice (4 * k + 2)

  cleared_records : (o : ℕ) → records (cleared_of k p) o ≡ pick (eqb (o / 4) k) [] (records p o)
  cleared_records o =
      (viewed 8 (omega arith)).clear thrice (4 * k + 3) o
      ∙ ap (λ (r : List Place). pick (eqb (4 * k + 3) o) [] r) ((viewed 8 (omega arith)).clear twice (4 * k + 2) o)
      ∙ ap (λ (r : List Place). pick (eqb (4 * k + 3) o) [] (pick (eqb (4 * k + 2) o) [] r)) ((viewed 8 (omega arith)).clear once (4 * k + 1) o)
      ∙ ap (λ (r : List Place). pick (eqb (4 * k + 3) o) [] (pick (eqb (4 * k + 2) o) [] (pick (eqb (4 * k + 1) o) [] r))) ((viewed 8 (omega arith)).clear p (4 * k) o)
      ∙ four k o [] (records p o)

  cleared_lost : (o : ℕ) → lost_of (cleared_of k p) o ≡ pick (eqb (o / 4) k) 0 (lost_of p o)
  cleared_lost o =
      (viewed 8 (omega arith)).clear_lost thrice (4 * k + 3) o
      ∙ ap (λ (n : ℕ). pick (eqb (4 * k + 3) o) 0 n) ((viewed 8 (omega arith)).clear_lost twice (4 * k + 2) o)
      ∙ ap (λ (n : ℕ). pick (eqb (4 * k + 3) o) 0 (pick (eqb (4 * k + 2) o) 0 n)) ((viewed 8 (omega arith)).clear_lost once (4 * k + 1) o)
      ∙ ap (λ (n : ℕ). pick (eqb (4 * k + 3) o) 0 (pick (eqb (4 * k + 2) o) 0 (pick (eqb (4 * k + 1) o) 0 n))) ((viewed 8 (omega arith)).clear_lost p (4 * k) o)
      ∙ four k o 0 (lost_of p o)

  cleared_reached : (own other first : ℕ) → k ≤ 1 → Reached 8 p (next_for k own other) → first ≤ 2147483648 → Reached 8 (cleared_of k p) (next_for k first other)
  cleared_reached own other first h r f =
      later (next_for k first other) (anew (4 * k + 3) first (anew (4 * k + 2) first (anew (4 * k + 1) first (anew (4 * k) first r f) f) f) f) most
      (next_bound k first other f (both_bounds h r).1)
    where
      renewed_all : ℕ → ℕ
      renewed_all = renewed (renewed (renewed (renewed (next_for k own other) (4 * k) first) (4 * k + 1) first) (4 * k + 2) first) (4 * k + 3) first

      below : (o : ℕ) (t : Bool) → eqb (o / 4) k ≡ t → pick t first (pick (leb 8 o) 0 (pick t own other)) ≤ pick (leb 8 o) 0 (pick t first other)
      below o true e = let s : o < 8 = omega (arith, eqb-true (o / 4) k e) in rw (lt-leb 8 o s) (omega arith)
      below o false e = omega arith

      most : (o : ℕ) → renewed_all o ≤ next_for k first other o
      most o = omega (arith, four k o first (next_for k own other o), below o (eqb (o / 4) k) refl)

-- ---- a site begins
module _ {k : ℕ} {x : Beside} {p : Pool} {s : Share} (rest : Rest k x p s) (below : k ≤ 1) (links first : ℕ) (few : links ≤ 4) (small : first ≤ 2147483647) where
  begins_held : (o : ℕ) → o < 8 → records (cleared_of k p) o ≡ map (place_for o) (keep (is_for (o % 4)) (pick (eqb (o / 4) k) [] s.held))
  begins_held o h = cleared_records k p o ∙ go (eqb (o / 4) k) refl
    where
      go : (t : Bool) → eqb (o / 4) k ≡ t → pick t [] (records p o) ≡ map (place_for o) (keep (is_for (o % 4)) (pick t [] s.held))
      go true e = refl
      go false e = rest.held o h (eqb-false (o / 4) k e)

  begins_lost : (o : ℕ) → o < 8 → lost_of (cleared_of k p) o ≡ get_or (pick (eqb (o / 4) k) (replicate links 0) s.lost) (o % 4) 0
  begins_lost o h = cleared_lost k p o ∙ go (eqb (o / 4) k) refl
    where
      go : (t : Bool) → eqb (o / 4) k ≡ t → pick t 0 (lost_of p o) ≡ get_or (pick t (replicate links 0) s.lost) (o % 4) 0
      go true e = sym (nothing_lost links (o % 4))
      go false e = rest.lost o h (eqb-false (o / 4) k e)

  begins_beside : SamePool links x k (cleared_of k p) first (shared_pool k first [] (replicate links 0) s)
  begins_beside =
      record {
        site = refl;
        next = refl;
        held = begins_held;
        told = no_more;
        told_beside = rest.told;
        lost = begins_lost;
        configured = length-replicate links 0;
        configured_beside = rest.configured;
        few = few;
        reached = cleared_reached k p rest.own x.next first below rest.reached (omega arith);
        good = record { own = nothing_held first links few; above = x.next; other = rest.good; all = omega (arith, rest.all); site = below };
        beside = rest.good;
      }

begins_alone : (links first : ℕ) → links ≤ 4 → first ≤ 2147483647 → SamePool links nobody 0 (empty_of 8) first (pool_of first [] (replicate links 0))
begins_alone links first few small =
    record {
      site = refl;
      next = refl;
      held = λ o h. (viewed 8 (omega arith)).start o ∙ ap (λ (hs : List Held). map (place_for o) (keep (is_for (o % 4)) hs)) (sym (neither (eqb (o / 4) 0)));
      told = no_more;
      told_beside = no_more;
      lost = λ o h. (viewed 8 (omega arith)).start_lost o ∙ sym (none_lost (eqb (o / 4) 0) (o % 4));
      configured = length-replicate links 0;
      configured_beside = refl;
      few = few;
      reached = empty (next_bound 0 first 0 (omega arith) (omega arith));
      good = record { own = nothing_held first links few; above = 0; other = nothing_held 0 0 (omega arith); all = omega arith; site = omega arith };
      beside = nothing_held 0 0 (omega arith);
    }
  where
    neither : (t : Bool) → ◌≡◌ {A = List Held} (pick t [] []) []
    neither true = refl
    neither false = refl

    none_lost : (t : Bool) (l : ℕ) → ◌≡◌ {A = ℕ} (get_or (pick t (replicate links 0) []) l 0) 0
    none_lost true l = nothing_lost links l
    none_lost false l = refl

-- ---- what one leaves the other finds
module _ {links k q : ℕ} {x : Beside} {p : Pool} {m : Listed} (same : SamePool links x k p q m) (o : Listed) (mirrors : Mirrors m o) (next : o.next ≡ x.next) where
  the_other : (w : ℕ) → w < 8 → {A : Type 0} (own beside : A) → pick (is_own m w) own beside ≡ pick (is_own o w) beside own
  the_other w h own beside = seen_from own beside (w / 4) m.site o.site (omega arith) mirrors.two

  held_there : m.beside.held ≡ o.held
  held_there = ap (λ (s : Share). s.held) mirrors.beside

  lost_there : m.beside.lost ≡ o.lost
  lost_there = ap (λ (s : Share). s.lost) mirrors.beside

  held_here : m.held ≡ o.beside.held
  held_here = sym (ap (λ (s : Share). s.held) mirrors.own)

  lost_here : m.lost ≡ o.beside.lost
  lost_here = sym (ap (λ (s : Share). s.lost) mirrors.own)

  its_numbers : Reached 8 p (next_for o.site x.next q)
  its_numbers =
      let f : k ≤ 1 = omega (arith, same.site, same.good.site) in
      let e : k + o.site ≡ 1 = omega (arith, same.site, mirrors.two) in
      later (next_for o.site x.next q) same.reached (λ w. omega (arith, other_next k o.site q x.next e w))
      (next_bound o.site x.next q (both_bounds f same.reached).1 (both_bounds f same.reached).0)

  turns_over : SamePool x.links (beside_of links q) o.site p x.next o
  turns_over =
      record {
        site = refl;
        next = next;
        held = λ w h.
            same.held w h
            ∙ ap (λ (hs : List Held). map (place_for w) (keep (is_for (w % 4)) hs)) (the_other w h m.held m.beside.held
            ∙ ap₂ (λ (a b : List Held). pick (is_own o w) a b) held_there held_here);
        told = rw (← held_there) same.told_beside;
        told_beside = rw (← held_here) same.told;
        lost = λ w h.
            same.lost w h
            ∙ ap (λ (ns : List ℕ). get_or ns (w % 4) 0) (the_other w h m.lost m.beside.lost
            ∙ ap₂ (λ (a b : List ℕ). pick (is_own o w) a b) lost_there lost_here);
        configured = ap length (sym lost_there) ∙ same.configured_beside;
        configured_beside = ap length (sym lost_here) ∙ same.configured;
        few = omega (arith, same.configured_beside, same.beside.few);
        reached = its_numbers;
        good = record {
          own = subst (λ (s : Share). GoodShare o.next s) mirrors.beside (subst (λ (n : ℕ). GoodShare n m.beside) (sym next) same.beside);
          above = q;
          other = subst (λ (s : Share). GoodShare q s) (sym mirrors.own) (subst (λ (n : ℕ). GoodShare n (own_of m)) same.next same.good.own);
          all = omega (arith, same.good.all, ap length held_there, ap length held_here);
          site = omega (arith, mirrors.two);
        };
        beside = subst (λ (s : Share). GoodShare q s) (sym mirrors.own) (subst (λ (n : ℕ). GoodShare n (own_of m)) same.next same.good.own);
      }

pub same_beside : SameBeside
same_beside =
    record {
      empty = nobody_there;
      rest = rest_of;
      starts = begins_beside;
      alone = begins_alone;
      turns = turns_over;
    }
