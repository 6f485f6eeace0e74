-- Room for a record that is issued: what making room keeps, and that an owner which loses one has 16 newer ones after.
-- Assumes nothing.
use Rattle.basis.proofs.Std.{ℕ, suc, ◌+◌, ◌%◌, ◌≤◌, ◌<◌, ◌≡◌, refl, sym, ◌∙◌, ap, Bool, true, false, not, List, ◌⊎◌, inl, inr, eqb, ltb, leb, length, arith, ltb-true, ltb-false, leb-true, leb-false, eq-eqb, ne_eqb, eqb-true, not-true, not-false, bit, pick, count, Among, picked, eq_or_ne}
use Rattle.machine.specs.Words.{but_first}
use Rattle.machine.specs.State.{Issued, Held, held_as, Share, Pool, own_of, with_beside}
use Rattle.machine.specs.Pool.{is_for, holds, is_full, is_own, held_by, fullest, without, lose, lose_of, make_room, added}
use Rattle.demand_held.specs.Held.{IsHeld}
use Rattle.demand_held.specs.Held.IsHeld.{held}
use Rattle.demand_held.proofs.Lists.{bit_true, count_last, count_but_first, length_but_first, count_left, count_other}
use Rattle.demand_held.proofs.Good.{GoodShare, Good, fullest_holds}
use Rattle.demand_held.proofs.Rising.{older, left_or_oldest}
use Rattle.demand_held.proofs.Shrunk.{Shrunk, as_it_was, less}

-- how many both sites hold
abbrev pub size : Pool → ℕ
size p = length p.held + length p.beside.held

-- record n of link l, and all as old, are gone, and 16 of its link are held
pub record Over (l n : ℕ) (hs : List Held) : Type 0 where
  pub none : count (older l n) hs ≡ 0
  pub many : 16 ≤ count (is_for l) hs

-- there is no room for i without one of link l
pub data Full (i : Issued) (p : Pool) (l : ℕ) : Type 0 where
  of_link : i.link ≡ l → 64 ≤ holds p l → Full i p l
  of_pool : 128 ≤ size p → Full i p l

-- q has room for i, and is p but for one record at most
pub record Room (i : Issued) (p q : Pool) : Type 0 where
  pub next : q.next ≡ p.next
  pub site : q.site ≡ p.site
  pub own : Shrunk (own_of p) (own_of q)
  pub beside : Shrunk p.beside q.beside
  pub below : holds q i.link ≤ 63
  pub place : size q ≤ 127
  pub spared : (r : Issued) (n : ℕ) → IsHeld r n p.held → IsHeld r n q.held ⊎ ((count (older r.link n) q.held ≡ 0) × ((16 ≤ holds (added i q) r.link) × Full i p r.link))
  pub sixteen : (l : ℕ) → 16 ≤ holds p l → 16 ≤ holds (added i q) l
  pub spared_beside : (r : Issued) (n : ℕ) → IsHeld r n p.beside.held → IsHeld r n q.beside.held ⊎ (Over r.link n q.beside.held × (128 ≤ size p))
  pub sixteen_beside : (l : ℕ) → 16 ≤ count (is_for l) p.beside.held → 16 ≤ count (is_for l) q.beside.held

pub holds_added : (i : Issued) (q : Pool) (l : ℕ) → holds (added i q) l ≡ holds q l + bit (eqb i.link l)
holds_added i q l = count_last (is_for l) q.held (held_as i.link i.content q.next false)

-- ---- a share that loses the oldest of link k
module _ {b : ℕ} (s : Share) (g : GoodShare b s) (k : ℕ) where
  left : (r : Issued) (n : ℕ) → IsHeld r n s.held → IsHeld r n (without k s).held ⊎ ((r.link ≡ k) × (count (older r.link n) (without k s).held ≡ 0))
  left r n (held {h} a e c f) = go (left_or_oldest k g.rising a)
    where
      go : Among h (but_first (is_for k) s.held) ⊎ ((h.link ≡ k) × (count (older k h.sequence) (but_first (is_for k) s.held) ≡ 0))
          → IsHeld r n (without k s).held ⊎ ((r.link ≡ k) × (count (older r.link n) (without k s).held ≡ 0))
      go (inl x) = inl (held x e c f)
      go (inr o) = let same : r.link ≡ k = sym e ∙ o.0 in inr (same, rw (same, ← f) o.1)

  others : (l : ℕ) → (k ≡ l → ⊥) → count (is_for l) (without k s).held ≡ count (is_for l) s.held
  others l n = count_other (is_for k) (is_for l) (λ x t. ne_eqb x.link l (λ q. n (sym (eqb-true x.link k t) ∙ q))) s.held

module _ (i : Issued) (p : Pool) (g : Good p) where
  free : holds p i.link < 64 → size p < 128 → Room i p p
  free a b =
      record {
        next = refl;
        site = refl;
        own = as_it_was;
        beside = as_it_was;
        below = omega arith;
        place = omega arith;
        spared = λ r n h. inl h;
        sixteen = λ l h. omega (arith, holds_added i p l);
        spared_beside = λ r n h. inl h;
        sixteen_beside = λ l h. h;
      }

  -- link k of this site loses its oldest and has 16 after
  module _ (k : ℕ) where
    loses_one : 1 ≤ holds p k → holds (lose k p) k + 1 ≡ holds p k
    unfolding lose
    loses_one one = count_but_first (is_for k) p.held one

    loses_no_more : (l : ℕ) → holds (lose k p) l ≤ holds p l
    unfolding lose
    loses_no_more l = count_left (is_for k) (is_for l) p.held

    loses : 1 ≤ holds p k → holds (lose k p) i.link ≤ 63 → 16 ≤ holds (added i (lose k p)) k → Full i p k → Room i p (lose k p)
    unfolding lose
    loses one below many full =
        record {
          next = refl;
          site = refl;
          own = less k one as_it_was;
          beside = as_it_was;
          below = below;
          place = omega (arith, g.all, length_but_first (is_for k) p.held one);
          spared = λ r n h. out r n (left (own_of p) g.own k r n h);
          sixteen = λ l h. enough l h (eq_or_ne k l);
          spared_beside = λ r n h. inl h;
          sixteen_beside = λ l h. h;
        }
      where
        out : (r : Issued) (n : ℕ) → IsHeld r n (without k (own_of p)).held ⊎ ((r.link ≡ k) × (count (older r.link n) (without k (own_of p)).held ≡ 0))
            → IsHeld r n (lose k p).held ⊎ ((count (older r.link n) (lose k p).held ≡ 0) × ((16 ≤ holds (added i (lose k p)) r.link) × Full i p r.link))
        out r n (inl h) = inl h
        out r n (inr o) = inr (o.1, (rw o.0 many, rw o.0 full))

        enough : (l : ℕ) → 16 ≤ holds p l → (k ≡ l) ⊎ (k ≡ l → ⊥) → 16 ≤ holds (added i (lose k p)) l
        enough l h (inl e) = rw (← e) many
        enough l h (inr e) = omega (arith, holds_added i (lose k p) l, others (own_of p) g.own k l e)

    -- link k of the other does
    loses_beside : holds p i.link < 16 → 16 < count (is_for k) p.beside.held → 128 ≤ size p → Room i p (with_beside (without k p.beside) p)
    loses_beside few most full =
        record {
          next = refl;
          site = refl;
          own = as_it_was;
          beside = less {t = p.beside} k (omega arith) as_it_was;
          below = omega arith;
          place = omega (arith, g.all, length_but_first (is_for k) p.beside.held (omega arith));
          spared = λ r n h. inl h;
          sixteen = λ l h. omega (arith, holds_added i p l);
          spared_beside = λ r n h. out r n (left p.beside g.other k r n h);
          sixteen_beside = λ l h. enough l h (eq_or_ne k l);
        }
      where
        after : 16 ≤ count (is_for k) (without k p.beside).held
        after = omega (arith, count_but_first (is_for k) p.beside.held (omega arith))

        out : (r : Issued) (n : ℕ) → IsHeld r n (without k p.beside).held ⊎ ((r.link ≡ k) × (count (older r.link n) (without k p.beside).held ≡ 0))
            → IsHeld r n (without k p.beside).held ⊎ (Over r.link n (without k p.beside).held × (128 ≤ size p))
        out r n (inl h) = inl h
        out r n (inr o) = inr (record { none = o.1; many = rw o.0 after }, full)

        enough : (l : ℕ) → 16 ≤ count (is_for l) p.beside.held → (k ≡ l) ⊎ (k ≡ l → ⊥) → 16 ≤ count (is_for l) (without k p.beside).held
        enough l h (inl e) = rw (← e) after
        enough l h (inr e) = omega (arith, others p.beside g.other k l e)

  its_own : 16 ≤ holds p i.link → Full i p i.link → Room i p (lose i.link p)
  its_own h full =
      loses i.link (omega arith) (omega (arith, g.own.most i.link, loses_one i.link (omega arith)))
      (omega (arith, holds_added i (lose i.link p) i.link, bit_true (eqb i.link i.link) (eq-eqb i.link i.link refl), loses_one i.link (omega arith)))
      full

  steals : i.link < length p.lost → holds p i.link < 16 → 128 ≤ size p → Room i p (lose_of (fullest p) p)
  unfolding lose_of
  steals linked h full =
      let k = fullest p % 4 in
      let most : 16 < held_by p (fullest p) = fullest_holds p g i.link linked h full in
      picked (Room i p) (is_own p (fullest p)) (lose k p) (with_beside (without k p.beside) p)
      (λ e. let most : 16 < holds p k = omega (arith, most, ap (λ (t : Bool). count (is_for k) (pick t p.held p.beside.held)) e) in
      loses k (omega arith) (omega (arith, loses_no_more k i.link)) (omega (arith, holds_added i (lose k p) k, loses_one k (omega arith))) (of_pool full))
      (λ e. loses_beside k h (omega (arith, most, ap (λ (t : Bool). count (is_for k) (pick t p.held p.beside.held)) e)) full)

  pub makes_room : i.link < length p.lost → Room i p (make_room i.link p)
  unfolding make_room
  makes_room linked =
      picked (Room i p) (leb 64 (holds p i.link)) (lose i.link p) _
      (λ e. its_own (omega (arith, leb-true 64 (holds p i.link) e)) (of_link refl (leb-true 64 (holds p i.link) e)))
      (λ e. picked (Room i p) (not (is_full p)) p _
      (λ f. free (leb-false 64 (holds p i.link) e) (leb-false 128 (size p) (not-true (is_full p) f)))
      (λ f. picked (Room i p) (ltb (holds p i.link) 16) (lose_of (fullest p) p) (lose i.link p)
      (λ q. steals linked (ltb-true (holds p i.link) 16 q) (leb-true 128 (size p) (not-false (is_full p) f)))
      (λ q. its_own (ltb-false (holds p i.link) 16 q) (of_pool (leb-true 128 (size p) (not-false (is_full p) f))))))
