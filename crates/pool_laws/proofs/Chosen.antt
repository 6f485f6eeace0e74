-- The place that an issue takes, and why: a free one; its own link's oldest, of 16 or more; or another link's oldest, of 17 or more.
-- Assumes nothing.
use Rattle.basis.proofs.Std.{ℕ, ◌-◌, ◌*◌, ◌≤◌, ◌<◌, ◌≡◌, refl, ◌∙◌, ap, List, Bool, true, false, length, get_or, set, ltb, leb, arith, ltb-true, ltb-false, leb-true, leb-false, eqb-true, lt-ltb, count}
use Rattle.entry.specs.declared.Entry.{Entry}
use Rattle.pool.specs.declared.Place.{Place}
use Rattle.pool.specs.declared.Pool.{Pool}
use Rattle.pool.specs.declared.Wanted.TheVariants.{Free, Older}
use Rattle.pool.specs.declared.Spot.TheVariants.{At}
use Rattle.pool.specs.declared.Loser.{Loser}
use Rattle.pool.specs.declared.Loser.TheVariants.{Nobody, Owner}
use Rattle.pool.specs.Places.{no_place, of, fits, oldest}
use Rattle.pool.specs.Shares.{fullest, loser}
use Rattle.pool.specs.Pool.{held_in, free_in, made, loss_of, room_of, with_of, issue_of}
use Rattle.pool_laws.proofs.Oldest.{Oldest, the_oldest}
use Rattle.pool.proofs.Fixed.{fullest_is}
use Rattle.pool_laws.specs.View.{total}
use Rattle.pool_laws.proofs.Fullest.{outside, every_place, another}

-- x is the oldest record of link m
pub record Eldest (m : ℕ) (p : List Place) (x : Place) : Type 0 where
  pub mine : of m x ≡ true
  pub none_older : count (fits (Older m x.entry.sequence)) p ≡ 0

-- why the place where `old` stood is taken by a record of link l
pub data Why (n l : ℕ) (p : List Place) (old : Place) : Loser → Type 0 where
  vacant : held_in p l < 64 → old.mark ≡ 0 → Why n l p old Nobody
  own : 16 ≤ held_in p l → Eldest l p old → Why n l p old (Owner l)
  steal : (m : ℕ) → (m ≡ l → ⊥) → m < n → 16 < held_in p m → held_in p l < 16 → Eldest m p old → Why n l p old (Owner m)

pub record Issued (n : ℕ) (p : Pool) (e : Entry) : Type 0 where
  pub who : Loser
  pub at : ℕ
  pub old : Place
  pub chosen : loser n (held_in p.places) (free_in p.places) e.link ≡ who
  pub is : issue_of n p e ≡ record { places = set p.places at (made e); lost = loss_of p.lost who }
  pub inside : at < length p.places
  pub stands : get_or p.places at no_place ≡ old
  pub why : Why n e.link p.places old who

issue_at : (n : ℕ) (p : Pool) (e : Entry) (who : Loser) (at : ℕ) (old : Place) → e.link < n
    → loser n (held_in p.places) (free_in p.places) e.link ≡ who → room_of p.places who ≡ At at old
    → issue_of n p e ≡ record { places = set p.places at (made e); lost = loss_of p.lost who }
unfolding issue_of with_of
issue_at n p e who at old m w r = rw (lt-ltb _ n m, w, r)

own_room : (p : List Place) (m : ℕ) → room_of p (Owner m) ≡ oldest (of m) p
unfolding room_of
own_room p m = refl

free_room : (p : List Place) → room_of p Nobody ≡ oldest (fits Free) p
unfolding room_of
free_room p = refl

module _ (n : ℕ) (p : Pool) (e : Entry) (small : 16 * n ≤ 128) (mine : e.link < n) (size : length p.places ≡ 128) (owned : count (outside n) p.places ≡ 0) where
  abbrev hold : ℕ → ℕ
  hold = held_in p.places

  abbrev unused : ℕ
  unused = free_in p.places

  lost_by : (m : ℕ) → loser n hold unused e.link ≡ Owner m → 0 < hold m
      → ((old : Place) → Eldest m p.places old → Why n e.link p.places old (Owner m)) → Issued n p e
  lost_by m w h y =
      let o : Oldest (of m) p.places = the_oldest (of m) p.places h in
      record {
        who = Owner m;
        at = o.at;
        old = o.what;
        chosen = w;
        is = issue_at n p e (Owner m) o.at o.what mine w (own_room p.places m ∙ o.is);
        inside = o.inside;
        stands = o.stands;
        why = y o.what (record { mine = o.passes; none_older = o.none_older });
      }

  taken : loser n hold unused e.link ≡ Nobody → 0 < unused → hold e.link < 64 → Issued n p e
  taken w h c =
      let o : Oldest (fits Free) p.places = the_oldest (fits Free) p.places h in
      record {
        who = Nobody;
        at = o.at;
        old = o.what;
        chosen = w;
        is = issue_at n p e Nobody o.at o.what mine w (free_room p.places ∙ o.is);
        inside = o.inside;
        stands = o.stands;
        why = vacant c (eqb-true _ 0 o.passes);
      }

  full : unused ≡ 0 → total hold n ≡ 128
  full z = omega (arith, every_place n p.places)

  by_tests : (a b c : Bool) → leb 64 (hold e.link) ≡ a → ltb 0 unused ≡ b → ltb (hold e.link) 16 ≡ c → Issued n p e
  unfolding loser
  by_tests true b c ea eb ec =
      let h = leb-true 64 (hold e.link) ea in
      lost_by e.link (rw ea) (omega arith) (λ old y. own (omega arith) y)
  by_tests false true c ea eb ec = taken (rw (ea, eb)) (ltb-true 0 unused eb) (leb-false 64 (hold e.link) ea)
  by_tests false false true ea eb ec =
      let m : ℕ = fullest hold (n - 1) in
      let few = ltb-true (hold e.link) 16 ec in
      let none : unused ≡ 0 = omega (arith, ltb-false 0 unused eb) in
      let many : 16 < hold m = another hold n e.link small (full none) mine few in
      lost_by m (rw (ea, eb, ec)) (omega arith)
      (λ old y. steal m (λ s. omega (arith, ap hold s)) (omega (arith, (fullest_is hold (n - 1)).one)) many few y)
  by_tests false false false ea eb ec =
      let h = ltb-false (hold e.link) 16 ec in
      lost_by e.link (rw (ea, eb, ec)) (omega arith) (λ old y. own h y)

  pub issued : Issued n p e
  issued = by_tests _ _ _ refl refl refl
