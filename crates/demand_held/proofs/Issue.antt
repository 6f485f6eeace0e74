-- Issuing keeps a pool good; what becomes of a record while others are issued, and of one that is issued.
-- Assumes nothing.
use Rattle.basis.proofs.Std.{ℕ, suc, ◌+◌, ◌≤◌, ◌<◌, ◌≡◌, refl, sym, ◌∙◌, ap, subst, true, false, List, [], ◌∷◌, ◌++◌, ◌⊎◌, inl, inr, eqb, leb, length, get_or, arith, lt-leb, eq-eqb, ne_eqb, bit, count, Among, eq_or_ne, both_no}
use Rattle.basis.proofs.Among.{among_left, among_one, among_either}
use Rattle.machine.specs.State.{Setup, Issued, Held, held_as, Pool}
use Rattle.machine.specs.Pool.{is_for, holds, make_room, added, issue, issue_all}
use Rattle.demand_held.specs.Held.{IsHeld, At}
use Rattle.demand_held.specs.Crowded.{Crowded}
use Rattle.demand_held.specs.Held.IsHeld.{held}
use Rattle.demand_held.specs.Held.At.{first, behind}
use Rattle.demand_held.proofs.Lists.{bit_true, bit_false, bit_le, Each, each_append, among_last, count_last, length_last}
use Rattle.demand_held.proofs.Lists.Each.{no_more, one_more}
use Rattle.demand_held.proofs.Good.{fits, Fits, Good, not_crowded}
use Rattle.demand_held.proofs.Rising.{rising_last, rising_below, older}
use Rattle.demand_held.proofs.Shrunk.{Shrunk, as_it_was, shrunk_twice, shrunk_each, shrunk_among, shrunk_fewer, shrunk_shorter, shrunk_lost, shrunk_good, shrunk_counts}
use Rattle.demand_held.proofs.Room.{size, Over, Full, Room, holds_added, makes_room}
use Rattle.demand_held.proofs.Room.Full.{of_link, of_pool}

abbrev pub FitsIssued : Setup → Issued → Type 0
FitsIssued u i = fits u i.link i.content ≡ true

abbrev pub For : ℕ → Issued → Type 0
For n i = i.link < n

module _ (i : Issued) (p : Pool) (g : Good p) where
  abbrev new : Pool → Held
  new q = held_as i.link i.content q.next false

  module _ (q : Pool) (r : Room i p q) where
    most_added : (l : ℕ) → holds (added i q) l ≤ 64
    most_added l = go (eq_or_ne i.link l)
      where
        go : (i.link ≡ l) ⊎ (i.link ≡ l → ⊥) → holds (added i q) l ≤ 64
        go (inl e) = omega (arith, holds_added i q l, bit_le (eqb i.link l), r.below, ap (holds q) e)
        go (inr e) = omega (arith, holds_added i q l, bit_false (eqb i.link l) (ne_eqb i.link l e), shrunk_fewer (is_for l) r.own, g.own.most l)

    good_added : i.link < length p.lost → Good (added i q)
    good_added h =
        let k = shrunk_good r.own g.own in
        record {
          own = record {
            few = k.few;
            links = each_append k.links (one_more (omega (arith, shrunk_lost r.own)) no_more);
            most = most_added;
            rising = rw r.next (rising_last (held_as i.link i.content p.next false) refl k.rising);
          };
          above = g.above;
          other = shrunk_good r.beside g.other;
          all = omega (arith, r.place, length_last q.held (new q));
          site = omega (arith, r.site, g.site);
        }

    older_added : (l n : ℕ) → n < p.next → count (older l n) (added i q).held ≡ count (older l n) q.held
    older_added l n b =
        omega (
          arith,
          count_last (older l n) q.held (new q),
          bit_false (older l n (new q)) (both_no (is_for l (new q)) (leb q.next n) (lt-leb q.next n (omega (arith, r.next)))),
        )

    fate_added : (x : Issued) (n : ℕ) → n < p.next → IsHeld x n p.held → IsHeld x n (added i q).held ⊎ (Over x.link n (added i q).held × Full i p x.link)
    fate_added x n b h = go (r.spared x n h)
      where
        go : IsHeld x n q.held ⊎ ((count (older x.link n) q.held ≡ 0) × ((16 ≤ holds (added i q) x.link) × Full i p x.link))
            → IsHeld x n (added i q).held ⊎ (Over x.link n (added i q).held × Full i p x.link)
        go (inl (held a e c f)) = inl (held (among_left (new q ∷ []) a) e c f)
        go (inr o) = inr (record { none = omega (arith, o.0, older_added x.link n b); many = o.1.0 }, o.1.1)

    over_added : (l n : ℕ) → n < p.next → Over l n p.held → Over l n (added i q).held
    over_added l n b o = record { none = omega (arith, o.none, older_added l n b, shrunk_fewer (older l n) r.own); many = r.sixteen l o.many }

    origin_added : (x : Issued) (n : ℕ) → IsHeld x n (added i q).held → IsHeld x n p.held ⊎ ((i ≡ x) × (n ≡ p.next))
    origin_added x n (held {h} a e c f) = go (among_either q.held (new q ∷ []) a)
      where
        is_new : Among h (new q ∷ []) → h ≡ new q
        is_new = among_one (λ (y : Held). y ≡ new q) h (new q) refl

        go : Among h q.held ⊎ Among h (new q ∷ []) → IsHeld x n p.held ⊎ ((i ≡ x) × (n ≡ p.next))
        go (inl b) = inl (held (shrunk_among r.own b) e c f)
        go (inr b) =
            let same = is_new b in
            let link : i.link ≡ x.link = sym (ap (λ (y : Held). y.link) same) ∙ e in
            let content : i.content ≡ x.content = sym (ap (λ (y : Held). y.content) same) ∙ c in
            inr ((λ k. record { link = link k; content = content k }), sym f ∙ ap (λ (y : Held). y.sequence) same ∙ r.next)

    counts_added : (l : ℕ) → get_or (added i q).lost l 0 + holds (added i q) l ≡ get_or p.lost l 0 + holds p l + bit (eqb i.link l)
    counts_added l = omega (arith, holds_added i q l, shrunk_counts r.own g.own l)

    has_added : IsHeld i p.next (added i q).held
    has_added = held (among_last q.held (new q)) refl refl r.next

module _ (i : Issued) (p : Pool) (g : Good p) (linked : i.link < length p.lost) where
  room : Room i p (make_room i.link p)
  room = makes_room i p g linked

  pub issue_good : Good (issue i p)
  unfolding issue
  issue_good = good_added i p g (make_room i.link p) room linked

  pub issue_next : (issue i p).next ≡ suc p.next
  unfolding issue
  issue_next = ap suc room.next

  pub issue_lost : length (issue i p).lost ≡ length p.lost
  unfolding issue
  issue_lost = shrunk_lost room.own

  pub issue_fate : (x : Issued) (n : ℕ) → n < p.next → IsHeld x n p.held → IsHeld x n (issue i p).held ⊎ (Over x.link n (issue i p).held × Full i p x.link)
  unfolding issue
  issue_fate = fate_added i p g (make_room i.link p) room

  pub issue_every : (u : Setup) → FitsIssued u i → Each (Fits u) p.held → Each (Fits u) (issue i p).held
  unfolding issue
  issue_every u f h = each_append (shrunk_each room.own h) (one_more f no_more)

  pub issue_over : (l n : ℕ) → n < p.next → Over l n p.held → Over l n (issue i p).held
  unfolding issue
  issue_over = over_added i p g (make_room i.link p) room

  pub issue_origin : (x : Issued) (n : ℕ) → IsHeld x n (issue i p).held → IsHeld x n p.held ⊎ ((i ≡ x) × (n ≡ p.next))
  unfolding issue
  issue_origin = origin_added i p g (make_room i.link p) room

  pub issue_counts : (l : ℕ) → get_or (issue i p).lost l 0 + holds (issue i p) l ≡ get_or p.lost l 0 + holds p l + bit (eqb i.link l)
  unfolding issue
  issue_counts = counts_added i p g (make_room i.link p) room

  issue_holds : (l : ℕ) → holds (issue i p) l ≤ holds p l + bit (eqb i.link l)
  unfolding issue
  issue_holds l = omega (arith, holds_added i (make_room i.link p) l, shrunk_fewer (is_for l) room.own)

  issue_size : size (issue i p) ≤ size p + 1
  unfolding issue
  issue_size = omega (arith, length_last (make_room i.link p).held (new i p g (make_room i.link p)), shrunk_shorter room.own, shrunk_shorter room.beside)

  -- ---- the other site's
  pub issue_site : (issue i p).site ≡ p.site
  unfolding issue
  issue_site = room.site

  pub issue_beside : Shrunk p.beside (issue i p).beside
  unfolding issue
  issue_beside = room.beside

  issue_spared : (x : Issued) (n : ℕ) → IsHeld x n p.beside.held → IsHeld x n (issue i p).beside.held ⊎ (Over x.link n (issue i p).beside.held × (128 ≤ size p))
  unfolding issue
  issue_spared = room.spared_beside

  issue_sixteen : (l : ℕ) → 16 ≤ count (is_for l) p.beside.held → 16 ≤ count (is_for l) (issue i p).beside.held
  unfolding issue
  issue_sixteen = room.sixteen_beside

  pub issue_has : IsHeld i p.next (issue i p).held
  unfolding issue
  issue_has = has_added i p g (make_room i.link p) room

-- ---- several, one by one
-- there is no room for all of them without one of link l
abbrev pub Short : List Issued → Pool → ℕ → Type 0
Short is p l = (64 < holds p l + count (λ (i : Issued). eqb i.link l) is) ⊎ (128 < size p + length is)

short_now : (i : Issued) (p : Pool) (is : List Issued) (l : ℕ) → Full i p l → Short (i ∷ is) p l
short_now i p is l (of_link e f) = inl (omega (arith, bit_true (eqb i.link l) (eq-eqb i.link l e)))
short_now i p is l (of_pool f) = inr (omega arith)

short_later : (i : Issued) (p : Pool) → Good p → i.link < length p.lost → (is : List Issued) (l : ℕ) → Short is (issue i p) l → Short (i ∷ is) p l
short_later i p g f is l (inl s) = inl (omega (arith, issue_holds i p g f l))
short_later i p g f is l (inr s) = inr (omega (arith, issue_size i p g f))

pub held_below : (p : Pool) → Good p → (x : Issued) (n : ℕ) → IsHeld x n p.held → n < p.next
held_below p g x n (held a e c f) = omega (arith, rising_below g.own.rising a)

for_next : (i : Issued) (p : Pool) → Good p → i.link < length p.lost → {is : List Issued} → Each (For (length p.lost)) is
    → Each (For (length (issue i p).lost)) is
for_next i p g f a = rw (issue_lost i p g f) a

pub all_good : (is : List Issued) (p : Pool) → Good p → Each (For (length p.lost)) is → Good (issue_all is p)
all_good [] p g a = g
all_good (i ∷ is) p g (one_more f a) = all_good is (issue i p) (issue_good i p g f) (for_next i p g f a)

pub all_lost : (is : List Issued) (p : Pool) → Good p → Each (For (length p.lost)) is → length (issue_all is p).lost ≡ length p.lost
all_lost [] p g a = refl
all_lost (i ∷ is) p g (one_more f a) = all_lost is (issue i p) (issue_good i p g f) (for_next i p g f a) ∙ issue_lost i p g f

pub all_every : (is : List Issued) (p : Pool) → Good p → Each (For (length p.lost)) is → (u : Setup) → Each (FitsIssued u) is → Each (Fits u) p.held
    → Each (Fits u) (issue_all is p).held
all_every [] p g a u b h = h
all_every (i ∷ is) p g (one_more f a) u (one_more e b) h = all_every is (issue i p) (issue_good i p g f) (for_next i p g f a) u b (issue_every i p g f u e h)

all_over : (is : List Issued) (p : Pool) → Good p → Each (For (length p.lost)) is → (l n : ℕ) → n < p.next → Over l n p.held → Over l n (issue_all is p).held
all_over [] p g a l n b o = o
all_over (i ∷ is) p g (one_more f a) l n b o =
    all_over is (issue i p) (issue_good i p g f) (for_next i p g f a) l n (omega (arith, issue_next i p g f)) (issue_over i p g f l n b o)

or_later : (i : Issued) (is : List Issued) (p : Pool) → Good p → i.link < length p.lost → (x : Issued) (n : ℕ)
    → IsHeld x n (issue_all is (issue i p)).held ⊎ (Over x.link n (issue_all is (issue i p)).held × Short is (issue i p) x.link)
    → IsHeld x n (issue_all is (issue i p)).held ⊎ (Over x.link n (issue_all is (issue i p)).held × Short (i ∷ is) p x.link)
or_later i is p g f x n (inl k) = inl k
or_later i is p g f x n (inr o) = inr (o.0, short_later i p g f is x.link o.1)

pub all_fate : (is : List Issued) (p : Pool) → Good p → Each (For (length p.lost)) is → (x : Issued) (n : ℕ) → IsHeld x n p.held
    → IsHeld x n (issue_all is p).held ⊎ (Over x.link n (issue_all is p).held × Short is p x.link)
all_fate [] p g a x n h = inl h
all_fate (i ∷ is) p g (one_more f a) x n h = go (issue_fate i p g f x n (held_below p g x n h) h) (all_fate is (issue i p) (issue_good i p g f) (for_next i p g f a) x n)
  where
    go : IsHeld x n (issue i p).held ⊎ (Over x.link n (issue i p).held × Full i p x.link)
        → (IsHeld x n (issue i p).held → IsHeld x n (issue_all is (issue i p)).held ⊎ (Over x.link n (issue_all is (issue i p)).held × Short is (issue i p) x.link))
        → IsHeld x n (issue_all is (issue i p)).held ⊎ (Over x.link n (issue_all is (issue i p)).held × Short (i ∷ is) p x.link)
    go (inl k) r = or_later i is p g f x n (r k)
    go (inr o) r =
        inr (all_over is (issue i p) (issue_good i p g f) (for_next i p g f a) x.link n (omega (arith, held_below p g x n h, issue_next i p g f)) o.0, short_now i p is x.link o.1)

-- what is held after was held before, or is one of those issued
pub record Placed (x : Issued) (n start : ℕ) (is : List Issued) : Type 0 where
  pub place : ℕ
  pub at : At x place is
  pub number : n ≡ start + place

pub all_origin : (is : List Issued) (p : Pool) → Good p → Each (For (length p.lost)) is → (x : Issued) (n : ℕ) → IsHeld x n (issue_all is p).held
    → IsHeld x n p.held ⊎ Placed x n p.next is
all_origin [] p g a x n h = inl h
all_origin (i ∷ is) p g (one_more f a) x n h = go (all_origin is (issue i p) (issue_good i p g f) (for_next i p g f a) x n h)
  where
    now : IsHeld x n p.held ⊎ ((i ≡ x) × (n ≡ p.next)) → IsHeld x n p.held ⊎ Placed x n p.next (i ∷ is)
    now (inl k) = inl k
    now (inr e) = inr (record { place = 0; at = subst (λ (y : Issued). At y 0 (i ∷ is)) e.0 first; number = omega (arith, e.1) })

    go : IsHeld x n (issue i p).held ⊎ Placed x n (issue i p).next is → IsHeld x n p.held ⊎ Placed x n p.next (i ∷ is)
    go (inl k) = now (issue_origin i p g f x n k)
    go (inr q) = inr (record { place = suc q.place; at = behind q.at; number = omega (arith, q.number, issue_next i p g f) })

-- each that is issued for a link is held or lost, or pushes out one that is lost
pub all_counts : (is : List Issued) (p : Pool) → Good p → Each (For (length p.lost)) is → (l : ℕ)
    → get_or (issue_all is p).lost l 0 + holds (issue_all is p) l ≡ get_or p.lost l 0 + holds p l + count (λ (i : Issued). eqb i.link l) is
all_counts [] p g a l = omega arith
all_counts (i ∷ is) p g (one_more f a) l = omega (arith, all_counts is (issue i p) (issue_good i p g f) (for_next i p g f a) l, issue_counts i p g f l)

-- the k-th that is issued
pub all_issued : {k : ℕ} {i : Issued} (is : List Issued) (p : Pool) → Good p → Each (For (length p.lost)) is → At i k is
    → IsHeld i (p.next + k) (issue_all is p).held ⊎ (Over i.link (p.next + k) (issue_all is p).held × Short is p i.link)
all_issued {k = k} {i = i} [] p g _ x4 = elim x4 [ ]
all_issued (i ∷ is) p g (one_more f a) first =
    let e : p.next + 0 ≡ p.next = omega arith in
    rw e (or_later i is p g f i p.next (all_fate is (issue i p) (issue_good i p g f) (for_next i p g f a) i p.next (issue_has i p g f)))
all_issued {i = i} (j ∷ is) p g (one_more f a) (behind {k} r) =
    let e : p.next + suc k ≡ (issue j p).next + k = omega (arith, issue_next j p g f) in
    rw e (or_later j is p g f i ((issue j p).next + k) (all_issued is (issue j p) (issue_good j p g f) (for_next j p g f a) r))

-- the pool is not crowded before the one behind xs
pub never_crowded : (xs : List Issued) (i : Issued) (ys : List Issued) (p : Pool) → Good p → Each (For (length p.lost)) (xs ++ i ∷ ys)
    → Crowded (issue_all xs p) i.link → ⊥
never_crowded [] i ys p g a c = not_crowded p g i.link c
never_crowded (x ∷ xs) i ys p g (one_more f a) c = never_crowded xs i ys (issue x p) (issue_good x p g f) (for_next x p g f a) c

-- ---- the other site's records, while this one issues
pub all_site : (is : List Issued) (p : Pool) → Good p → Each (For (length p.lost)) is → (issue_all is p).site ≡ p.site
all_site [] p g a = refl
all_site (i ∷ is) p g (one_more f a) = all_site is (issue i p) (issue_good i p g f) (for_next i p g f a) ∙ issue_site i p g f

pub all_beside : (is : List Issued) (p : Pool) → Good p → Each (For (length p.lost)) is → Shrunk p.beside (issue_all is p).beside
all_beside [] p g a = as_it_was
all_beside (i ∷ is) p g (one_more f a) = shrunk_twice (issue_beside i p g f) (all_beside is (issue i p) (issue_good i p g f) (for_next i p g f a))

over_beside : (is : List Issued) (p : Pool) → Good p → Each (For (length p.lost)) is → (l n : ℕ) → Over l n p.beside.held → Over l n (issue_all is p).beside.held
over_beside [] p g a l n o = o
over_beside (i ∷ is) p g (one_more f a) l n o =
    over_beside is (issue i p) (issue_good i p g f) (for_next i p g f a) l n
    (record { none = omega (arith, o.none, shrunk_fewer (older l n) (issue_beside i p g f)); many = issue_sixteen i p g f l o.many })

pub all_spared : (is : List Issued) (p : Pool) → Good p → Each (For (length p.lost)) is → (x : Issued) (n : ℕ) → IsHeld x n p.beside.held
    → IsHeld x n (issue_all is p).beside.held ⊎ (Over x.link n (issue_all is p).beside.held × (128 < size p + length is))
all_spared [] p g a x n h = inl h
all_spared (i ∷ is) p g (one_more f a) x n h = go (issue_spared i p g f x n h) (all_spared is (issue i p) (issue_good i p g f) (for_next i p g f a) x n)
  where
    on : IsHeld x n (issue_all is (issue i p)).beside.held ⊎ (Over x.link n (issue_all is (issue i p)).beside.held × (128 < size (issue i p) + length is))
        → IsHeld x n (issue_all is (issue i p)).beside.held ⊎ (Over x.link n (issue_all is (issue i p)).beside.held × (128 < size p + suc (length is)))
    on (inl k) = inl k
    on (inr o) = inr (o.0, omega (arith, o.1, issue_size i p g f))

    go : IsHeld x n (issue i p).beside.held ⊎ (Over x.link n (issue i p).beside.held × (128 ≤ size p))
        → (IsHeld x n (issue i p).beside.held → IsHeld x n (issue_all is (issue i p)).beside.held ⊎ (Over x.link n (issue_all is (issue i p)).beside.held × (128 < size (issue i p) + length is)))
        → IsHeld x n (issue_all is (issue i p)).beside.held ⊎ (Over x.link n (issue_all is (issue i p)).beside.held × (128 < size p + suc (length is)))
    go (inl k) r = on (r k)
    go (inr o) r = inr (over_beside is (issue i p) (issue_good i p g f) (for_next i p g f a) x.link n o.0, omega (arith, o.1))
