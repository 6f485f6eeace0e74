-- How many records of a link an act makes leave: one where an issue takes its place, none by a mark.
-- Assumes nothing.
use Rattle.basis.proofs.Std.{ℕ, suc, ◌+◌, ◌*◌, ◌≤◌, ◌<◌, ◌≡◌, refl, sym, ◌∙◌, ap, subst, subst⁻¹, List, [], ◌∷◌, Bool, true, false, ◌⊎◌, inl, inr, length, get_or, eqb, arith, eqb-true, eqb-false, le-leb, eq-eqb, ne_eqb, both, bit, count, lt_or_ge, both_of}
use Rattle.entry.specs.declared.Entry.{Entry}
use Rattle.pool.specs.declared.Place.{Place}
use Rattle.pool.specs.declared.Pool.{Pool}
use Rattle.pool.specs.declared.Wanted.TheVariants.{Numbered}
use Rattle.pool.specs.Places.{no_place, of, fits}
use Rattle.pool.specs.Pool.{lost_of, made, issue_of}
use Rattle.pool_laws.specs.Leaves.{gone}
use Rattle.pool_laws.proofs.Counts.{bit_true, bit_false, count_pos}
use Rattle.pool_laws.proofs.Inv.{Inv, from}
use Rattle.pool_laws.proofs.Issue.{it, after, places_after, lost_after, change, loses, not_owner, not_number}
use Rattle.pool_laws.proofs.Other.{Alike, alike_numbered}

-- two tests that agree at every element count the same
count_agree : {A : Type 0} (f g : A → Bool) (d : A) (l : List A) → ((i : ℕ) → i < length l → f (get_or l i d) ≡ g (get_or l i d)) → count f l ≡ count g l
count_agree f g d [] h = refl
count_agree f g d (x ∷ l) h = omega (arith, ap bit (h 0 (omega arith)), count_agree f g d l (λ i k. h (suc i) (omega arith)))

count_never : {A : Type 0} (f : A → Bool) (d : A) (l : List A) → ((i : ℕ) → i < length l → f (get_or l i d) ≡ false) → count f l ≡ 0
count_never f d [] h = refl
count_never f d (x ∷ l) h = omega (arith, bit_false (f x) (h 0 (omega arith)), count_never f d l (λ i k. h (suc i) (omega arith)))

both_same : (a b c : Bool) → (a ≡ true → b ≡ c) → both a b ≡ both a c
both_same true b c h = h refl
both_same false b c h = refl

eqb_swap : (a b : ℕ) → eqb a b ≡ eqb b a
eqb_swap a b = go (eqb a b) refl
  where
    go : (t : Bool) → eqb a b ≡ t → t ≡ eqb b a
    go true e = sym (eq-eqb b a (sym (eqb-true a b e)))
    go false e = sym (ne_eqb b a (λ s. eqb-false a b e (sym s)))

module _ (n : ℕ) (q : ℕ → ℕ) (p : Pool) (inv : Inv n p q) (m i : ℕ) (inside : i < length p.places) (o : of m (get_or p.places i no_place) ≡ true) where
  abbrev number : ℕ
  number = (get_or p.places i no_place).entry.sequence

  -- a record that stands at a place is held once, under a number below its owner's next
  held_once : count (fits (Numbered m number)) p.places ≡ 1
  held_once =
      let t : fits (Numbered m number) (get_or p.places i no_place) ≡ true = both_of o (eq-eqb number number refl) in
      omega (arith, count_pos (fits (Numbered m number)) p.places i no_place inside t, inv.once m number)

  below_next : number < q m
  below_next = go (lt_or_ge number (q m))
    where
      go : (number < q m) ⊎ (q m ≤ number) → number < q m
      go (inl a) = a
      go (inr a) =
          let t : from m (q m) (get_or p.places i no_place) ≡ true = both_of o (le-leb (q m) number a) in
          absurd (omega (arith, count_pos (from m (q m)) p.places i no_place inside t, inv.fresh m))

module _ (n : ℕ) (small : 16 * n ≤ 128) (p : Pool) (q : ℕ → ℕ) (inv : Inv n p q) (e : Entry) (mine : e.link < n) (rises : q e.link ≤ e.sequence) (fits32 : e.sequence < 2147483648) (m : ℕ) where
  abbrev old : Place
  old = (it n small p q inv e mine rises fits32).old

  abbrev now_places : List Place
  now_places = after n small p q inv e mine rises fits32

  -- a record that stood in the pool is not the one that is issued: another owner's, or numbered below
  not_issued : (i : ℕ) → i < length p.places → of m (get_or p.places i no_place) ≡ true → (t : Bool) → eqb e.link m ≡ t
      → bit (fits (Numbered m (get_or p.places i no_place).entry.sequence) (made e)) ≡ 0
  not_issued i h o true c =
      not_number n small p q inv e mine rises fits32 m _ (λ s. omega (arith, below_next n q p inv m i h o, ap q (eqb-true e.link m c)))
  not_issued i h o false c = not_owner n small p q inv e mine rises fits32 m _ c

  -- a record that stood in the pool is gone exactly where it stood at the place that was taken
  gone_is : (i : ℕ) → i < length p.places
      → both (of m (get_or p.places i no_place)) (eqb (count (fits (Numbered m (get_or p.places i no_place).entry.sequence)) now_places) 0)
      ≡ both (of m (get_or p.places i no_place)) (fits (Numbered m (get_or p.places i no_place).entry.sequence) old)
  gone_is i h = both_same (of m x) _ _ (λ o. go o (fits (Numbered m k) old) refl)
    where
      x : Place
      x = get_or p.places i no_place

      k : ℕ
      k = (get_or p.places i no_place).entry.sequence

      go : of m (get_or p.places i no_place) ≡ true → (b : Bool) → fits (Numbered m (get_or p.places i no_place).entry.sequence) old ≡ b
          → eqb (count (fits (Numbered m (get_or p.places i no_place).entry.sequence)) now_places) 0 ≡ b
      go o true t = eq-eqb (count (fits (Numbered m (get_or p.places i no_place).entry.sequence)) now_places) 0 (omega (
        arith,
        change n small p q inv e mine rises fits32 (fits (Numbered m (get_or p.places i no_place).entry.sequence)),
        bit_true _ t,
        held_once n q p inv m i h o,
        not_issued i h o (eqb e.link m) refl,
      ))
      go o false t = ne_eqb (count (fits (Numbered m (get_or p.places i no_place).entry.sequence)) now_places) 0 (λ z. omega (
        arith,
        change n small p q inv e mine rises fits32 (fits (Numbered m (get_or p.places i no_place).entry.sequence)),
        bit_false _ t,
        held_once n q p inv m i h o,
        not_issued i h o (eqb e.link m) refl,
      ))

  taken_count : (b : Bool) → of m old ≡ b → count (λ (x : Place). both (of m x) (fits (Numbered m x.entry.sequence) old)) p.places ≡ bit b
  taken_count false o = count_never _ no_place p.places (λ i h. rw o (never (of m (get_or p.places i no_place))))
    where
      never : (t : Bool) → both t false ≡ false
      never true = refl
      never false = refl
  taken_count true o =
      let s : get_or p.places (it n small p q inv e mine rises fits32).at no_place ≡ old = (it n small p q inv e mine rises fits32).stands in
      count_agree _ (fits (Numbered m old.entry.sequence)) no_place p.places
      (λ i h. rw o (both_same (of m (get_or p.places i no_place)) _ _ (λ u. eqb_swap old.entry.sequence (get_or p.places i no_place).entry.sequence)))
      ∙ subst (λ (x : Place). count (fits (Numbered m x.entry.sequence)) p.places ≡ 1) s
      (held_once n q p inv m (it n small p q inv e mine rises fits32).at (it n small p q inv e mine rises fits32).inside (subst⁻¹ (λ (x : Place). of m x ≡ true) s o))

  -- an issue makes as many leave as it counts lost
  pub issue_leaves : count (gone (issue_of n p e) m) p.places + lost_of p m ≡ lost_of (issue_of n p e) m
  issue_leaves =
      let a : (issue_of n p e).places ≡ now_places = places_after n small p q inv e mine rises fits32 in
      let c : count (λ (x : Place). both (of m x) (eqb (count (fits (Numbered m x.entry.sequence)) now_places) 0)) p.places ≡ bit (of m old) =
      count_agree _ (λ (x : Place). both (of m x) (fits (Numbered m x.entry.sequence) old)) no_place p.places gone_is ∙ taken_count (of m old) refl in
      let d : count (gone (issue_of n p e) m) p.places ≡ bit (of m old) = rw a c in
      omega (arith, lost_after n small p q inv e mine rises fits32 m, loses n small p q inv e mine rises fits32 m)

-- where every record is held as before, none is gone
pub alike_leaves : (n : ℕ) (q : ℕ → ℕ) (p r : Pool) → Alike p r → Inv n p q → (m : ℕ) → count (gone r m) p.places ≡ 0
alike_leaves n q p r a inv m = count_never (gone r m) no_place p.places (λ i h. go i h (of m (get_or p.places i no_place)) refl)
  where
    go : (i : ℕ) → i < length p.places → (b : Bool) → of m (get_or p.places i no_place) ≡ b
        → both b (eqb (count (fits (Numbered m (get_or p.places i no_place).entry.sequence)) r.places) 0) ≡ false
    go i h true o = ne_eqb (count (fits (Numbered m (get_or p.places i no_place).entry.sequence)) r.places) 0 (λ z. omega (arith, held_once n q p inv m i h o, alike_numbered p r a m (get_or p.places i no_place).entry.sequence))
    go i h false o = refl
