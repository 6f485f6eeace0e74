-- A link's records are its own, each sent or not, and their numbers rise: so the rank of a record is its place in the list.
-- Assumes nothing.
use Rattle.basis.proofs.Std.{sym, subst, ℕ, suc, zero, ◌+◌, ◌≤◌, ◌<◌, ◌≡◌, refl, List, [], ◌∷◌, Bool, true, false, ◌⊎◌, inl, inr, ltb, leb, eqb, arith, ltb-true, le-leb, eq-eqb, ne_eqb, pick, both, bit, count, lt_or_ge, eq_or_ne}
use Rattle.pool.specs.declared.Place.{Place}
use Rattle.pool.specs.declared.Pool.{Pool}
use Rattle.pool.specs.Places.{of}
use Rattle.pool_laws.specs.View.{insert, insert_if, records_in, records, first_where, last_where, nth}
use Rattle.pool_laws.specs.Views.{InOrder}
use Rattle.pool_laws.specs.Views.InOrder.{end, next}
use Rattle.pool_laws.proofs.Counts.{bit_true, bit_le, bit_lt, bit_ge, bit_eq, count_le}
use Rattle.pool_laws.proofs.Inv.{Inv, mismarked, of_used, of_link}
use Rattle.pool_laws.proofs.Insert.{number, under}
use Rattle.pool_laws.proofs.Records.{Sorted, records_sorted, records_count}

abbrev pub Mine : ℕ → List Place → Type 0
Mine m [] = Unit {0}
Mine m (x ∷ l) = (of m x ≡ true) × Mine m l

insert_mine : (m : ℕ) (x : Place) (l : List Place) → of m x ≡ true → Mine m l → Mine m (insert x l)
unfolding insert
insert_mine m x [] o s = (o, tt)
insert_mine m x (z ∷ l) o (a, s) = go (leb (number x) (number z)) (insert_mine m x l o s)
  where
    go : (t : Bool) → Mine m (insert x l) → Mine m (pick t (x ∷ z ∷ l) (z ∷ insert x l))
    go true r = (o, (a, s))
    go false r = (a, r)

pub records_mine : (p : List Place) (m : ℕ) → Mine m (records_in p m)
unfolding records_in
records_mine [] m = tt
records_mine (x ∷ p) m = go (of m x) refl (records_mine p m)
  where
    go : (t : Bool) → of m x ≡ t → Mine m (records_in p m) → Mine m (insert_if t x (records_in p m))
    go true o s = insert_mine m x (records_in p m) o s
    go false o s = s

-- of a link's own records one need not ask whose they are
pub first_mine : (m : ℕ) (g : Place → Bool) (l : List Place) → Mine m l → first_where (λ (x : Place). both (of m x) (g x)) l ≡ first_where g l
unfolding first_where
first_mine m g [] s = refl
first_mine m g (x ∷ l) (o, s) = rw (o, first_mine m g l s)

pub last_mine : (m : ℕ) (g : Place → Bool) (l : List Place) → Mine m l → last_where (λ (x : Place). both (of m x) (g x)) l ≡ last_where g l
unfolding last_where
last_mine m g [] s = refl
last_mine m g (x ∷ l) (o, s) = rw (o, last_mine m g l s)

count_sum : (f g h : Place → Bool) → ((x : Place) → bit (f x) ≤ bit (g x) + bit (h x)) → (l : List Place) → count f l ≤ count g l + count h l
count_sum f g h e [] = omega arith
count_sum f g h e (x ∷ l) = omega (arith, e x, count_sum f g h e l)

one_or_two : (k : ℕ) → 0 < k → bit (ltb 2 k) ≡ 0 → (k ≡ 1) ⊎ (k ≡ 2)
one_or_two zero h z = absurd (omega arith)
one_or_two (suc zero) h z = inl refl
one_or_two (suc (suc zero)) h z = inr refl
one_or_two (suc (suc (suc k))) h z = absurd (omega (arith, bit_lt 2 (suc (suc (suc k))) (omega arith)))

at_least : (a b : ℕ) → bit (ltb a b) ≡ 0 → b ≤ a
at_least a b z = go (lt_or_ge a b)
  where
    go : (a < b) ⊎ (b ≤ a) → b ≤ a
    go (inl h) = absurd (omega (arith, bit_lt a b h))
    go (inr h) = h

less_than : (a b : ℕ) → bit (leb b a) ≡ 0 → a < b
less_than a b z = go (lt_or_ge a b)
  where
    go : (a < b) ⊎ (b ≤ a) → a < b
    go (inl h) = h
    go (inr h) = absurd (omega (arith, bit_true (leb b a) (le-leb b a h)))

in_order : (m q k : ℕ) (l : List Place) → Sorted l → Mine m l → ((j : ℕ) → count (λ (y : Place). eqb (number y) j) l ≤ 1) → count (λ (y : Place). leb q (number y)) l ≡ 0
    → count mismarked l ≡ 0 → count (under k) l ≡ 0 → InOrder m q k l
in_order m q k [] s o d f w u = end
in_order m q k (x ∷ l) (a, s) (b, o) d f w u =
    next (of_link m x b) (one_or_two x.mark (ltb-true 0 x.mark (of_used m x b)) (omega arith)) (at_least (number x) k (omega arith)) (less_than (number x) q (omega arith))
    (in_order m q (number x + 1) l s o (λ j. omega (arith, d j)) (omega arith) (omega arith)
    (omega (
      arith,
      count_sum (under (number x + 1)) (under (number x)) (λ (y : Place). eqb (number y) (number x)) (λ y. split (number y) (lt_or_ge (number y) (number x)) (eq_or_ne (number y) (number x))) l,
      d (number x),
      bit_eq (number x) (number x) refl,
    )))
  where
    split : (j : ℕ) → (j < number x) ⊎ (number x ≤ j) → (j ≡ number x) ⊎ (j ≡ number x → ⊥) → bit (ltb j (number x + 1)) ≤ bit (ltb j (number x)) + bit (eqb j (number x))
    split j (inl h) e = omega (arith, bit_le (ltb j (number x + 1)), bit_lt j (number x) h)
    split j (inr h) (inl e) = omega (arith, bit_le (ltb j (number x + 1)), bit_eq j (number x) e)
    split j (inr h) (inr e) = omega (arith, bit_ge j (number x + 1) (omega arith))

-- every owner's records, in a pool of which the invariant holds
pub records_order : (n : ℕ) (q : ℕ → ℕ) (p : Pool) → Inv n p q → (m : ℕ) → InOrder m (q m) 0 (records p m)
records_order n q p i m =
    in_order m (q m) 0 (records p m) (records_sorted p.places m) (records_mine p.places m)
    (λ j. omega (arith, records_count (λ (y : Place). eqb (number y) j) p.places m, i.once m j))
    (omega (arith, records_count (λ (y : Place). leb (q m) (number y)) p.places m, i.fresh m))
    (omega (arith, records_count mismarked p.places m, i.marked, count_le (λ (x : Place). both (of m x) (mismarked x)) mismarked (λ x. any (of m x) (mismarked x)) p.places))
    (none_zero (records p m))
  where
    any : (s t : Bool) → bit (both s t) ≤ bit t
    any false t = omega arith
    any true t = omega arith

    none_zero : (l : List Place) → count (under 0) l ≡ 0
    none_zero [] = refl
    none_zero (x ∷ l) = omega (arith, bit_ge (number x) 0 (omega arith), none_zero l)

order_under : (m q k j : ℕ) (l : List Place) → InOrder m q k l → j ≤ k → count (under j) l ≡ 0
order_under m q k j [] o h = refl
order_under m q k j (x ∷ l) (next a b c d o) h = omega (arith, bit_ge (number x) j (omega arith), order_under m q (number x + 1) j l o (omega arith))

-- the record with d before it is the d-th
pub rank_nth : (m q k c d : ℕ) (h : ℕ → ℕ) (l : List Place) → InOrder m q k l → ((j : ℕ) → k ≤ j → h j ≡ c + count (under j) l)
    → first_where (λ (x : Place). eqb (h (number x)) (c + d)) l ≡ nth d l
unfolding first_where nth
rank_nth m q k c zero h [] o e = refl
rank_nth m q k c (suc d) h [] o e = refl
rank_nth m q k c zero h (x ∷ l) (next a b w z o) e =
    rw (eq-eqb (h (number x)) (c + 0) (omega (arith, e (number x) w, bit_ge (number x) (number x) (omega arith), order_under m q (number x + 1) (number x) l o (omega arith))))
rank_nth m q k c (suc d) h (x ∷ l) (next a b w z o) e =
    let no : h (number x) ≡ c + suc d → ⊥ =
    λ s. omega (arith, e (number x) w, bit_ge (number x) (number x) (omega arith), order_under m q (number x + 1) (number x) l o (omega arith)) in
    let same : c + suc d ≡ (c + 1) + d = omega arith in
    rw (ne_eqb (h (number x)) (c + suc d) no)
    (subst (λ (k : ℕ). first_where (λ (y : Place). eqb (h (number y)) k) l ≡ nth d l) (sym same)
    (rank_nth m q (number x + 1) (c + 1) d h l o (λ j g. omega (arith, e j (omega arith), bit_lt (number x) j (omega arith)))))
