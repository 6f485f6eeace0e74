-- What a round does to the list of held records: the one that a message carried is marked sent, and its answer settles it.
-- Assumes nothing.
use Rattle.basis.proofs.Std.{ℕ, suc, ◌+◌, ◌≤◌, ◌≡◌, refl, subst, Bool, true, false, not, List, [], ◌∷◌, map, Option, some, ◌⊎◌, inl, inr, eqb, leb, arith, eq-eqb, eqb-true, ne_eqb, pick, both, bit, count, Among, bool_cases, picked, not_both, both_true}
use Rattle.basis.specs.Lists.Among.{first as here, later}
use Rattle.machine.specs.Words.{is_some, first_that}
use Rattle.machine.specs.State.{Held}
use Rattle.machine.specs.Life.{alarm_in, newest}
use Rattle.machine.specs.Pool.{is_for, settled, marked}
use Rattle.demand_held.proofs.Lists.{bit_true, among_map, among_keep}
use Rattle.demand_held.proofs.Good.{Rising}
use Rattle.demand_held.proofs.Good.Rising.{rises}
use Rattle.demand_happens.specs.Records.{is_before}

-- record n of link l, marked and settled
abbrev pub gone : ℕ → ℕ → List Held → List Held
gone l n hs = settled l n (map (marked n) hs)

module _ (l n : ℕ) where
  abbrev stays : Held → Bool
  stays h = not (both (is_for l h) (eqb h.sequence n))

  module _ (x : ℕ) where
    pub marked_fewer : (h : Held) → bit (is_before l x (marked n h)) ≤ bit (is_before l x h)
    marked_fewer h = go (eqb h.link l) (eqb h.sequence n) h.sent (leb h.sequence x)
      where
        go : (a b c d : Bool) → bit (both a (both (not (pick b true c)) d)) ≤ bit (both a (both (not c) d))
        go false b c d = omega arith
        go true true true d = omega arith
        go true true false true = omega arith
        go true true false false = omega arith
        go true false c d = omega arith

    pub count_gone : (hs : List Held) → count (is_before l x) (gone l n hs) ≤ count (is_before l x) hs
    count_gone [] = omega arith
    count_gone (h ∷ hs) =
        picked (λ (r : List Held). count (is_before l x) r ≤ bit (is_before l x h) + count (is_before l x) hs) (stays (marked n h)) (marked n h ∷ gone l n hs) (gone l n hs)
        (λ e. omega (arith, marked_fewer h, count_gone hs))
        (λ e. omega (arith, count_gone hs))

    pub count_one_gone : {h : Held} (hs : List Held) → Among h hs → is_before l x h ≡ true → h.sequence ≡ n
        → suc (count (is_before l x) (gone l n hs)) ≤ count (is_before l x) hs
    count_one_gone {h = h} [] x4 f e = elim x4 [ ]
    count_one_gone (h ∷ hs) here f e =
        picked (λ (r : List Held). suc (count (is_before l x) r) ≤ bit (is_before l x h) + count (is_before l x) hs) (stays (marked n h)) (marked n h ∷ gone l n hs) (gone l n hs)
        (λ g. not_both g (rw ((both_true (is_for l h) _ f).0, eq-eqb h.sequence n e)))
        (λ g. omega (arith, count_gone hs, bit_true (is_before l x h) f))
    count_one_gone (y ∷ hs) (later a) f e =
        picked (λ (r : List Held). suc (count (is_before l x) r) ≤ bit (is_before l x y) + count (is_before l x) hs) (stays (marked n y)) (marked n y ∷ gone l n hs) (gone l n hs)
        (λ g. omega (arith, marked_fewer y, count_one_gone hs a f e))
        (λ g. omega (arith, count_one_gone hs a f e))

  pub other_same : (h : Held) → eqb h.sequence n ≡ false → marked n h ≡ h
  other_same h e = rw e

  pub still_there : {h : Held} {hs : List Held} → Among h hs → (h.sequence ≡ n → ⊥) → Among h (gone l n hs)
  still_there {h} {hs} a other =
      among_keep stays (rw (no (eqb h.link l)))
      (subst (λ (y : Held). Among y (map (marked n) hs)) (other_same h (ne_eqb h.sequence n other)) (among_map (marked n) a))
    where
      no : (b : Bool) → both b (eqb h.sequence n) ≡ false
      no true = ne_eqb h.sequence n other
      no false = refl

pub some_counted : {A : Type 0} (f : A → Bool) {x : A} {xs : List A} → Among x xs → f x ≡ true → 1 ≤ count f xs
some_counted f {x} here e = omega (arith, bit_true (f x) e)
some_counted f (later a) e = omega (arith, some_counted f a e)

-- ---- numbers that rise
pub from_on : {b a : ℕ} {h : Held} {hs : List Held} → Rising b a hs → Among h hs → a ≤ h.sequence
from_on {b = b} {h = h} (Rattle.demand_held.proofs.Good.ends {a = a} _) x5 = elim x5 [ ]
from_on (rises le r) here = le
from_on (rises le r) (later i) = omega (arith, le, from_on r i)

pub one_number : {b a : ℕ} {h x : Held} {hs : List Held} → Rising b a hs → Among h hs → Among x hs → h.sequence ≡ x.sequence → h ≡ x
one_number {b = b} {h = h} (Rattle.demand_held.proofs.Good.ends {a = a} _) x14 _ e = elim x14 [ ]
one_number (rises le r) here here e = refl
one_number (rises le r) here (later j) e = absurd (omega (arith, from_on r j, e))
one_number (rises le r) (later i) here e = absurd (omega (arith, from_on r i, e))
one_number (rises le r) (later i) (later j) e = one_number r i j e

pub record Oldest (f : Held → Bool) (x : Held) (hs : List Held) : Type 0 where
  pub one : Held
  pub found : first_that f hs ≡ some one
  pub among : Among one hs
  pub passes : f one ≡ true
  pub older : one.sequence ≤ x.sequence

pub oldest : {b a : ℕ} (f : Held → Bool) {x : Held} (hs : List Held) → Rising b a hs → Among x hs → f x ≡ true → Oldest f x hs
oldest {b = b} {a = a} f {x = x} [] _ x5 e = elim x5 [ ]
oldest f (x ∷ hs) (rises le r) here e = record { one = x; found = rw e; among = here; passes = e; older = omega arith }
oldest f {x} (y ∷ hs) (rises le r) (later i) e = bool_cases (f y) (λ g. first g) (λ g. next g (oldest f hs r i e))
  where
    first : f y ≡ true → Oldest f x (y ∷ hs)
    first g = record { one = y; found = rw g; among = here; passes = g; older = omega (arith, from_on r i) }

    next : f y ≡ false → Oldest f x hs → Oldest f x (y ∷ hs)
    next g o = record { one = o.one; found = rw g o.found; among = later o.among; passes = o.passes; older = o.older }

-- ---- the newest record of an alarm
pub record Newest (l i : ℕ) (h : Held) (hs : List Held) : Type 0 where
  pub among : Among h hs
  pub own : h.link ≡ l
  pub told : is_some (alarm_in i h.content) ≡ true

pub newest_of : (l i : ℕ) (h : Held) (found : Option Held) (hs : List Held) → newest l i found hs ≡ some h → (found ≡ some h) ⊎ Newest l i h hs
newest_of l i h found [] e = inl e
newest_of l i h found (y ∷ hs) e =
    bool_cases (both (eqb y.link l) (is_some (alarm_in i y.content)))
    (λ g. is g (newest_of l i h (some y) hs (rw g at e)))
    (λ g. not_it (newest_of l i h found hs (rw g at e)))
  where
    on : Newest l i h hs → Newest l i h (y ∷ hs)
    on w = record { among = later w.among; own = w.own; told = w.told }

    is : both (eqb y.link l) (is_some (alarm_in i y.content)) ≡ true → (some y ≡ some h) ⊎ Newest l i h hs → (found ≡ some h) ⊎ Newest l i h (y ∷ hs)
    is g (inl q) = let same : y ≡ h = cc in inr (subst (λ (z : Held). Newest l i z (y ∷ hs)) same (record { among = here; own = eqb-true y.link l (both_true (eqb y.link l) _ g).0; told = (both_true (eqb y.link l) _ g).1 }))
    is g (inr w) = inr (on w)

    not_it : (found ≡ some h) ⊎ Newest l i h hs → (found ≡ some h) ⊎ Newest l i h (y ∷ hs)
    not_it (inl q) = inl q
    not_it (inr w) = inr (on w)
