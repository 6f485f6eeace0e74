-- Who loses a record: of eight owners, in both pools.
-- Assumes nothing.
use Rattle.basis.proofs.Std.{ℕ, zero, suc, ◌+◌, ◌-◌, ◌/◌, ◌%◌, ◌≤◌, ◌<◌, ◌≡◌, refl, sym, ◌∙◌, ap, Bool, true, false, not, List, [], ◌∷◌, ◌⊎◌, inl, inr, eqb, ltb, leb, length, arith, lt-ltb, le-ltb, lt-leb, le-leb, leb-true, ltb-true, eq-eqb, not-false, pick, bit, count, picked, le_or_lt, lt_or_ge}
use Rattle.pool.specs.declared.Pool.{Pool}
use Rattle.pool.specs.declared.Loser.{Loser}
use Rattle.pool.specs.declared.Loser.TheVariants.{Nobody, Owner}
use Rattle.pool.specs.Shares.{fuller, fullest as fullest_to, loser}
use Rattle.pool_laws.specs.View.{records, total, loser_in, holds as held_by}
use Rattle.machine.specs.Words.{keep}
use Rattle.machine.specs.State.{Held, Pool as Listed}
use Rattle.machine.specs.Pool.{is_for, holds, is_own, held_by as owned_by, is_full, fullest_below, fullest, lose, lose_of, make_room, owner_of}
use Rattle.demand_held.proofs.Lists.{Each, length-map}
use Rattle.demand_held.proofs.Lists.Each.{no_more, one_more}
use Rattle.demand_held.proofs.Good.{Below, beyond, own_held, fullest_holds}
use Rattle.refine_parts.specs.Record.{place_for}
use Rattle.refine_parts.specs.Same.{Beside, held_for, lost_for, SamePool}
use Rattle.refine_parts.proofs.PoolLists.{keep_length}

one_of_four : (k : ℕ) → k < 4 → bit (eqb k 0) + bit (eqb k 1) + bit (eqb k 2) + bit (eqb k 3) ≡ 1
one_of_four zero h = refl
one_of_four (suc zero) h = refl
one_of_four (suc (suc zero)) h = refl
one_of_four (suc (suc (suc zero))) h = refl
one_of_four (suc (suc (suc (suc k)))) h = absurd (omega arith)

all_of_four : {n : ℕ} → n ≤ 4 → (hs : List Held) → Each (Below n) hs
    → count (is_for 0) hs + count (is_for 1) hs + count (is_for 2) hs + count (is_for 3) hs ≡ length hs
all_of_four f [] no_more = refl
all_of_four f (h ∷ hs) (one_more b r) = omega (arith, one_of_four h.link (omega arith), all_of_four f hs r)

all_of_eight : (m : Listed) → m.site ≤ 1
    → owned_by m 0 + owned_by m 1 + owned_by m 2 + owned_by m 3 + owned_by m 4 + owned_by m 5 + owned_by m 6 + owned_by m 7
    ≡ count (is_for 0) m.held + count (is_for 1) m.held + count (is_for 2) m.held + count (is_for 3) m.held
    + (count (is_for 0) m.beside.held + count (is_for 1) m.beside.held + count (is_for 2) m.beside.held + count (is_for 3) m.beside.held)
all_of_eight m h = go m.site refl
  where
    go : (k : ℕ) → m.site ≡ k → owned_by m 0 + owned_by m 1 + owned_by m 2 + owned_by m 3 + owned_by m 4 + owned_by m 5 + owned_by m 6 + owned_by m 7
        ≡ count (is_for 0) m.held + count (is_for 1) m.held + count (is_for 2) m.held + count (is_for 3) m.held
        + (count (is_for 0) m.beside.held + count (is_for 1) m.beside.held + count (is_for 2) m.beside.held + count (is_for 3) m.beside.held)
    go zero e = rw e (omega arith)
    go (suc zero) e = rw e (omega arith)
    go (suc (suc k)) e = absurd (omega arith)

fullest_below_lem : (m : Listed) (k : ℕ) → 0 < k → fullest_below k m < k
fullest_below_lem m zero h = absurd (omega arith)
fullest_below_lem m (suc zero) h = picked (λ (l : ℕ). l < 1) (ltb (owned_by m 0) (owned_by m 0)) 0 0 (λ e. omega arith) (λ e. omega arith)
fullest_below_lem m (suc (suc k)) h =
    picked (λ (l : ℕ). l < suc (suc k)) (ltb (owned_by m (fullest_below (suc k) m)) (owned_by m (suc k))) (suc k) (fullest_below (suc k) m)
    (λ e. omega arith)
    (λ e. omega (arith, fullest_below_lem m (suc k) (omega arith)))

fullest_to_lem : (held : ℕ → ℕ) (m : Listed) → ((l : ℕ) → l < 8 → held l ≡ owned_by m l) → (k : ℕ) → k < 8 → fullest_to held k ≡ fullest_below (suc k) m
unfolding fullest_to
fullest_to_lem held m e zero h = go (ltb (owned_by m 0) (owned_by m 0))
  where
    go : (t : Bool) → ◌≡◌ {A = ℕ} 0 (pick t 0 0)
    go true = refl
    go false = refl
fullest_to_lem held m e (suc k) h = go (fullest_to held k) (fullest_below (suc k) m) (fullest_to_lem held m e k (omega arith)) (fullest_below_lem m (suc k) (omega arith))
  where
    go : (a b : ℕ) → a ≡ b → b < suc k → fuller held a (suc k) ≡ pick (ltb (owned_by m b) (owned_by m (suc k))) (suc k) b
    go a b s f = rw (s, e b (omega arith), e (suc k) h)

-- a link that holds a record is configured
holds_configured : {n : ℕ} (l : ℕ) (hs : List Held) → Each (Below n) hs → 1 ≤ count (is_for l) hs → l < n
holds_configured {n} l hs links one = go (lt_or_ge l n)
  where
    go : (l < n) ⊎ (n ≤ l) → l < n
    go (inl h) = h
    go (inr h) = absurd (omega (arith, one, beyond l h hs links))

-- the loser, of the configured links
abbrev pub Configured : Listed → Loser → Type 0
Configured m Nobody = Unit {0}
Configured m (Owner w) = (w < 8) × (w % 4 < length (lost_for m w))

abbrev pub losing : Loser → Listed → Listed
losing Nobody m = m
losing (Owner w) m = lose_of w m

abbrev loser_of : ℕ → Listed → Loser
loser_of o m =
    pick (leb 64 (owned_by m o)) (Owner o)
    (pick (not (is_full m)) Nobody
    (pick (ltb (owned_by m o) 16) (Owner (fullest m)) (Owner o)))

module _ (m : Listed) (l : ℕ) (h : l < 4) where
  own_is : is_own m (owner_of m.site l) ≡ true
  own_is = let q : owner_of m.site l / 4 ≡ m.site = omega arith in eq-eqb (owner_of m.site l / 4) m.site q

  its_link : owner_of m.site l % 4 ≡ l
  its_link = omega arith

  lose_own : lose_of (owner_of m.site l) m ≡ lose l m
  unfolding lose_of
  lose_own = rw own_is (ap (λ (j : ℕ). lose j m) its_link)

  room_of : make_room l m ≡ losing (loser_of (owner_of m.site l) m) m
  unfolding make_room
  room_of = rw (own_held m l h) (go (leb 64 (holds m l)) (not (is_full m)) (ltb (holds m l) 16))
    where
      go : (a b c : Bool) → pick a (lose l m) (pick b m (pick c (lose_of (fullest m) m) (lose l m)))
          ≡ losing (pick a (Owner (owner_of m.site l)) (pick b Nobody (pick c (Owner (fullest m)) (Owner (owner_of m.site l))))) m
      go true b c = sym lose_own
      go false true c = refl
      go false false true = refl
      go false false false = sym lose_own

module _ {links k q : ℕ} {x : Beside} {p : Pool} {m : Listed} (same : SamePool links x k p q m) where
  pub held_same : (o : ℕ) → o < 8 → held_by (records p) o ≡ owned_by m o
  held_same o h = ap length (same.held o h) ∙ length-map (place_for o) (keep (is_for (o % 4)) (held_for m o)) ∙ keep_length (is_for (o % 4)) (held_for m o)

  total_same : total (held_by (records p)) 8 ≡ length m.held + length m.beside.held
  unfolding total
  total_same =
      omega (
        arith,
        held_same 0 (omega arith),
        held_same 1 (omega arith),
        held_same 2 (omega arith),
        held_same 3 (omega arith),
        held_same 4 (omega arith),
        held_same 5 (omega arith),
        held_same 6 (omega arith),
        held_same 7 (omega arith),
        all_of_eight m same.good.site,
        all_of_four same.good.own.few m.held same.good.own.links,
        all_of_four same.beside.few m.beside.held same.beside.links,
      )

  abbrev size : ℕ
  size = length m.held + length m.beside.held

  free_same : ltb 0 (128 - total (held_by (records p)) 8) ≡ not (is_full m)
  free_same = ap (λ (n : ℕ). ltb 0 (128 - n)) total_same ∙ go (le_or_lt 128 size)
    where
      go : (128 ≤ size) ⊎ (size < 128) → ltb 0 (128 - size) ≡ not (leb 128 size)
      go (inl h) = le-ltb 0 (128 - size) (omega arith) ∙ ap not (sym (le-leb 128 size h))
      go (inr h) = lt-ltb 0 (128 - size) (omega arith) ∙ ap not (sym (lt-leb 128 size h))

  fullest_same : fullest_to (held_by (records p)) 7 ≡ fullest m
  fullest_same = fullest_to_lem (held_by (records p)) m held_same 7 (omega arith)

  loser_same : (o : ℕ) → o < 8 → loser_in 8 (records p) o ≡ loser_of o m
  unfolding loser
  loser_same o h = rw (held_same o h, free_same, fullest_same)

  module _ (l : ℕ) (link : l < links) where
    below_four : l < 4
    below_four = omega (arith, same.few)

    below_eight : owner_of m.site l < 8
    below_eight = omega (arith, same.few, same.good.site)

    -- the machine loses what the code's loser loses
    pub room_same : make_room l m ≡ losing (loser_in 8 (records p) (owner_of m.site l)) m
    room_same = room_of m l below_four ∙ ap (λ (who : Loser). losing who m) (sym (loser_same (owner_of m.site l) below_eight))

    own_configured : Configured m (Owner (owner_of m.site l))
    own_configured = (below_eight, rw (own_is m l below_four, its_link m l below_four) (omega (arith, same.configured)))

    -- the fullest holds a record, so its link is configured
    fullest_configured : 16 < owned_by m (fullest m) → Configured m (Owner (fullest m))
    fullest_configured most = (fullest_below_lem m 8 (omega arith), go (is_own m (fullest m)) refl)
      where
        counted : (t : Bool) → is_own m (fullest m) ≡ t → 16 < count (is_for (fullest m % 4)) (pick t m.held m.beside.held)
        counted t e = omega (arith, most, ap (λ (t : Bool). count (is_for (fullest m % 4)) (pick t m.held m.beside.held)) e)

        go : (t : Bool) → is_own m (fullest m) ≡ t → fullest m % 4 < length (pick t m.lost m.beside.lost)
        go true e = holds_configured (fullest m % 4) m.held same.good.own.links (omega (arith, counted true e))
        go false e = holds_configured (fullest m % 4) m.beside.held same.beside.links (omega (arith, counted false e))

    pub loser_configured : Configured m (loser_in 8 (records p) (owner_of m.site l))
    loser_configured =
        rw (loser_same (owner_of m.site l) below_eight) (picked (Configured m) (leb 64 (owned_by m (owner_of m.site l))) (Owner (owner_of m.site l)) _ (λ e. own_configured)
        (λ e. picked (Configured m) (not (is_full m)) Nobody _ (λ f. tt)
        (λ f. picked (Configured m) (ltb (owned_by m (owner_of m.site l)) 16) (Owner (fullest m)) (Owner (owner_of m.site l))
        (λ g. fullest_configured
        (fullest_holds m same.good l (omega (arith, same.configured))
        (omega (arith, ltb-true (owned_by m (owner_of m.site l)) 16 g, own_held m l below_four)) (leb-true 128 size (not-false (is_full m) f))))
        (λ g. own_configured))))
