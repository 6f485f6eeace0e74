-- The demand holds of every sequence.
-- Assumes nothing.
use Rattle.basis.proofs.Std.{ℕ, zero, suc, ◌<◌, ◌≡◌, refl, sym, ap, ap₂, subst, ◌∙◌, Bool, List, [], ◌∷◌, Option, some, none, eqb, arith, pick}
use Rattle.machine.specs.State.{Share, no_share, Pool, own_of, with_own, with_beside, Machine, Call, Outcome}
use Rattle.machine.specs.Readings.{reading}
use Rattle.machine.specs.Step.{step}
use Rattle.machine.specs.Box.{Box, empty_box, site_of, other_of, site_is, with_pool, finds, begins_beside, found_by, Turn, started, called, turned, turned_all, giving, given, only, RoomyCall, RoomyTurn, Roomy}
use Rattle.machine.specs.Box.Turn.{starts, calls}
use Rattle.demand_held.proofs.Sides.{Two, NoSite, Which, own, other, no_site, north_two, south_two, north_which, south_which}
use Rattle.demand_apart.specs.Apart.{ReadAlike, DemandApart}
use Rattle.demand_apart.specs.Apart.ReadAlike.{neither, both_read}
use Rattle.demand_apart.proofs.Issue.{alone, step_alone, stays_beside}

-- the machine of the whole sequence, and that of the site's turns alone
pub data Alike : Option Machine → Option Machine → Type 0 where
  neither_begun : Alike none none
  as_alone : {m n : Machine} → n ≡ alone m → Alike (some m) (some n)

abbrev pub Linked : Option Machine → Option Machine → Type 0
Linked none o = Unit {0}
Linked (some m) none = Unit {0}
Linked (some m) (some o) = (m.pool.beside ≡ own_of o.pool) × (o.pool.beside ≡ own_of m.pool)

module _ (k j : ℕ) (two : Two k j) (which : (i : ℕ) → Which k j i) where
  pub record Near (b a : Box) : Type 0 where
    pub alike : Alike (site_of k b) (site_of k a)
    pub nobody : other_of k a ≡ none
    pub linked : Linked (site_of k b) (other_of k b)

  near_of : {b a : Box} {x y o : Option Machine} → site_of k b ≡ x → site_of k a ≡ y → other_of k b ≡ o → other_of k a ≡ none → Alike x y → Linked x o → Near b a
  near_of p q r z s l = record { alike = rw (p, q) s; nobody = z; linked = rw (p, r) l }

  -- ---- the site's own turns
  found_linked : (x : Machine) (o : Option Machine) → Linked (some x) (found_by x o)
  found_linked x none = tt
  found_linked x (some o) = (refl, refl)

  own_near : (b a : Box) (m n : Machine) → Near b a → n ≡ alone m → Near (site_is k m b) (site_is k n a)
  own_near b a m n s e =
      near_of (two.own_site m b) (two.own_site n a) (two.own_other m b) (two.own_other n a ∙ ap (found_by n) s.nobody) (as_alone e) (found_linked m (other_of k b))

  begun_alone : (m : Machine) (o : Option Machine) → begins_beside none m ≡ alone (begins_beside o m)
  begun_alone m none = refl
  begun_alone m (some o) = refl

  own_start : (b a : Box) (m : Machine) → Near b a → Near (site_is k (begins_beside (other_of k b) m) b) (site_is k (begins_beside (other_of k a) m) a)
  own_start b a m s =
      own_near b a (begins_beside (other_of k b) m) (begins_beside (other_of k a) m) s (ap (λ (o : Option Machine). begins_beside o m) s.nobody ∙ begun_alone m (other_of k b))

  -- ---- the other's
  begun_linked : (m : Machine) (x : Option Machine) → Linked (found_by (begins_beside x m) x) (some (begins_beside x m))
  begun_linked m none = tt
  begun_linked m (some n) = (refl, refl)

  begun_alike : (m : Machine) (x y : Option Machine) → Alike x y → Alike (found_by (begins_beside x m) x) y
  begun_alike m _ _ neither_begun = neither_begun
  begun_alike m _ _ (as_alone e) = as_alone e

  its_near : (b a : Box) (o : Machine) → Near b a → Alike (found_by o (site_of k b)) (site_of k a) → Linked (found_by o (site_of k b)) (some o) → Near (site_is j o b) a
  its_near b a o s x l =
      near_of (two.its_site o b) refl (two.its_other o b) s.nobody x l

  its_start : (b a : Box) (m : Machine) → Near b a → Near (site_is j (begins_beside (other_of j b) m) b) a
  its_start b a m s =
      subst (λ (x : Option Machine). Near (site_is j (begins_beside x m) b) a) (sym (two.own_is b))
      (its_near b a (begins_beside (site_of k b) m) s (begun_alike m (site_of k b) (site_of k a) s.alike) (begun_linked m (site_of k b)))

  step_linked : (o : Machine) (x : Option Machine) → Linked (found_by o x) (some o)
  step_linked o none = tt
  step_linked o (some n) = (refl, refl)

  -- what the other's call leaves of n, where it leaves what is beside it
  found_alone : (o n : Machine) → o.pool.beside ≡ own_of n.pool → alone (finds o n) ≡ alone n
  found_alone o n e = ap (λ (s : Share). with_pool (with_beside no_share (with_own s n.pool)) n) e

  step_alike : (o : Machine) (c : Call) → RoomyCall o c → (x y : Option Machine) → Alike x y → Linked x (some o) → Alike (found_by (step o c).1 x) y
  step_alike o c r _ _ neither_begun l = neither_begun
  step_alike o c r _ _ (as_alone {m} e) l = as_alone (e ∙ sym (found_alone (step o c).1 m (stays_beside o c r ∙ l.1)))

  -- ---- one turn
  start_own : (o : Option Machine) (b a : Box) → Near b a → Near (turned (starts k o) b) (turned (starts k o) a)
  unfolding turned
  start_own none b a s = s
  start_own (some m) b a s = own_start b a m s

  start_its : (o : Option Machine) (b a : Box) → Near b a → Near (turned (starts j o) b) a
  unfolding turned
  start_its none b a s = s
  start_its (some m) b a s = its_start b a m s

  start_nowhere : (o : Option Machine) (i : ℕ) (b a : Box) → NoSite k i → Near b a → Near (turned (starts i o) b) a
  unfolding turned
  start_nowhere none i b a n s = s
  start_nowhere (some m) i b a n s = rw (n.nothing (begins_beside (other_of i b) m) b) s

  call_own : (c : Call) (b a : Box) → RoomyTurn (calls k c) b → Near b a → Near (turned (calls k c) b) (turned (calls k c) a)
  unfolding turned
  call_own c b a r s = go (site_of k b) (site_of k a) refl refl s.alike
    where
      go : (x y : Option Machine) → site_of k b ≡ x → site_of k a ≡ y → Alike x y → Near (called k c (site_of k b) b) (called k c (site_of k a) a)
      go _ _ p q neither_begun = rw (p, q) s
      go _ _ p q (as_alone {m} {n} e) =
          rw (p, q) (own_near b a (step m c).1 (step n c).1 s (ap (λ (x : Machine). (step x c).1) e ∙ ap (λ (x : Outcome × Machine). x.1) (step_alone m c (r m p))))

  call_gives : (c : Call) (b a : Box) (xs ys : List Outcome) → RoomyTurn (calls k c) b → Near b a → xs ≡ ys → giving c (site_of k b) xs ≡ giving c (site_of k a) ys
  call_gives c b a xs ys r s e = go (site_of k b) (site_of k a) refl refl s.alike
    where
      go : (x y : Option Machine) → site_of k b ≡ x → site_of k a ≡ y → Alike x y → giving c (site_of k b) xs ≡ giving c (site_of k a) ys
      go _ _ p q neither_begun = rw (p, q) e
      go _ _ p q (as_alone {m} {n} f) =
          rw (p, q) (ap₂ (λ (o : Outcome) (l : List Outcome). o ∷ l) (sym (ap (λ (x : Machine). (step x c).0) f ∙ ap (λ (x : Outcome × Machine). x.0) (step_alone m c (r m p)))) e)

  call_its : (c : Call) (b a : Box) → RoomyTurn (calls j c) b → Near b a → Near (turned (calls j c) b) a
  unfolding turned
  call_its c b a r s = go (other_of k b) refl
    where
      go : (o : Option Machine) → other_of k b ≡ o → Near (called j c (site_of j b) b) a
      go none p = rw (two.other_is b ∙ p) s
      go (some o) p =
          rw (two.other_is b ∙ p)
          (its_near b a (step o c).1 s
          (step_alike o c (r o (two.other_is b ∙ p)) (site_of k b) (site_of k a) s.alike (subst (Linked (site_of k b)) p s.linked))
          (step_linked (step o c).1 (site_of k b)))

  call_nowhere : (i : ℕ) (c : Call) (b a : Box) → NoSite k i → Near b a → Near (turned (calls i c) b) a
  unfolding turned
  call_nowhere i c b a n s = rw (n.nobody b) s

  -- ---- every sequence
  record Same (ts : List Turn) (b a : Box) : Type 0 where
    told : given k ts b ≡ given k (only k ts) a
    ends : Near (turned_all ts b) (turned_all (only k ts) a)

  abbrev Follows : List Turn → Type 0
  Follows ts = (b a : Box) → Near b a → Roomy ts b → Same ts b a

  same_start : (i : ℕ) (o : Option Machine) (ts : List Turn) → Follows ts → Follows (starts i o ∷ ts)
  same_start i o ts f b a s (r, rs) = go i (which i) rs
    where
      go : (i : ℕ) → Which k j i → Roomy ts (turned (starts i o) b) → Same (starts i o ∷ ts) b a
      go _ own rs =
          let x = f (turned (starts k o) b) (turned (starts k o) a) (start_own o b a s) rs in
          record { told = rw two.same x.told; ends = rw two.same x.ends }
      go _ other rs =
          let x = f (turned (starts j o) b) a (start_its o b a s) rs in
          record { told = rw two.differ x.told; ends = rw two.differ x.ends }
      go i (no_site n) rs =
          let x = f (turned (starts i o) b) a (start_nowhere o i b a n s) rs in
          record { told = rw n.differ x.told; ends = rw n.differ x.ends }

  same_call : (i : ℕ) (c : Call) (ts : List Turn) → Follows ts → Follows (calls i c ∷ ts)
  same_call i c ts f b a s (r, rs) = go i (which i) r rs
    where
      go : (i : ℕ) → Which k j i → RoomyTurn (calls i c) b → Roomy ts (turned (calls i c) b) → Same (calls i c ∷ ts) b a
      go _ own r rs =
          let x = f (turned (calls k c) b) (turned (calls k c) a) (call_own c b a r s) rs in
          let y : pick (eqb k k) (giving c (site_of k b) (given k ts (turned (calls k c) b))) (given k ts (turned (calls k c) b))
          ≡ pick (eqb k k) (giving c (site_of k a) (given k (only k ts) (turned (calls k c) a))) (given k (only k ts) (turned (calls k c) a)) =
          rw two.same (call_gives c b a (given k ts (turned (calls k c) b)) (given k (only k ts) (turned (calls k c) a)) r s x.told) in
          record { told = y ∙ ap (λ (z : Bool). given k (pick z (calls k c ∷ only k ts) (only k ts)) a) (sym two.same); ends = rw two.same x.ends }
      go _ other r rs =
          let x = f (turned (calls j c) b) a (call_its c b a r s) rs in
          record { told = rw two.differ x.told; ends = rw two.differ x.ends }
      go i (no_site n) r rs =
          let x = f (turned (calls i c) b) a (call_nowhere i c b a n s) rs in
          record { told = rw n.differ x.told; ends = rw n.differ x.ends }

  same : (ts : List Turn) → Follows ts
  same [] b a s r = record { told = refl; ends = s }
  same (starts i o ∷ ts) b a s r = same_start i o ts (same ts) b a s r
  same (calls i c ∷ ts) b a s r = same_call i c ts (same ts) b a s r

  reads : (x y : Option Machine) → Alike x y → ReadAlike x y
  unfolding reading
  reads _ _ neither_begun = neither
  reads _ _ (as_alone {m} {n} e) = both_read {m = m} {a = n} (λ l. rw e)

  pub apart_told : Near empty_box empty_box → (ts : List Turn) → Roomy ts empty_box → given k ts empty_box ≡ given k (only k ts) empty_box
  apart_told n ts r = (same ts empty_box empty_box n r).told

  pub apart_read : Near empty_box empty_box → (ts : List Turn) → Roomy ts empty_box → ReadAlike (site_of k (turned_all ts empty_box)) (site_of k (turned_all (only k ts) empty_box))
  apart_read n ts r = reads _ _ (same ts empty_box empty_box n r).ends.alike

pub demand_apart : DemandApart
demand_apart = record { told = told; read = read }
  where
    told : (k : ℕ) → k < 2 → (ts : List Turn) → Roomy ts empty_box → given k ts empty_box ≡ given k (only k ts) empty_box
    told zero h = apart_told 0 1 north_two north_which (record { alike = neither_begun; nobody = refl; linked = tt })
    told (suc zero) h = apart_told 1 0 south_two south_which (record { alike = neither_begun; nobody = refl; linked = tt })
    told (suc (suc k)) h = absurd (omega arith)

    read : (k : ℕ) → k < 2 → (ts : List Turn) → Roomy ts empty_box → ReadAlike (site_of k (turned_all ts empty_box)) (site_of k (turned_all (only k ts) empty_box))
    read zero h = apart_read 0 1 north_two north_which (record { alike = neither_begun; nobody = refl; linked = tt })
    read (suc zero) h = apart_read 1 0 south_two south_which (record { alike = neither_begun; nobody = refl; linked = tt })
    read (suc (suc k)) h = absurd (omega arith)
