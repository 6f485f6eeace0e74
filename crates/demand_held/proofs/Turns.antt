-- Whatever is done to a box, its sites are at the ends of runs; and what becomes of a held record meanwhile.
-- Assumes nothing.
use Rattle.basis.proofs.Std.{ℕ, zero, suc, ◌≡◌, refl, sym, ap, subst, ◌∙◌, List, [], ◌∷◌, Option, some, none, arith}
use Rattle.machine.specs.State.{Issued, Share, Start, Machine, Call}
use Rattle.machine.specs.Table.{Begins}
use Rattle.machine.specs.Table.Begins.{begins}
use Rattle.machine.specs.Step.{step}
use Rattle.machine.specs.Box.{Box, empty_box, site_of, other_of, finds, found_by, site_is, begins_beside, Turn, called, turned, turned_all}
use Rattle.machine.specs.Box.Turn.{starts, calls}
use Rattle.machine.specs.Run.{Neighbours, Run, Played, RunTo, Runs}
use Rattle.machine.specs.Run.Run.{begun, begun_beside, next, other_starts, other_calls}
use Rattle.machine.specs.Run.Played.{no_turn, start, call}
use Rattle.demand_held.specs.Held.{IsHeld, IsDone, Fate, KeptBeside, Until}
use Rattle.demand_held.specs.Held.Kept.{stays, pushed}
use Rattle.demand_held.specs.Held.Fate.{kept, settled}
use Rattle.demand_held.specs.Held.KeptBeside.{stays as stays_beside, pushed as pushed_beside}
use Rattle.demand_held.specs.Held.Until.{lasts, answered_now, pushed_now, pushed_beside as pushed_by_other, begins_anew, later}
use Rattle.demand_held.proofs.Runs.{run_sound, step_site, held, beside}
use Rattle.demand_held.proofs.Sides.{Two, Which, own, other, no_site, north_two, south_two, north_which, south_which}

-- ---- site k, and the other, j
pub data Stands (k j : ℕ) : Option Machine → Option Machine → Type 0 where
  neither : Stands k j none none
  this_one : {m : Machine} → RunTo m → m.pool.site ≡ k → Stands k j (some m) none
  that_one : {o : Machine} → RunTo o → o.pool.site ≡ j → Stands k j none (some o)
  both_ones : {m o : Machine} → RunTo m → m.pool.site ≡ k → RunTo o → o.pool.site ≡ j → Neighbours m o → Stands k j (some m) (some o)

turned_round : {m o : Machine} → Neighbours m o → Neighbours o m
turned_round n = record { two = λ e. n.two (sym e); beside = n.own; own = n.beside }

pub round : {k j : ℕ} {a o : Option Machine} → Stands k j a o → Stands j k o a
round neither = neither
round (this_one r e) = that_one r e
round (that_one r e) = this_one r e
round (both_ones r e q f n) = both_ones q f r e (turned_round n)

its_site_is : {s : Start} {m : Machine} → Begins s (some m) → m.pool.site ≡ s.site
its_site_is (begins allowed e g) = refl

begun_alone : {s : Start} {m : Machine} → Begins s (some m) → RunTo (begins_beside none m)
begun_alone {s} (begins allowed e g) = record { start = s; past = []; run = begun (begins allowed e g) }

module _ (k j : ℕ) (apart : j ≡ k → ⊥) where
  two_sites : {x y : ℕ} → x ≡ k → y ≡ j → x ≡ y → ⊥
  two_sites e f p = apart (sym f ∙ sym p ∙ e)

  -- a start of site k
  beside_other : {s : Start} {m o : Machine} → Begins s (some m) → m.pool.site ≡ k → RunTo o → o.pool.site ≡ j
      → Stands k j (some (begins_beside (some o) m)) (some (finds (begins_beside (some o) m) o))
  beside_other {s} b e r f =
      both_ones (record { start = s; past = []; run = begun_beside b r.run (two_sites e f) }) e
      (record { start = r.start; past = r.past; run = other_starts r.run b (λ p. two_sites e f (sym p)) }) f
      (record { two = two_sites e f; beside = refl; own = refl })

  starts_on : {s : Start} {m : Machine} {a o : Option Machine} → Begins s (some m) → s.site ≡ k → Stands k j a o
      → Stands k j (some (begins_beside o m)) (found_by (begins_beside o m) o)
  starts_on b e neither = this_one (begun_alone b) (its_site_is b ∙ e)
  starts_on b e (this_one r f) = this_one (begun_alone b) (its_site_is b ∙ e)
  starts_on b e (that_one r f) = beside_other b (its_site_is b ∙ e) r f
  starts_on b e (both_ones q g r f n) = beside_other b (its_site_is b ∙ e) r f

  -- a call of site k
  one_more : {m : Machine} (c : Call) → RunTo m → RunTo (step m c).1
  one_more {m} c r = record { start = r.start; past = record { call = c; gave = (step m c).0 } ∷ r.past; run = next c r.run }

  stays_site : {m : Machine} (c : Call) → RunTo m → m.pool.site ≡ k → (step m c).1.pool.site ≡ k
  stays_site {m} c r e = step_site m (run_sound r.run) c ∙ e

  calls_on : {m : Machine} {o : Option Machine} (c : Call) → Stands k j (some m) o → Stands k j (some (step m c).1) (found_by (step m c).1 o)
  calls_on c (this_one r e) = this_one (one_more c r) (stays_site c r e)
  calls_on c (both_ones r e q f n) =
      both_ones (one_more c r) (stays_site c r e)
      (record { start = q.start; past = q.past; run = other_calls q.run r.run (turned_round n) c }) f
      (record { two = two_sites (stays_site c r e) f; beside = refl; own = refl })

-- ---- what stands there
no_machine : {m : Machine} {P : Type 0} → ◌≡◌ {A = Option Machine} none (some m) → P
no_machine e = absurd (let z : ◌≡◌ {A = ℕ} 0 1 = cc in omega arith)

run_to : {k j : ℕ} {a o : Option Machine} (m : Machine) → Stands k j a o → a ≡ some m → RunTo m
run_to m neither e = no_machine e
run_to m (that_one r f) e = no_machine e
run_to m (this_one {m = x} r f) e = let same : x ≡ m = cc in subst RunTo same r
run_to m (both_ones {m = x} r f q g n) e = let same : x ≡ m = cc in subst RunTo same r

site_to : {k j : ℕ} {a o : Option Machine} (m : Machine) → Stands k j a o → a ≡ some m → m.pool.site ≡ k
site_to m neither e = no_machine e
site_to m (that_one r f) e = no_machine e
site_to {k} m (this_one {m = x} r f) e = let same : x ≡ m = cc in subst (λ (y : Machine). y.pool.site ≡ k) same f
site_to {k} m (both_ones {m = x} r f q g n) e = let same : x ≡ m = cc in subst (λ (y : Machine). y.pool.site ≡ k) same f

near_to : {k j : ℕ} {a o : Option Machine} (m x : Machine) → Stands k j a o → a ≡ some m → o ≡ some x → Neighbours m x
near_to m x neither e f = no_machine e
near_to m x (this_one r g) e f = no_machine f
near_to m x (that_one r g) e f = no_machine e
near_to m x (both_ones {m = y} {o = z} r g q h n) e f =
    let one : y ≡ m = cc in
    let two : z ≡ x = cc in
    subst (λ (v : Machine). Neighbours v x) one (subst (Neighbours y) two n)

-- ---- what a turn is
no_start : (i : ℕ) (b : Box) → turned (starts i none) b ≡ b
unfolding turned
no_start i b = refl

a_start : (i : ℕ) (x : Machine) (b : Box) → turned (starts i (some x)) b ≡ site_is i (begins_beside (other_of i b) x) b
unfolding turned
a_start i x b = refl

no_call : (i : ℕ) (c : Call) (b : Box) → site_of i b ≡ none → turned (calls i c) b ≡ b
unfolding turned
no_call i c b e = ap (λ (o : Option Machine). called i c o b) e

a_call : (i : ℕ) (c : Call) (x : Machine) (b : Box) → site_of i b ≡ some x → turned (calls i c) b ≡ site_is i (step x c).1 b
unfolding turned
a_call i c x b e = ap (λ (o : Option Machine). called i c o b) e

-- ---- a box, seen from site k
module _ (k j : ℕ) (two : Two k j) (back : Two j k) (which : (i : ℕ) → Which k j i) where
  abbrev pub Standing : Box → Type 0
  Standing b = Stands k j (site_of k b) (other_of k b)

  its_view : (b : Box) → Standing b → Stands j k (site_of j b) (other_of j b)
  its_view b st = rw (two.other_is b, two.own_is b) (round st)

  own_now : (x : Machine) (b : Box) → Stands k j (some x) (found_by x (other_of k b)) → Standing (site_is k x b)
  own_now x b st = rw (two.own_site x b, two.own_other x b) st

  its_now : (x : Machine) (b : Box) → Stands j k (some x) (found_by x (other_of j b)) → Standing (site_is j x b)
  its_now x b st = rw (two.its_site x b, two.its_other x b) (subst (λ (o : Option Machine). Stands k j (found_by x o) (some x)) (two.own_is b) (round st))

  own_start : {s : Start} {x : Machine} (b : Box) → Begins s (some x) → s.site ≡ k → Standing b → Standing (site_is k (begins_beside (other_of k b) x) b)
  own_start {x = x} b g e st = own_now (begins_beside (other_of k b) x) b (starts_on k j two.apart g e st)

  its_start : {s : Start} {x : Machine} (b : Box) → Begins s (some x) → s.site ≡ j → Standing b → Standing (site_is j (begins_beside (other_of j b) x) b)
  its_start {x = x} b g e st = its_now (begins_beside (other_of j b) x) b (starts_on j k back.apart g e (its_view b st))

  own_call : (c : Call) (x : Machine) (b : Box) → site_of k b ≡ some x → Standing b → Standing (site_is k (step x c).1 b)
  own_call c x b e st = own_now (step x c).1 b (calls_on k j two.apart c (subst (λ (o : Option Machine). Stands k j o (other_of k b)) e st))

  its_call : (c : Call) (x : Machine) (b : Box) → site_of j b ≡ some x → Standing b → Standing (site_is j (step x c).1 b)
  its_call c x b e st = its_now (step x c).1 b (calls_on j k back.apart c (subst (λ (o : Option Machine). Stands j k o (other_of j b)) e (its_view b st)))

  start_stands : (s : Start) (o : Option Machine) → Begins s o → (b : Box) → Standing b → Standing (turned (starts s.site o) b)
  start_stands s none g b st = subst Standing (sym (no_start s.site b)) st
  start_stands s (some x) g b st = go s.site refl (which s.site)
    where
      go : (i : ℕ) → s.site ≡ i → Which k j i → Standing (turned (starts i (some x)) b)
      go _ e own = subst Standing (sym (a_start k x b)) (own_start b g e st)
      go _ e other = subst Standing (sym (a_start j x b)) (its_start b g e st)
      go i e (no_site n) = subst Standing (sym (a_start i x b ∙ n.nothing (begins_beside (other_of i b) x) b)) st

  call_stands : (i : ℕ) (c : Call) (b : Box) → Standing b → Standing (turned (calls i c) b)
  call_stands i c b st = go i (which i)
    where
      mine : (o : Option Machine) → site_of k b ≡ o → Standing (turned (calls k c) b)
      mine none e = subst Standing (sym (no_call k c b e)) st
      mine (some x) e = subst Standing (sym (a_call k c x b e)) (own_call c x b e st)

      its : (o : Option Machine) → site_of j b ≡ o → Standing (turned (calls j c) b)
      its none e = subst Standing (sym (no_call j c b e)) st
      its (some x) e = subst Standing (sym (a_call j c x b e)) (its_call c x b e st)

      go : (i : ℕ) → Which k j i → Standing (turned (calls i c) b)
      go _ own = mine (site_of k b) refl
      go _ other = its (site_of j b) refl
      go i (no_site n) = subst Standing (sym (no_call i c b (n.nobody b))) st

  pub stands : {ts : List Turn} → Played ts → (b : Box) → Standing b → Standing (turned_all ts b)
  stands no_turn b st = st
  stands (start {s = s} {o = o} g p) b st = stands p (turned (starts s.site o) b) (start_stands s o g b st)
  stands (call {k = i} {c = c} p) b st = stands p (turned (calls i c) b) (call_stands i c b st)

  -- ---- a record that site k holds
  module _ (r : Issued) (n : ℕ) where
    abbrev Goes : List Turn → Type 0
    Goes ts = (b : Box) → Standing b → (m : Machine) → site_of k b ≡ some m → IsHeld r n m.pool.held → Until k r n b ts

    -- the box is this one after a turn
    after_turn : {t : Turn} {ts : List Turn} {b c : Box} → turned t b ≡ c → Until k r n c ts → Until k r n b (t ∷ ts)
    after_turn {ts = ts} e u = later (subst (λ (x : Box). Until k r n x ts) (sym e) u)

    start_until : (s : Start) (o : Option Machine) → Begins s o → {ts : List Turn} → Goes ts → Goes (starts s.site o ∷ ts)
    start_until s none g f b st m e h = after_turn (no_start s.site b) (f b st m e h)
    start_until s (some x) g {ts} f b st m e h = go s.site refl (which s.site)
      where
        go : (i : ℕ) → s.site ≡ i → Which k j i → Until k r n b (starts i (some x) ∷ ts)
        go _ q own = begins_anew
        go _ q other =
            let y = begins_beside (other_of j b) x in
            after_turn (a_start j x b)
            (f (site_is j y b) (its_start b g q st) (finds y m) (two.its_site y b ∙ ap (found_by y) e)
            (subst (λ (o : Option Machine). IsHeld r n (begins_beside o x).pool.beside.held) (sym (two.own_is b ∙ e)) h))
        go i q (no_site w) = after_turn (a_start i x b ∙ w.nothing (begins_beside (other_of i b) x) b) (f b st m e h)

    call_until : (i : ℕ) (c : Call) {ts : List Turn} → Goes ts → Goes (calls i c ∷ ts)
    call_until i c {ts} f b st m e h = go i (which i)
      where
        mine : Fate m c r n → Until k r n b (calls k c ∷ ts)
        mine (settled d a) = answered_now e d a
        mine (kept (pushed d room many)) = pushed_now e d room many
        mine (kept (stays x)) = after_turn (a_call k c m b e) (f (site_is k (step m c).1 b) (own_call c m b e st) (step m c).1 (two.own_site (step m c).1 b) x)

        by_it : (x : Machine) → site_of j b ≡ some x → KeptBeside x c r n → Until k r n b (calls j c ∷ ts)
        by_it x p (pushed_beside d place many) = pushed_by_other two.apart p d place many
        by_it x p (stays_beside y) =
            after_turn (a_call j c x b p)
            (f (site_is j (step x c).1 b) (its_call c x b p st) (finds (step x c).1 m) (two.its_site (step x c).1 b ∙ ap (found_by (step x c).1) e) y)

        its : (o : Option Machine) → site_of j b ≡ o → Until k r n b (calls j c ∷ ts)
        its none p = after_turn (no_call j c b p) (f b st m e h)
        its (some x) p =
            let near = near_to x m (its_view b st) p (two.own_is b ∙ e) in
            by_it x p (beside x (run_sound (run_to x (its_view b st) p).run) c r n (subst (λ (y : Share). IsHeld r n y.held) (sym near.beside) h))

        go : (i : ℕ) → Which k j i → Until k r n b (calls i c ∷ ts)
        go _ own = mine (held m (run_sound (run_to m st e).run) c r n h)
        go _ other = its (site_of j b) refl
        go i (no_site w) = after_turn (no_call i c b (w.nobody b)) (f b st m e h)

    pub until : {ts : List Turn} → Played ts → Goes ts
    until no_turn b st m e h = lasts e h
    until (start {s = s} {o = o} g p) b st m e h = start_until s o g (λ b st m e h. until p b st m e h) b st m e h
    until (call {k = i} {c = c} p) b st m e h = call_until i c (λ b st m e h. until p b st m e h) b st m e h

-- ---- from the empty box
from_north : {ts : List Turn} → Played ts → Stands 0 1 (turned_all ts empty_box).north (turned_all ts empty_box).south
from_north p = stands 0 1 north_two south_two north_which p empty_box neither

pub of_every_box : (ts : List Turn) → Played ts → Runs (turned_all ts empty_box)
of_every_box ts p = record { run = run; site = site; neighbours = neighbours }
  where
    run : (k : ℕ) (m : Machine) → site_of k (turned_all ts empty_box) ≡ some m → RunTo m
    run zero m e = run_to m (from_north p) e
    run (suc zero) m e = run_to m (round (from_north p)) e
    run (suc (suc k)) m e = no_machine e

    site : (k : ℕ) (m : Machine) → site_of k (turned_all ts empty_box) ≡ some m → m.pool.site ≡ k
    site zero m e = site_to m (from_north p) e
    site (suc zero) m e = site_to m (round (from_north p)) e
    site (suc (suc k)) m e = no_machine e

    neighbours : (k : ℕ) (m o : Machine) → site_of k (turned_all ts empty_box) ≡ some m → other_of k (turned_all ts empty_box) ≡ some o → Neighbours m o
    neighbours zero m o e f = near_to m o (from_north p) e f
    neighbours (suc zero) m o e f = near_to m o (round (from_north p)) e f
    neighbours (suc (suc k)) m o e f = no_machine e

pub held_on : (ts us : List Turn) → Played ts → Played us → (k : ℕ) (m : Machine) → site_of k (turned_all ts empty_box) ≡ some m → (r : Issued) (n : ℕ) → IsHeld r n m.pool.held
    → Until k r n (turned_all ts empty_box) us
held_on ts us p q zero m e r n h = until 0 1 north_two south_two north_which r n q (turned_all ts empty_box) (from_north p) m e h
held_on ts us p q (suc zero) m e r n h = until 1 0 south_two north_two south_which r n q (turned_all ts empty_box) (round (from_north p)) m e h
held_on ts us p q (suc (suc k)) m e r n h = no_machine e
