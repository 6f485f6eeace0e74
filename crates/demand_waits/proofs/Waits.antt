-- Turn after turn of a box: a record that waits is sent, is lost, or waits on within what stands before it.
-- Assumes nothing.
use Rattle.basis.proofs.Std.{ℕ, zero, suc, ◌+◌, ◌≤◌, ◌≡◌, refl, sym, ◌∙◌, ap, subst, Bool, true, false, List, [], ◌∷◌, ◌++◌, Option, some, none, ◌⊎◌, inl, inr, arith, pick, bool_cases, not_both}
use Rattle.machine.specs.State.{Held, Machine, Call}
use Rattle.machine.specs.Step.{step}
use Rattle.machine.specs.Box.{Box, empty_box, site_of, other_of, finds, found_by, site_is, begins_beside, Turn, called, turned, turned_all}
use Rattle.machine.specs.Box.Turn.{starts, calls}
use Rattle.machine.specs.Run.{past, Played, Runs}
use Rattle.machine.specs.Run.Played.{no_turn, start, call}
use Rattle.demand_held.proofs.Lists.{bit_true}
use Rattle.demand_held.proofs.Sides.{Two, Which, north_two, south_two, north_which, south_which}
use Rattle.demand_held.proofs.Sides.Which.{own, other, no_site}
use Rattle.demand_held.proofs.Demand.{demand3}
use Rattle.demand_happens.specs.Records.{ahead}
use Rattle.demand_waits.specs.Waits.{is_counted, counts, pumps, bound, Waits, cuts, Stays, IsLost, Out, Gone, InTime, Waiting}
use Rattle.demand_waits.specs.Waits.Stays.{one_more}
use Rattle.demand_waits.specs.Waits.Ends.{sent, lost, lost_beside}
use Rattle.demand_waits.specs.Waits.Out.{ended, waits, counted, uncounted}
use Rattle.demand_waits.specs.Waits.Gone.{now, later}
use Rattle.demand_waits.proofs.Counts.{ahead_within, some_ahead}
use Rattle.demand_waits.proofs.Pumps.{Next}
use Rattle.demand_waits.proofs.Pumps.Next.{out, lost as is_lost, on}
use Rattle.demand_waits.proofs.Calls.{own_call}
use Rattle.demand_waits.proofs.Beside.{other_call}
use Rattle.demand_waits.proofs.Drained.{drained}

-- ---- a box that turns leave
record Reached (b : Box) : Type 0 where
  turns : List Turn
  played : Played turns
  is : turned_all turns empty_box ≡ b

played_more : {ts us : List Turn} → Played ts → Played us → Played (ts ++ us)
played_more no_turn q = q
played_more (start g p) q = start g (played_more p q)
played_more (call p) q = call (played_more p q)

turned_more : (ts us : List Turn) (b : Box) → turned_all (ts ++ us) b ≡ turned_all us (turned_all ts b)
turned_more [] us b = refl
turned_more (t ∷ ts) us b = turned_more ts us (turned t b)

one_turn : {b : Box} {t : Turn} → Reached b → Played (t ∷ []) → Reached (turned t b)
one_turn {b} {t} r p =
    record {
      turns = r.turns ++ (t ∷ []);
      played = played_more r.played p;
      is = turned_more r.turns (t ∷ []) empty_box ∙ ap (turned t) r.is;
    }

runs_of : {b : Box} → Reached b → Runs b
runs_of r = subst Runs r.is (demand3.of_every_box r.turns r.played)

-- ---- what a turn is
no_start : (i : ℕ) (b : Box) → turned (starts i none) b ≡ b
unfolding turned
no_start i b = refl

a_start : (i : ℕ) (y : Machine) (b : Box) → turned (starts i (some y)) b ≡ site_is i (begins_beside (other_of i b) y) b
unfolding turned
a_start i y b = refl

no_call : (i : ℕ) (c : Call) (b : Box) → site_of i b ≡ none → turned (calls i c) b ≡ b
unfolding turned
no_call i c b e = ap (λ (o : Option Machine). called i c o b) e

a_call : (i : ℕ) (c : Call) (y : Machine) (b : Box) → site_of i b ≡ some y → turned (calls i c) b ≡ site_is i (step y c).1 b
unfolding turned
a_call i c y b e = ap (λ (o : Option Machine). called i c o b) e

-- ---- site k of a box
module _ (k j : ℕ) (two : Two k j) (which : (i : ℕ) → Which k j i) (l : ℕ) (x : Held) where
  abbrev On : List Turn → Type 0
  On ts = (b : Box) → Reached b → Stays k l b ts → (m : Machine) → site_of k b ≡ some m → Waits l x m → (n : ℕ) → ahead m l x ≤ n → Out k l x n b ts

  rest_stays : {b : Box} {t : Turn} {ts : List Turn} → Stays k l b (t ∷ ts) → Stays k l (turned t b) ts
  rest_stays (one_more e r) = r

  uncut : {b : Box} {t : Turn} {ts : List Turn} → Stays k l b (t ∷ ts) → cuts k l b t ≡ false
  uncut (one_more e r) = e

  module _ {ts : List Turn} (f : On ts) (b : Box) (m : Machine) (e : site_of k b ≡ some m) (w : Waits l x m) (n : ℕ) (few : ahead m l x ≤ n) where
    one_left : 1 ≤ n
    one_left = omega (arith, few, some_ahead l x w)

    -- a turn that changes nothing
    quiet : (t : Turn) → Reached (turned t b) → Stays k l b (t ∷ ts) → counts k l b t ≡ false → turned t b ≡ b → Out k l x n b (t ∷ ts)
    quiet t r st u same = uncounted u (f (turned t b) r (rest_stays st) m (ap (site_of k) same ∙ e) w n few)

    start_out : (i : ℕ) (o : Option Machine) → Reached (turned (starts i o) b) → Stays k l b (starts i o ∷ ts) → Out k l x n b (starts i o ∷ ts)
    start_out i none r st = quiet (starts i none) r st refl (no_start i b)
    start_out i (some y) r st = go i (which i) r st
      where
        go : (i : ℕ) → Which k j i → Reached (turned (starts i (some y)) b) → Stays k l b (starts i (some y) ∷ ts) → Out k l x n b (starts i (some y) ∷ ts)
        go _ own r st = not_both (rw two.same) (uncut st)
        go _ other r st =
            let v = begins_beside (other_of j b) y in
            uncounted refl (f (turned (starts j (some y)) b) r (rest_stays st) (finds v m) (ap (site_of k) (a_start j y b) ∙ two.its_site v b ∙ ap (found_by v) e)
            (after (other_of j b) (two.own_is b ∙ e)).0 n (omega (arith, few, (after (other_of j b) (two.own_is b ∙ e)).1)))
          where
            after : (o : Option Machine) → o ≡ some m → Waits l x (finds (begins_beside o y) m) × (ahead (finds (begins_beside o y) m) l x ≤ ahead m l x)
            after o q = rw q (record { configured = w.configured; up = w.up; held = w.held; link = w.link; unsent = w.unsent }, omega arith)
        go i (no_site v) r st = quiet (starts i (some y)) r st refl (a_start i y b ∙ v.nothing (begins_beside (other_of i b) y) b)

    -- ---- a call
    own_turn : (c : Call) → Reached (turned (calls k c) b) → Stays k l b (calls k c ∷ ts) → Next l x m c → Out k l x n b (calls k c ∷ ts)
    own_turn c r st (out a v) = ended one_left (sent e w a v)
    own_turn c r st (is_lost a) = ended one_left (lost e w a)
    own_turn c r st (on v fewer) = bool_cases (is_counted l (past m c)) (λ q. by_count q n few) (λ q. uncounted (counts_as ∙ q) (f (turned (calls k c) b) r (rest_stays st) (step m c).1 now_site v n (omega (arith, few, fewer))))
      where
        counts_as : counts k l b (calls k c) ≡ is_counted l (past m c)
        counts_as = rw (two.same, e)

        now_site : site_of k (turned (calls k c) b) ≡ some (step m c).1
        now_site = ap (site_of k) (a_call k c m b e) ∙ two.own_site (step m c).1 b

        by_count : is_counted l (past m c) ≡ true → (n : ℕ) → ahead m l x ≤ n → Out k l x n b (calls k c ∷ ts)
        by_count q zero few = absurd (omega (arith, few, some_ahead l x w))
        by_count q (suc n) few = counted (counts_as ∙ q) (f (turned (calls k c) b) r (rest_stays st) (step m c).1 now_site v n (omega (arith, few, fewer, bit_true (is_counted l (past m c)) q)))

    call_out : (i : ℕ) (c : Call) → Reached b → Reached (turned (calls i c) b) → Stays k l b (calls i c ∷ ts) → Out k l x n b (calls i c ∷ ts)
    call_out i c before r st = go i (which i) r st
      where
        its_own : counts k l b (calls j c) ≡ false
        its_own = rw two.differ

        by_it : (o : Machine) → site_of j b ≡ some o → Reached (turned (calls j c) b) → Stays k l b (calls j c ∷ ts)
            → (Waits l x (finds (step o c).1 m) × (ahead (finds (step o c).1 m) l x ≤ ahead m l x)) ⊎ IsLost l x o c (step o c).1.pool.beside.held → Out k l x n b (calls j c ∷ ts)
        by_it o p r st (inl v) =
            uncounted its_own (f (turned (calls j c) b) r (rest_stays st) (finds (step o c).1 m)
            (ap (site_of k) (a_call j c o b p) ∙ two.its_site (step o c).1 b ∙ ap (found_by (step o c).1) e) v.0 n (omega (arith, few, v.1)))
        by_it o p r st (inr v) = ended one_left (lost_beside e w two.apart p v)

        its : (o : Option Machine) → site_of j b ≡ o → Reached (turned (calls j c) b) → Stays k l b (calls j c ∷ ts) → Out k l x n b (calls j c ∷ ts)
        its none p r st = quiet (calls j c) r st its_own (no_call j c b p)
        its (some o) p r st =
            by_it o p r st
            (other_call l x ((runs_of before).run k m e).run ((runs_of before).run j o p).run ((runs_of before).neighbours k m o e (sym (two.other_is b) ∙ p)) w c)

        go : (i : ℕ) → Which k j i → Reached (turned (calls i c) b) → Stays k l b (calls i c ∷ ts) → Out k l x n b (calls i c ∷ ts)
        go _ own r st = own_turn c r st (own_call l x ((runs_of before).run k m e).run w c (rw (two.same, e) at (uncut st)))
        go _ other r st = its (site_of j b) refl r st
        go i (no_site v) r st = quiet (calls i c) r st (rw v.differ) (no_call i c b (v.nobody b))

  outs : {ts : List Turn} → Played ts → On ts
  outs no_turn b r st m e w n few = let one : 1 ≤ n = omega (arith, few, some_ahead l x w) in waits one e w
  outs (start {s = s} {o = o} g p) b r st m e w n few = start_out (λ b r st m e w n few. outs p b r st m e w n few) b m e w n few s.site o (one_turn r (start g no_turn)) st
  outs (call {k = i} {c = c} p) b r st m e w n few = call_out (λ b r st m e w n few. outs p b r st m e w n few) b m e w n few i c r (one_turn r (call no_turn)) st

picked_one : (b : Bool) → b ≡ true → pick {A = ℕ} b 1 0 ≡ 1
picked_one b e = rw e

picked_none : (b : Bool) → b ≡ false → pick {A = ℕ} b 1 0 ≡ 0
picked_none b e = rw e

-- with so many counted pumps it does not wait on
gone_within : {k l : ℕ} {x : Held} {n : ℕ} {b : Box} {ts : List Turn} → Out k l x n b ts → n ≤ pumps k l b ts → Gone k l x b ts
gone_within (ended one v) many = now v
gone_within (waits one e w) many = absurd (omega (arith, one, many))
gone_within {k} {l} (counted {b = b} {t = t} e r) many = later (gone_within r (omega (arith, many, picked_one (counts k l b t) e)))
gone_within {k} {l} (uncounted {b = b} {t = t} e r) many = later (gone_within r (omega (arith, many, picked_none (counts k l b t) e)))

module _ {ts us : List Turn} (p : Played ts) (q : Played us) where
  abbrev from : Box
  from = turned_all ts empty_box

  reached : Reached from
  reached = record { turns = ts; played = p; is = refl }

  out_of : (k l : ℕ) (x : Held) (m : Machine) → site_of k from ≡ some m → Waits l x m → Stays k l from us → (n : ℕ) → ahead m l x ≤ n → Out k l x n from us
  out_of zero l x m e w st n few = outs 0 1 north_two north_which l x q from reached st m e w n few
  out_of (suc zero) l x m e w st n few = outs 1 0 south_two south_which l x q from reached st m e w n few
  out_of (suc (suc k)) l x m e w st n few = absurd (let z : ◌≡◌ {A = ℕ} 0 1 = cc in omega arith)

  in_time : (k l : ℕ) (x : Held) (m : Machine) → site_of k from ≡ some m → Waits l x m → Stays k l from us → InTime k l x m from us
  in_time k l x m e w st =
      record {
        in_time = out_of k l x m e w st (bound m l x) within_bound;
        within = λ many. gone_within (out_of k l x m e w st (bound m l x) within_bound) many;
        sharp = out_of k l x m e w st (ahead m l x) (omega arith);
        no_more = within_bound;
      }
    where
      within_bound : ahead m l x ≤ bound m l x
      within_bound = ahead_within l x ((runs_of reached).run k m e).run

pub waiting : Waiting
waiting = record { of_every_box = λ ts us p q. in_time p q; drained = drained }
