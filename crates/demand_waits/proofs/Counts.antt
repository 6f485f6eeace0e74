-- How many records go before one: what marks, and what is issued, do to it; it is within the bound.
-- Assumes nothing.
use Rattle.basis.proofs.Std.{ℕ, suc, ◌+◌, ◌≤◌, ◌<◌, ◌≡◌, refl, sym, ◌∙◌, ap, Bool, true, false, not, List, [], ◌∷◌, map, eqb, ltb, leb, length, arith, eq-eqb, ne_eqb, le-leb, lt-ltb, leb-true, pick, both, bit, count, Among, bool_cases, lt_or_ge, ◌⊎◌, inl, inr}
use Rattle.basis.specs.Lists.Among.{first as here, later}
use Rattle.machine.specs.State.{Held, Start, Machine, Call}
use Rattle.machine.specs.Life.{is_primary, pass_length}
use Rattle.machine.specs.Pool.{is_for, marked}
use Rattle.machine.specs.Step.{step}
use Rattle.machine.specs.Run.{Past, Run}
use Rattle.machine.specs.Run.Run.{next}
use Rattle.demand_held.proofs.Lists.{bit_true, among_map}
use Rattle.demand_held.proofs.Demand.{demand3}
use Rattle.demand_told.proofs.GreetedDemand.{same_setup}
use Rattle.demand_happens.specs.Records.{is_before, ahead}
use Rattle.demand_happens.proofs.Counts.{marked_fewer, other_same, some_counted}
use Rattle.demand_issued.proofs.Goes.{run_kept}
use Rattle.demand_waits.specs.Waits.{alarms_for, bound, Waits}

-- ---- marks
module _ (l n x : ℕ) where
  pub count_marked : (hs : List Held) → count (is_before l x) (map (marked n) hs) ≤ count (is_before l x) hs
  count_marked [] = omega arith
  count_marked (h ∷ hs) = omega (arith, marked_fewer l n x h, count_marked hs)

  marked_no : (h : Held) → h.sequence ≡ n → bit (is_before l x (marked n h)) ≡ 0
  marked_no h e = rw (eq-eqb h.sequence n e) (go (eqb h.link l))
    where
      go : (a : Bool) → bit (both a false) ≡ 0
      go true = refl
      go false = refl

  pub count_one_marked : {h : Held} {hs : List Held} → Among h hs → is_before l x h ≡ true → h.sequence ≡ n
      → suc (count (is_before l x) (map (marked n) hs)) ≤ count (is_before l x) hs
  count_one_marked {h} (here {xs = hs}) f e = omega (arith, marked_no h e, bit_true (is_before l x h) f, count_marked hs)
  count_one_marked (later {y = y} a) f e = omega (arith, marked_fewer l n x y, count_one_marked a f e)

pub still_marked : (l n : ℕ) {h : Held} {hs : List Held} → Among h hs → (h.sequence ≡ n → ⊥) → Among h (map (marked n) hs)
still_marked l n {h} {hs} a other = rw (other_same l n h (ne_eqb h.sequence n other)) at (among_map (marked n) a)

-- ---- the pass is as long as it was
pub same_passes : {s : Start} {h : List Past} {m : Machine} → Run s h m → (c : Call) (l : ℕ) → pass_length (step m c).1 l ≡ pass_length m l
same_passes {m = m} r c l = rw (same_setup r c, alarms)
  where
    alarms : length (step m c).1.alarms ≡ length m.alarms
    alarms = (run_kept (next c r)).alarm_count ∙ ap (λ u. length u.table.alarms) (same_setup r c) ∙ sym (run_kept r).alarm_count

-- ---- the bound
module _ (l : ℕ) (x : Held) where
  one_more : (n : ℕ) (h : Held)
      → bit (is_before l n h) ≤ bit (both (is_for l h) (both (not h.sent) (ltb h.sequence n))) + bit (eqb h.sequence n)
  one_more n h = go (eqb h.link l) h.sent (lt_or_ge h.sequence n)
    where
      go : (a b : Bool) → (h.sequence < n) ⊎ (n ≤ h.sequence)
          → bit (both a (both (not b) (leb h.sequence n))) ≤ bit (both a (both (not b) (ltb h.sequence n))) + bit (eqb h.sequence n)
      go false b w = omega arith
      go true true w = omega arith
      go true false (inl w) = rw (lt-ltb h.sequence n w, le-leb h.sequence n (omega arith)) (omega arith)
      go true false (inr w) = bool_cases (leb h.sequence n)
          (λ e. rw (e, eq-eqb h.sequence n (omega (arith, leb-true h.sequence n e))) (omega arith))
          (λ e. rw e (omega arith))

  older_and_it : (n : ℕ) (hs : List Held)
      → count (is_before l n) hs ≤ count (λ (h : Held). both (is_for l h) (both (not h.sent) (ltb h.sequence n))) hs + count (λ (h : Held). eqb h.sequence n) hs
  older_and_it n [] = omega arith
  older_and_it n (h ∷ hs) = omega (arith, one_more n h, older_and_it n hs)

  passes_within : {s : Start} {h : List Past} {m : Machine} → Run s h m → pass_length m l ≤ 1 + alarms_for m l
  passes_within {m = m} r = go (is_primary m l)
    where
      go : (b : Bool) → pick b (suc (length m.alarms)) 1 ≤ 1 + pick b (length m.setup.table.alarms) 0
      go true = omega (arith, (run_kept r).alarm_count)
      go false = omega arith

  pub ahead_within : {s : Start} {h : List Past} {m : Machine} → Run s h m → ahead m l x ≤ bound m l x
  ahead_within {s} {h} {m} r = omega (arith, passes_within r, older_and_it x.sequence m.pool.held, (demand3.of_every_run s h m r).once x.sequence)

  pub some_ahead : {m : Machine} → Waits l x m → 1 ≤ ahead m l x
  some_ahead {m} w =
      omega (arith, some_counted (is_before l x.sequence) w.held (rw (eq-eqb x.link l w.link, w.unsent, le-leb x.sequence x.sequence (omega arith))))
