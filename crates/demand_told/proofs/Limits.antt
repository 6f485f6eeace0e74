-- The next number never passes number 10's limit by more than one, over every run.
-- Assumes nothing.
use Rattle.basis.proofs.Std.{ℕ, suc, ◌+◌, ◌≤◌, ◌<◌, ◌≡◌, ◌∙◌, ap, true, false, List, [], ◌∷◌, some, none, ltb, leb, length, arith, ltb-false, leb-true, both_true}
use Rattle.basis.specs.Lists.Among.{first, later}
use Rattle.machine.specs.Words.{first_of, maybe}
use Rattle.machine.specs.State.{Issued, Pool, Start, Machine, Act, Call, Effect, only}
use Rattle.machine.specs.State.Act.{connect, disconnect, packet, alarm_input, status_value, aggregated_value, tick, pump}
use Rattle.machine.specs.Table.{last_sequence, good_start}
use Rattle.machine.specs.Table.Begins.{begins}
use Rattle.machine.specs.Life.{due}
use Rattle.machine.specs.Pool.{issue, issue_all}
use Rattle.machine.specs.Effects.{connects, closes, sends, own_identity, effect_of}
use Rattle.machine.specs.Step.{sequence_ends, conditions, number_of, step}
use Rattle.machine.specs.Run.{Past, Run}
use Rattle.machine.specs.Run.Run.{begun, begun_beside, next, other_starts, other_calls}
use Rattle.demand_held.proofs.Lists.{maybe_cases, Each}
use Rattle.demand_held.proofs.Lists.Each.{no_more, one_more}
use Rattle.demand_held.proofs.Good.{Good}
use Rattle.demand_held.proofs.Issue.{For, issue_good, issue_next, issue_lost}
use Rattle.demand_held.specs.Held.{Answered, packet_link}
use Rattle.demand_held.proofs.Lays.{Lays, lays}
use Rattle.demand_held.proofs.Steps.{laid, step_done, step_refused, there}
use Rattle.demand_held.proofs.Demand.{Sound, run_sound}
use Rattle.demand_told.proofs.Replies.{none_at}
use Rattle.demand_told.proofs.GreetedDemand.{by_number}

all_next : (is : List Issued) (p : Pool) → Good p → Each (For (length p.lost)) is → (issue_all is p).next ≡ p.next + length is
all_next [] p g no_more = omega arith
all_next (i ∷ is) p g (one_more f r) =
    omega (arith, all_next is (issue i p) (issue_good i p g f) (rw (issue_lost i p g f) r), issue_next i p g f)

-- ---- a done call
unended : (m : Machine) (e : Effect) → sequence_ends m e ≡ false → m.pool.next + length e.issues ≤ suc last_sequence
unended m e f = ltb-false (suc last_sequence) (m.pool.next + length e.issues) f

abbrev Within : Machine → Effect → Type 0
Within m e = m.pool.next + length e.issues ≤ suc last_sequence

within : (m : Machine) (t : ℕ) (act : Act) → first_of (conditions m t act) ≡ none → m.pool.next ≤ suc last_sequence → Within m (effect_of m t act)
unfolding conditions effect_of connects closes sends
within m t (connect l) f h = omega (arith, h)
within m t (disconnect l) f h = omega (arith, h)
within m t (packet l random bytes room) f h =
    unended m (effect_of m t (packet l random bytes room)) (none_at (conditions m t (packet l random bytes room)) f (later (later (later (later (later (later (later first))))))))
within m t (alarm_input i active) f h = unended m (effect_of m t (alarm_input i active)) (none_at (conditions m t (alarm_input i active)) f (later (later first)))
within m t (status_value i v) f h = unended m (effect_of m t (status_value i v)) (none_at (conditions m t (status_value i v)) f (later (later first)))
within m t (aggregated_value v) f h = unended m (effect_of m t (aggregated_value v)) (none_at (conditions m t (aggregated_value v)) f (later first))
within m t tick f h = unended m (effect_of m t tick) (none_at (conditions m t tick) f (later first))
within m t (pump l random room) f h =
    maybe_cases (Within m) (only m) (sends l t (own_identity random) m) (due m l t) (λ e. omega (arith, h)) (λ d e. omega (arith, h))

module _ (m : Machine) (s : Sound m) (c : Call) (e : number_of m c ≡ none) where
  here_is : (l : ℕ) → packet_link c.act ≡ some l → l < m.setup.links
  here_is = there m c.time c.act (λ q. let z : ◌≡◌ {A = ℕ} 0 1 = cc in omega arith)

  lay : Lays (λ l n. Answered m l n c.act) m (laid m c)
  lay = lays m s.primary c.time c.act here_is

  done_next : (issue_all (laid m c).issues (laid m c).leaves.pool).next ≡ m.pool.next + length (laid m c).issues
  done_next =
      all_next (laid m c).issues (laid m c).leaves.pool (lay.frame.good s.good) (rw (lay.frame.lost, s.counts) lay.issued)
      ∙ ap (λ (n : ℕ). n + length (laid m c).issues) lay.frame.next

  done_limit : m.pool.next ≤ suc last_sequence → (issue_all (laid m c).issues (laid m c).leaves.pool).next ≤ suc last_sequence
  done_limit h = omega (arith, done_next, within m c.time c.act e h)

step_limit : (m : Machine) → Sound m → (c : Call) → m.pool.next ≤ suc last_sequence → (step m c).1.pool.next ≤ suc last_sequence
step_limit m s c h = by_number m c (λ e. rw (step_done m c e) (done_limit m s c e h)) (λ n e. rw (step_refused m c n e) h)

-- ---- from start
first_limit : (s : Start) → good_start s ≡ true → s.first ≤ suc last_sequence
first_limit s g =
    let a = both_true (leb 1 s.links) _ g in
    let b = both_true (leb s.links 4) _ a.1 in
    let c = both_true (maybe true (λ (p : ℕ). ltb p s.links) s.primary) _ b.1 in
    let d = both_true (leb 1 s.period) _ c.1 in
    let e = both_true (leb s.period 3600) _ d.1 in
    omega (arith, leb-true s.first last_sequence (both_true (leb s.first last_sequence) _ e.1).0)

pub run_limit : {s : Start} {h : List Past} {m : Machine} → Run s h m → m.pool.next ≤ suc last_sequence
run_limit {s} (begun (begins {t} a e g)) = first_limit s g
run_limit {s} (begun_beside (begins {t} a e g) o two) = first_limit s g
run_limit (other_starts r b two) = run_limit r
run_limit (other_calls r q n c) = run_limit r
run_limit (next {m} c r) = step_limit m (run_sound r) c (run_limit r)
