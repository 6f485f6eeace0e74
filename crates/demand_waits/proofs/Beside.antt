-- A call of the other site: the record waits on with no more ahead of it, or is lost.
-- Assumes nothing.
use Rattle.basis.proofs.Std.{ℕ, ◌+◌, ◌≤◌, ◌<◌, ◌≡◌, refl, sym, subst, List, none, ◌⊎◌, inl, inr, length, arith, Among}
use Rattle.machine.specs.State.{issued_for, Held, Share, Start, Machine, Call}
use Rattle.machine.specs.Pool.{issue_all}
use Rattle.machine.specs.Step.{number_of, step}
use Rattle.machine.specs.Box.{finds}
use Rattle.machine.specs.Run.{Past, Neighbours, Run}
use Rattle.demand_held.specs.Held.{IsHeld}
use Rattle.demand_held.specs.Held.IsHeld.{held}
use Rattle.demand_held.proofs.Shrunk.{shrunk_among, shrunk_fewer}
use Rattle.demand_held.proofs.Room.{size, Over}
use Rattle.demand_held.proofs.Issue.{all_spared}
use Rattle.demand_held.proofs.Steps.{laid, step_done, step_refused, number_done}
use Rattle.demand_held.proofs.Demand.{run_sound, other_leaves}
use Rattle.demand_told.proofs.GreetedDemand.{by_number}
use Rattle.demand_happens.specs.Records.{is_before, ahead}
use Rattle.demand_happens.proofs.Counts.{one_number}
use Rattle.demand_waits.specs.Waits.{Waits, IsLost}
use Rattle.demand_waits.proofs.Calls.{lay, good_laid, for_laid, not_held, sixteen}

module _ (l : ℕ) (x : Held) {s z : Start} {h g : List Past} {m o : Machine} (r : Run s h m) (q : Run z g o) (near : Neighbours m o) (w : Waits l x m) (c : Call) where
  abbrev pub Other : Type 0
  Other = (Waits l x (finds (step o c).1 m) × (ahead (finds (step o c).1 m) l x ≤ ahead m l x)) ⊎ IsLost l x o c (step o c).1.pool.beside.held

  before : IsHeld (issued_for l x.content) x.sequence o.pool.beside.held
  before = subst (λ (y : Share). IsHeld (issued_for l x.content) x.sequence y.held) (sym near.own) (held w.held w.link refl refl)

  still : IsHeld (issued_for l x.content) x.sequence (step o c).1.pool.beside.held → Other
  still (held {h = y} a own content number) =
      inl (
        record { configured = w.configured; up = w.up; held = subst (λ (v : Held). Among v (step o c).1.pool.beside.held) same a; link = w.link; unsent = w.unsent },
        omega (arith, shrunk_fewer (is_before l x.sequence) (other_leaves q near c)),
      )
    where
      same : y ≡ x
      same = one_number (run_sound r).good.own.rising (shrunk_among (other_leaves q near c) a) w.held number

  module _ (e : number_of o c ≡ none) where
    abbrev End : List Held
    End = (issue_all (laid o c).issues (laid o c).leaves.pool).beside.held

    spared : IsHeld (issued_for l x.content) x.sequence End ⊎ (Over l x.sequence End × (128 < size (laid o c).leaves.pool + length (laid o c).issues)) → Other
    spared (inl k) = still (rw (step_done o c e) k)
    spared (inr v) =
        inr (record {
          done = number_done o c e;
          issues = omega (arith, v.1, (good_laid q c e).all);
          gone = rw (step_done o c e) (not_held l x End v.0);
          newer_ones_lem = rw (step_done o c e) (sixteen l x End v.0);
        })

    done_beside : Other
    done_beside =
        spared (all_spared (laid o c).issues (laid o c).leaves.pool (good_laid q c e) (for_laid q c e) (issued_for l x.content) x.sequence
        (subst (λ (y : Share). IsHeld (issued_for l x.content) x.sequence y.held) (sym (lay q c e).frame.beside) before))

  pub other_call : Other
  other_call = by_number o c done_beside (λ n e. still (rw (step_refused o c n e) before))
