-- What is awaited for a record is a message carrying it, unanswered in this life of its link, over every run.
-- Assumes nothing.
use Rattle.basis.proofs.Std.{ℕ, ◌≡◌, refl, false, List, [], ◌∷◌, ◌⊎◌, inl, inr, arith}
use Rattle.machine.specs.State.{Issued, Awaited, Life, fresh, Start, Machine, life_at, Act, Call}
use Rattle.machine.specs.State.Outcome.{refused}
use Rattle.machine.specs.Json.{string_of, is_identity_of}
use Rattle.machine.specs.Table.Begins.{begins}
use Rattle.machine.specs.Step.{step}
use Rattle.machine.specs.Run.{Past, past, Run}
use Rattle.machine.specs.Run.Run.{begun, begun_beside, next, other_starts, other_calls}
use Rattle.demand_held.specs.Held.{IsDone, Answered, Kept, Fate}
use Rattle.demand_held.specs.Held.Answered.{answered as answered_by}
use Rattle.demand_held.specs.Held.Fate.{kept, settled}
use Rattle.demand_held.proofs.Steps.{step_done, step_refused}
use Rattle.demand_held.proofs.Demand.{demand3}
use Rattle.demand_told.specs.Greeted.Came.{came}
use Rattle.demand_told.proofs.Lives.{all_same}
use Rattle.demand_told.proofs.GreetedDemand.{by_number}
use Rattle.demand_told.specs.Typed.{Typed, EachTyped}
use Rattle.demand_told.specs.Typed.EachTyped.{none_yet, one_more as typed_too}
use Rattle.demand_carried.specs.Carried.{AnswerCame, AnswersCarried}
use Rattle.demand_carried.specs.Carried.AnswerCame.{answer_came}
use Rattle.demand_carried.specs.Carried.AnswersCarried.{answers_carried}
use Rattle.demand_carried.specs.Demand.{Carrying, DemandCarried}
use Rattle.demand_carried.proofs.Lists.{every, each_among, found_among}
use Rattle.demand_carried.proofs.Backed.{Backed, none_backed, on}
use Rattle.demand_carried.proofs.Goes.{goes}

-- a refused call brings nothing
quiet_refused : (l : ℕ) (c : Call) (n : ℕ) (a : Awaited) → AnswerCame l a.identity (record { call = c; gave = refused n }) → ⊥
quiet_refused l c n a (answer_came (came f r g) i o) = let z : ◌≡◌ {A = ℕ} 0 1 = cc in omega arith

step_backed : {s : Start} {h : List Past} {m : Machine} → Run s h m → (c : Call) → Typed c.act → (l : ℕ) → Backed s l h (life_at m l).awaited
    → Backed s l (past m c ∷ h) (life_at (step m c).1 l).awaited
step_backed {s} {h} {m} r c typed l b =
    by_number m c
    (λ e. rw (step_done m c e) (goes s h m r c.time l b c.act typed e))
    (λ n e. rw (step_refused m c n e) (on s l (record { call = c; gave = refused n }) refl refl (every (quiet_refused l c n) (life_at m l).awaited) b))

run_backed : {s : Start} {h : List Past} {m : Machine} → Run s h m → EachTyped h → (l : ℕ) → Backed s l h (life_at m l).awaited
run_backed {s} (begun (begins {t} a e g)) none_yet l = all_same (fresh false) (λ (k : Life). Backed s l [] k.awaited) s.links l (none_backed s l [])
run_backed {s} (begun_beside (begins {t} a e g) o two) none_yet l = all_same (fresh false) (λ (k : Life). Backed s l [] k.awaited) s.links l (none_backed s l [])
run_backed (other_starts r b two) typed l = run_backed r typed l
run_backed (other_calls r q n c) typed l = run_backed r typed l
run_backed (next c r) (typed_too typed rest) l = step_backed r c typed l (run_backed r rest l)

module _ {s : Start} {h : List Past} {m : Machine} (r : Run s h m) (each : EachTyped h) where
  answered : (l n : ℕ) (act : Act) → Answered m l n act → AnswersCarried s h l n act
  answered l n act (answered_by {j = j} {a = a} p q e c) =
      let f = found_among (λ (a : Awaited). is_identity_of a.identity (string_of "oMId" j)) (life_at m l).awaited a e in
      answers_carried p q f.1 (each_among (run_backed r each l).went f.0 n c)

  until : (c : Call) (i : Issued) (n : ℕ) → Fate m c i n → Kept m c i n ⊎ (IsDone m c × AnswersCarried s h i.link n c.act)
  until c i n (kept k) = inl k
  until c i n (settled d a) = inr (d, answered i.link n c.act a)

  carrying : Carrying s h m
  carrying =
      record {
        awaited = λ l n a i c. each_among (run_backed r each l).went i n c;
        answered = answered;
        until = λ c i n p. until c i n ((demand3.of_every_run s h m r).held c i n p);
      }

pub demand_carried : DemandCarried
demand_carried = record { of_every_run = λ s h m. carrying }
