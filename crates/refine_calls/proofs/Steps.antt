-- Where a call has its numbers and what it lays down in common with the machine's, its outcome is the same and the next site is the next machine.
-- Assumes nothing.
use Rattle.basis.proofs.Std.{ℕ, suc, ◌+◌, ◌≤◌, ◌≡◌, refl, sym, ap, ◌∙◌, subst, Bool, true, false, List, [], ◌∷◌, map, Option, some, none, arith, length, ltb-false, pick, Among, bool_cases}
use Rattle.basis.specs.Lists.Among.{first, later}
use Rattle.answer.specs.declared.Refusal.{Refusal}
use Rattle.answer.specs.declared.Refusal.TheVariants.{SequenceSpent}
use Rattle.answer.specs.declared.Answer.{Answer}
use Rattle.answer.specs.declared.Answer.TheVariants.{Done, Refused}
use Rattle.answer.specs.Number.{refusal_number}
use Rattle.answer.specs.Order.{in_order, judged}
use Rattle.entry.specs.declared.Entry.{Entry}
use Rattle.pool_laws.specs.declared.Batch.{Batch}
use Rattle.pool_laws.specs.Batch.{issued_all}
use Rattle.site.specs.declared.Site.{Site}
use Rattle.site.specs.Site.{with_issued}
use Rattle.site.specs.Call.{Plan, batch_of, issuing, report_of, stepped}
use Rattle.write_message.specs.Message.{Message}
use Rattle.call_laws.specs.Calls.{Call, time_of, refuses, plan_of, end_of}
use Rattle.call_laws.specs.Calls.Call.{connect, disconnect, packet, alarm, status, aggregated, tick, pump}
use Rattle.machine.specs.State.{Machine, Call as MachineCall, Outcome, Effect}
use Rattle.machine.specs.State.Outcome.{refused, done}
use Rattle.machine.specs.Effects.{effect_of}
use Rattle.machine.specs.Pool.{issue_all}
use Rattle.machine.specs.Table.{last_sequence}
use Rattle.machine.specs.Step.{number_of, after, outcome, step}
use Rattle.refine_parts.specs.Record.{unnumbered}
use Rattle.refine_parts.specs.Same.{Beside, SamePool}
use Rattle.refine_parts.proofs.Same.{same_acts, same_answers}
use Rattle.refine_calls.specs.Abstracts.{Abstracts}
use Rattle.refine_calls.specs.Calls.{call_for, first_refused, SamePlan, SameCall, SameOutcome, SameStep, Steps}
use Rattle.refine_calls.specs.Calls.SameOutcome.{refuses_both, does_both}
use Rattle.refine_calls.proofs.Parts.{ended}

same_time : (c : Call) → time_of c ≡ (call_for c).time
same_time (connect l t) = refl
same_time (disconnect l t) = refl
same_time (packet l t random received out) = refl
same_time (alarm i active t) = refl
same_time (status i v t) = refl
same_time (aggregated v t) = refl
same_time (tick t) = refl
same_time (pump l t random out) = refl

-- the first refusal that applies and its number, or the answer of a done call and none
judged_cases : (applies : Refusal → Bool) (a : Answer) (P : Answer → Option ℕ → Type 0)
    → ((r : Refusal) → P (Refused r) (some (refusal_number r))) → P a none → (rs : List Refusal) → P (judged applies rs a) (first_refused applies rs)
judged_cases applies a P f g [] = g
judged_cases applies a P f g (r ∷ rs) = go (applies r) (judged_cases applies a P f g rs)
  where
    go : (b : Bool) → P (judged applies rs a) (first_refused applies rs)
        → P (pick b (Refused r) (judged applies rs a)) (pick b (some (refusal_number r)) (first_refused applies rs))
    go true p = f r
    go false p = p

gives : (m : Machine) (c : MachineCall) (n : ℕ) → number_of m c ≡ some n → step m c ≡ (refused n, m)
unfolding step
gives m c n e = rw e

does : (m : Machine) (c : MachineCall) → number_of m c ≡ none → step m c ≡ (outcome (effect_of m c.time c.act), after c.time (effect_of m c.time c.act))
unfolding step
does m c e = rw e

-- where none applies the batch is not spent
none_applies : (applies : Refusal → Bool) {r : Refusal} {rs : List Refusal} → Among r rs → first_refused applies rs ≡ none → applies r ≡ false
none_applies applies {r} (first {xs = rs}) e = bool_cases (applies r) (λ t. absurd (some_none (refusal_number r) (ap (λ (b : Bool). pick b (some (refusal_number r)) (first_refused applies rs)) (sym t) ∙ e))) (λ t. t)
  where
    some_none : (n : ℕ) → some n ≡ none → ⊥
    some_none n q = absurd (let z : ◌≡◌ {A = ℕ} 0 1 = cc in omega arith)
none_applies applies (later {y = q} {xs = rs} i) e = none_applies applies i (go (applies q) e)
  where
    go : (b : Bool) → pick b (some (refusal_number q)) (first_refused applies rs) ≡ none → first_refused applies rs ≡ none
    go true f = absurd (let z : ◌≡◌ {A = ℕ} 0 1 = cc in omega arith)
    go false f = f

spent_in_order : Among SequenceSpent in_order
spent_in_order = later (later (later (later (later (later (later (later (later (later first)))))))))

not_spent : (b : Batch) (rest : Refusal → Bool) → first_refused (issuing b rest) in_order ≡ none → b.spent ≡ false
not_spent b rest e = none_applies (issuing b rest) spent_in_order e

-- the pool after the records
issued_all_lem : {beside : Beside} (p : Plan) (e : Effect) → SamePlan beside p e → (batch_of p).spent ≡ false
    → SamePool e.leaves.setup.links beside p.site.site (batch_of p).pool (batch_of p).next (issue_all e.issues e.leaves.pool)
issued_all_lem {beside} p e q f =
    subst (λ (es : List Entry). (issued_all 8 p.site.pool p.site.next es).spent ≡ false
    → SamePool e.leaves.setup.links beside p.site.site (issued_all 8 p.site.pool p.site.next es).pool (issued_all 8 p.site.pool p.site.next es).next
    (issue_all e.issues e.leaves.pool))
    (sym q.issued.issued) of_machine f
  where
    of_machine : (issued_all 8 p.site.pool p.site.next (map (unnumbered p.site.site) e.issues)).spent ≡ false
        → SamePool e.leaves.setup.links beside p.site.site (issued_all 8 p.site.pool p.site.next (map (unnumbered p.site.site) e.issues)).pool
        (issued_all 8 p.site.pool p.site.next (map (unnumbered p.site.site) e.issues)).next (issue_all e.issues e.leaves.pool)
    of_machine g =
        let most : e.leaves.pool.next + length e.issues ≤ suc last_sequence =
        ltb-false (suc last_sequence) (e.leaves.pool.next + length e.issues)
        (sym ((same_answers e.leaves q.leaves.pool).spent p.site.pool e) ∙ g) in
        (same_acts e.leaves.setup.links beside p.site.site).issue_all_lem p.site.pool p.site.next e.leaves.pool q.leaves.pool
        e.issues q.for_links q.issued.told (omega (arith, most, q.leaves.pool.next))

module _ {beside : Beside} (s : Site) (m : Machine) (h : Abstracts beside s m) (c : Call) (same : SameCall beside s m c) where
  abbrev next : Site
  next = with_issued (plan_of s c).site (batch_of (plan_of s c)) (time_of c)

  abbrev Both : Answer → Outcome × Machine → Type 0
  Both x o = SameOutcome s c (stepped s next x).answer o.0 × Abstracts beside (stepped s next x).site o.1

  abbrev laid : Effect
  laid = effect_of m (call_for c).time (call_for c).act

  done_both : number_of m (call_for c) ≡ none
      → Both (Done (report_of (plan_of s c) (end_of s c)))
      (outcome laid, after (call_for c).time laid)
  done_both e = (
    subst (λ (ms : List Message). SameOutcome s c (Done (report_of (plan_of s c) (end_of s c)))
        (done ms laid.closed laid.hint laid.commands))
        q.messages
        (does_both laid.closed laid.hint laid.commands q.closed q.hint q.commands),
    subst (λ (t : ℕ). Abstracts beside (with_issued (plan_of s c).site (batch_of (plan_of s c)) t) (after (call_for c).time laid))
        (sym (same_time c))
        (ended (plan_of s c).site laid.leaves q.leaves (batch_of (plan_of s c))
        (issue_all laid.issues laid.leaves.pool) (call_for c).time
        (issued_all_lem (plan_of s c) laid q (not_spent (batch_of (plan_of s c)) (refuses s c) (same.number ∙ e)))),
  )
    where
      q : SamePlan beside (plan_of s c) laid
      q = same.plan e

  both : Both (judged (issuing (batch_of (plan_of s c)) (refuses s c)) in_order (Done (report_of (plan_of s c) (end_of s c)))) (step m (call_for c))
  both =
      judged_cases (issuing (batch_of (plan_of s c)) (refuses s c)) (Done (report_of (plan_of s c) (end_of s c)))
      (λ (x : Answer) (o : Option ℕ). o ≡ number_of m (call_for c) → Both x (step m (call_for c)))
      (λ r e. subst (Both (Refused r)) (sym (gives m (call_for c) (refusal_number r) (sym e))) (refuses_both r, h))
      (λ e. subst (Both (Done (report_of (plan_of s c) (end_of s c)))) (sym (does m (call_for c) (sym e))) (done_both (sym e)))
      in_order same.number

  step_same : SameStep beside s m c
  step_same = record { outcome = both.0; leaves = both.1 }

pub steps : Steps
steps beside s m h c same = step_same s m h c same
