-- Pump is the machine's.
-- Assumes nothing.
use Rattle.basis.proofs.Std.{ℕ, ◌<◌, ◌≡◌, refl, sym, ap, subst, ◌∙◌, true, false, List, Option, some, none, arith, ltb, length, leb-false}
use Rattle.answer.specs.Order.{in_order}
use Rattle.identity.specs.declared.Identity.{Identity}
use Rattle.identity.specs.Read.{SixteenBytes}
use Rattle.identity.specs.Version.{version4_of, identity_of}
use Rattle.entry.specs.declared.Entry.{Entry}
use Rattle.pool_laws.specs.declared.Batch.{Batch}
use Rattle.pool_laws.specs.Batch.{beginning, issued_all}
use Rattle.link.specs.declared.Due.{Due as DueKind}
use Rattle.site.specs.declared.Site.{Site}
use Rattle.site.specs.Call.{batch_of, issuing}
use Rattle.call_pump.specs.Pump.{plan_for, pump_plan, pump_refuses}
use Rattle.call_pump.proofs.Kept.{kept}
use Rattle.call_laws.specs.Calls.Call.{pump}
use Rattle.machine.specs.Words.{is_some, maybe}
use Rattle.machine.specs.State.{Machine, only, life_at}
use Rattle.machine.specs.Life.{Due, due}
use Rattle.machine.specs.Effects.{sends as sending, effect_of}
use Rattle.machine.specs.Step.{no_such_link, bad_time, is_down_at, many_awaited, identity_awaited, conditions, number_of}
use Rattle.refine_parts.specs.Same.{Beside}
use Rattle.refine_parts.specs.LifeActs.{Sendable}
use Rattle.refine_parts.specs.Questions.{kind_of}
use Rattle.refine_calls.specs.Abstracts.{Abstracts}
use Rattle.refine_calls.specs.Calls.{call_for, first_refused, SamePlan, SameCall}
use Rattle.refine_calls.specs.Pump.{PumpCalls}
use Rattle.refine_calls.specs.Pump.OfPump.{pumps}
use Rattle.refine_calls.proofs.Identity.{own_sixteen}
use Rattle.refine_calls.proofs.Numbers.{due_same, number_same, Passes, passes}
use Rattle.refine_calls.proofs.Plans.{plan_same}

module _ {beside : Beside} (s : Site) (m : Machine) (h : Abstracts beside s m) (l t : ℕ) (random : Identity) (out : List ℕ) (u : SixteenBytes random.bytes) where
  -- nothing is issued
  no_batch : batch_of (pump_plan s l t (identity_of random)) ≡ beginning (pump_plan s l t (identity_of random)).site.pool (pump_plan s l t (identity_of random)).site.next
  no_batch =
      ap (λ (es : List Entry). issued_all 8 (pump_plan s l t (identity_of random)).site.pool (pump_plan s l t (identity_of random)).site.next es)
      (kept.issues_none s l t (identity_of random))

  none_passes : number_of m (call_for (pump l t random out)) ≡ none
      → Passes (no_such_link m l) (is_some (due m l t)) (many_awaited m l) (identity_awaited m l random.bytes)
  unfolding conditions
  none_passes e =
      passes (no_such_link m l) (ltb (length out) 4096) (bad_time m t) (is_down_at m l) (is_some (due m l t)) (many_awaited m l) (identity_awaited m l random.bytes) e

  sendable : many_awaited m l ≡ false → identity_awaited m l random.bytes ≡ false → Sendable (life_at m l) (identity_of random)
  sendable few new =
      record {
        bytes = own_sixteen random.bytes u;
        unawaited = new;
        room = omega (arith, leb-false 8 (length (life_at m l).awaited) few);
      }

  -- something is due
  plan_if : l < m.setup.links → Sendable (life_at m l) (identity_of random) → (o : Option Due) → due m l t ≡ o → is_some o ≡ true
      → SamePlan beside (plan_for (kind_of o) s l t (identity_of random)) (maybe (only m) (sending l t (version4_of random.bytes) m) o)
  plan_if b ok none e q = absurd (let z : ◌≡◌ {A = ℕ} 0 1 = cc in omega arith)
  plan_if b ok (some d) e q = plan_same s m h l b t (identity_of random) ok d e

  plan_is : number_of m (call_for (pump l t random out)) ≡ none
      → SamePlan beside (pump_plan s l t (identity_of random)) (effect_of m t (call_for (pump l t random out)).act)
  unfolding effect_of
  plan_is e =
      let p = none_passes e in
      let b = leb-false m.setup.links l p.configured in
      subst (λ (d : DueKind). SamePlan beside (plan_for d s l t (identity_of random)) (maybe (only m) (sending l t (version4_of random.bytes) m) (due m l t)))
      (sym (due_same s m h l b t))
      (plan_if b (sendable p.few p.unawaited) (due m l t) refl p.something)

  pump_same : SameCall beside s m (pump l t random out)
  pump_same =
      record {
        number =
            ap (λ (x : Batch). first_refused (issuing x (pump_refuses s l t (identity_of random) (length out))) in_order) no_batch
            ∙ number_same s m h l t random out (pump_plan s l t (identity_of random)).site.pool (pump_plan s l t (identity_of random)).site.next;
        plan = plan_is;
      }

pub pump_calls : PumpCalls
pump_calls beside s m h c (pumps l t random out) u = pump_same s m h l t random out u
