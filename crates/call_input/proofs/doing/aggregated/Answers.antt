-- `call_input::doing::aggregated` meets its contract.
-- Assumes nothing.
use Rattle.basis.proofs.Std.{◌≡◌, sym, ap, ◌∙◌, true, false}
use Rattle.answer.specs.declared.Refusal.TheVariants.{SequenceSpent}
use Rattle.aggregated.specs.declared.Aggregated.{Aggregated}
use Rattle.aggregated.specs.declared.Set.{Set}
use Rattle.aggregated.specs.Aggregated.{set_of}
use Rattle.site.specs.Call.{batch_of}
use Rattle.store_site.specs.Layout.{site_of}
use Rattle.store_call.specs.Issued.{batch_in}
use Rattle.store_call.proofs.CallLaws.{steps_refused, steps_done}
use Rattle.call_input.specs.Inputs.{aggregated_entries, aggregated_change, aggregated_plan}
use Rattle.call_input.proofs.Ends.{planned_spent, planned_done}
use Rattle.call_input.proofs.doing.aggregated.Goals as goal

pub returns-then-spent : goal.returns-then-spent
returns-then-spent c =
    λ t.
    let s = site_of c.args.p.now c.args.w.now t in
    let e : c.set-x.result ≡ aggregated_change s c.args.value c.args.time =
    c.set-x.ensures ∙ ap (λ (x : Aggregated). set_of x c.args.value c.args.time) (c.aggregated-before.ensures c.args.p.now t) in
    let spent : (batch_of (aggregated_plan s c.args.value c.args.time)).spent ≡ true =
    ap (λ (x : Set). (batch_in s (aggregated_entries s x)).spent) (sym e)
    ∙ sym (c.spent.ensures c.args.p.now t (aggregated_entries s c.set-x.result) (sym (c.of_aggregated.ensures c.args.p.now t)))
    ∙ c.if-spent.true in
    steps_refused t c.args.p.now c.args.w.now SequenceSpent (planned_spent s c.args.time (aggregated_plan s c.args.value c.args.time) spent)

pub returns : goal.returns
returns c =
    λ t.
    let s = site_of c.args.p.now c.args.w.now t in
    let e : c.set-x.result ≡ aggregated_change s c.args.value c.args.time =
    c.set-x.ensures ∙ ap (λ (x : Aggregated). set_of x c.args.value c.args.time) (c.aggregated-before.ensures c.args.p.now t) in
    let lasts : (batch_of (aggregated_plan s c.args.value c.args.time)).spent ≡ false =
    ap (λ (x : Set). (batch_in s (aggregated_entries s x)).spent) (sym e)
    ∙ sym (c.spent.ensures c.args.p.now t (aggregated_entries s c.set-x.result) (sym (c.of_aggregated.ensures c.args.p.now t)))
    ∙ c.if-spent.false in
    steps_done t c.args.p.now c.args.w.now _ c.change_aggregated.ensures
    (rw (c.nothing.ensures, e) (planned_done s c.args.time (aggregated_plan s c.args.value c.args.time) lasts))
