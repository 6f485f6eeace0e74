-- `call_tick::intervals::how_many` meets its contract.
-- Assumes nothing.
use Rattle.basis.proofs.Std.{◌+◌, refl, ap, ◌∙◌, Bool, arith, length, bit}
use Rattle.store_site.specs.Layout.{site_of}
use Rattle.store_call.proofs.IssuedLaws.{bit_most}
use Rattle.call_tick.proofs.Records.{all_places}
use Rattle.call_tick.proofs.InPlace.{count_place}
use Rattle.call_tick.proofs.intervals.how_many.Goals as goal

pub loop-i-init : goal.loop-i-init
loop-i-init c = (omega arith, λ ps t ns. refl)

pub loop-i-preserved : goal.loop-i-preserved
loop-i-preserved c =
    let l = c.loop-i in (
      omega (arith, c.more_if-n.ensures, bit_most c.issues.result),
      λ ps t ns.
          let s = site_of ps c.args.w.now t in
          count_place s.site s.subscriptions s.statuses ns c.args.time l.i (l.invariant.1 ps t ns) (c.more_if-n.ensures ∙ ap (λ (b : Bool). l.n + bit b) (c.issues.ensures ps t)),
    )

pub returns : goal.returns
returns c =
    let l = c.loop-i in
    λ ps t ns.
    let s = site_of ps c.args.w.now t in
    l.invariant.1 ps t ns ∙ ap length (all_places s.site s.subscriptions s.statuses ns c.args.time l.i (omega arith))
