-- `call_input::records::of_status` meets its contract.
-- Assumes nothing.
use Rattle.basis.proofs.Std.{ℕ, ◌+◌, ◌≡◌, refl, ap, ◌∙◌, Bool, arith, length, bit}
use Rattle.pool_laws.specs.Upwards.{entries_to}
use Rattle.store_site.specs.Layout.{site_of}
use Rattle.store_call.proofs.IssuedLaws.{bit_most}
use Rattle.call_input.proofs.InPlace.{entry_of, count_status}
use Rattle.call_input.proofs.records.of_status.Goals as goal

pub loop-l-init : goal.loop-l-init
loop-l-init c = (omega arith, λ ps t time. refl)

pub loop-l-preserved : goal.loop-l-preserved
loop-l-preserved c =
    let l = c.loop-l in (
      omega (arith, c.more_if-n.ensures, bit_most c.issues.result),
      λ ps t time.
          count_status c.args.number c.args.x time (site_of ps c.args.w.now t) l.l (l.invariant.1 ps t time)
          (c.more_if-n.ensures ∙ ap (λ (b : Bool). l.n + bit b) (c.issues.ensures ps t)),
    )

pub returns : goal.returns
returns c =
    let l = c.loop-l in
    let all : l.l ≡ c.link_count-count.result = omega arith in
    λ ps t time. l.invariant.1 ps t time ∙ ap (λ (n : ℕ). length (entries_to (entry_of c.args.number c.args.x time (site_of ps c.args.w.now t)) n)) (all ∙ c.link_count-count.ensures ps t)
