use mathlib.Core.Path.{sym, ap, ap₂, ◌∙◌}
use Prim.Native.Nat.{ℕ, ◌%◌, ◌^◌}
use lib.ListN.{get_or, take, replicate}
use Rattle.bits.specs.Fields.{joined, pushed}
use Rattle.bits.proofs.Bytes.{one_more, carry}
use Rattle.bits.proofs.number.Goals as goal

pub loop-b-preserved : goal.loop-b-preserved
loop-b-preserved c =
    let l = c.loop-b in
    let s = c.args.s.now in
    c.push-n.ensures
    ∙ ap₂ (λ (m b : ℕ). pushed m 8 b % 2 ^ 64) l.invariant c.from.ensures
    ∙ carry (joined 0 (replicate l.b-index 8) (take l.b-index s)) (get_or s l.b-index 0)
    ∙ ap (λ (m : ℕ). m % 2 ^ 64) (sym (one_more s l.b-index c.loop-b-test.true))
