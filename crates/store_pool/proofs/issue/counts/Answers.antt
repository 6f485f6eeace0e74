-- `store_pool::issue::counts` meets its contract.
-- Assumes nothing.
use Rattle.basis.proofs.Std.{◌≡◌, ◌∙◌, refl, sym, arith, rules, length}
use Rattle.store_site.specs.Layout.{places_in}
use Rattle.store_site.proofs.SiteLaws.{places_length}
use Rattle.store_pool.proofs.PlaceLaws.{counted_none, counted_next, counted_below}
use Rattle.store_pool.proofs.issue.counts.Goals as goal

pub loop-i-init : goal.loop-i-init
loop-i-init c =
    let p = places_in c.args.w.now in
    let h : length p ≡ 128 = places_length _ in
    (refl, counted_none p 128 (omega arith))

pub slice_bounds-tally-end : goal.slice_bounds-tally-end
slice_bounds-tally-end c = sym c.loop-i.invariant.0

pub tally-requires : goal.tally-requires
tally-requires c =
    let l = c.loop-i in
    let p = places_in c.args.w.now in
    (search rules, (omega arith, (l.invariant.0, counted_below p l.i l.held (places_length _) l.invariant.0 (omega arith) l.invariant.1)))

pub loop-i-preserved : goal.loop-i-preserved
loop-i-preserved c =
    let l = c.loop-i in
    let p = places_in c.args.w.now in
    let h : length p ≡ 128 = places_length _ in
    (c.tally.auto.held ∙ l.invariant.0, counted_next p l.i l.held c.tally.new.held (omega arith) (omega arith) l.invariant.1 c.tally.ensures)

pub returns : goal.returns
returns c =
    let e : c.loop-i.i ≡ 0 = omega arith in
    rw e at c.loop-i.invariant.1
