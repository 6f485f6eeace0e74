-- `store_pool::issue::fullest_of` meets its contract.
-- Assumes nothing.
use Rattle.basis.proofs.Std.{◌-◌, ◌+◌, ◌≡◌, ◌∙◌, arith, rules, length}
use Rattle.pool.specs.Shares.{fullest}
use Rattle.pool.specs.Pool.{held_in}
use Rattle.store_site.specs.Layout.{places_in}
use Rattle.store_pool.proofs.PlaceLaws.{fuller_counted, fullest_first, fullest_next, fullest_below_lem}
use Rattle.store_pool.proofs.issue.fullest_of.Goals as goal

pub loop-k-init : goal.loop-k-init
loop-k-init c = (omega arith, fullest_first (held_in (places_in c.args.w.now)))

pub fuller_in-m-requires : goal.fuller_in-m-requires
fuller_in-m-requires c =
    let n : length c.counts-held.result ≡ 8 = search rules in
    (n, (c.loop-k.invariant.0, omega arith))

pub loop-k-preserved : goal.loop-k-preserved
loop-k-preserved c =
    let l = c.loop-k in
    let p = places_in c.args.w.now in
    let r = c.fuller_in-m.result in
    let e : r ≡ fullest (held_in p) (l.k + 1 - 1) =
    fullest_next (held_in p) l.k l.m r (omega arith) l.invariant.1 (c.fuller_in-m.ensures ∙ fuller_counted p c.counts-held.result c.counts-held.ensures l.m l.k l.invariant.0 (omega arith)) in
    (fullest_below_lem (held_in p) l.k r (omega arith) e, e)

pub returns : goal.returns
returns c =
    let l = c.loop-k in
    let e : l.k ≡ 8 = omega arith in
    rw e at l.invariant.1
