-- `store_pool::places::ranked` meets its contract.
-- Assumes nothing.
use Rattle.basis.proofs.Std.{◌≡◌, sym, arith, length}
use Rattle.pool.specs.Pool.{rank_is}
use Rattle.store_site.specs.Layout.{places_in}
use Rattle.store_site.proofs.SiteLaws.{places_length}
use Rattle.pool.proofs.Down.{oldest_down, oldest_end}
use Rattle.store_pool.proofs.places.ranked.Goals as goal

pub loop-i-init : goal.loop-i-init
loop-i-init c =
    let p = places_in c.args.w.now in
    let h : length p ≡ 128 = places_length _ in
    sym (oldest_end (rank_is p c.args.l c.args.rank) p 128 (omega arith))

pub loop-i-preserved-then-has_rank : goal.loop-i-preserved-then-has_rank
loop-i-preserved-then-has_rank c =
    let p = places_in c.args.w.now in
    let i = c.loop-i.i in
    let h : length p ≡ 128 = places_length _ in
    rw (oldest_down (rank_is p c.args.l c.args.rank) p i (omega arith) (omega arith), ← c.place-x.ensures, ← c.has_rank.ensures, c.if-has_rank.true, ← c.loop-i.invariant) c.nearer-best.ensures

pub loop-i-preserved : goal.loop-i-preserved
loop-i-preserved c =
    let p = places_in c.args.w.now in
    let i = c.loop-i.i in
    let h : length p ≡ 128 = places_length _ in
    rw (oldest_down (rank_is p c.args.l c.args.rank) p i (omega arith) (omega arith), ← c.place-x.ensures, ← c.has_rank.ensures, c.if-has_rank.false) c.loop-i.invariant
