-- `store_pool::places::first` meets its contract.
-- Assumes nothing.
use Rattle.basis.proofs.Std.{◌≡◌, sym, arith, length}
use Rattle.pool.specs.Places.{fits}
use Rattle.store_site.specs.Layout.{places_in}
use Rattle.store_site.proofs.SiteLaws.{places_length}
use Rattle.pool.proofs.Down.{oldest_down, oldest_end}
use Rattle.store_pool.proofs.places.first.Goals as goal

pub loop-i-init : goal.loop-i-init
loop-i-init c =
    let p = places_in c.args.w.now in
    let h : length p ≡ 128 = places_length _ in
    sym (oldest_end (fits c.args.q) p 128 (omega arith))

pub loop-i-preserved-then-asked : goal.loop-i-preserved-then-asked
loop-i-preserved-then-asked c =
    let p = places_in c.args.w.now in
    let i = c.loop-i.i in
    let h : length p ≡ 128 = places_length _ in
    rw (oldest_down (fits c.args.q) p i (omega arith) (omega arith), ← c.place-x.ensures, ← c.asked.ensures, c.if-asked.true, ← c.loop-i.invariant) c.nearer-best.ensures

pub loop-i-preserved : goal.loop-i-preserved
loop-i-preserved c =
    let p = places_in c.args.w.now in
    let i = c.loop-i.i in
    let h : length p ≡ 128 = places_length _ in
    rw (oldest_down (fits c.args.q) p i (omega arith) (omega arith), ← c.place-x.ensures, ← c.asked.ensures, c.if-asked.false) c.loop-i.invariant
