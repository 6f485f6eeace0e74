-- `store_pool::places::number` meets its contract.
-- Assumes nothing.
use Rattle.basis.proofs.Std.{◌≡◌, sym, arith, length, drop, length-drop}
use Rattle.pool.specs.Places.{fits}
use Rattle.store_site.specs.Layout.{places_in}
use Rattle.store_site.proofs.SiteLaws.{places_length}
use Rattle.pool.proofs.Down.{count_down, count_end, count_most}
use Rattle.store_pool.proofs.places.number.Goals as goal

pub loop-i-init : goal.loop-i-init
loop-i-init c =
    let p = places_in c.args.w.now in
    let h : length p ≡ 128 = places_length _ in
    sym (count_end _ p 128 (omega arith))

pub overflow_add-n : goal.overflow_add-n
overflow_add-n c = omega (arith, count_most (fits c.args.q) (drop c.loop-i.i (places_in c.args.w.now)), places_length c.args.w.now, length-drop c.loop-i.i (places_in c.args.w.now))

pub loop-i-preserved-then-asked : goal.loop-i-preserved-then-asked
loop-i-preserved-then-asked c =
    let p = places_in c.args.w.now in
    let h : length p ≡ 128 = places_length _ in
    rw (count_down _ p c.loop-i.i (omega arith) (omega arith), ← c.place.ensures, ← c.asked.ensures, c.if-asked.true) (omega arith)

pub loop-i-preserved : goal.loop-i-preserved
loop-i-preserved c =
    let p = places_in c.args.w.now in
    let h : length p ≡ 128 = places_length _ in
    rw (count_down _ p c.loop-i.i (omega arith) (omega arith), ← c.place.ensures, ← c.asked.ensures, c.if-asked.false) (omega arith)
