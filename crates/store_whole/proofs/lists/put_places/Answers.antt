-- `store_whole::lists::put_places` meets its contract.
-- Assumes nothing.
use Rattle.basis.proofs.Std.{◌≡◌, arith, rules, length}
use Rattle.pool.specs.Places.{no_place}
use Rattle.store_whole.proofs.FillLaws.{inside, places_next, places_all}
use Rattle.store_whole.proofs.lists.put_places.Goals as goal

pub loop-k-init : goal.loop-k-init
loop-k-init c = λ j h. absurd (omega arith)

pub loop-k-preserved : goal.loop-k-preserved
loop-k-preserved c =
    let l = c.loop-k in
    let m : length c.args.places ≡ 128 = search (c, rules) in
    places_next l.w c.put_place.new.w c.args.places l.k _ (omega arith) l.invariant (inside c.args.places l.k _ no_place (omega arith)) c.put_place.ensures

pub returns : goal.returns
returns c =
    let l = c.loop-k in
    let m : length c.args.places ≡ 128 = search (c, rules) in
    places_all l.w c.args.places l.k (omega arith) m l.invariant
