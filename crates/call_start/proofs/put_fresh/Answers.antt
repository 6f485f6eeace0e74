-- `call_start::put_fresh` meets its contract.
-- Assumes nothing.
use Rattle.basis.proofs.Std.{◌≡◌, length, rules}
use Rattle.store_site.specs.Layout.{site_words}
use Rattle.call_start.proofs.BegunLaws.{fresh_put}
use Rattle.call_start.proofs.put_fresh.Goals as goal

pub returns : goal.returns
returns c =
    let e : length c.fill_links.new.w ≡ site_words = search rules in
    λ q t.
    fresh_put c.args.w.now c.put_head.new.w c.begin_items.new.w c.fill_links.new.w c.args.site c.args.links c.args.primary c.args.period c.args.first c.args.time
    (rw c.begin-changed.ensures at c.put_head.ensures) c.begin_items.ensures (rw c.closed.ensures at c.fill_links.ensures) t q e (λ j. (c.slice_known-4-1.given j).fits)
