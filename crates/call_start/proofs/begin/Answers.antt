-- `call_start::begin` meets its contract.
-- Assumes nothing.
use Rattle.basis.proofs.Std.{ℕ, ◌≡◌, refl, ◌∙◌, ap, rules}
use Rattle.table_whole.specs.declared.Verdict.TheVariants.{Accepted}
use Rattle.store_site.specs.Layout.{pool_in}
use Rattle.store_whole.specs.Image.{words_of}
use Rattle.call_start.specs.Fresh.{site_for, pool_for, fresh}
use Rattle.call_start.proofs.BegunLaws.{begun_accepted}
use Rattle.call_start.proofs.Values.{site_kept, site_small}
use Rattle.call_start.proofs.begin.Goals as goal

pub put_fresh-requires : goal.put_fresh-requires
put_fresh-requires c = (search rules, (rw c.site_of.ensures (site_small c.args.site), search rules))

pub returns : goal.returns
returns c =
    let p = pool_for c.args.site (pool_in c.args.p.now) in
    let kept : c.site_of.result ≡ site_for c.args.site = c.site_of.ensures ∙ site_kept c.args.site c.requires.1.1.1.0 in
    rw c.nothing.ensures
    (begun_accepted Accepted p (site_for c.args.site) c.args.table.now c.args.links c.args.primary c.args.period c.args.first c.args.time
    c.args.p.now c.begin_pool.new.p c.args.w.now c.put_fresh.new.w c.args.t.now c.put.new.t refl c.begin_pool.ensures
    (c.put_fresh.ensures p c.args.table.now ∙ ap (λ (n : ℕ). words_of (fresh p n c.args.table.now c.args.links c.args.primary c.args.period c.args.first c.args.time)) kept)
    c.put.ensures)
