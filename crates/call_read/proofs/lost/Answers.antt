-- `call_read::lost` meets its contract.
-- Assumes nothing.
use Rattle.basis.proofs.Std.{◌≡◌, refl, sym, ◌∙◌, true, false, arith}
use Rattle.site.specs.Site.{no_link_at}
use Rattle.store_site.specs.Layout.{site_of}
use Rattle.store_site.proofs.SiteLaws.{pool_of}
use Rattle.table_whole.specs.Memory.{no_table}
use Rattle.site.proofs.Checks.{link_below}
use Rattle.call_read.proofs.lost.Goals as goal

pub returns-then-no_link : goal.returns-then-no_link
returns-then-no_link c =
    λ t.
    let e : no_link_at (site_of c.args.p.now c.args.w.now t) c.args.link ≡ true = sym (c.no_link.ensures c.args.p.now t) ∙ c.if-no_link.true in
    rw e refl

pub overflow_cast-link : goal.overflow_cast-link
overflow_cast-link c =
    omega (arith, link_below (site_of c.args.p.now c.args.w.now no_table) c.args.link (sym (c.no_link.ensures c.args.p.now no_table) ∙ c.if-no_link.false))

pub returns : goal.returns
returns c =
    λ t.
    let e : no_link_at (site_of c.args.p.now c.args.w.now t) c.args.link ≡ false = sym (c.no_link.ensures c.args.p.now t) ∙ c.if-no_link.false in
    rw (e, pool_of c.args.p.now c.args.w.now t, ← c.owner.ensures c.args.p.now t) c.lost.ensures
