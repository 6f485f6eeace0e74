-- `call_start::begin_pool` meets its contract.
-- Assumes nothing.
use Rattle.basis.proofs.Std.{◌∙◌, sym, rules}
use Rattle.store_site.specs.Layout.{pool_in}
use Rattle.call_start.proofs.BegunLaws.{pool_alone, pool_beside}
use Rattle.call_start.proofs.Values.{is_alone}
use Rattle.call_start.proofs.begin_pool.Goals as goal

pub returns-then-site-lt2 : goal.returns-then-site-lt2
returns-then-site-lt2 c =
    c.clear_site.ensures ∙ sym (pool_beside c.args.site (pool_in c.args.p.now) c.if-site-lt2.true)

pub returns : goal.returns
returns c =
    c.empty_pool.ensures ∙ sym (pool_alone c.args.site (pool_in c.args.p.now) (is_alone c.args.site (search rules) c.if-site-lt2.false))
