-- `call_read::version_of` meets its contract.
-- Assumes nothing.
use Rattle.basis.proofs.Std.{◌≡◌, [], refl, sym, ◌∙◌, true, false, rules}
use Rattle.site.specs.Site.{no_link_at}
use Rattle.store_site.specs.Layout.{site_of}
use Rattle.table_whole.specs.Memory.{no_table}
use Rattle.site.proofs.Checks.{link_below}
use Rattle.call_read.proofs.version_of.Goals as goal

pub returns-then-no_link : goal.returns-then-no_link
returns-then-no_link c =
    λ ps t.
    let e : no_link_at (site_of ps c.args.w.now t) c.args.link ≡ true = sym (c.no_link.ensures ps t) ∙ c.if-no_link.true in
    rw e refl

pub major-requires : goal.major-requires
major-requires c = (search rules, link_below (site_of [] c.args.w.now no_table) c.args.link (sym (c.no_link.ensures [] no_table) ∙ c.if-no_link.false))

pub minor-requires : goal.minor-requires
minor-requires c = (search rules, link_below (site_of [] c.args.w.now no_table) c.args.link (sym (c.no_link.ensures [] no_table) ∙ c.if-no_link.false))

pub patch-requires : goal.patch-requires
patch-requires c = (search rules, link_below (site_of [] c.args.w.now no_table) c.args.link (sym (c.no_link.ensures [] no_table) ∙ c.if-no_link.false))

pub returns : goal.returns
returns c =
    λ ps t.
    let e : no_link_at (site_of ps c.args.w.now t) c.args.link ≡ false = sym (c.no_link.ensures ps t) ∙ c.if-no_link.false in
    rw (e, c.major.ensures ps t, c.minor.ensures ps t, c.patch.ensures ps t) refl
