use Rattle.basis.proofs.Std.{sym, ap, ◌∙◌}
use Rattle.read_head.specs.declared.Verdict.TheVariants.{Good, Missing, Bad}
use Rattle.read_lists.specs.Version.{push_site, site_of_item, no_sites, sites_of}
use Rattle.read_lists.proofs.Walk.{list_missing, list_there, a_list, no_list}
use Rattle.read_lists.proofs.sites_of.Goals as goal

pub returns-in-Bad : goal.returns-in-Bad
returns-in-Bad c = c.no_sites.ensures ∙ ap sites_of (sym (list_missing _ _ _ _ (rw c.in-Bad.is at c.member_of-p.ensures)))

pub returns-then-begins : goal.returns-then-begins
returns-then-begins c = c.sites_in.ensures ∙ a_list (λ l x. push_site l (site_of_item x)) (no_sites Good) (no_sites Missing) (no_sites Bad) _ c.begins.ensures c.if-begins.true ∙ ap sites_of (sym (list_there _ _ _ _ _ (rw c.in-End.is at c.member_of-p.ensures)))

pub returns-else-begins : goal.returns-else-begins
returns-else-begins c = c.no_sites-else-begins.ensures ∙ no_list (λ l x. push_site l (site_of_item x)) (no_sites Good) (no_sites Missing) (no_sites Bad) _ c.begins.ensures c.if-begins.false ∙ ap sites_of (sym (list_there _ _ _ _ _ (rw c.in-End.is at c.member_of-p.ensures)))
