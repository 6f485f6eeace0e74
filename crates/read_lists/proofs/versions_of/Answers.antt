use Rattle.basis.proofs.Std.{sym, ap, ◌∙◌}
use Rattle.read_head.specs.declared.Verdict.TheVariants.{Good, Missing, Bad}
use Rattle.read_lists.specs.Version.{push_version, version_of_item, no_versions, versions_of}
use Rattle.read_lists.proofs.Walk.{list_missing, list_there, a_list, no_list}
use Rattle.read_lists.proofs.versions_of.Goals as goal

pub returns-in-Bad : goal.returns-in-Bad
returns-in-Bad c = c.no_versions.ensures ∙ ap versions_of (sym (list_missing _ _ _ _ (rw c.in-Bad.is at c.member_of-p.ensures)))

pub returns-then-begins : goal.returns-then-begins
returns-then-begins c = c.versions_in.ensures ∙ a_list (λ l x. push_version l (version_of_item x)) (no_versions Good) (no_versions Missing) (no_versions Bad) _ c.begins.ensures c.if-begins.true ∙ ap versions_of (sym (list_there _ _ _ _ _ (rw c.in-End.is at c.member_of-p.ensures)))

pub returns-else-begins : goal.returns-else-begins
returns-else-begins c = c.no_versions-else-begins.ensures ∙ no_list (λ l x. push_version l (version_of_item x)) (no_versions Good) (no_versions Missing) (no_versions Bad) _ c.begins.ensures c.if-begins.false ∙ ap versions_of (sym (list_there _ _ _ _ _ (rw c.in-End.is at c.member_of-p.ensures)))
