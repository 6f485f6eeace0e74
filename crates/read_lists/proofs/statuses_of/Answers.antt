use Rattle.basis.proofs.Std.{sym, ap, ◌∙◌}
use Rattle.read_head.specs.declared.Verdict.TheVariants.{Good, Missing, Bad}
use Rattle.read_lists.specs.Status.{push_entry, entry_of_item, no_statuses, statuses_of}
use Rattle.read_lists.proofs.Walk.{list_missing, list_there, a_list, no_list}
use Rattle.read_lists.proofs.statuses_of.Goals as goal

pub returns-in-Bad : goal.returns-in-Bad
returns-in-Bad c = c.no_statuses.ensures ∙ ap (statuses_of c.args.asking) (sym (list_missing _ _ _ _ (rw c.in-Bad.is at c.member_of-p.ensures)))

pub returns-then-begins : goal.returns-then-begins
returns-then-begins c = c.statuses_in.ensures ∙ a_list (λ l x. push_entry l (entry_of_item c.args.asking x)) (no_statuses Good) (no_statuses Missing) (no_statuses Bad) _ c.begins.ensures c.if-begins.true ∙ ap (statuses_of c.args.asking) (sym (list_there _ _ _ _ _ (rw c.in-End.is at c.member_of-p.ensures)))

pub returns-else-begins : goal.returns-else-begins
returns-else-begins c = c.no_statuses-else-begins.ensures ∙ no_list (λ l x. push_entry l (entry_of_item c.args.asking x)) (no_statuses Good) (no_statuses Missing) (no_statuses Bad) _ c.begins.ensures c.if-begins.false ∙ ap (statuses_of c.args.asking) (sym (list_there _ _ _ _ _ (rw c.in-End.is at c.member_of-p.ensures)))
