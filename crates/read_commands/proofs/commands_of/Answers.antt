use Rattle.basis.proofs.Std.{sym, ap, ◌∙◌}
use Rattle.read_head.specs.declared.Verdict.TheVariants.{Good, Missing, Bad}
use Rattle.read_commands.specs.Command.{push_command, command_of_item, no_commands, commands_of}
use Rattle.read_lists.proofs.Walk.{list_missing, list_there, a_list, no_list}
use Rattle.read_commands.proofs.commands_of.Goals as goal

pub returns-in-Bad : goal.returns-in-Bad
returns-in-Bad c = c.no_commands.ensures ∙ ap commands_of (sym (list_missing _ _ _ _ (rw c.in-Bad.is at c.member_of-p.ensures)))

pub returns-then-begins : goal.returns-then-begins
returns-then-begins c = c.commands_in.ensures ∙ a_list (λ l x. push_command l (command_of_item x)) (no_commands Good) (no_commands Missing) (no_commands Bad) _ c.begins.ensures c.if-begins.true ∙ ap commands_of (sym (list_there _ _ _ _ _ (rw c.in-End.is at c.member_of-p.ensures)))

pub returns-else-begins : goal.returns-else-begins
returns-else-begins c = c.no_commands-else-begins.ensures ∙ no_list (λ l x. push_command l (command_of_item x)) (no_commands Good) (no_commands Missing) (no_commands Bad) _ c.begins.ensures c.if-begins.false ∙ ap commands_of (sym (list_there _ _ _ _ _ (rw c.in-End.is at c.member_of-p.ensures)))
