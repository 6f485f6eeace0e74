use Rattle.basis.proofs.Std.{sym, ◌∙◌}
use Rattle.read_lists.proofs.site_entry.Goals as goal

pub returns-then-begins : goal.returns-then-begins
returns-then-begins c = c.label_in.ensures ∙ sym (rw (sym c.begins.ensures ∙ c.if-begins.true))

pub returns-else-begins : goal.returns-else-begins
returns-else-begins c = c.no_site.ensures ∙ sym (rw (sym c.begins.ensures ∙ c.if-begins.false))
