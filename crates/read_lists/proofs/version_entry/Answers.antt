use Rattle.basis.proofs.Std.{sym, ap, ◌∙◌}
use Rattle.read_head.specs.Word.{word_of}
use Rattle.read_head.proofs.Copies.{says, found_at}
use Rattle.read_lists.specs.Version.{got_version}
use Rattle.read_lists.proofs.version_entry.Goals as goal

pub returns-then-begins : goal.returns-then-begins
returns-then-begins c = c.version_of.ensures ∙ ap got_version (ap word_of c.element_in.ensures ∙ says (found_at _ _)) ∙ sym (rw (sym c.begins.ensures ∙ c.if-begins.true))

pub returns-else-begins : goal.returns-else-begins
returns-else-begins c = c.no_number.ensures ∙ sym (rw (sym c.begins.ensures ∙ c.if-begins.false))
