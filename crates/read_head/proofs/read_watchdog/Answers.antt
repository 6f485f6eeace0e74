use Rattle.basis.proofs.Std.{rules, ap, ◌∙◌}
use Rattle.read_head.specs.Word.{word_of}
use Rattle.read_head.proofs.Copies.{says, found_at}
use Rattle.read_head.specs.Values.{got_time}
use Rattle.read_head.specs.Small.{watchdog_at}
use Rattle.read_head.proofs.read_watchdog.Goals as goal

pub returns : goal.returns
unfolding watchdog_at
returns c = c.time_of.ensures ∙ ap got_time (ap word_of c.element_of.ensures ∙ says (found_at _ _))
