use Rattle.basis.proofs.Std.{ap, ◌∙◌}
use Rattle.read_versions.proofs.Numerals.{integer_once}
use Rattle.read_commands.specs.Command.{valued}
use Rattle.read_commands.proofs.value_text.Goals as goal

pub returns : goal.returns
returns c = c.valued_by.ensures ∙ ap valued (integer_once _ _ c.read_i32.ensures)
