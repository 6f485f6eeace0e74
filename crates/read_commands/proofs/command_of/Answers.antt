use Rattle.basis.proofs.Std.{rules}
use mir.Syntax.{w32}
use mir.Val.{SFits}
use mir.Facts.{to_z-of_z}
use Rattle.read_commands.proofs.command_of.Goals as goal

pub returns : goal.returns
returns c =
    let fits : SFits w32 c.args.v.value = record { sfits = search rules } in
    rw (c.worst-verdict.ensures, c.worst-2.ensures, c.worst.ensures, to_z-of_z fits)
