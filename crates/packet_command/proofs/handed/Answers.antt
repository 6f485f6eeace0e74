use Rattle.basis.proofs.Std.{sym, ap, length}
use Rattle.packet_lookup.specs.declared.Sought.{Sought}
use Rattle.packet_command.specs.Commanding.{commands_of}
use Rattle.packet_command.proofs.HandedWords.{how_many}
use Rattle.packet_command.proofs.handed.Goals as goal

pub returns-in-Is : goal.returns-in-Is
returns-in-Is c = λ t. how_many t _ c.args.f c.in-Is.is

pub returns-in-Nothing : goal.returns-in-Nothing
returns-in-Nothing c =
    λ t. ap (λ (x : Sought). length (commands_of t c.args.f x)) (sym c.in-Nothing.is)
