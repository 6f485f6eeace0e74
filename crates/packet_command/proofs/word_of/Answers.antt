use Rattle.basis.proofs.Std.{ℕ, ◌+◌, ◌*◌, ◌≡◌, ap, ap₂, ◌∙◌, rules}
use mir.Syntax.{w32}
use mir.Val.{to_z, of_z}
use Rattle.number.specs.Signed.{word_of}
use Rattle.packet_command.specs.Commanding.{number_of}
use Rattle.packet_command.proofs.word_of.Goals as goal

pub returns : goal.returns
returns c =
    let v : to_z w32 (of_z w32 c.args.e.value) ≡ c.args.e.value = search rules in
    ap₂ (λ (n x : ℕ). n * 4294967296 + x) (c.number_of-n.ensures ∙ ap number_of c.command.ensures) (c.word_of.ensures ∙ ap word_of v)
