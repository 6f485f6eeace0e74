use Rattle.basis.proofs.Std.{◌≤◌, refl, sym, subst, arith, rules}
use Rattle.read_commands.specs.declared.CommandFields.{CommandFields}
use Rattle.read_commands.proofs.Kept.{kept}
use Rattle.store_table.specs.Layout.{table_of}
use Rattle.packet_command.proofs.HandedWords.{known_handed, unknown_handed}
use Rattle.packet_command.proofs.hand_over.Goals as goal

pub read_command-f-requires : goal.read_command-f-requires
read_command-f-requires c = record { finds = λ h. absurd (h refl) }

pub hand-requires : goal.hand-requires
hand-requires c =
    let f = c.read_command-f in
    let m = subst (λ (x : CommandFields). x.count ≤ 16) (sym f.ensures) (kept.most c.args.packet.now) in
    (search rules, (search rules, omega (arith, m)))

pub returns-in-Is : goal.returns-in-Is
returns-in-Is c =
    known_handed (table_of c.args.t.now) c.args.packet.now c.read_command-f.ensures c.component-component.ensures _ c.args.commands.now c.in-Is.is c.hand.ensures

pub returns-in-Nothing : goal.returns-in-Nothing
returns-in-Nothing c =
    unknown_handed (table_of c.args.t.now) c.args.packet.now c.read_command-f.ensures c.component-component.ensures c.args.commands.now c.in-Nothing.is
