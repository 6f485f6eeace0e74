use Rattle.basis.proofs.Std.{rules, ℕ, ◌<◌, ◌≡◌, refl, ap, ◌∙◌, length}
use Rattle.store_table.specs.Layout.{table_of}
use Rattle.packet_command.specs.Commanding.{commands_to}
use Rattle.packet_command.specs.Handing.{handed_over}
use Rattle.packet_command.proofs.HandedWords.{one_more_handed}
use Rattle.packet_command.proofs.hand.Goals as goal

pub loop-i-init : goal.loop-i-init
loop-i-init c = refl

pub loop-i-preserved : goal.loop-i-preserved
loop-i-preserved c =
    let l = c.loop-i in
    let h : l.i < length c.args.commands.now = search rules in
    one_more_handed (table_of c.args.t.now) c.args.component c.args.entries l.i c.args.commands.now h l.invariant c.entry_in.ensures c.word_of.ensures

pub returns : goal.returns
returns c =
    let l = c.loop-i in
    let e : l.i ≡ c.args.count = search rules in
    l.invariant ∙ ap (λ (n : ℕ). handed_over (commands_to (table_of c.args.t.now) c.args.component c.args.entries n) c.args.commands.now) e
