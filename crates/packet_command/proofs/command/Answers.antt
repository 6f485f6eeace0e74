use Rattle.read_commands.specs.Command.{command_at}
use Rattle.store_table.specs.Layout.{table_of}
use Rattle.packet_lookup.specs.Sought.{component_sought}
use Rattle.store_site.specs.Layout.{site_of}
use Rattle.packet_answer.proofs.Choices.{good, missing, bad}
use Rattle.packet_command.specs.Commanding.{ordered_of}
use Rattle.packet_command.proofs.Orders.{command_judged}
use Rattle.packet_command.proofs.command.Goals as goal

pub returns-in-Good : goal.returns-in-Good
returns-in-Good c =
    λ ps.
    let t = table_of c.args.t.now in
    let ws = c.args.w.now in
    let f = c.read_command-f.result in
    let x = ordered_of (site_of ps ws t) c.args.q f (component_sought t f.component) in
    command_judged t ps ws c.args.q (command_at c.args.packet.now) c.read_command-f.ensures
    (good t ps ws c.args.q f.verdict x c.in-Good.is (c.ordered.ensures ps))

pub returns-in-Missing : goal.returns-in-Missing
returns-in-Missing c =
    λ ps.
    let t = table_of c.args.t.now in
    let ws = c.args.w.now in
    let f = c.read_command-f.result in
    let x = ordered_of (site_of ps ws t) c.args.q f (component_sought t f.component) in
    command_judged t ps ws c.args.q (command_at c.args.packet.now) c.read_command-f.ensures
    (missing t ps ws c.args.q f.verdict x c.in-Missing.is (c.not_ack.ensures ps t))

pub returns-in-Bad : goal.returns-in-Bad
returns-in-Bad c =
    λ ps.
    let t = table_of c.args.t.now in
    let ws = c.args.w.now in
    let f = c.read_command-f.result in
    let x = ordered_of (site_of ps ws t) c.args.q f (component_sought t f.component) in
    command_judged t ps ws c.args.q (command_at c.args.packet.now) c.read_command-f.ensures
    (bad t ps ws c.args.q f.verdict x c.in-Bad.is (c.not_ack-in-Bad.ensures ps t))
