use Rattle.basis.proofs.Std.{sym, ◌∙◌}
use Rattle.store_table.specs.Layout.{table_of}
use Rattle.packet_alarm.proofs.Asked.{from_primary, from_secondary}
use Rattle.packet_alarm.proofs.request.Goals as goal

pub returns-in-Primary : goal.returns-in-Primary
returns-in-Primary c ps =
    let t = table_of c.args.t.now in
    let ws = c.args.w.now in
    from_primary t ps ws c.args.q c.args.k (sym (c.role-role.ensures ps t) ∙ c.in-Primary.is) (c.reply_alarm.ensures ps)

pub returns-in-Secondary : goal.returns-in-Secondary
returns-in-Secondary c ps =
    let t = table_of c.args.t.now in
    let ws = c.args.w.now in
    from_secondary t ps ws c.args.q c.args.k (sym (c.role-role.ensures ps t) ∙ c.in-Secondary.is) (c.accept.ensures ps t)
