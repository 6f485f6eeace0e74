use Rattle.basis.proofs.Std.{◌≡◌, rules}
use Rattle.packet_command.proofs.Entries.{none_told, one_more_told}
use Rattle.packet_command.proofs.write_entries.Goals as goal

pub loop-i-init : goal.loop-i-init
loop-i-init c = none_told _ _

pub loop-i-preserved : goal.loop-i-preserved
loop-i-preserved c =
    let l = c.loop-i in
    one_more_told c.args.component c.args.entries l.i l.invariant c.entry_in-e.ensures c.write_entry-end.ensures

pub returns : goal.returns
returns c =
    let l = c.loop-i in
    let e : l.i ≡ c.args.count = search rules in
    rw (← e) l.invariant
