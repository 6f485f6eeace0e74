use Rattle.basis.proofs.Std.{◌≡◌, [], rules}
use Rattle.output.proofs.Laws.{same_length as kept_length}
use Rattle.store_table.specs.Layout.{table_of}
use Rattle.store_site.specs.Layout.{site_of}
use Rattle.packet_status.proofs.Entries.{none_told, one_more_told}
use Rattle.packet_status.proofs.write_entries.Goals as goal

pub loop-i-init : goal.loop-i-init
loop-i-init c = λ ps. none_told _ _

pub loop-i-preserved : goal.loop-i-preserved
loop-i-preserved c =
    let l = c.loop-i in
    λ ps. one_more_told (site_of ps c.args.w.now (table_of c.args.t.now)) c.args.component c.args.entries l.i (l.invariant ps) c.entry_in-e.ensures (c.write_entry-end.ensures ps)

pub returns : goal.returns
returns c ps =
    let l = c.loop-i in
    let e : l.i ≡ c.args.count = search rules in
    rw (← e) (l.invariant ps)
