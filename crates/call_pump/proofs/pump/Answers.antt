-- `call_pump::pump` meets its contract.
-- Assumes nothing.
use Rattle.basis.proofs.Std.{length, ◌<◌, rules}
use Rattle.call_pump.proofs.Laws.{verdict_below, refused_in, done_in}
use Rattle.store_table.specs.Layout.{table_of}
use Rattle.store_site.specs.Layout.{site_of}
use Rattle.call_pump.proofs.pump.Goals as goal

pub overflow_cast-link : goal.overflow_cast-link
overflow_cast-link c =
    let x = table_of c.args.t.now in
    let h : c.args.link < 4 = verdict_below (site_of c.args.p.now c.args.w.now x) c.args.link c.args.time c.own_identity-id.result (length c.args.out.now) c.verdict.ensures c.in-Done.is in search rules

pub due-requires : goal.due-requires
due-requires c =
    let x = table_of c.args.t.now in
    let h : c.args.link < 4 = verdict_below (site_of c.args.p.now c.args.w.now x) c.args.link c.args.time c.own_identity-id.result (length c.args.out.now) c.verdict.ensures c.in-Done.is in (search rules, (search rules, (search rules, h)))

pub returns-in-Refused : goal.returns-in-Refused
returns-in-Refused c =
    let x = table_of c.args.t.now in
    rw (← c.own_identity-id.ensures) (refused_in x c.args.p.now c.args.w.now c.args.link c.args.time c.own_identity-id.result c.verdict.ensures c.in-Refused.is)

pub returns-in-Done : goal.returns-in-Done
returns-in-Done c =
    let x = table_of c.args.t.now in
    rw (← c.own_identity-id.ensures) (done_in x c.args.p.now c.args.w.now c.args.link c.args.time c.own_identity-id.result c.verdict.ensures c.in-Done.is c.due.ensures)
