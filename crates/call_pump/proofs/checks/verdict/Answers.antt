-- `call_pump::checks::verdict` meets its contract.
-- Assumes nothing.
use Rattle.basis.proofs.Std.{refl, sym, ◌∙◌, lt-ltb, le-ltb, ◌<◌, rules}
use Rattle.site.proofs.Checks.{link_below}
use Rattle.store_table.specs.Layout.{table_of}
use Rattle.store_site.specs.Layout.{site_of}
use Rattle.call_pump.proofs.checks.verdict.Goals as goal

pub returns-then-no_link : goal.returns-then-no_link
returns-then-no_link c =
    let x = table_of c.args.t.now in
    rw (← c.no_link.ensures c.args.p.now x, c.if-no_link.true) refl

pub returns-then-room-lt4096 : goal.returns-then-room-lt4096
returns-then-room-lt4096 c =
    let x = table_of c.args.t.now in
    rw (← c.no_link.ensures c.args.p.now x, c.if-no_link.false, lt-ltb _ _ c.if-room-lt4096.true) refl

pub returns-then-bad_time : goal.returns-then-bad_time
returns-then-bad_time c =
    let x = table_of c.args.t.now in
    rw (← c.no_link.ensures c.args.p.now x, c.if-no_link.false, le-ltb _ _ c.if-room-lt4096.false, ← c.bad_time.ensures c.args.p.now x, c.if-bad_time.true) refl

pub overflow_cast-link : goal.overflow_cast-link
overflow_cast-link c =
    let x = table_of c.args.t.now in
    let h : c.args.link < 4 = link_below (site_of c.args.p.now c.args.w.now x) c.args.link (sym (c.no_link.ensures c.args.p.now x) ∙ c.if-no_link.false) in search rules

pub later_verdict-requires : goal.later_verdict-requires
later_verdict-requires c =
    let x = table_of c.args.t.now in
    let h : c.args.link < 4 = link_below (site_of c.args.p.now c.args.w.now x) c.args.link (sym (c.no_link.ensures c.args.p.now x) ∙ c.if-no_link.false) in (search rules, (search rules, (search rules, h)))

pub returns : goal.returns
returns c =
    let x = table_of c.args.t.now in
    rw (← c.no_link.ensures c.args.p.now x, c.if-no_link.false, le-ltb _ _ c.if-room-lt4096.false, ← c.bad_time.ensures c.args.p.now x, c.if-bad_time.false) c.later_verdict.ensures
