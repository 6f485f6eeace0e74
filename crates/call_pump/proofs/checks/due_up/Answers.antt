-- `call_pump::checks::due_up` meets its contract.
-- Assumes nothing.
use Rattle.link.specs.Due.{due_up}
use Rattle.basis.proofs.Std.{refl, sym, ◌∙◌}
use Rattle.store_table.specs.Layout.{table_of}
use Rattle.store_site.specs.Layout.{site_of}
use Rattle.call_pump.proofs.checks.due_up.Goals as goal

pub returns-then-elapsed : goal.returns-then-elapsed
unfolding due_up
returns-then-elapsed c =
    let x = table_of c.args.t.now in record { due = λ s e. rw (e, ← c.beat-since.ensures c.args.p.now x, ← c.period.ensures c.args.p.now x, ← c.milliseconds-span.ensures, sym c.elapsed.ensures ∙ c.if-elapsed.true) refl; small = tt }

pub returns-then-aggregated_out : goal.returns-then-aggregated_out
unfolding due_up
returns-then-aggregated_out c =
    let x = table_of c.args.t.now in record { due = λ s e. rw (e, ← c.beat-since.ensures c.args.p.now x, ← c.period.ensures c.args.p.now x, ← c.milliseconds-span.ensures, sym c.elapsed.ensures ∙ c.if-elapsed.false, ← c.aggregated_out.ensures c.args.p.now x, c.if-aggregated_out.true) (c.due_passing.ensures.due (site_of c.args.p.now c.args.w.now x) refl); small = c.due_passing.ensures.small }

pub returns : goal.returns
unfolding due_up
returns c =
    let x = table_of c.args.t.now in record { due = λ s e. rw (e, ← c.beat-since.ensures c.args.p.now x, ← c.period.ensures c.args.p.now x, ← c.milliseconds-span.ensures, sym c.elapsed.ensures ∙ c.if-elapsed.false, ← c.aggregated_out.ensures c.args.p.now x, c.if-aggregated_out.false) refl; small = tt }
