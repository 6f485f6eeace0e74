-- `call_start::start` meets its contract.
-- Assumes nothing.
use Rattle.basis.proofs.Std.{refl, sym, ◌∙◌, arith, rules}
use Rattle.answer.specs.declared.Refusal.TheVariants.{NotAccepted}
use Rattle.answer.specs.declared.Answer.TheVariants.{Refused}
use Rattle.table_whole.specs.declared.Verdict.TheVariants.{Accepted, Refused as NoTable}
use Rattle.table_whole.specs.Memory.{no_table}
use Rattle.table_whole.specs.Reading.{laid_out, refused}
use Rattle.table_whole.proofs.Whole.{reads_whole, reads_none}
use Rattle.store_site.specs.Layout.{pool_in}
use Rattle.call_start.specs.Fresh.{site_for, pool_for, primary_of}
use Rattle.call_start.proofs.BegunLaws.{begun_refused, starts_in, starts_not}
use Rattle.call_start.proofs.Values.{within_all, within_site_so}
use Rattle.call_start.proofs.start.Goals as goal

pub overflow_cast-links : goal.overflow_cast-links
overflow_cast-links c =
    omega (arith, (within_all c.args.site c.args.links c.args.primary c.args.period c.args.first c.args.time (sym c.within.ensures ∙ c.if-within.true)).most_links)

pub begin-requires : goal.begin-requires
begin-requires c =
    let all = sym c.within.ensures ∙ c.if-within.true in
    let most = (within_all c.args.site c.args.links c.args.primary c.args.period c.args.first c.args.time all).longest_period in
    (search rules, (search rules, (search rules, (within_site_so c.args.site c.args.links c.args.primary c.args.period c.args.first c.args.time all, omega (arith, most)))))

pub returns-then-is_accepted : goal.returns-then-is_accepted
returns-then-is_accepted c =
    let s = c.args.table.now in
    let e = c.laid_out.ensures in
    let whole = rw e at (sym c.is_accepted.ensures ∙ c.if-is_accepted.true) in
    starts_in s c.args.site c.args.links c.args.primary c.args.period c.args.first c.args.time (record { table = (laid_out s).table; verdict = Accepted })
    c.args.p.now c.begin.new.p c.args.w.now c.begin.new.w c.args.t.now c.begin.new.t c.primary_of.result c.begin.result
    (reads_whole s (λ i. (c.type_inv.table i).fits) whole) (sym c.within.ensures ∙ c.if-within.true) c.primary_of.ensures (rw e at c.begin.ensures)

pub returns-then-within : goal.returns-then-within
returns-then-within c =
    let s = c.args.table.now in
    let e = c.laid_out.ensures in
    let none = rw e at (sym c.is_accepted.ensures ∙ c.if-is_accepted.false) in
    starts_in s c.args.site c.args.links c.args.primary c.args.period c.args.first c.args.time refused
    c.args.p.now c.args.p.now c.args.w.now c.args.w.now c.args.t.now c.args.t.now (primary_of c.args.primary) (Refused NotAccepted)
    (reads_none s (λ i. (c.type_inv.table i).fits) none) (sym c.within.ensures ∙ c.if-within.true) refl
    (begun_refused (NoTable NotAccepted) (pool_for c.args.site (pool_in c.args.p.now)) (site_for c.args.site) no_table c.args.links (primary_of c.args.primary) c.args.period c.args.first c.args.time
    c.args.p.now c.args.p.now c.args.w.now c.args.w.now c.args.t.now c.args.t.now refl)

pub returns : goal.returns
returns c =
    starts_not c.args.table.now c.args.site c.args.links c.args.primary c.args.period c.args.first c.args.time c.args.p.now c.args.w.now c.args.t.now (sym c.within.ensures ∙ c.if-within.false)
