-- `call_tick::closing::close_late` meets its contract.
-- Assumes nothing.
use Rattle.basis.proofs.Std.{◌≡◌, sym, ◌∙◌, true, false}
use Rattle.table_whole.specs.declared.SiteTable.{SiteTable}
use Rattle.call_tick.specs.Closing.{late_at}
use Rattle.store_site.specs.Layout.{site_of}
use Rattle.store_site.proofs.TurnsLaws.{moves_none, moves_as}
use Rattle.call_tick.proofs.InPlace.{late_closed, not_late, late_bit, no_bit}
use Rattle.call_tick.proofs.closing.close_late.Goals as goal

pub returns-then-late : goal.returns-then-late
returns-then-late c =
    let late : (t : SiteTable) → late_at (site_of c.args.p.now c.args.w.now t) c.args.l c.args.time ≡ true = λ t. sym (c.late.ensures c.args.p.now t) ∙ c.if-late.true in (
      moves_as c.close.ensures (λ t. late_closed (site_of c.args.p.now c.args.w.now t) c.args.l c.args.time (late t)),
      λ t. c.bit_of.ensures ∙ late_bit (site_of c.args.p.now c.args.w.now t) c.args.l c.args.time (late t),
    )

pub returns : goal.returns
returns c =
    let early : (t : SiteTable) → late_at (site_of c.args.p.now c.args.w.now t) c.args.l c.args.time ≡ false = λ t. sym (c.late.ensures c.args.p.now t) ∙ c.if-late.false in
    (moves_none c.args.p.now c.args.w.now (λ t. not_late (site_of c.args.p.now c.args.w.now t) c.args.l c.args.time (early t)), λ t. no_bit (site_of c.args.p.now c.args.w.now t) c.args.l c.args.time (early t))
