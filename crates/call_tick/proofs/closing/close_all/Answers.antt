-- `call_tick::closing::close_all` meets its contract.
-- Assumes nothing.
use Rattle.basis.proofs.Std.{ap, ◌∙◌, arith}
use Rattle.table_whole.specs.Memory.{no_table}
use Rattle.site.specs.declared.Site.{Site}
use Rattle.store_site.specs.Layout.{site_of}
use Rattle.store_site.proofs.TurnsLaws.{moves_then}
use Rattle.call_tick.specs.Closing.{late_mask}
use Rattle.call_tick.proofs.Masks.{late_most}
use Rattle.call_tick.proofs.InPlace.{bits_closed}
use Rattle.call_tick.proofs.closing.close_all.Goals as goal

pub overflow_add-result : goal.overflow_add-result
overflow_add-result c =
    let two = c.close_late-b in
    let three = c.close_late-c in
    let four = c.close_late-d in
    omega (
      arith,
      c.close_late-a.ensures.1 no_table,
      late_most (site_of c.args.p.now c.args.w.now no_table) 0 c.args.time,
      two.ensures.1 no_table,
      late_most (site_of c.close_late-a.new.p c.close_late-a.new.w no_table) 1 c.args.time,
    )

pub overflow_add-result-2 : goal.overflow_add-result-2
overflow_add-result-2 c =
    let three = c.close_late-c in
    let four = c.close_late-d in
    omega (
      arith,
      c.close_late-a.ensures.1 no_table,
      late_most (site_of c.args.p.now c.args.w.now no_table) 0 c.args.time,
      c.close_late-b.ensures.1 no_table,
      late_most (site_of c.close_late-a.new.p c.close_late-a.new.w no_table) 1 c.args.time,
      three.ensures.1 no_table,
      late_most (site_of c.close_late-b.new.p c.close_late-b.new.w no_table) 2 c.args.time,
    )

pub overflow_add-result-3 : goal.overflow_add-result-3
overflow_add-result-3 c =
    let four = c.close_late-d in
    omega (
      arith,
      c.close_late-a.ensures.1 no_table,
      late_most (site_of c.args.p.now c.args.w.now no_table) 0 c.args.time,
      c.close_late-b.ensures.1 no_table,
      late_most (site_of c.close_late-a.new.p c.close_late-a.new.w no_table) 1 c.args.time,
      c.close_late-c.ensures.1 no_table,
      late_most (site_of c.close_late-b.new.p c.close_late-b.new.w no_table) 2 c.args.time,
      four.ensures.1 no_table,
      late_most (site_of c.close_late-c.new.p c.close_late-c.new.w no_table) 3 c.args.time,
    )

pub returns : goal.returns
returns c =
    let one = c.close_late-a in
    let two = c.close_late-b in
    let three = c.close_late-c in
    let four = c.close_late-d in
    let upto1 = one.ensures.0 in
    let upto2 = moves_then upto1 two.ensures.0 in
    let upto3 = moves_then upto2 three.ensures.0 in (
      moves_then upto3 four.ensures.0,
      λ t. bits_closed (site_of c.args.p.now c.args.w.now t) c.args.time (one.ensures.1 t)
          (two.ensures.1 t ∙ ap (λ (s : Site). late_mask s 1 c.args.time) (upto1.site t))
          (three.ensures.1 t ∙ ap (λ (s : Site). late_mask s 2 c.args.time) (upto2.site t))
          (four.ensures.1 t ∙ ap (λ (s : Site). late_mask s 3 c.args.time) (upto3.site t)),
    )
