use Rattle.basis.proofs.Std.{rules}
use Rattle.csvc.specs.Calls.{ReadsOn}
use Rattle.csv_line.proofs.Taken.{line_reads}
use Rattle.csvc.proofs.Answers.{ordered}
use Rattle.csvc.proofs.read_on.Goals as goal

pub returns-then-text-at : goal.returns-then-text-at
returns-then-text-at c = ReadsOn.ended c.if-text-at.true

pub slice_bounds-line_behind-count : goal.slice_bounds-line_behind-count
slice_bounds-line_behind-count c = let h = (ordered c.take_line-l.ensures).0 in search rules

pub slice_bounds-line_behind-start : goal.slice_bounds-line_behind-start
slice_bounds-line_behind-start c = let h = (ordered c.take_line-l.ensures).0 in search rules

pub slice_bounds-line_behind-end : goal.slice_bounds-line_behind-end
slice_bounds-line_behind-end c = let h = (ordered c.take_line-l.ensures).1 in search rules

pub returns : goal.returns
returns c =
    let h = ordered c.take_line-l.ensures in
    rw (c.number.ensures, c.packed-p.ensures, c.line_behind-behind.ensures) (ReadsOn.goes_on_lem _ c.if-text-at.false h.0 h.1 (line_reads _ c.take_line-l.ensures c.judge_line-j.ensures))
