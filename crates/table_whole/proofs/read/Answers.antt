use Rattle.basis.proofs.Std.{sym, subst}
use Rattle.table_whole.specs.Reads.{Reads}
use Rattle.table_whole.proofs.Whole.{reads_table}
use Rattle.table_whole.proofs.read.Goals as goal

pub returns : goal.returns
returns c =
    let s = c.args.s.now in
    subst (Reads s) (sym c.read_table.ensures) (reads_table s (λ i. (c.shared_slice_known-1.given i).fits))
