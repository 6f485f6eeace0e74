use Rattle.basis.proofs.Std.{◌*◌, take}
use Rattle.table_whole.specs.Bytes.{in_turn}
use Rattle.store_table.specs.Layout.{label_bytes}
use Rattle.store_table.specs.Laid.{Laid}
use Rattle.store_table.proofs.lays.labels.Given as goal

abbrev pub invariant-loop-k : goal.invariant-loop-k
invariant-loop-k l = Laid l.initial.t l.at (33 * l.k) (in_turn label_bytes (take l.k l.rows)) l.t
