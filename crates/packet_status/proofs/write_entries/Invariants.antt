use Rattle.basis.proofs.Std.{ℕ, true, List}
use Rattle.output.specs.Put.{Wrote}
use Rattle.write_message.specs.declared.Told.TheVariants.{Response}
use Rattle.write_message.specs.Pieces.{entries_pieces}
use Rattle.store_table.specs.Layout.{table_of}
use Rattle.store_site.specs.Layout.{site_of}
use Rattle.packet_status.specs.StatusReply.{told_to}
use Rattle.packet_status.proofs.write_entries.Given as goal

abbrev pub invariant-loop-i : goal.invariant-loop-i
invariant-loop-i l = (ps : List ℕ) → Wrote l.initial.out l.at (entries_pieces Response true (told_to (site_of ps l.w (table_of l.t)) l.component l.entries l.i)) l.out l.end
