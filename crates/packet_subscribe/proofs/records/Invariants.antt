-- `packet_subscribe::records` meets its contract.
-- Assumes nothing.
use Rattle.site.specs.declared.Site.{Site}
use Rattle.store_call.specs.Issued.{issued_in}
use Rattle.store_table.specs.Layout.{table_of}
use Rattle.packet_subscribe.specs.Subscribing.{records as records_of}
use Rattle.packet_subscribe.specs.InPlace.{MovesIn}
use Rattle.packet_subscribe.proofs.records.Given as goal

abbrev pub invariant-loop-i : goal.invariant-loop-i
invariant-loop-i l = MovesIn (table_of l.t) (λ (s : Site). issued_in s (records_of s l.l l.time l.component l.entries l.i)) l.initial.p l.p l.initial.w l.w
