-- `packet_subscribe::replaced` meets its contract.
-- Assumes nothing.
use Rattle.basis.proofs.Std.{ℕ, List}
use Rattle.site.specs.declared.Site.{Site}
use Rattle.store_table.specs.Layout.{table_of}
use Rattle.packet_subscribe.specs.Subscribing.{replaced as replaced_of}
use Rattle.packet_subscribe.specs.InPlace.{MovesIn}
use Rattle.packet_subscribe.proofs.replaced.Given as goal

abbrev pub invariant-loop-i : goal.invariant-loop-i
invariant-loop-i l = (ps : List ℕ) → MovesIn (table_of l.t) (λ (s : Site). replaced_of l.subscribing s l.l l.time l.component l.entries l.i) ps ps l.initial.w l.w
