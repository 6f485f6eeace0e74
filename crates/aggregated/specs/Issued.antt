-- The record of the aggregated value's last change.
-- Assumes nothing.
use Rattle.std.specs.Prelude.{ℕ, ◌%◌}
use Rattle.entry.specs.declared.Entry.{Entry}
use Rattle.aggregated.specs.declared.Aggregated.{Aggregated}

-- kind 2, item 0, no flags, the eight booleans in the low byte; the pool gives the sequence number
abbrev pub issued_of : Aggregated → ℕ → Entry
issued_of a link =
    record {
      time = a.time;
      value = a.value % 256;
      sequence = 0;
      link = link;
      kind = 2;
      item = 0;
      flags = 0;
    }
