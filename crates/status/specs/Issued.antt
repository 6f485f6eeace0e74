-- The record of a status' value.
-- Assumes nothing.
use Rattle.std.specs.Prelude.{ℕ, Bool, eqb}
use Rattle.entry.specs.declared.Entry.{Entry}
use Rattle.entry.specs.Flags.{status_flags}
use Rattle.status.specs.declared.Status.{Status}
use Rattle.status.specs.Status.{held_of}

-- kind 1, the status' number, whether the value is known and whether it is old, the value or 0; the pool gives the sequence number
abbrev pub issued_of : Status → ℕ → ℕ → ℕ → Bool → Entry
issued_of s link number time old =
    record {
      time = time;
      value = held_of s;
      sequence = 0;
      link = link;
      kind = 1;
      item = number;
      flags = status_flags (eqb s.known 1) old;
    }
