-- The record of a status for a link's owner, which says how the link stands.
-- Assumes nothing.
use Rattle.std.specs.Prelude.{ℕ, not}
use Rattle.entry.specs.declared.Entry.{Entry}
use Rattle.link.specs.declared.Link.{Link}
use Rattle.link.specs.Phase.{phase_of, is_up}
use Rattle.status.specs.declared.Status.{Status}
use Rattle.status.specs.Issued.{issued_of}

-- "the second flag of a status record says that it was issued while its link was not Up": k is the link of owner o as it stands
abbrev pub status_record : Link → Status → ℕ → ℕ → ℕ → Entry
status_record k x o number time = issued_of x o number time (not (is_up (phase_of k)))
