-- The records of a call, issued one by one.
-- Assumes nothing.
use Rattle.std.specs.Prelude.{ℕ, List, [], ◌∷◌}
use Rattle.basis.specs.Pick.{pick, both}
use Rattle.entry.specs.declared.Entry.{Entry}
use Rattle.alarm.specs.declared.Changed.{Changed}
use Rattle.alarm.specs.Issued.{issued_of}
use Rattle.pool_laws.specs.declared.Batch.{Batch}
use Rattle.pool_laws.specs.Batch.{issued_all}
use Rattle.site.specs.declared.Site.{Site}
use Rattle.site.specs.Site.{site, has_primary, owner_of}

-- the records es issued from the site's pool under its next numbers
abbrev pub batch_in : Site → List Entry → Batch
batch_in s es = issued_all 8 s.pool s.next es

-- the site with them: its pool and its next number, nothing else
unfoldable pub issued_in : Site → List Entry → Site
issued_in s es =
    site s (batch_in s es).pool s.links s.subscriptions s.alarms s.statuses s.aggregated (batch_in s es).next s.last

-- what an event of alarm k issues, which came to c
abbrev pub alarm_records : Site → ℕ → Changed → List Entry
alarm_records s k c = pick (both c.records (has_primary s)) (issued_of c.alarm (owner_of s s.primary) k ∷ []) []
