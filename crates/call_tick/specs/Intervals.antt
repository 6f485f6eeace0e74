-- "A subscription issues a record .. with uRt above 0 at a tick uRt or more after the subscribing call or the last tick that did so",
-- "links upwards, statuses upwards".
-- Assumes nothing.
use Rattle.std.specs.Prelude.{ℕ, ◌/◌, ◌%◌, List, get_or}
use Rattle.entry.specs.declared.Entry.{Entry}
use Rattle.link.specs.declared.Link.{Link}
use Rattle.link.specs.Fields.{closed_link}
use Rattle.status.specs.declared.Status.{Status}
use Rattle.status.specs.Status.{unknown}
use Rattle.subscription.specs.declared.Subscription.{Subscription}
use Rattle.subscription.specs.Subscription.{none, tick_of}
use Rattle.pool_laws.specs.Upwards.{entries_to, entry_if}
use Rattle.site.specs.Site.{owner}
use Rattle.site.specs.Records.{status_record}

-- one that issues has issued at this time
abbrev pub renewed : ℕ → Subscription → Subscription
renewed time x = (tick_of x time).subscription

-- the record of the place i of a site, link i / 32 and status i % 32, where its subscription x issues one; k is the status and n the link
abbrev pub record_of : ℕ → Subscription → Status → Link → ℕ → ℕ → List Entry
record_of site x k n time i = entry_if (tick_of x time).issues (status_record n k (owner site (i / 32)) (i % 32) time)

abbrev pub record_at : ℕ → List Subscription → List Status → List Link → ℕ → ℕ → List Entry
record_at site xs ks ns time i = record_of site (get_or xs i none) (get_or ks (i % 32) unknown) (get_or ns (i / 32) closed_link) time i

-- the 128 places upwards are the links upwards, and of each link the statuses upwards
unfoldable pub records_of : ℕ → List Subscription → List Status → List Link → ℕ → List Entry
records_of site xs ks ns time = entries_to (record_at site xs ks ns time) 128
