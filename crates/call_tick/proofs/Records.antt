-- Where the loop over the places ends.
-- Assumes nothing.
use Rattle.basis.proofs.Std.{ℕ, ◌≡◌, ap, List}
use Rattle.link.specs.declared.Link.{Link}
use Rattle.status.specs.declared.Status.{Status}
use Rattle.subscription.specs.declared.Subscription.{Subscription}
use Rattle.pool_laws.specs.Upwards.{entries_to}
use Rattle.call_tick.specs.Intervals.{record_at, records_of}

pub all_places : (site : ℕ) (xs : List Subscription) (ks : List Status) (ns : List Link) (time n : ℕ) → n ≡ 128 → entries_to (record_at site xs ks ns time) n ≡ records_of site xs ks ns time
unfolding records_of
all_places site xs ks ns time n e = ap (entries_to (record_at site xs ks ns time)) e
