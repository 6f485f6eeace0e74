-- What start gave stays, whatever a call changes.
-- Assumes nothing.
use Rattle.basis.proofs.Std.{ℕ, List}
use Rattle.pool.specs.declared.Pool.{Pool}
use Rattle.link.specs.declared.Link.{Link}
use Rattle.alarm.specs.declared.Alarm.{Alarm}
use Rattle.status.specs.declared.Status.{Status}
use Rattle.subscription.specs.declared.Subscription.{Subscription}
use Rattle.aggregated.specs.declared.Aggregated.{Aggregated}
use Rattle.site.specs.declared.Site.{Site}
use Rattle.site.specs.Site.{site}
use Rattle.machine.specs.State.{Setup}
use Rattle.refine_parts.specs.Setup.{SameSetup}

pub moved : {s : Site} {u : Setup} {p : Pool} {ls : List Link} {xs : List Subscription} {vs : List Alarm} {ks : List Status} {g : Aggregated} {n t : ℕ}
    → SameSetup s u → SameSetup (site s p ls xs vs ks g n t) u
moved h =
    record {
      edition = h.edition;
      allowed = h.allowed;
      table = h.table;
      links = h.links;
      few = h.few;
      primary = h.primary;
      its_link = h.its_link;
      period = h.period;
    }
