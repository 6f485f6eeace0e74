-- The site with something else in one part, and what every call asks of it.
-- Assumes nothing.
use Rattle.std.specs.Prelude.{ℕ, ◌+◌, ◌*◌, ◌/◌, Bool, true, false, List, eqb, leb, ltb, get_or, set}
use Rattle.basis.specs.Pick.{pick}
use Rattle.answer.specs.Times.{last_time}
use Rattle.pool.specs.declared.Pool.{Pool}
use Rattle.pool.specs.Pool.{unmark_of}
use Rattle.link.specs.declared.Link.{Link}
use Rattle.link.specs.declared.Role.{Role}
use Rattle.link.specs.declared.Role.TheVariants.{Primary, Secondary}
use Rattle.link.specs.declared.Phase.{Phase}
use Rattle.link.specs.declared.Phase.TheVariants.{Down, Greeting, Beating, Up}
use Rattle.link.specs.Fields.{closed_link}
use Rattle.link.specs.Phase.{phase_of}
use Rattle.subscription.specs.declared.Subscription.{Subscription}
use Rattle.alarm.specs.declared.Alarm.{Alarm}
use Rattle.status.specs.declared.Status.{Status}
use Rattle.aggregated.specs.declared.Aggregated.{Aggregated}
use Rattle.pool_laws.specs.declared.Batch.{Batch}
use Rattle.site.specs.declared.Site.{Site}

-- every part of the site that a call may change; what start was given stays
abbrev pub site : Site → Pool → List Link → List Subscription → List Alarm → List Status → Aggregated → ℕ → ℕ → Site
site s pool links subscriptions alarms statuses aggregated next last =
    record {
      pool = pool;
      links = links;
      subscriptions = subscriptions;
      alarms = alarms;
      statuses = statuses;
      aggregated = aggregated;
      next = next;
      last = last;
      site = s.site;
      period = s.period;
      linkcount = s.linkcount;
      primary = s.primary;
      table = s.table;
    }

abbrev pub with_pool : Site → Pool → Site
with_pool s x = site s x s.links s.subscriptions s.alarms s.statuses s.aggregated s.next s.last

abbrev pub with_links : Site → List Link → Site
with_links s x = site s s.pool x s.subscriptions s.alarms s.statuses s.aggregated s.next s.last

abbrev pub with_subscriptions : Site → List Subscription → Site
with_subscriptions s x = site s s.pool s.links x s.alarms s.statuses s.aggregated s.next s.last

abbrev pub with_alarms : Site → List Alarm → Site
with_alarms s x = site s s.pool s.links s.subscriptions x s.statuses s.aggregated s.next s.last

abbrev pub with_statuses : Site → List Status → Site
with_statuses s x = site s s.pool s.links s.subscriptions s.alarms x s.aggregated s.next s.last

abbrev pub with_aggregated : Site → Aggregated → Site
with_aggregated s x = site s s.pool s.links s.subscriptions s.alarms s.statuses x s.next s.last

-- the records of a call are issued, and its time is the last
abbrev pub with_issued : Site → Batch → ℕ → Site
with_issued s b time = site s b.pool s.links s.subscriptions s.alarms s.statuses s.aggregated b.next time

-- number 2: no such configured link
abbrev pub no_link_at : Site → ℕ → Bool
no_link_at s l = pick (ltb l 4) (leb s.linkcount l) true

-- number 5: before the last time of a call done, or after the last one
abbrev pub bad_time_at : Site → ℕ → Bool
bad_time_at s time = pick (ltb time s.last) true (ltb last_time time)

-- "Without a primary no alarm record is issued"
abbrev pub has_primary : Site → Bool
has_primary s = ltb s.primary s.linkcount

abbrev pub role_of : Site → ℕ → Role
role_of s l = pick (eqb l s.primary) Primary Secondary

abbrev pub link_at : Site → ℕ → Link
link_at s l = get_or s.links l closed_link

abbrev pub with_link : Site → ℕ → Link → Site
with_link s l k = with_links s (set s.links l k)

abbrev pub is_down : Phase → Bool
is_down Down = true
is_down Greeting = false
is_down Beating = false
is_down Up = false

abbrev pub down_at : Site → ℕ → Bool
down_at s l = is_down (phase_of (link_at s l))

-- the owner of link l's records in the pool; a link above 3 owns none, at either site
unfoldable pub owner : ℕ → ℕ → ℕ
owner site l = pick (ltb l 4) (4 * site + l) 8

abbrev pub owner_of : Site → ℕ → ℕ
owner_of s l = owner s.site l

-- whether o is one of the site's four owners
abbrev pub owned_by : Site → ℕ → Bool
owned_by s o = eqb (o / 4) s.site

-- Closing leaves the link Down, nothing awaited, no record of it marked sent; records and subscriptions stay
abbrev pub close_at : Site → ℕ → Site
close_at s l = with_pool (with_link s l closed_link) (unmark_of s.pool (owner_of s l))

-- the links closed, as a report has them: link 0 is bit 0
abbrev pub mask_of : ℕ → ℕ
mask_of l = pick (eqb l 0) 1 (pick (eqb l 1) 2 (pick (eqb l 2) 4 (pick (eqb l 3) 8 0)))
