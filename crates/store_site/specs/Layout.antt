-- Where each part stands in the words, and the site that they are. The pool's words are the box's, a site's are its own.
-- The pool: 0 lost, 8 places: poolWords in all.
-- A site: 0 next, 1 last, 2 site (1 bit), period (31), linkcount and primary (16 each), 3 and 4 aggregated, 5 links, 305 subscriptions,
-- 561 alarms, 625 statuses: siteWords in all.
-- Assumes nothing.
use Rattle.std.specs.Prelude.{ℕ, ◌+◌, ◌*◌, List}
use Rattle.bits.specs.Fields.{field_of}
use Rattle.pool.specs.declared.Place.{Place}
use Rattle.pool.specs.declared.Pool.{Pool}
use Rattle.link.specs.declared.Link.{Link}
use Rattle.subscription.specs.declared.Subscription.{Subscription}
use Rattle.alarm.specs.declared.Alarm.{Alarm}
use Rattle.status.specs.declared.Status.{Status}
use Rattle.table_whole.specs.declared.SiteTable.{SiteTable}
use Rattle.site.specs.declared.Site.{Site}
use Rattle.site.specs.Site.{site}
use Rattle.store_words.specs.Words.{word, list_of}
use Rattle.store_site.specs.Rows.{place_in, subscription_in, alarm_in, status_in}
use Rattle.store_link.specs.Rows.{link_in}

abbrev pub pool_words : ℕ
pool_words = 520

abbrev pub site_words : ℕ
site_words = 657

unfoldable pub lost_in : List ℕ → List ℕ
lost_in ps = list_of (λ (l : ℕ). word ps l) 8

unfoldable pub places_in : List ℕ → List Place
places_in ps = list_of (λ (k : ℕ). place_in ps (8 + 4 * k)) 128

abbrev pub pool_in : List ℕ → Pool
pool_in ps = record { places = places_in ps; lost = lost_in ps }

unfoldable pub links_in : List ℕ → List Link
links_in ws = list_of (λ (l : ℕ). link_in ws (5 + 75 * l)) 4

unfoldable pub subscriptions_in : List ℕ → List Subscription
subscriptions_in ws = list_of (λ (k : ℕ). subscription_in ws (305 + 2 * k)) 128

unfoldable pub alarms_in : List ℕ → List Alarm
alarms_in ws = list_of (λ (k : ℕ). alarm_in ws (561 + 2 * k)) 32

unfoldable pub statuses_in : List ℕ → List Status
statuses_in ws = list_of (λ (k : ℕ). status_in ws (625 + k)) 32

-- the pool's words ps, the site's ws, its table t
unfoldable pub site_of : List ℕ → List ℕ → SiteTable → Site
site_of ps ws t =
    record {
      pool = pool_in ps;
      links = links_in ws;
      subscriptions = subscriptions_in ws;
      alarms = alarms_in ws;
      statuses = statuses_in ws;
      aggregated = record { time = word ws 3; value = word ws 4 };
      next = word ws 0;
      last = word ws 1;
      site = field_of (word ws 2) 63 1;
      period = field_of (word ws 2) 32 31;
      linkcount = field_of (word ws 2) 16 16;
      primary = field_of (word ws 2) 0 16;
      table = t;
    }

abbrev pub with_next : Site → ℕ → Site
with_next s x = site s s.pool s.links s.subscriptions s.alarms s.statuses s.aggregated x s.last

abbrev pub with_last : Site → ℕ → Site
with_last s x = site s s.pool s.links s.subscriptions s.alarms s.statuses s.aggregated s.next x
