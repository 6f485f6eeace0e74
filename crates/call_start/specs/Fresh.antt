-- The site that start makes.
-- Assumes nothing.
use Rattle.std.specs.Prelude.{ℕ, ◌+◌, ◌*◌, eqb, ltb, replicate}
use Rattle.basis.specs.Pick.{pick}
use Rattle.pool.specs.declared.Pool.{Pool}
use Rattle.pool.specs.Pool.{empty_of, clear_of}
use Rattle.link.specs.Fields.{closed_link}
use Rattle.subscription.specs.Subscription.{none}
use Rattle.alarm.specs.Alarm.{beginning}
use Rattle.status.specs.Status.{unknown}
use Rattle.aggregated.specs.Aggregated.{beginning as all_false}
use Rattle.table_whole.specs.declared.SiteTable.{SiteTable}
use Rattle.table_whole.specs.Memory.{no_table}
use Rattle.site.specs.declared.Site.{Site}

-- what start is asked for in place of a site's number: the only site of its box, which is site 0
abbrev pub alone : ℕ
alone = 4294967295

abbrev pub site_for : ℕ → ℕ
site_for site = pick (eqb site alone) 0 site

-- the four owners of a site begin anew: they hold nothing and have lost nothing
abbrev pub cleared_for : ℕ → Pool → Pool
cleared_for site p = clear_of (clear_of (clear_of (clear_of p (4 * site)) (4 * site + 1)) (4 * site + 2)) (4 * site + 3)

-- the pool after a start, p before it: alone it is emptied, whatever it held; else the other site keeps its share
unfoldable pub pool_for : ℕ → Pool → Pool
pool_for site p = pick (eqb site alone) (empty_of 8) (cleared_for site p)

-- every link Down, nothing subscribed, no status known, every alarm and the aggregated value as at the start time; its time is the
-- first last time; the pool is p
unfoldable pub fresh : Pool → ℕ → SiteTable → ℕ → ℕ → ℕ → ℕ → ℕ → Site
fresh p site table links primary period first time =
    record {
      pool = p;
      links = replicate 4 closed_link;
      subscriptions = replicate 128 none;
      alarms = replicate 32 (beginning time);
      statuses = replicate 32 unknown;
      aggregated = all_false time;
      next = first;
      last = time;
      site = site;
      period = period;
      linkcount = links;
      primary = primary;
      table = table;
    }

-- the primary as the site keeps it: a link, or 65535 where there is none
abbrev pub primary_of : ℕ → ℕ
primary_of primary = pick (ltb primary 4) primary 65535

-- what stands for a site where start made none: it has no links
abbrev pub no_site : Site
no_site = fresh (empty_of 8) 0 no_table 0 65535 0 0 0
