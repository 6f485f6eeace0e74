-- The site with all that stands once replaced, or all of its links.
-- Assumes nothing.
use Rattle.std.specs.Prelude.{ℕ, ◌≡◌, List}
use Rattle.link.specs.declared.Link.{Link}
use Rattle.aggregated.specs.declared.Aggregated.{Aggregated}
use Rattle.table_whole.specs.declared.SiteTable.{SiteTable}
use Rattle.site.specs.declared.Site.{Site}
use Rattle.site.specs.Site.{with_links}
use Rattle.store_site.specs.Layout.{lost_in, places_in, site_of}
use Rattle.store_site.specs.Turns.{Plain}

-- other numbers and another aggregated status
abbrev pub with_head : Site → ℕ → ℕ → ℕ → ℕ → ℕ → ℕ → Aggregated → Site
with_head s next last which period links primary changed =
    record {
      pool = s.pool;
      links = s.links;
      subscriptions = s.subscriptions;
      alarms = s.alarms;
      statuses = s.statuses;
      aggregated = changed;
      next = next;
      last = last;
      site = which;
      period = period;
      linkcount = links;
      primary = primary;
      table = s.table;
    }

-- the pool's lost counts stored, and its places as they were
pub record PutLost (ps qs lost : List ℕ) : Type 0 where
  pub counts : lost_in qs ≡ lost
  pub places : places_in qs ≡ places_in ps

-- all four links stored: what has happened on them is then 0 or 1, whatever the words were
pub record PutLinks (ws vs : List ℕ) (links : List Link) : Type 0 where
  pub site : (ps : List ℕ) (t : SiteTable) → site_of ps vs t ≡ with_links (site_of ps ws t) links
  pub plain : Plain vs
