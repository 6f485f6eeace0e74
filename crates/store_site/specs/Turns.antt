-- What a change in place comes to: of the site's words for every pool and every site table, of both for every site table.
-- Assumes nothing.
use Rattle.std.specs.Prelude.{ℕ, ◌+◌, ◌*◌, ◌<◌, ◌≡◌, List}
use Rattle.table_whole.specs.declared.SiteTable.{SiteTable}
use Rattle.site.specs.declared.Site.{Site}
use Rattle.store_link.specs.Rows.{PlainAt}
use Rattle.store_site.specs.Layout.{site_of}

-- what has happened on each link is 0 or 1 in each of its words; in every other word each content stands for something else
abbrev pub Plain : List ℕ → Type 0
Plain ws = (l : ℕ) → l < 4 → PlainAt ws (5 + 75 * l)

-- the site's words go from ws to vs
pub record Turns (f : Site → Site) (ws vs : List ℕ) : Type 0 where
  pub site : (ps : List ℕ) (t : SiteTable) → site_of ps vs t ≡ f (site_of ps ws t)
  pub plain : Plain ws → Plain vs

-- the pool's words go from ps to qs, the site's from ws to vs
pub record Moves (f : Site → Site) (ps qs ws vs : List ℕ) : Type 0 where
  pub site : (t : SiteTable) → site_of qs vs t ≡ f (site_of ps ws t)
  pub plain : Plain ws → Plain vs
