-- What a change in place comes to that reads the site's table, which is t.
-- Assumes nothing.
use Rattle.std.specs.Prelude.{ℕ, ◌≡◌, List}
use Rattle.table_whole.specs.declared.SiteTable.{SiteTable}
use Rattle.site.specs.declared.Site.{Site}
use Rattle.store_site.specs.Layout.{site_of}
use Rattle.store_site.specs.Turns.{Plain}

pub record MovesIn (t : SiteTable) (f : Site → Site) (ps qs ws vs : List ℕ) : Type 0 where
  pub site : site_of qs vs t ≡ f (site_of ps ws t)
  pub plain : Plain ws → Plain vs
