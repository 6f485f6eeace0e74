-- What a site in lent words says of its table.
-- Assumes nothing.
use Rattle.basis.proofs.Std.{◌≡◌, refl, ℕ, List, get_or}
use Rattle.table_item.specs.declared.Item.{Item}
use Rattle.table_item.specs.Item.{no_item}
use Rattle.table_whole.specs.declared.SiteTable.{SiteTable}
use Rattle.site.specs.declared.Site.{Site}
use Rattle.site.specs.Parts.{alarm_row_at, status_row_at}
use Rattle.store_site.specs.Layout.{site_of}

pub table_of_lem : (ps ws : List ℕ) (t : SiteTable) → (site_of ps ws t).table ≡ t
unfolding site_of
table_of_lem ps ws t = refl

-- rows of the table t of a site
module _ (s : Site) (k : ℕ) {t : SiteTable} {x : Item} (e : s.table ≡ t) where
  pub alarm_row_of : x ≡ get_or t.alarms k no_item → x ≡ alarm_row_at s k
  alarm_row_of h = rw e h

  pub status_row_of : x ≡ get_or t.statuses k no_item → x ≡ status_row_at s k
  status_row_of h = rw e h
