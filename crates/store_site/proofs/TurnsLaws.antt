-- Changes in place, one after the other.
-- Assumes nothing.
use Rattle.basis.proofs.Std.{ℕ, ◌≡◌, ap, ◌∙◌, List}
use Rattle.table_whole.specs.declared.SiteTable.{SiteTable}
use Rattle.site.specs.declared.Site.{Site}
use Rattle.store_site.specs.Layout.{site_of}
use Rattle.store_site.specs.Turns.{Turns, Moves}

-- nothing is changed, where that is what the change comes to
pub turns_none : {f : Site → Site} (ws : List ℕ) → ((ps : List ℕ) (t : SiteTable) → site_of ps ws t ≡ f (site_of ps ws t)) → Turns f ws ws
turns_none ws e = record { site = e; plain = λ p. p }

pub turns_then : {f g : Site → Site} {ws us vs : List ℕ} → Turns f ws us → Turns g us vs → Turns (λ (s : Site). g (f s)) ws vs
turns_then {f} {g} a b = record { site = λ ps t. b.site ps t ∙ ap g (a.site ps t); plain = λ p. b.plain (a.plain p) }

-- the same change, said otherwise
pub turns_as : {f g : Site → Site} {ws vs : List ℕ} → Turns f ws vs → ((ps : List ℕ) (t : SiteTable) → f (site_of ps ws t) ≡ g (site_of ps ws t)) → Turns g ws vs
turns_as a e = record { site = λ ps t. a.site ps t ∙ e ps t; plain = a.plain }

-- the same of changes of the pool's words and the site's
pub turns_moves : {f : Site → Site} {ws vs : List ℕ} (ps : List ℕ) → Turns f ws vs → Moves f ps ps ws vs
turns_moves ps a = record { site = a.site ps; plain = a.plain }

pub moves_none : {f : Site → Site} (ps ws : List ℕ) → ((t : SiteTable) → site_of ps ws t ≡ f (site_of ps ws t)) → Moves f ps ps ws ws
moves_none ps ws e = record { site = e; plain = λ p. p }

pub moves_then : {f g : Site → Site} {ps os qs ws us vs : List ℕ} → Moves f ps os ws us → Moves g os qs us vs → Moves (λ (s : Site). g (f s)) ps qs ws vs
moves_then {f} {g} a b = record { site = λ t. b.site t ∙ ap g (a.site t); plain = λ p. b.plain (a.plain p) }

pub moves_as : {f g : Site → Site} {ps qs ws vs : List ℕ} → Moves f ps qs ws vs → ((t : SiteTable) → f (site_of ps ws t) ≡ g (site_of ps ws t)) → Moves g ps qs ws vs
moves_as a e = record { site = λ t. a.site t ∙ e t; plain = a.plain }
