-- What a check that does not apply tells.
-- Assumes nothing.
use Rattle.basis.proofs.Std.{ℕ, ◌<◌, ◌≡◌, refl, false, ltb, ltb-true, bool_cases, not_both}
use Rattle.site.specs.declared.Site.{Site}
use Rattle.site.specs.Site.{no_link_at}

pub link_below : (s : Site) (l : ℕ) → no_link_at s l ≡ false → l < 4
link_below s l e = bool_cases (ltb l 4) (ltb-true l 4) (λ no. not_both refl (rw no at e))
