-- The owner of a configured link's records: which site's it is, and which link's.
-- Assumes nothing.
use Rattle.basis.proofs.Std.{ℕ, ◌+◌, ◌*◌, ◌/◌, ◌%◌, ◌<◌, ◌≡◌, refl, true, arith, lt-ltb, eq-eqb}
use Rattle.site.specs.declared.Site.{Site}
use Rattle.site.specs.Site.{owner, owner_of, owned_by}

owner_is : (site l : ℕ) → l < 4 → owner site l ≡ 4 * site + l
unfolding owner
owner_is site l h = rw (lt-ltb l 4 h) refl

module _ (site l : ℕ) where
  pub owner_site : l < 4 → owner site l / 4 ≡ site
  owner_site h = omega (arith, h, owner_is site l h)

  pub owner_link : l < 4 → owner site l % 4 ≡ l
  owner_link h = omega (arith, h, owner_is site l h)

  pub owner_few : site < 2 → l < 4 → owner site l < 8
  owner_few g h = omega (arith, g, h, owner_is site l h)

pub owns : (s : Site) (l : ℕ) → l < 4 → owned_by s (owner_of s l) ≡ true
owns s l h = eq-eqb (owner_of s l / 4) s.site (owner_site s.site l h)
