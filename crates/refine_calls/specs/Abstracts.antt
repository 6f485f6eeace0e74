-- When a site of the code is a machine: a proof's device, nothing here need be believed.
-- Assumes nothing.
use Rattle.std.specs.Prelude.{ℕ, ◌≡◌, length}
use Rattle.site.specs.declared.Site.{Site}
use Rattle.site.specs.Site.{link_at}
use Rattle.machine.specs.State.{Machine, life_at}
use Rattle.refine_parts.specs.Same.{Beside, SamePool}
use Rattle.refine_parts.specs.Life.{SameLife}
use Rattle.refine_parts.specs.Items.{SameItems}

-- `beside` is the other site
pub record Abstracts (beside : Beside) (s : Site) (m : Machine) : Type 0 where
  pub items : SameItems s m
  pub last : s.last ≡ m.last
  -- the site has four links, the machine those that are configured; any other is Down
  pub link_places : length s.links ≡ 4
  pub life_count : length m.lives ≡ m.setup.links
  pub lives : (l : ℕ) → SameLife (link_at s l) (life_at m l)
  pub pool : SamePool m.setup.links beside s.site s.pool s.next m.pool
