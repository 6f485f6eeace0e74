-- Where the first dot of a text stands.
-- Assumes nothing.
use Rattle.std.specs.Prelude.{◌≡◌, List, ℕ, ◌+◌, ◌≤◌, ◌<◌, length, take, drop}
use Rattle.read_versions.specs.Version.{before, behind, nothing, more}

-- the first dot of s stands at r, or there is none and r is the end
pub record Dot (s : List ℕ) (r : ℕ) : Type 0 where
  pub within : r ≤ length s
  pub first : before s ≡ take r s
  pub dotted : r < length s → behind s ≡ more (drop (r + 1) s)
  pub undotted : length s ≤ r → behind s ≡ nothing
