-- What stays as start gave it.
-- Assumes nothing.
use Rattle.std.specs.Prelude.{ℕ, ◌≤◌, ◌<◌, ◌≡◌}
use Rattle.std.proofs.Math.Option.{some}
use Rattle.table_whole.specs.Allowed.{Allowed}
use Rattle.table_whole.specs.Memory.{memory_of}
use Rattle.site.specs.declared.Site.{Site}
use Rattle.machine.specs.Words.{or_else}
use Rattle.machine.specs.State.{Setup}

pub record SameSetup (s : Site) (u : Setup) : Type 0 where
  pub edition : ℕ
  pub allowed : Allowed edition u.table
  pub table : s.table ≡ memory_of u.table
  pub links : s.linkcount ≡ u.links
  pub few : u.links ≤ 4
  -- the site keeps 65535 where there is none
  pub primary : s.primary ≡ or_else 65535 u.primary
  pub its_link : (p : ℕ) → u.primary ≡ some p → p < u.links
  pub period : s.period ≡ u.period
