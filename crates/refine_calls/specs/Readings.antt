-- Each exported reading of each link, configured or not, is the machine's.
-- Assumes nothing.
use Rattle.std.specs.Prelude.{ℕ, ◌≡◌, List, [], ◌∷◌}
use Rattle.site.specs.declared.Site.{Site}
use Rattle.call_read.specs.declared.ChosenVersion.{ChosenVersion}
use Rattle.call_read.specs.Readings.{held_at, lost_at, phase_at, version_at, record_at}
use Rattle.machine.specs.State.{Machine}
use Rattle.machine.specs.Readings.{reading}
use Rattle.refine_parts.specs.Same.{Beside}
use Rattle.refine_parts.specs.Record.{reading_at}
use Rattle.refine_parts.specs.Life.{shown}
use Rattle.refine_calls.specs.Abstracts.{Abstracts}

abbrev pub numbers_of : ChosenVersion → List ℕ
numbers_of v = v.major ∷ v.minor ∷ v.patch ∷ []

pub record SameReadings (s : Site) (m : Machine) (l : ℕ) : Type 0 where
  pub held : held_at s l ≡ (reading m l).held
  pub lost : lost_at s l ≡ (reading m l).lost
  pub phase : phase_at s l ≡ (reading m l).phase
  -- zeros where none is chosen
  pub version : numbers_of (version_at s l) ≡ shown (reading m l).version
  -- the record than which r are older
  pub records : (r : ℕ) → record_at s l r ≡ reading_at r (reading m l).records

abbrev pub Reading : Type 0
Reading = (beside : Beside) (s : Site) (m : Machine) → Abstracts beside s m → (l : ℕ) → SameReadings s m l
