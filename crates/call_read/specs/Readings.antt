-- What a host reads of a site. Of a link that is not configured: Down, and zeros.
-- Assumes nothing.
use Rattle.std.specs.Prelude.{ℕ}
use Rattle.basis.specs.Pick.{pick}
use Rattle.pool.specs.declared.Reading.{Reading}
use Rattle.pool.specs.declared.Sought.TheVariants.{Nothing}
use Rattle.pool.specs.Pool.{held_of, lost_of, ranked_of, reading_of}
use Rattle.link.specs.declared.Link.{Link}
use Rattle.link.specs.declared.Phase.{Phase}
use Rattle.link.specs.declared.Phase.TheVariants.{Down, Greeting, Beating, Up}
use Rattle.link.specs.Phase.{phase_of}
use Rattle.site.specs.declared.Site.{Site}
use Rattle.site.specs.Site.{no_link_at, link_at, owner_of}
use Rattle.call_read.specs.declared.ChosenVersion.{ChosenVersion}

-- how many records of link l are held, and how many it lost since start
abbrev pub held_at : Site → ℕ → ℕ
held_at s l = pick (no_link_at s l) 0 (held_of s.pool (owner_of s l))

abbrev pub lost_at : Site → ℕ → ℕ
lost_at s l = pick (no_link_at s l) 0 (lost_of s.pool (owner_of s l))

abbrev pub phase_number : Phase → ℕ
phase_number Down = 0
phase_number Greeting = 1
phase_number Beating = 2
phase_number Up = 3

abbrev pub phase_at : Site → ℕ → ℕ
phase_at s l = pick (no_link_at s l) (phase_number Down) (phase_number (phase_of (link_at s l)))

-- the chosen version; zeros before their Version is accepted
abbrev pub no_version : ChosenVersion
no_version = record { major = 0; minor = 0; patch = 0 }

abbrev pub chosen_of : Link → ChosenVersion
chosen_of k = record { major = k.major; minor = k.minor; patch = k.patch }

abbrev pub version_at : Site → ℕ → ChosenVersion
version_at s l = pick (no_link_at s l) no_version (chosen_of (link_at s l))

-- the sixteen bytes of link l's held record than which r of its records are older
abbrev pub no_reading : Reading
no_reading = reading_of Nothing

abbrev pub record_at : Site → ℕ → ℕ → Reading
record_at s l r = pick (no_link_at s l) no_reading (reading_of (ranked_of s.pool (owner_of s l) r))
