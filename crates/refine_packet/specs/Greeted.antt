-- Their Version and their Watchdog come to what they come to in the machine. proofs/ proves it.
-- Assumes nothing.
use Rattle.std.specs.Prelude.{◌≡◌, true, false}
use Rattle.read_head.specs.Small.{watchdog_at}
use Rattle.read_lists.specs.Version.{version_at}
use Rattle.packet_greet.specs.Version.{version_taken}
use Rattle.packet_greet.specs.Watchdog.{watchdog_taken}
use Rattle.machine.specs.Words.{◌or◌}
use Rattle.machine.specs.State.{Life}
use Rattle.machine.specs.Life.{is_beating, is_up}
use Rattle.refine_packet.specs.Taken.{SameAsked}

-- else it is "Unexpected"
pub record Judges (k : Life) : Type 0 where
  pub sent : k.versions.sent ≡ true
  pub not_taken : k.versions.taken ≡ false

abbrev pub SameVersion : Type 0
SameVersion = SameAsked "Version" Judges (λ s q p. version_taken s q (version_at p))

abbrev pub Beats : Life → Type 0
Beats k = (is_beating k or is_up k) ≡ true

abbrev pub SameWatchdog : Type 0
SameWatchdog = SameAsked "Watchdog" Beats (λ s q p. watchdog_taken s q (watchdog_at p))
