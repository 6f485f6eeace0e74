-- When the sixteen places of a link hold the awaited identities of the machine: a proof's device, nothing here need be believed.
-- Assumes nothing.
use Rattle.std.specs.Prelude.{ℕ, ◌≤◌, ◌≡◌, Bool, false, List, length}
use Rattle.std.proofs.Math.Option.{Option, some, none}
use Rattle.basis.specs.Pick.{pick}
use Rattle.basis.specs.Lists.{count, Among}
use Rattle.identity.specs.declared.Identity.{Identity}
use Rattle.identity.specs.Read.{SixteenBytes}
use Rattle.awaited.specs.declared.Slot.{Slot}
use Rattle.awaited.specs.declared.Awaited.{Awaited as Places}
use Rattle.awaited.specs.declared.Purpose.{Purpose}
use Rattle.awaited.specs.declared.Purpose.TheVariants.{Version, Watchdog, Entry, Other}
use Rattle.awaited.specs.declared.Found.{Found}
use Rattle.awaited.specs.declared.Found.TheVariants.{For, Nothing}
use Rattle.awaited.specs.Slot.{purpose_of, is_free, awaits_for}
use Rattle.awaited.specs.Promises.{Wait}
use Rattle.machine.specs.State.{Sent, Awaited}
use Rattle.machine.specs.State.Sent.{own_version, own_watchdog, no_record, the_record}

-- what a message was sent for
abbrev pub purpose_for : Sent → Purpose
purpose_for own_version = Version
purpose_for own_watchdog = Watchdog
purpose_for no_record = Other
purpose_for (the_record n) = Entry n

abbrev pub identity_in : List ℕ → Identity
identity_in bytes = record { bytes = bytes }

-- an awaited one, and what a taken place holds
abbrev pub wait_for : Awaited → Wait
wait_for w = record { id = identity_in w.identity; time = w.time; purpose = purpose_for w.message }

abbrev pub wait_in : Slot → Wait
wait_in x = record { id = x.id; time = x.time; purpose = purpose_of x }

unfoldable pub holds : (Wait → Bool) → Slot → Bool
holds f x = pick (is_free x) false (f (wait_in x))

unfoldable pub says : (Wait → Bool) → Awaited → Bool
says f w = f (wait_for w)

abbrev pub found_for : Option Awaited → Found
found_for none = Nothing
found_for (some w) = For (purpose_for w.message)

pub record SameAwaited (a : Places) (ws : List Awaited) : Type 0 where
  pub sixteen : length a.slots ≡ 16
  pub once : (id : Identity) → count (awaits_for id) a.slots ≤ 1
  -- whatever is asked of a message that waits: as many places say so as awaited ones
  pub as_many : (f : Wait → Bool) → count (holds f) a.slots ≡ count (says f) ws
  pub bytes : (w : Awaited) → Among w ws → SixteenBytes w.identity
