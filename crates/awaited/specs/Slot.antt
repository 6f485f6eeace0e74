-- One place: what it says, when it answers to an identity, when it has waited too long.
-- Assumes nothing.
use Rattle.std.specs.Prelude.{ℕ, ◌+◌, Bool, true, false, eqb, leb, replicate}
use Rattle.basis.specs.Pick.{pick}
use Rattle.basis.specs.Lists.{same_bytes}
use Rattle.identity.specs.declared.Identity.{Identity}
use Rattle.awaited.specs.declared.Slot.{Slot}
use Rattle.awaited.specs.declared.Purpose.{Purpose}
use Rattle.awaited.specs.declared.Purpose.TheVariants.{Version, Watchdog, Entry, Other}

unfoldable pub same_identity : Identity → Identity → Bool
same_identity a b = same_bytes a.bytes b.bytes

-- a free place: all zero
abbrev pub free_slot : Slot
free_slot = record { time = 0; sequence = 0; purpose = 0; id = record { bytes = replicate 16 0 } }

abbrev pub number_of : Purpose → ℕ
number_of Version = 1
number_of Watchdog = 2
number_of (Entry q) = 3
number_of Other = 4

abbrev pub sequence_of : Purpose → ℕ
sequence_of Version = 0
sequence_of Watchdog = 0
sequence_of (Entry q) = q
sequence_of Other = 0

-- the place of an identity sent at a time for a purpose
abbrev pub slot_of : Identity → ℕ → Purpose → Slot
slot_of id t p = record { time = t; sequence = sequence_of p; purpose = number_of p; id = id }

-- what it was sent for
unfoldable pub purpose_of : Slot → Purpose
purpose_of w =
    pick (eqb w.purpose 1) Version
    (pick (eqb w.purpose 2) Watchdog
    (pick (eqb w.purpose 3) (Entry w.sequence) Other))

abbrev pub is_free : Slot → Bool
is_free w = eqb w.purpose 0

unfoldable pub is_taken : Slot → Bool
is_taken w = pick (is_free w) false true

-- a taken place awaits an answer to its identity
unfoldable pub awaits_for : Identity → Slot → Bool
awaits_for id w = pick (is_free w) false (same_identity w.id id)

-- it is taken, and was at a time that lies 30,000 ms or longer back
unfoldable pub is_late : ℕ → Slot → Bool
is_late t w = pick (is_free w) false (leb (w.time + 30000) t)
