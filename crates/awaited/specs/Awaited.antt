-- The awaited identities of a link, each act in one pass over the places.
-- Assumes nothing.
use Rattle.std.specs.Prelude.{ℕ, List, [], ◌∷◌, Bool, true, false, replicate}
use Rattle.basis.specs.Pick.{pick}
use Rattle.identity.specs.declared.Identity.{Identity}
use Rattle.awaited.specs.declared.Slot.{Slot}
use Rattle.awaited.specs.declared.Awaited.{Awaited}
use Rattle.awaited.specs.declared.Taken.{Taken}
use Rattle.awaited.specs.declared.Purpose.{Purpose}
use Rattle.awaited.specs.declared.Found.{Found}
use Rattle.awaited.specs.declared.Found.TheVariants.{For, Nothing}
use Rattle.awaited.specs.Lists.{change_first, some}
use Rattle.basis.specs.Lists.{count}
use Rattle.awaited.specs.Slot.{free_slot, slot_of, purpose_of, is_free, is_taken, awaits_for, is_late}

unfoldable pub nothing_awaited : Awaited
nothing_awaited = record { slots = replicate 16 free_slot }

-- the first free place takes it; where none is free nothing changes
unfoldable pub add_of : Awaited → Identity → ℕ → Purpose → Awaited
add_of a id t p = record { slots = change_first is_free (slot_of id t p) a.slots }

-- what the identity's first place was taken for
unfoldable pub find_in : Identity → List Slot → Found
find_in id [] = Nothing
find_in id (x ∷ l) = pick (awaits_for id x) (For (purpose_of x)) (find_in id l)

unfoldable pub find_of : Awaited → Identity → Found
find_of a id = find_in id a.slots

abbrev pub is_awaited : Found → Bool
is_awaited (For p) = true
is_awaited Nothing = false

-- the identity's first place becomes free; where there is none nothing changes
unfoldable pub remove_of : Awaited → Identity → Awaited
remove_of a id = record { slots = change_first (awaits_for id) free_slot a.slots }

-- what an answer to the identity takes
abbrev pub take_of : Awaited → Identity → Taken
take_of a id = record { awaited = remove_of a id; found = find_of a id }

unfoldable pub how_many_of : Awaited → ℕ
how_many_of a = count is_taken a.slots

unfoldable pub late_of : Awaited → ℕ → Bool
late_of a t = some (is_late t) a.slots
