-- One place: what follows from its being free, and what a place says that was taken.
-- Assumes nothing.
use Rattle.basis.proofs.Std.{ℕ, ◌+◌, ◌≡◌, refl, true, false, bit, bool_cases, untrue}
use Rattle.identity.specs.declared.Identity.{Identity}
use Rattle.awaited.specs.declared.Slot.{Slot}
use Rattle.awaited.specs.declared.Purpose.{Purpose}
use Rattle.awaited.specs.declared.Purpose.TheVariants.{Version, Watchdog, Entry, Other}
use Rattle.awaited.specs.Slot.{same_identity, slot_of, purpose_of, is_free, is_taken, awaits_for}

pub free_awaits : (id : Identity) (x : Slot) → is_free x ≡ true → awaits_for id x ≡ false
unfolding awaits_for
free_awaits id x t = rw t

pub awaits_same : (id : Identity) (x : Slot) → awaits_for id x ≡ true → same_identity x.id id ≡ true
unfolding awaits_for
awaits_same id x t = bool_cases (is_free x) (λ u. untrue (rw u at t)) (λ u. rw u at t)

pub taken_free : (x : Slot) → bit (is_taken x) + bit (is_free x) ≡ 1
unfolding is_taken
taken_free x = bool_cases (is_free x) (λ t. rw t) (λ t. rw t)

pub not_free : (id : Identity) (t : ℕ) (p : Purpose) → is_free (slot_of id t p) ≡ false
not_free id t Version = refl
not_free id t Watchdog = refl
not_free id t (Entry q) = refl
not_free id t Other = refl

pub slot_purpose : (id : Identity) (t : ℕ) (p : Purpose) → purpose_of (slot_of id t p) ≡ p
unfolding purpose_of
slot_purpose id t Version = refl
slot_purpose id t Watchdog = refl
slot_purpose id t (Entry q) = refl
slot_purpose id t Other = refl

pub slot_awaits : (id j : Identity) (t : ℕ) (p : Purpose) → awaits_for j (slot_of id t p) ≡ same_identity id j
unfolding awaits_for
slot_awaits id j t p = rw (not_free id t p)
