-- The places of a link and the awaited identities of the machine: what is found, counted and late, and what one more and one less leave.
-- Assumes nothing.
use Rattle.basis.proofs.Std.{ℕ, ◌≤◌, ◌<◌, ◌≡◌, refl, sym, ap, ◌∙◌, subst, Bool, true, false, List, [], ◌∷◌, ◌++◌, Option, arith, eqb, ltb, length, eqb-true, eq-eqb, pick, both, bit, count, same_bytes, bool_cases, picked, untrue}
use Rattle.identity.specs.declared.Identity.{Identity}
use Rattle.identity.specs.Read.{SixteenBytes}
use Rattle.awaited.specs.declared.Slot.{Slot}
use Rattle.awaited.specs.declared.Awaited.{Awaited as Places}
use Rattle.awaited.specs.declared.Purpose.{Purpose}
use Rattle.awaited.specs.declared.Purpose.TheVariants.{Version, Watchdog, Entry, Other}
use Rattle.awaited.specs.declared.Found.{Found}
use Rattle.awaited.specs.declared.Found.TheVariants.{For, Nothing}
use Rattle.awaited.specs.Lists.{change_first}
use Rattle.awaited.specs.Slot.{same_identity, free_slot, slot_of, number_of, sequence_of, purpose_of, is_free, is_taken, awaits_for, is_late}
use Rattle.awaited.specs.Awaited.{nothing_awaited, add_of, find_in, find_of, remove_of, how_many_of, late_of}
use Rattle.awaited.specs.Promises.{Wait, long_ago}
use Rattle.awaited.proofs.Change.{bit_true, bit_false, count_change, count_kept, count_where, count_replicate, some_count}
use Rattle.awaited.proofs.Slots.{awaits_same, slot_purpose, not_free}
use Rattle.awaited.proofs.Laws.{Sound, room, none_awaits, nothing_sound, add_sound, remove_sound}
use Rattle.machine.specs.Words.{any, first_that, but_first}
use Rattle.machine.specs.State.{Sent, Awaited}
use Rattle.refine_parts.specs.Waits.{purpose_for, holds, says, found_for, SameAwaited}
use Rattle.refine_parts.proofs.LifeLists.{among_none, among_but_first, among_last, any_count, count_last, count_every, count_others, first_none, first_both}

abbrev pub is_of : Identity → Awaited → Bool
is_of id w = same_bytes w.identity id.bytes

-- purposes, and a message that waits under an identity for one
abbrev same_purpose : Purpose → Purpose → Bool
same_purpose p q = both (eqb (number_of p) (number_of q)) (eqb (sequence_of p) (sequence_of q))

purpose_self : (p : Purpose) → same_purpose p p ≡ true
purpose_self Version = refl
purpose_self Watchdog = refl
purpose_self (Entry q) = eq-eqb q q refl
purpose_self Other = refl

purpose_is : (p q : Purpose) → same_purpose p q ≡ true → p ≡ q
purpose_is Version Version e = refl
purpose_is Version Watchdog e = untrue e
purpose_is Version (Entry q) e = untrue e
purpose_is Version Other e = untrue e
purpose_is Watchdog Version e = untrue e
purpose_is Watchdog Watchdog e = refl
purpose_is Watchdog (Entry q) e = untrue e
purpose_is Watchdog Other e = untrue e
purpose_is (Entry p) Version e = untrue e
purpose_is (Entry p) Watchdog e = untrue e
purpose_is (Entry p) (Entry q) e = ap Entry (eqb-true p q e)
purpose_is (Entry p) Other e = untrue e
purpose_is Other Version e = untrue e
purpose_is Other Watchdog e = untrue e
purpose_is Other (Entry q) e = untrue e
purpose_is Other Other e = refl

abbrev under : Identity → Wait → Bool
under id w = same_identity w.id id

abbrev for : Identity → Purpose → Wait → Bool
for id p w = both (under id w) (same_purpose p w.purpose)

unfoldable others : Identity → (Wait → Bool) → Wait → Bool
others id f w = pick (under id w) false (f w)

free_holds : (f : Wait → Bool) (x : Slot) → is_free x ≡ true → holds f x ≡ false
unfolding holds
free_holds f x t = rw t

slot_holds : (f : Wait → Bool) (id : Identity) (t : ℕ) (p : Purpose) → holds f (slot_of id t p) ≡ f (record { id = id; time = t; purpose = p })
unfolding holds
slot_holds f id t p = rw (not_free id t p, slot_purpose id t p)

hidden : (f : Wait → Bool) (id : Identity) (x : Slot) → awaits_for id x ≡ true → holds (others id f) x ≡ false
unfolding holds others
hidden f id x e = bool_cases (is_free x) (λ t. rw t) (λ t. rw (t, awaits_same id x e))

unhidden : (f : Wait → Bool) (id : Identity) (x : Slot) → awaits_for id x ≡ false → holds f x ≡ holds (others id f) x
unfolding holds others awaits_for
unhidden f id x e = bool_cases (is_free x) (λ t. rw t) (λ t. rw t (rw (rw t at e)))

for_itself : (id : Identity) (x : Slot) → awaits_for id x ≡ true → holds (for id (purpose_of x)) x ≡ true
unfolding holds awaits_for
for_itself id x t =
    bool_cases (is_free x) (λ u. untrue (rw u at t))
    (λ u. rw (u, awaits_same id x t) (purpose_self (purpose_of x)))

found_cases : (id : Identity) (xs : List Slot) (P : Found → Type 0) → (count (awaits_for id) xs ≡ 0 → P Nothing)
    → ((p : Purpose) → 0 < count (holds (for id p)) xs → P (For p)) → P (find_in id xs)
unfolding find_in
found_cases id [] P f g = f refl
found_cases id (x ∷ xs) P f g =
    picked P (awaits_for id x) (For (purpose_of x)) (find_in id xs)
    (λ t. g (purpose_of x) (omega (arith, bit_true (holds (for id (purpose_of x)) x) (for_itself id x t))))
    (λ t. found_cases id xs P (λ e. f (omega (arith, e, bit_false (awaits_for id x) t))) (λ p n. g p (omega (arith, n))))

nothing_as_many : (f : Wait → Bool) → count (holds f) nothing_awaited.slots ≡ 0
unfolding nothing_awaited
nothing_as_many f = count_replicate (holds f) 16 free_slot (free_holds f free_slot refl)

pub nothing_same : SameAwaited nothing_awaited []
nothing_same = record { sixteen = nothing_sound.sixteen; once = nothing_sound.once; as_many = nothing_as_many; bytes = λ w a. among_none refl a }

module _ (a : Places) (ws : List Awaited) (same : SameAwaited a ws) where
  sound : Sound a
  sound = record { sixteen = same.sixteen; once = same.once }

  count_of : (id : Identity) → count (awaits_for id) a.slots ≡ count (is_of id) ws
  unfolding holds says awaits_for same_identity
  count_of id = same.as_many (under id)

  pub one_of : (id : Identity) → count (is_of id) ws ≤ 1
  one_of id = omega (arith, count_of id, same.once id)

  pub found : (id : Identity) → find_of a id ≡ found_for (first_that (is_of id) ws)
  unfolding find_of says same_identity
  found id =
      found_cases id a.slots (λ (r : Found). r ≡ found_for (first_that (is_of id) ws))
      (λ e. sym (ap found_for (first_none (is_of id) ws (sym (count_of id) ∙ e))))
      (λ p n. first_both (is_of id) (λ (w : Awaited). same_purpose p (purpose_for w.message)) ws (one_of id)
      (subst (λ (c : ℕ). 0 < c) (same.as_many (for id p)) n)
      (λ (o : Option Awaited). For p ≡ found_for o)
      (λ w t u. ap For (purpose_is p (purpose_for w.message) u)))

  pub how_many : how_many_of a ≡ length ws
  unfolding how_many_of holds says is_taken
  how_many = same.as_many (λ (w : Wait). true) ∙ count_every ws

  pub late : (t : ℕ) → late_of a t ≡ any (λ (w : Awaited). says (long_ago t) w) ws
  unfolding late_of holds is_late
  late t = some_count (is_late t) a.slots ∙ ap (ltb 0) (same.as_many (long_ago t)) ∙ sym (any_count (says (long_ago t)) ws)

  pub added : (id : Identity) (t : ℕ) (message : Sent) → SixteenBytes id.bytes → find_of a id ≡ Nothing → length ws < 16
      → SameAwaited (add_of a id t (purpose_for message)) (ws ++ (record { identity = id.bytes; time = t; message = message } ∷ []))
  unfolding add_of says
  added id t message v n r =
      record {
        sixteen = (add_sound a id t (purpose_for message) n sound).sixteen;
        once = (add_sound a id t (purpose_for message) n sound).once;
        as_many = more;
        bytes = among_last (λ (w : Awaited). SixteenBytes w.identity) ws (record { identity = id.bytes; time = t; message = message }) same.bytes v;
      }
    where
      more : (f : Wait → Bool) → count (holds f) (add_of a id t (purpose_for message)).slots
          ≡ count (says f) (ws ++ (record { identity = id.bytes; time = t; message = message } ∷ []))
      more f =
          omega (
            arith,
            count_change is_free (slot_of id t (purpose_for message)) (holds f) 0 (λ x e. bit_false (holds f x) (free_holds f x e)) a.slots
                (room a same.sixteen (omega (arith, how_many))),
            ap bit (slot_holds f id t (purpose_for message)),
            same.as_many f,
            count_last (says f) ws (record { identity = id.bytes; time = t; message = message }),
          )

  pub removed : (id : Identity) → SameAwaited (remove_of a id) (but_first (is_of id) ws)
  unfolding remove_of says others same_identity
  removed id =
      record {
        sixteen = (remove_sound a id sound).sixteen;
        once = (remove_sound a id sound).once;
        as_many = less;
        bytes = λ w i. same.bytes w (among_but_first (is_of id) ws i);
      }
    where
      less : (f : Wait → Bool) → count (holds f) (remove_of a id).slots ≡ count (says f) (but_first (is_of id) ws)
      less f =
          count_where (awaits_for id) (holds f) (holds (others id f)) (unhidden f id) (change_first (awaits_for id) free_slot a.slots) (none_awaits a id sound)
          ∙ count_kept (awaits_for id) free_slot (holds (others id f)) (hidden f id) (free_holds (others id f) free_slot refl) a.slots
          ∙ same.as_many (others id f)
          ∙ count_others (is_of id) (says f) ws (one_of id)
