-- Sixteen places and no identity at two of them, after each act.
-- Assumes nothing.
use Rattle.basis.proofs.Std.{ℕ, ◌+◌, ◌≤◌, ◌<◌, ◌≡◌, refl, sym, ◌∙◌, true, List, [], ◌∷◌, arith, length, bit, ⊎_elim, bool_cases, lt_or_ge, count, not_both}
use Rattle.identity.specs.declared.Identity.{Identity}
use Rattle.awaited.specs.declared.Slot.{Slot}
use Rattle.awaited.specs.declared.Awaited.{Awaited}
use Rattle.awaited.specs.declared.Purpose.{Purpose}
use Rattle.awaited.specs.declared.Found.TheVariants.{For, Nothing}
use Rattle.awaited.specs.Lists.{change_first}
use Rattle.awaited.specs.Slot.{same_identity, free_slot, slot_of, purpose_of, is_free, is_taken, awaits_for}
use Rattle.awaited.specs.Awaited.{nothing_awaited, add_of, find_in, find_of, remove_of, how_many_of}
use Rattle.awaited.proofs.Back.{change_length}
use Rattle.awaited.proofs.Change.{bit_true, bit_false, change_none, count_change, count_both, count_same, count_less, count_replicate}
use Rattle.awaited.proofs.Same.{same_self, same_like}
use Rattle.awaited.proofs.Slots.{free_awaits, taken_free, slot_awaits}

-- finding, over the places
module _ (j : Identity) where
  none_found : (l : List Slot) → find_in j l ≡ Nothing → count (awaits_for j) l ≡ 0
  unfolding find_in
  none_found [] h = refl
  none_found (x ∷ l) h =
      bool_cases (awaits_for j x)
      (λ t. let e : For (purpose_of x) ≡ Nothing = rw t at h in absurd (let z : ◌≡◌ {A = ℕ} 0 1 = cc in omega arith))
      (λ t. omega (arith, bit_false (awaits_for j x) t, none_found l (rw t at h)))

-- two that are the same are awaited at the same places
same_other : (a b : Identity) → same_identity a b ≡ true → same_identity b a ≡ true
same_other a b h = same_like a b a h (same_self a)

like_awaits : (id j : Identity) → same_identity id j ≡ true → (x : Slot) → awaits_for j x ≡ awaits_for id x
unfolding awaits_for
like_awaits id j h x =
    bool_cases (is_free x) (λ t. rw t)
    (λ t. rw t (bool_cases (same_identity x.id j)
    (λ s. s ∙ sym (same_like j x.id id (same_other x.id j s) (same_other id j h)))
    (λ n. n ∙ sym (bool_cases (same_identity x.id id)
    (λ s. not_both (same_like id x.id j (same_other x.id id s) h) n)
    (λ m. m)))))

like_count : (id j : Identity) → same_identity id j ≡ true → (l : List Slot) → count (awaits_for j) l ≡ count (awaits_for id) l
like_count id j h l = count_same (awaits_for j) (awaits_for id) (like_awaits id j h) l

-- sixteen places, and no identity at two of them
pub record Sound (a : Awaited) : Type 0 where
  pub sixteen : length a.slots ≡ 16
  pub once : (id : Identity) → count (awaits_for id) a.slots ≤ 1

pub room : (a : Awaited) → length a.slots ≡ 16 → how_many_of a < 16 → 0 < count is_free a.slots
unfolding how_many_of
room a h r = omega (arith, count_both is_taken is_free taken_free a.slots)

pub nothing_sound : Sound nothing_awaited
unfolding nothing_awaited
nothing_sound =
    record {
      sixteen = refl;
      once = λ id. omega (arith, count_replicate (awaits_for id) 16 free_slot (free_awaits id free_slot refl));
    }

module _ (a : Awaited) (id : Identity) where
  -- where it stood once, it stands nowhere after its answer
  pub none_awaits : Sound a → count (awaits_for id) (change_first (awaits_for id) free_slot a.slots) ≡ 0
  none_awaits o = gone (count_change (awaits_for id) free_slot (awaits_for id) 1 (λ x e. bit_true (awaits_for id x) e) a.slots)
    where
      gone : (0 < count (awaits_for id) a.slots
          → count (awaits_for id) (change_first (awaits_for id) free_slot a.slots) + 1 ≡ count (awaits_for id) a.slots + bit (awaits_for id free_slot))
          → count (awaits_for id) (change_first (awaits_for id) free_slot a.slots) ≡ 0
      gone f =
          ⊎_elim
          (λ lt. omega (arith, f lt, o.once id, bit_false (awaits_for id free_slot) (free_awaits id free_slot refl)))
          (λ ge. omega (arith, count_less (awaits_for id) free_slot (awaits_for id) (free_awaits id free_slot refl) a.slots))
          (lt_or_ge 0 (count (awaits_for id) a.slots))

pub add_sound : (a : Awaited) (id : Identity) (t : ℕ) (p : Purpose) → find_of a id ≡ Nothing → Sound a → Sound (add_of a id t p)
unfolding add_of find_of
add_sound a id t p n o =
    record {
      sixteen = change_length is_free (slot_of id t p) a.slots ∙ o.sixteen;
      once = λ j. ⊎_elim (λ lt. among j lt) (λ ge. rw (change_none is_free (slot_of id t p) a.slots (omega arith)) (o.once j))
          (lt_or_ge 0 (count is_free a.slots));
    }
  where
    among : (j : Identity) → 0 < count is_free a.slots → count (awaits_for j) (change_first is_free (slot_of id t p) a.slots) ≤ 1
    among j lt =
        let e : count (awaits_for j) (change_first is_free (slot_of id t p) a.slots) + 0 ≡ count (awaits_for j) a.slots + bit (awaits_for j (slot_of id t p)) =
        count_change is_free (slot_of id t p) (awaits_for j) 0 (λ x f. bit_false (awaits_for j x) (free_awaits j x f)) a.slots lt in
        bool_cases (same_identity id j)
        (λ s. omega (arith, bit_true (awaits_for j (slot_of id t p)) (slot_awaits id j t p ∙ s), like_count id j s a.slots, none_found id a.slots n))
        (λ s. omega (arith, bit_false (awaits_for j (slot_of id t p)) (slot_awaits id j t p ∙ s), o.once j))

pub remove_sound : (a : Awaited) (id : Identity) → Sound a → Sound (remove_of a id)
unfolding remove_of
remove_sound a id o =
    record {
      sixteen = change_length (awaits_for id) free_slot a.slots ∙ o.sixteen;
      once = λ j. omega (arith, o.once j, count_less (awaits_for id) free_slot (awaits_for j) (free_awaits j free_slot refl) a.slots);
    }
