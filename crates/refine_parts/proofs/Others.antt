-- What settles, marks and unmarks.
-- Assumes nothing.
use Rattle.basis.proofs.Std.{ℕ, ◌+◌, ◌*◌, ◌/◌, ◌%◌, ◌≤◌, ◌<◌, ◌≡◌, refl, sym, ◌∙◌, ap, ap₂, Bool, true, false, not, List, [], ◌∷◌, map, ◌⊎◌, inl, inr, eqb, length, arith, eqb-true, eqb-false, eq-eqb, ne_eqb, pick, both, bit, count, lt_or_ge}
use Rattle.pool.specs.declared.Place.{Place}
use Rattle.pool.specs.declared.Pool.{Pool}
use Rattle.pool.specs.Pool.{settle_of, mark_of, unmark_of}
use Rattle.pool_laws.specs.Acts.Act.{Settle, Mark, Unmark}
use Rattle.pool_laws.specs.Leaves.{Held as IsHeld}
use Rattle.pool_laws.specs.Promises.Reached.{after}
use Rattle.pool_laws.specs.View.{records, without, sent_if, unsent as unsent_place}
use Rattle.pool_laws.proofs.Kept.{kept}
use Rattle.pool_laws.proofs.Viewed.{viewed}
use Rattle.site.specs.Site.{owner}
use Rattle.machine.specs.Words.{keep}
use Rattle.machine.specs.State.{Held, Machine, with_held}
use Rattle.machine.specs.Pool.{is_for, is_own, settled, marked}
use Rattle.machine.specs.Life.{unsent}
use Rattle.demand_held.proofs.Lists.{each_map, each_keep, count_map}
use Rattle.demand_held.proofs.Good.{beyond}
use Rattle.demand_held.proofs.Rising.{rising_once}
use Rattle.demand_held.proofs.Frame.{marks, settles}
use Rattle.refine_parts.specs.Record.{mark_for, place_for}
use Rattle.refine_parts.specs.Same.{Beside, held_for, next_for, SamePool}
use Rattle.refine_parts.proofs.PoolLists.{keep_spared, keep_both, keep_map, keep_count, keep_length}
use Rattle.refine_parts.proofs.Entries.{entry_sequence}
use Rattle.refine_parts.proofs.Owners.{owner_is, no_owner, own_side, other_side}

-- ---- a record by its number
abbrev pub is_numbered : ℕ → Held → Bool
is_numbered n h = eqb h.sequence n

pub place_sequence : (o : ℕ) (h : Held) → (place_for o h).entry.sequence ≡ h.sequence
place_sequence o h = entry_sequence o h.sequence h.content

without_place : (o : ℕ) (n : ℕ) (hs : List Held) → without n (map (place_for o) hs) ≡ map (place_for o) (keep (λ h. not (is_numbered n h)) hs)
unfolding without
without_place o n [] = refl
without_place o n (h ∷ hs) = rw (place_sequence o h) (go (is_numbered n h) (without_place o n hs))
  where
    go : (t : Bool) → without n (map (place_for o) hs) ≡ map (place_for o) (keep (λ h. not (is_numbered n h)) hs)
        → pick t (without n (map (place_for o) hs)) (place_for o h ∷ without n (map (place_for o) hs))
        ≡ map (place_for o) (pick (not t) (h ∷ keep (λ h. not (is_numbered n h)) hs) (keep (λ h. not (is_numbered n h)) hs))
    go true r = r
    go false r = ap (λ (l : List Place). place_for o h ∷ l) r

sent_place : (o : ℕ) (n : ℕ) (h : Held) → sent_if n (place_for o h) ≡ place_for o (marked n h)
sent_place o n h = rw (place_sequence o h) (go (is_numbered n h))
  where
    go : (t : Bool) → pick t (record { entry = (place_for o h).entry; mark = 2 }) (place_for o h) ≡ record { entry = (place_for o h).entry; mark = mark_for (pick t true h.sent) }
    go true = refl
    go false = refl

sent_places : (o : ℕ) (n : ℕ) (hs : List Held) → map (sent_if n) (map (place_for o) hs) ≡ map (place_for o) (map (marked n) hs)
sent_places o n [] = refl
sent_places o n (h ∷ hs) = ap₂ (λ (x : Place) (l : List Place). x ∷ l) (sent_place o n h) (sent_places o n hs)

none_sent : (o : ℕ) (n : ℕ) (hs : List Held) → count (is_numbered n) hs ≡ 0 → map (place_for o) (map (marked n) hs) ≡ map (place_for o) hs
none_sent o n [] e = refl
none_sent o n (h ∷ hs) e = ap₂ (λ (x : Place) (l : List Place). x ∷ l) (go (is_numbered n h) (omega arith)) (none_sent o n hs (omega arith))
  where
    go : (t : Bool) → bit t ≡ 0 → record { entry = (place_for o h).entry; mark = mark_for (pick t true h.sent) } ≡ place_for o h
    go true z = absurd (omega arith)
    go false z = refl

unsent_own : (o : ℕ) (l : ℕ) (hs : List Held) → map unsent_place (map (place_for o) (keep (is_for l) hs)) ≡ map (place_for o) (map (unsent l) (keep (is_for l) hs))
unsent_own o l [] = refl
unsent_own o l (h ∷ hs) = go (is_for l h) refl (unsent_own o l hs)
  where
    go : (t : Bool) → is_for l h ≡ t → map unsent_place (map (place_for o) (keep (is_for l) hs)) ≡ map (place_for o) (map (unsent l) (keep (is_for l) hs))
        → map unsent_place (map (place_for o) (pick t (h ∷ keep (is_for l) hs) (keep (is_for l) hs))) ≡ map (place_for o) (map (unsent l) (pick t (h ∷ keep (is_for l) hs) (keep (is_for l) hs)))
    go true e r = rw (e, r)
    go false e r = r

unsent_other : (o : ℕ) (l j : ℕ) → (l ≡ j → ⊥) → (hs : List Held) → map (place_for o) (map (unsent l) (keep (is_for j) hs)) ≡ map (place_for o) (keep (is_for j) hs)
unsent_other o l j d [] = refl
unsent_other o l j d (h ∷ hs) = go (is_for j h) refl (unsent_other o l j d hs)
  where
    go : (t : Bool) → is_for j h ≡ t → map (place_for o) (map (unsent l) (keep (is_for j) hs)) ≡ map (place_for o) (keep (is_for j) hs)
        → map (place_for o) (map (unsent l) (pick t (h ∷ keep (is_for j) hs) (keep (is_for j) hs))) ≡ map (place_for o) (pick t (h ∷ keep (is_for j) hs) (keep (is_for j) hs))
    go true e r = rw (ne_eqb h.link l (λ s. d (sym s ∙ eqb-true h.link j e)), r)
    go false e r = r

-- two links do not hold the same number
apart_count : (l j n : ℕ) → (l ≡ j → ⊥) → (hs : List Held)
    → count (λ (h : Held). both (is_for l h) (is_numbered n h)) hs + count (λ (h : Held). both (is_for j h) (is_numbered n h)) hs ≤ count (is_numbered n) hs
apart_count l j n d [] = omega arith
apart_count l j n d (h ∷ hs) = omega (arith, go (is_for l h) refl (is_for j h) refl (is_numbered n h), apart_count l j n d hs)
  where
    go : (a : Bool) → is_for l h ≡ a → (b : Bool) → is_for j h ≡ b → (t : Bool) → bit (both a t) + bit (both b t) ≤ bit t
    go true e true f t = absurd (d (sym (eqb-true h.link l e) ∙ eqb-true h.link j f))
    go true e false f true = omega arith
    go true e false f false = omega arith
    go false e true f true = omega arith
    go false e true f false = omega arith
    go false e false f t = omega arith

pub nothing_in : {A : Type 0} (xs : List A) → length xs ≡ 0 → xs ≡ []
nothing_in [] e = refl
nothing_in (x ∷ xs) e = absurd (omega arith)

module _ {links k q : ℕ} {x : Beside} {p : Pool} (m : Machine) (same : SamePool links x k p q m.pool) where
  abbrev hs : List Held
  hs = m.pool.held

  abbrev nexts : ℕ → ℕ
  nexts = next_for k q x.next

  -- ---- the records of link l, also of one that has no owner
  pub own_records : (l : ℕ) → records p (owner k l) ≡ map (place_for (owner k l)) (keep (is_for l) hs)
  own_records l = go (lt_or_ge l 4)
    where
      go : (l < 4) ⊎ (4 ≤ l) → records p (owner k l) ≡ map (place_for (owner k l)) (keep (is_for l) hs)
      go (inl f) =
          let s : (4 * k + l) / 4 ≡ m.pool.site = omega (arith, same.site) in
          let r : (4 * k + l) % 4 ≡ l = omega arith in
          rw (owner_is k l f) (same.held (4 * k + l) (omega (arith, same.site, same.good.site))
          ∙ ap₂ (λ (t : Bool) (j : ℕ). map (place_for (4 * k + l)) (keep (is_for j) (pick t hs m.pool.beside.held))) (eq-eqb ((4 * k + l) / 4) m.pool.site s) r)
      go (inr f) =
          rw (no_owner k l f) (nothing_in (records p 8) (omega (arith, (viewed 8 (omega arith)).held p 8, (kept 8 (omega arith)).owners p nexts same.reached 8 (omega arith)))
          ∙ ap (map (place_for 8)) (sym (nothing_in (keep (is_for l) hs) (omega (arith, keep_length (is_for l) hs, beyond l (omega (arith, same.configured, same.few)) hs same.good.own.links)))))

  -- the code holds the records of link l with a number that the machine does
  pub numbered_same : (l n : ℕ) → count (λ (y : Place). eqb y.entry.sequence n) (records p (owner k l)) ≡ count (is_numbered n) (keep (is_for l) hs)
  numbered_same l n =
      ap (count (λ (y : Place). eqb y.entry.sequence n)) (own_records l)
      ∙ count_map (λ (y : Place). eqb y.entry.sequence n) (is_numbered n) (place_for (owner k l)) (λ h. ap (λ (j : ℕ). eqb j n) (place_sequence (owner k l) h)) (keep (is_for l) hs)

  -- ---- what is done to link l's records, F to the list and g to the view, leaves every other owner's
  by_side : (F : List Held → List Held) (g : List Place → List Place) (l o : ℕ) → o < 8
      → pick (eqb l (o % 4)) (g (map (place_for o) (keep (is_for (o % 4)) hs))) (map (place_for o) (keep (is_for (o % 4)) hs)) ≡ map (place_for o) (keep (is_for (o % 4)) (F hs))
      → pick (eqb (owner k l) o) (g (map (place_for o) (keep (is_for (o % 4)) (held_for m.pool o)))) (map (place_for o) (keep (is_for (o % 4)) (held_for m.pool o)))
      ≡ map (place_for o) (keep (is_for (o % 4)) (pick (is_own m.pool o) (F hs) m.pool.beside.held))
  by_side F g l o h e = go (is_own m.pool o) refl
    where
      go : (t : Bool) → is_own m.pool o ≡ t
          → pick (eqb (owner k l) o) (g (map (place_for o) (keep (is_for (o % 4)) (pick t hs m.pool.beside.held)))) (map (place_for o) (keep (is_for (o % 4)) (pick t hs m.pool.beside.held)))
          ≡ map (place_for o) (keep (is_for (o % 4)) (pick t (F hs) m.pool.beside.held))
      go true d = rw (own_side k l o h (eqb-true (o / 4) m.pool.site d ∙ same.site)) e
      go false d = rw (other_side k l o h (λ s. eqb-false (o / 4) m.pool.site d (s ∙ sym same.site)))

  settle_own : (l n o : ℕ) → pick (eqb l (o % 4)) (without n (map (place_for o) (keep (is_for (o % 4)) hs))) (map (place_for o) (keep (is_for (o % 4)) hs))
      ≡ map (place_for o) (keep (is_for (o % 4)) (settled l n hs))
  settle_own l n o = go (o % 4) (eqb l (o % 4)) refl
    where
      go : (j : ℕ) (t : Bool) → eqb l j ≡ t
          → pick t (without n (map (place_for o) (keep (is_for j) hs))) (map (place_for o) (keep (is_for j) hs)) ≡ map (place_for o) (keep (is_for j) (settled l n hs))
      go j true e = rw (eqb-true l j e) (without_place o n (keep (is_for j) hs) ∙ ap (map (place_for o)) (sym (keep_both (is_for j) (is_numbered n) hs)))
      go j false e =
          ap (map (place_for o)) (sym (keep_spared (is_for l) (is_for j) (λ h t. ne_eqb h.link j (λ s. eqb-false l j e (sym (eqb-true h.link l t) ∙ s))) (is_numbered n) hs))

  pub settle_same : (l n : ℕ) → SamePool links x k (settle_of p (owner k l) n) q (with_held (settled l n hs) m).pool
  settle_same l n =
      record {
        site = same.site;
        next = same.next;
        held = λ o h.
            (viewed 8 (omega arith)).settle p nexts same.reached (owner k l) n o
            ∙ ap (λ (r : List Place). pick (eqb (owner k l) o) (without n r) r) (same.held o h)
            ∙ by_side (settled l n) (without n) l o h (settle_own l n o);
        told = each_keep (λ h. not (both (is_for l h) (is_numbered n h))) same.told;
        told_beside = same.told_beside;
        lost = λ o h. (viewed 8 (omega arith)).settle_lost p (owner k l) n o ∙ same.lost o h;
        configured = same.configured;
        configured_beside = same.configured_beside;
        few = same.few;
        reached = after (Settle (owner k l) n) same.reached tt;
        good = (settles {E = λ l n. Unit {0}} m l n tt).good same.good;
        beside = same.beside;
      }

  others_none : (l n j : ℕ) → IsHeld p (owner k l) n → (l ≡ j → ⊥) → count (is_numbered n) (keep (is_for j) hs) ≡ 0
  others_none l n j h d =
      omega (
        arith,
        (viewed 8 (omega arith)).counted p (owner k l) (λ (y : Place). eqb y.entry.sequence n),
        numbered_same l n,
        keep_count (is_for l) (is_numbered n) hs,
        keep_count (is_for j) (is_numbered n) hs,
        apart_count l j n d hs,
        rising_once n hs same.good.own.rising,
      )

  mark_own : (l n o : ℕ) → IsHeld p (owner k l) n
      → pick (eqb l (o % 4)) (map (sent_if n) (map (place_for o) (keep (is_for (o % 4)) hs))) (map (place_for o) (keep (is_for (o % 4)) hs))
      ≡ map (place_for o) (keep (is_for (o % 4)) (map (marked n) hs))
  mark_own l n o h = go (eqb l (o % 4)) refl ∙ ap (map (place_for o)) (sym (keep_map (is_for (o % 4)) (marked n) (λ h. refl) hs))
    where
      go : (t : Bool) → eqb l (o % 4) ≡ t
          → pick t (map (sent_if n) (map (place_for o) (keep (is_for (o % 4)) hs))) (map (place_for o) (keep (is_for (o % 4)) hs)) ≡ map (place_for o) (map (marked n) (keep (is_for (o % 4)) hs))
      go true e = sent_places o n (keep (is_for (o % 4)) hs)
      go false e = sym (none_sent o n (keep (is_for (o % 4)) hs) (others_none l n (o % 4) h (eqb-false l (o % 4) e)))

  pub mark_same : (l n : ℕ) → IsHeld p (owner k l) n → SamePool links x k (mark_of p (owner k l) n) q (with_held (map (marked n) hs) m).pool
  mark_same l n y =
      record {
        site = same.site;
        next = same.next;
        held = λ o h.
            (viewed 8 (omega arith)).mark p nexts same.reached (owner k l) n o
            ∙ ap (λ (r : List Place). pick (eqb (owner k l) o) (map (sent_if n) r) r) (same.held o h)
            ∙ by_side (map (marked n)) (map (sent_if n)) l o h (mark_own l n o y);
        told = each_map (marked n) (λ x t. t) same.told;
        told_beside = same.told_beside;
        lost = λ o h. (viewed 8 (omega arith)).mark_lost p (owner k l) n o ∙ same.lost o h;
        configured = same.configured;
        configured_beside = same.configured_beside;
        few = same.few;
        reached = after (Mark (owner k l) n) same.reached tt;
        good = (marks {E = λ l n. Unit {0}} m (marked n) (λ h. refl) (λ h. refl) (λ h. refl)).good same.good;
        beside = same.beside;
      }

  unmark_own : (l o : ℕ) → pick (eqb l (o % 4)) (map unsent_place (map (place_for o) (keep (is_for (o % 4)) hs))) (map (place_for o) (keep (is_for (o % 4)) hs))
      ≡ map (place_for o) (keep (is_for (o % 4)) (map (unsent l) hs))
  unmark_own l o = go (o % 4) (eqb l (o % 4)) refl ∙ ap (map (place_for o)) (sym (keep_map (is_for (o % 4)) (unsent l) (λ h. refl) hs))
    where
      go : (j : ℕ) (t : Bool) → eqb l j ≡ t
          → pick t (map unsent_place (map (place_for o) (keep (is_for j) hs))) (map (place_for o) (keep (is_for j) hs)) ≡ map (place_for o) (map (unsent l) (keep (is_for j) hs))
      go j true e = rw (eqb-true l j e) (unsent_own o j hs)
      go j false e = sym (unsent_other o l j (eqb-false l j e) hs)

  pub unmark_same : (l : ℕ) → SamePool links x k (unmark_of p (owner k l)) q (with_held (map (unsent l) hs) m).pool
  unmark_same l =
      record {
        site = same.site;
        next = same.next;
        held = λ o h.
            (viewed 8 (omega arith)).unmark p (owner k l) o
            ∙ ap (λ (r : List Place). pick (eqb (owner k l) o) (map unsent_place r) r) (same.held o h)
            ∙ by_side (map (unsent l)) (map unsent_place) l o h (unmark_own l o);
        told = each_map (unsent l) (λ x t. t) same.told;
        told_beside = same.told_beside;
        lost = λ o h. (viewed 8 (omega arith)).unmark_lost p (owner k l) o ∙ same.lost o h;
        configured = same.configured;
        configured_beside = same.configured_beside;
        few = same.few;
        reached = after (Unmark (owner k l)) same.reached tt;
        good = (marks {E = λ l n. Unit {0}} m (unsent l) (λ h. refl) (λ h. refl) (λ h. refl)).good same.good;
        beside = same.beside;
      }
