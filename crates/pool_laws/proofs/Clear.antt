-- An owner that begins anew: its records leave, its lost count is 0, and every other owner's are as they were.
-- Assumes nothing.
use Rattle.basis.proofs.Std.{ℕ, ◌+◌, ◌≤◌, ◌<◌, ◌≡◌, refl, sym, ◌∙◌, ap, List, [], ◌∷◌, map, Bool, true, false, ◌⊎◌, inl, inr, length, get_or, set, length-set, length-map, get_or-set_same, get_or-set_other, set_out, get_or-eq_default, ltb, leb, eqb, arith, eqb-true, eqb-false, ne_eqb, pick, both, bit, count, lt_or_ge, both_first}
use Rattle.pool.specs.declared.Place.{Place}
use Rattle.pool.specs.declared.Pool.{Pool}
use Rattle.pool.specs.declared.Wanted.TheVariants.{Numbered}
use Rattle.pool.specs.Places.{no_place, of, fits}
use Rattle.pool.specs.Pool.{held_in, lost_of, freed_for, clear_of}
use Rattle.pool_laws.specs.Acts.{renewed}
use Rattle.pool_laws.specs.View.{insert_if, records_in, records}
use Rattle.pool_laws.proofs.Counts.{bit_false, bit_and_le, count_map, count_same, count_le}
use Rattle.pool_laws.proofs.Fullest.{outside}
use Rattle.pool_laws.proofs.Inv.{Inv, from, mismarked}
use Rattle.pool_laws.proofs.ViewOther.{other_link}

module _ (o : ℕ) where
  freed_le : (g : Place → Bool) → g no_place ≡ false → (x : Place) → bit (g (freed_for o x)) ≤ bit (g x)
  freed_le g e x = go (of o x)
    where
      go : (t : Bool) → bit (g (pick t no_place x)) ≤ bit (g x)
      go true = omega (arith, bit_false (g no_place) e)
      go false = omega arith

  freed_none : (x : Place) → of o (freed_for o x) ≡ false
  freed_none x = go (of o x) refl
    where
      go : (t : Bool) → of o x ≡ t → of o (pick t no_place x) ≡ false
      go true e = refl
      go false e = e

  freed_other : (m k : ℕ) → (m ≡ o → ⊥) → (x : Place) → fits (Numbered m k) (freed_for o x) ≡ fits (Numbered m k) x
  freed_other m k d x = go (of o x) refl
    where
      go : (t : Bool) → of o x ≡ t → fits (Numbered m k) (pick t no_place x) ≡ fits (Numbered m k) x
      go true e = rw (other_link o m x e (ne_eqb o m (λ s. d (sym s)))) refl
      go false e = refl

  -- a test that no free place passes
  clear_less : (g : Place → Bool) → g no_place ≡ false → (p : List Place) → count g (map (freed_for o) p) ≤ count g p
  clear_less g e p = rw (count_map g (freed_for o) p) (count_le (λ (x : Place). g (freed_for o x)) g (freed_le g e) p)

  none_of : (g : Place → Bool) → ((x : Place) → bit (g x) ≤ bit (of o x)) → (p : List Place) → count g (map (freed_for o) p) ≡ 0
  none_of g h [] = refl
  none_of g h (x ∷ p) = omega (arith, h (freed_for o x), bit_false _ (freed_none x), none_of g h p)

pub clear_none : (p : Pool) (o : ℕ) → held_in (clear_of p o).places o ≡ 0
unfolding clear_of
clear_none p o = none_of o (of o) (λ x. omega arith) p.places

pub clear_other : (p : Pool) (o m k : ℕ) → (m ≡ o → ⊥) → count (fits (Numbered m k)) (clear_of p o).places ≡ count (fits (Numbered m k)) p.places
unfolding clear_of
clear_other p o m k d =
    count_map (fits (Numbered m k)) (freed_for o) p.places
    ∙ count_same (λ (x : Place). fits (Numbered m k) (freed_for o x)) (fits (Numbered m k)) (freed_other o m k d) p.places

zero_at : (l : List ℕ) (o : ℕ) → (o < length l) ⊎ (length l ≤ o) → get_or (set l o 0) o 0 ≡ 0
zero_at l o (inl h) = get_or-set_same l o 0 0 h
zero_at l o (inr h) = rw (set_out l o 0 h) (get_or-eq_default l 0 {n = o} h)

pub clear_lost : (p : Pool) (o m : ℕ) → lost_of (clear_of p o) m ≡ pick (eqb o m) 0 (lost_of p m)
unfolding clear_of
clear_lost p o m = go (eqb o m) refl
  where
    go : (t : Bool) → eqb o m ≡ t → get_or (set p.lost o 0) m 0 ≡ pick t 0 (get_or p.lost m 0)
    go true e = rw (← eqb-true o m e) (zero_at p.lost o (lt_or_ge o (length p.lost)))
    go false e = get_or-set_other p.lost o m 0 0 (λ s. eqb-false o m e (sym s))

clear_fresh : (o first : ℕ) (p : List Place) (l k : ℕ) → count (from l k) p ≡ 0 → (t : Bool) → eqb o l ≡ t → count (from l (pick t first k)) (map (freed_for o) p) ≡ 0
clear_fresh o first p l k z true e = rw (← eqb-true o l e) (none_of o (from o first) (λ x. bit_and_le (of o x) (leb first x.entry.sequence)) p)
clear_fresh o first p l k z false e = omega (arith, clear_less o (from l k) refl p)

pub clear_keeps : (n : ℕ) (q : ℕ → ℕ) (p : Pool) (o first : ℕ) → Inv n p q → first ≤ 2147483648 → Inv n (clear_of p o) (renewed q o first)
unfolding clear_of
clear_keeps n q p o first i h =
    record {
      size = length-map p.places (freed_for o) ∙ i.size;
      links = length-set p.lost o 0 ∙ i.links;
      owned = omega (arith, clear_less o (outside n) refl p.places, i.owned);
      once = λ l k. omega (arith, clear_less o (fits (Numbered l k)) refl p.places, i.once l k);
      fresh = λ l. clear_fresh o first p.places l (q l) (i.fresh l) (eqb o l) refl;
      most = λ l. omega (arith, clear_less o (of l) refl p.places, i.most l);
      marked = omega (arith, clear_less o mismarked refl p.places, i.marked);
      lost = λ l. lost l (eqb o l) refl (clear_lost p o l);
      bound = λ l. bound l (eqb o l);
    }
  where
    lost : (l : ℕ) (t : Bool) → eqb o l ≡ t → get_or (set p.lost o 0) l 0 ≡ pick t 0 (lost_of p l)
        → get_or (set p.lost o 0) l 0 + held_in (map (freed_for o) p.places) l ≤ pick t first (q l)
    lost l true e c = omega (arith, ap (held_in (map (freed_for o) p.places)) (sym (eqb-true o l e)), none_of o (of o) (λ x. omega arith) p.places)
    lost l false e c = omega (arith, clear_less o (of l) refl p.places, i.lost l)

    bound : (l : ℕ) (t : Bool) → pick t first (q l) ≤ 2147483648
    bound l true = h
    bound l false = i.bound l

-- each owner's records
clear_records : (o m : ℕ) (p : List Place) (t : Bool) → eqb o m ≡ t → records_in (map (freed_for o) p) m ≡ pick t [] (records_in p m)
unfolding records_in
clear_records o m [] true e = refl
clear_records o m [] false e = refl
clear_records o m (x ∷ p) t e = go (of o x) refl t e (clear_records o m p t e)
  where
    go : (b : Bool) → of o x ≡ b → (t : Bool) → eqb o m ≡ t → records_in (map (freed_for o) p) m ≡ pick t [] (records_in p m)
        → insert_if (of m (pick b no_place x)) (pick b no_place x) (records_in (map (freed_for o) p) m) ≡ pick t [] (insert_if (of m x) x (records_in p m))
    go true d true e r = r
    go true d false e r = rw (other_link o m x d e) r
    go false d true e r = rw (← eqb-true o m e, d) (rw (← eqb-true o m e) at r)
    go false d false e r = ap (insert_if (of m x) x) r

pub clear_view : (p : Pool) (o m : ℕ) → records (clear_of p o) m ≡ pick (eqb o m) [] (records p m)
unfolding clear_of
clear_view p o m = clear_records o m p.places (eqb o m) refl
