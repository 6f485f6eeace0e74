-- Fields always come to something: whether there is such a record can be told.
-- Assumes nothing.
use Rattle.basis.proofs.Std.{ℕ, ◌%◌, ◌^◌, ◌≤◌, ◌<◌, ◌≡◌, refl, ap₂, subst, true, List, [], ◌∷◌, arith, ◌⊎◌, inl, inr, ⊎_elim, bool_cases, lt_or_ge, le_or_lt, eq_or_ne, eq-eqb, get_or, length, same_bytes, same_true, same_self, not_both}
use Rattle.entry.specs.declared.Entry.{Entry}
use Rattle.entry.specs.Valid.{Valid, Alarm, Status, Aggregated, OfKind, an_alarm, a_status, an_aggregated, last_time}
use Rattle.entry.proofs.ValidLaws.{alarm_flags_lem, an_alarm_of, status_flags_lem, no_value_lem, a_known, status_test, of_no_kind}
use Rattle.csv_entry.specs.Fields.{fields_of}
use Rattle.csv_entry.specs.Guess.{kind_in, guess_of}
use Rattle.csv_entry.specs.Judged.{Judged, present, Judges, other_count, Holds}
use Rattle.std.specs.Prelude.{Ok, Err}
use Rattle.csv_entry.specs.declared.Reason.TheVariants.{Count, Kind, Presence, Contents}
use Rattle.csv_entry.proofs.Judging.{not_valid, not_its, unnamed, absent, held}

-- it holds, or it does not
abbrev pub Told : Type 0 → Type 0
Told P = P ⊎ (P → ⊥)

module _ (e : Entry) where
  alarm_told : Told (Alarm e)
  alarm_told =
      ⊎_elim (λ k. ⊎_elim (λ i. ⊎_elim (λ f. ⊎_elim (λ z. ⊎_elim (λ v. inl (an_alarm_of e k i f z v))
      (λ n. inr (λ a. n a.value)) (eq_or_ne e.value 0))
      (λ n. inr (λ a. n (alarm_flags_lem a).1)) (eq_or_ne (e.flags % 2) 0))
      (λ n. inr (λ a. let f = alarm_flags_lem a in omega (arith, f.0))) (lt_or_ge e.flags 48))
      (λ n. inr (λ a. omega (arith, a.item))) (lt_or_ge e.item 32))
      (λ n. inr (λ a. n a.kind)) (eq_or_ne e.kind 0)

  status_told_lem : Told (Status e)
  status_told_lem =
      ⊎_elim (λ k. ⊎_elim (λ i. ⊎_elim (λ f. ⊎_elim (λ z. ⊎_elim
      (λ (l : e.flags < 32). ⊎_elim (λ v. inl ((status_test e k i l z).yes (eq-eqb e.value 0 v))) (λ n. inr (λ s. n (no_value_lem s l))) (eq_or_ne e.value 0))
      (λ (l : 32 ≤ e.flags). ⊎_elim (λ v. inl (a_known e k i l f z v)) (λ n. inr (λ s. omega (arith, s.value))) (lt_or_ge e.value (2 ^ 32)))
      (lt_or_ge e.flags 32))
      (λ n. inr (λ s. n (status_flags_lem s).1)) (eq_or_ne (e.flags % 16) 0))
      (λ n. inr (λ s. let f = status_flags_lem s in omega (arith, f.0))) (lt_or_ge e.flags 64))
      (λ n. inr (λ s. omega (arith, s.item))) (lt_or_ge e.item 32))
      (λ n. inr (λ s. n s.kind)) (eq_or_ne e.kind 1)

  aggregated_told_lem : Told (Aggregated e)
  aggregated_told_lem =
      ⊎_elim (λ k. ⊎_elim (λ i. ⊎_elim (λ f. ⊎_elim (λ v. inl (record { kind = k; item = i; flags = f; value = v }))
      (λ n. inr (λ g. omega (arith, g.value))) (lt_or_ge e.value 256))
      (λ n. inr (λ g. n g.flags)) (eq_or_ne e.flags 0))
      (λ n. inr (λ g. n g.item)) (eq_or_ne e.item 0))
      (λ n. inr (λ g. n g.kind)) (eq_or_ne e.kind 2)

  kind_told : Told (OfKind e)
  kind_told =
      ⊎_elim (λ a. inl (an_alarm a)) (λ a. ⊎_elim (λ s. inl (a_status s)) (λ s. ⊎_elim (λ g. inl (an_aggregated g)) (λ g. inr (of_no_kind a s g)) aggregated_told_lem) status_told_lem) alarm_told

  valid_told : Told (Valid e)
  valid_told =
      ⊎_elim (λ l. ⊎_elim (λ t. ⊎_elim (λ q. ⊎_elim (λ k. inl (record { link = l; time = t; sequence = q; of_kind = k }))
      (λ n. inr (λ v. n v.of_kind)) kind_told)
      (λ n. inr (λ v. omega (arith, v.sequence))) (lt_or_ge e.sequence (2 ^ 31)))
      (λ n. inr (λ v. omega (arith, v.time))) (le_or_lt e.time last_time))
      (λ n. inr (λ v. omega (arith, v.link))) (lt_or_ge e.link 8)

text_told : (a b : List ℕ) → Told (a ≡ b)
text_told a b = bool_cases (same_bytes a b) (λ e. inl (same_true a b e)) (λ e. inr (λ q. not_both (subst (λ (l : List ℕ). same_bytes a l ≡ true) q (same_self a)) e))

pub texts_told : (ts us : List (List ℕ)) → Told (ts ≡ us)
texts_told [] [] = inl refl
texts_told [] (u ∷ us) = inr (λ e. let z : ◌≡◌ {A = ℕ} 0 1 = cc in omega arith)
texts_told (t ∷ ts) [] = inr (λ e. let z : ◌≡◌ {A = ℕ} 0 1 = cc in omega arith)
texts_told (t ∷ ts) (u ∷ us) = go (text_told t u) (texts_told ts us)
  where
    go : Told (t ≡ u) → Told (ts ≡ us) → Told (t ∷ ts ≡ u ∷ us)
    go (inl x) (inl y) = inl (ap₂ (λ (l : List ℕ) (ls : List (List ℕ)). l ∷ ls) x y)
    go (inr n) y = inr (λ e. let f : t ≡ u = cc in n f)
    go (inl x) (inr n) = inr (λ e. let f : ts ≡ us = cc in n f)

holding : (k : ℕ) (ds : List (List ℕ)) → (r : Judged) × Holds k ds r
holding k ds = ⊎_elim
    (λ v. ⊎_elim (λ f. (Ok (guess_of k ds), Holds.one v f)) (λ n. (Err Contents, not_its k ds (guess_of k ds) refl n)) (texts_told (fields_of (guess_of k ds)) ds))
    (λ n. (Err Contents, not_valid k ds (guess_of k ds) refl n))
    (valid_told (guess_of k ds))

pub answer : (ds : List (List ℕ)) → (r : Judged) × Judges ds r
answer ds = ⊎_elim
    (λ l. ⊎_elim (λ k. bool_cases (present (kind_in (get_or ds 1 [])) ds)
    (λ p. let h = holding (kind_in (get_or ds 1 [])) ds in (h.0, held ds (kind_in (get_or ds 1 [])) l refl k p h.1))
    (λ p. (Err Presence, absent ds (kind_in (get_or ds 1 [])) l refl k p)))
    (λ k. (Err Kind, unnamed ds (kind_in (get_or ds 1 [])) l refl k)) (lt_or_ge (kind_in (get_or ds 1 [])) 3))
    (λ n. (Err Count, other_count n))
    (eq_or_ne (length ds) 12)
