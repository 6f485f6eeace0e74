-- The promises of the pool are kept, for every number of owners n with 16 n at most 128.
-- Assumes nothing.
use Rattle.basis.proofs.Std.{ℕ, ◌+◌, ◌*◌, ◌≤◌, ◌<◌, ◌≡◌, refl, ◌∙◌, List, [], ◌∷◌, Bool, true, false, ◌⊎◌, inl, inr, ltb, leb, eqb, arith, eqb-true, eq-eqb, le-leb, both, bit, count, Among}
use Rattle.basis.specs.Lists.Among.{first, later as among_later}
use Rattle.entry.specs.declared.Entry.{Entry}
use Rattle.pool.specs.declared.Place.{Place}
use Rattle.pool.specs.declared.Pool.{Pool}
use Rattle.pool.specs.declared.Wanted.TheVariants.{Older, Numbered}
use Rattle.pool.specs.Places.{of, fits}
use Rattle.pool.specs.Pool.{empty_of, lost_of, issue_of, settle_of, mark_of, unmark_of}
use Rattle.pool_laws.specs.Acts.{Act, act, acts, May, next, nexts, Rising, newer_than}
use Rattle.pool_laws.specs.Acts.Act.{Issue, Settle, Mark, Unmark}
use Rattle.pool_laws.specs.Acts.Rising.{then}
use Rattle.pool_laws.specs.Leaves.{Held, left_over, NoSettle, SettlesFirst}
use Rattle.pool_laws.specs.Promises.{Reached, Superseded, Promises}
use Rattle.pool_laws.specs.Promises.Reached.{empty, after, later, anew}
use Rattle.pool_laws.proofs.Counts.{count_le, bit_le}
use Rattle.pool_laws.proofs.Fullest.{outside}
use Rattle.pool_laws.proofs.Inv.{Inv, starts, numbered_from, inv_later}
use Rattle.pool_laws.proofs.Issue.{places_after, stays, stays_past, held_new, issue_keeps}
use Rattle.pool_laws.proofs.Other.{lost_same, settle_less, less_keeps, settle_only, settle_gone, mark_alike, unmark_alike, alike_numbered, alike_newer, alike_keeps}
use Rattle.pool_laws.proofs.Clear.{clear_keeps, clear_lost, clear_none, clear_other}
use Rattle.pool_laws.proofs.Lost.{issue_leaves, alike_leaves}

module _ (n : ℕ) (small : 16 * n ≤ 128) where
  pub act_keeps : (p : Pool) (q : ℕ → ℕ) (a : Act) → May n q a → Inv n p q → Inv n (act n p a) (next q a)
  act_keeps p q (Issue e) (m, (r, f)) i = issue_keeps n small p q i e m r f
  act_keeps p q (Settle l k) m i = less_keeps n q p (settle_of p l k) (settle_less p l k) i
  act_keeps p q (Mark l k) m i = alike_keeps p (mark_of p l k) (mark_alike p l k) n q i
  act_keeps p q (Unmark l) m i = alike_keeps p (unmark_of p l) (unmark_alike p l) n q i

  pub reached_keeps : (p : Pool) (q : ℕ → ℕ) → Reached n p q → Inv n p q
  reached_keeps p q (empty h) = starts n q h
  reached_keeps p q (after {p = o} {q = k} a r m) = act_keeps o k a m (reached_keeps o k r)
  reached_keeps p q (later {q = k} z r h b) = inv_later n k q p (reached_keeps p k r) h b
  reached_keeps p q (anew {p = o} {q = k} m f r h) = clear_keeps n k o m f (reached_keeps o k r) h

  reached_acts : (p : Pool) (q : ℕ → ℕ) → Reached n p q → (xs : List Act) → Rising n q xs → Reached n (acts n p xs) (nexts q xs)
  reached_acts p q r [] s = r
  reached_acts p q r (a ∷ xs) (then m s) = reached_acts (act n p a) (next q a) (after a r m) xs s

  fate_at : (p r : Pool) (m k : ℕ) (xs : List Place) → r.places ≡ xs
      → (0 < count (fits (Numbered m k)) xs) ⊎ ((count (fits (Older m k)) p.places ≡ 0) × (16 ≤ count (newer_than m k) xs)) → Held r m k ⊎ Superseded p r m k
  fate_at p r m k xs s (inl x) = inl (rw s x)
  fate_at p r m k xs s (inr (a, b)) = inr (record { oldest = a; newer = rw s b })

  issue_fate : (p : Pool) (q : ℕ → ℕ) → Inv n p q → (e : Entry) → May n q (Issue e) → (m k : ℕ) → Held p m k
      → Held (act n p (Issue e)) m k ⊎ Superseded p (act n p (Issue e)) m k
  issue_fate p q i e (l, (r, f)) m k h = fate_at p (issue_of n p e) m k _ (places_after n small p q i e l r f) (stays n small p q i e l r f m k h)

  issue_held : (p : Pool) (q : ℕ → ℕ) → Inv n p q → (e : Entry) → May n q (Issue e) → Held (act n p (Issue e)) e.link e.sequence
  issue_held p q i e (l, (r, f)) = rw (places_after n small p q i e l r f) (held_new n small p q i e l r f)

  issue_past : (p : Pool) (q : ℕ → ℕ) → Inv n p q → (e : Entry) → May n q (Issue e) → (m k : ℕ) → 16 ≤ count (newer_than m k) p.places
      → 16 ≤ count (newer_than m k) (act n p (Issue e)).places
  issue_past p q i e (l, (r, f)) m k h = rw (places_after n small p q i e l r f) (stays_past n small p q i e l r f m k h)

  mark_held : (p : Pool) (l j m k : ℕ) → Held p m k → Held (mark_of p l j) m k
  mark_held p l j m k h = omega (arith, alike_numbered p (mark_of p l j) (mark_alike p l j) m k)

  unmark_held : (p : Pool) (l m k : ℕ) → Held p m k → Held (unmark_of p l) m k
  unmark_held p l m k h = omega (arith, alike_numbered p (unmark_of p l) (unmark_alike p l) m k)

  -- 16 newer ones stay where nothing is settled
  past_stays : (p : Pool) (q : ℕ → ℕ) (xs : List Act) → Inv n p q → Rising n q xs → NoSettle xs → (m k : ℕ) → 16 ≤ count (newer_than m k) p.places
      → 16 ≤ count (newer_than m k) (acts n p xs).places
  past_stays p q [] i r s m k h = h
  past_stays p q (Issue e ∷ xs) i (then y r) s m k h =
      past_stays (act n p (Issue e)) (next q (Issue e)) xs (act_keeps p q (Issue e) y i) r s m k (issue_past p q i e y m k h)
  past_stays p q (Settle l j ∷ xs) i (then y r) s m k h = absurd s
  past_stays p q (Mark l j ∷ xs) i (then y r) s m k h =
      past_stays (mark_of p l j) q xs (act_keeps p q (Mark l j) y i) r s m k (omega (arith, alike_newer p (mark_of p l j) (mark_alike p l j) m k))
  past_stays p q (Unmark l ∷ xs) i (then y r) s m k h =
      past_stays (unmark_of p l) q xs (act_keeps p q (Unmark l) y i) r s m k (omega (arith, alike_newer p (unmark_of p l) (unmark_alike p l) m k))

  -- held, or 16 newer ones are
  abbrev Safe : Pool → ℕ → ℕ → Type 0
  Safe p m k = Held p m k ⊎ (16 ≤ count (newer_than m k) p.places)

  safe_stays : (p : Pool) (q : ℕ → ℕ) (xs : List Act) → Inv n p q → Rising n q xs → NoSettle xs → (m k : ℕ) → Held p m k → Safe (acts n p xs) m k
  safe_stays p q [] i r s m k h = inl h
  safe_stays p q (Issue e ∷ xs) i (then y r) s m k h =
      go (issue_fate p q i e y m k h) (safe_stays (act n p (Issue e)) (next q (Issue e)) xs (act_keeps p q (Issue e) y i) r s m k)
    where
      go : Held (act n p (Issue e)) m k ⊎ Superseded p (act n p (Issue e)) m k → (Held (act n p (Issue e)) m k → Safe (acts n (act n p (Issue e)) xs) m k)
          → Safe (acts n (act n p (Issue e)) xs) m k
      go (inl a) f = f a
      go (inr a) f = inr (past_stays (act n p (Issue e)) (next q (Issue e)) xs (act_keeps p q (Issue e) y i) r s m k a.newer)
  safe_stays p q (Settle l j ∷ xs) i (then y r) s m k h = absurd s
  safe_stays p q (Mark l j ∷ xs) i (then y r) s m k h = safe_stays (mark_of p l j) q xs (act_keeps p q (Mark l j) y i) r s m k (mark_held p l j m k h)
  safe_stays p q (Unmark l ∷ xs) i (then y r) s m k h = safe_stays (unmark_of p l) q xs (act_keeps p q (Unmark l) y i) r s m k (unmark_held p l m k h)

  abbrev Fate : Pool → List Act → ℕ → ℕ → Type 0
  Fate p xs m k = Held (acts n p xs) m k ⊎ (Among (Settle m k) xs ⊎ (16 ≤ count (newer_than m k) (acts n p xs).places))

  fate_later : (p : Pool) (a : Act) (xs : List Act) (m k : ℕ) → Fate (act n p a) xs m k → Fate p (a ∷ xs) m k
  fate_later p a xs m k (inl x) = inl x
  fate_later p a xs m k (inr (inl x)) = inr (inl (among_later x))
  fate_later p a xs m k (inr (inr x)) = inr (inr x)

  fate_safe : (p : Pool) (xs : List Act) (m k : ℕ) → Safe (acts n p xs) m k → Fate p xs m k
  fate_safe p xs m k (inl x) = inl x
  fate_safe p xs m k (inr x) = inr (inr x)

  pub whole_list : (p : Pool) (q : ℕ → ℕ) (xs : List Act) → Inv n p q → Rising n q xs → SettlesFirst xs → (m k : ℕ) → Held p m k → Fate p xs m k
  whole_list p q [] i r s m k h = inl h
  whole_list p q (Issue e ∷ xs) i r s m k h = fate_safe p (Issue e ∷ xs) m k (safe_stays p q (Issue e ∷ xs) i r s m k h)
  whole_list p q (Settle l j ∷ xs) i (then y r) s m k h =
      go (settle_only p l j m k h) (whole_list (settle_of p l j) q xs (act_keeps p q (Settle l j) y i) r s m k)
    where
      go : Held (settle_of p l j) m k ⊎ ((m ≡ l) × (k ≡ j)) → (Held (settle_of p l j) m k → Fate (settle_of p l j) xs m k) → Fate p (Settle l j ∷ xs) m k
      go (inl a) f = fate_later p (Settle l j) xs m k (f a)
      go (inr (a, b)) f = inr (inl (rw (a, b) first))
  whole_list p q (Mark l j ∷ xs) i (then y r) s m k h =
      fate_later p (Mark l j) xs m k (whole_list (mark_of p l j) q xs (act_keeps p q (Mark l j) y i) r s m k (mark_held p l j m k h))
  whole_list p q (Unmark l ∷ xs) i (then y r) s m k h =
      fate_later p (Unmark l) xs m k (whole_list (unmark_of p l) q xs (act_keeps p q (Unmark l) y i) r s m k (unmark_held p l m k h))

  issued_safe : (p : Pool) (q : ℕ → ℕ) (xs : List Act) → Inv n p q → Rising n q xs → NoSettle xs → (e : Entry) → Among (Issue e) xs → Safe (acts n p xs) e.link e.sequence
  issued_safe p q [] i r s e a = elim a [ ]
  issued_safe p q (Issue d ∷ xs) i (then y r) s e first =
      safe_stays (act n p (Issue d)) (next q (Issue d)) xs (act_keeps p q (Issue d) y i) r s d.link d.sequence (issue_held p q i d y)
  issued_safe p q (Issue d ∷ xs) i (then y r) s e (among_later a) = issued_safe (act n p (Issue d)) (next q (Issue d)) xs (act_keeps p q (Issue d) y i) r s e a
  issued_safe p q (Settle l j ∷ xs) i (then y r) s e a = absurd s
  issued_safe p q (Mark l j ∷ xs) i (then y r) s e (among_later a) = issued_safe (mark_of p l j) q xs (act_keeps p q (Mark l j) y i) r s e a
  issued_safe p q (Unmark l ∷ xs) i (then y r) s e (among_later a) = issued_safe (unmark_of p l) q xs (act_keeps p q (Unmark l) y i) r s e a

  pub whole_issued : (p : Pool) (q : ℕ → ℕ) (xs : List Act) → Inv n p q → Rising n q xs → SettlesFirst xs → (e : Entry) → Among (Issue e) xs → Safe (acts n p xs) e.link e.sequence
  whole_issued p q [] i r s e a = elim a [ ]
  whole_issued p q (Issue d ∷ xs) i r s e a = issued_safe p q (Issue d ∷ xs) i r s e a
  whole_issued p q (Settle l j ∷ xs) i (then y r) s e (among_later a) = whole_issued (settle_of p l j) q xs (act_keeps p q (Settle l j) y i) r s e a
  whole_issued p q (Mark l j ∷ xs) i (then y r) s e (among_later a) = whole_issued (mark_of p l j) q xs (act_keeps p q (Mark l j) y i) r s e a
  whole_issued p q (Unmark l ∷ xs) i (then y r) s e (among_later a) = whole_issued (unmark_of p l) q xs (act_keeps p q (Unmark l) y i) r s e a

  pub lost_acts : (p : Pool) (q : ℕ → ℕ) (xs : List Act) → Inv n p q → Rising n q xs → (m : ℕ) → lost_of (acts n p xs) m ≡ lost_of p m + left_over n p xs m
  unfolding left_over
  lost_acts p q [] i r m = omega arith
  lost_acts p q (Issue e ∷ xs) i (then y r) m =
      omega (arith, lost_acts (act n p (Issue e)) (next q (Issue e)) xs (act_keeps p q (Issue e) y i) r m, issue_leaves n small p q i e y.0 y.1.0 y.1.1 m)
  lost_acts p q (Settle l k ∷ xs) i (then y r) m =
      omega (arith, lost_acts (settle_of p l k) q xs (act_keeps p q (Settle l k) y i) r m, lost_same p (settle_of p l k) (settle_less p l k).lost m)
  lost_acts p q (Mark l k ∷ xs) i (then y r) m =
      omega (arith, lost_acts (mark_of p l k) q xs (act_keeps p q (Mark l k) y i) r m, lost_same p (mark_of p l k) (mark_alike p l k).lost m, alike_leaves n q p (mark_of p l k) (mark_alike p l k) i m)
  lost_acts p q (Unmark l ∷ xs) i (then y r) m =
      omega (arith, lost_acts (unmark_of p l) q xs (act_keeps p q (Unmark l) y i) r m, lost_same p (unmark_of p l) (unmark_alike p l).lost m, alike_leaves n q p (unmark_of p l) (unmark_alike p l) i m)

  replicate_none : (m : ℕ) → lost_of (empty_of n) m ≡ 0
  replicate_none m = omega (arith, (starts n (λ l. 0) (λ l. omega arith)).lost m)

  -- an owner outside the n holds nothing
  outside_none : (p : Pool) (q : ℕ → ℕ) → Inv n p q → (l : ℕ) → n ≤ l → count (of l) p.places ≡ 0
  outside_none p q i l h = omega (arith, count_le (of l) (outside n) (λ x. go (ltb 0 x.mark) x.entry.link) p.places, i.owned)
    where
      go : (t : Bool) (s : ℕ) → bit (both t (eqb s l)) ≤ bit (both t (leb n s))
      go false s = omega arith
      go true s = by (eqb s l) refl
        where
          by : (b : Bool) → eqb s l ≡ b → bit b ≤ bit (leb n s)
          by false d = omega (arith, bit_le (leb n s))
          by true d = rw (le-leb n s (omega (arith, eqb-true s l d))) (omega arith)

  pub kept : Promises n
  kept =
      record {
        every = reached_acts;
        places = λ p q r. (reached_keeps p q r).size;
        owners = λ p q r l h. outside_none p q (reached_keeps p q r) l h;
        marks = λ p q r. (reached_keeps p q r).marked;
        most = λ p q r l. (reached_keeps p q r).most l;
        once = λ p q r l k. (reached_keeps p q r).once l k;
        rises = λ p q r l k h. omega (arith, numbered_from l k (q l) h p.places, (reached_keeps p q r).fresh l);
        issued = λ p q r e y. issue_held p q (reached_keeps p q r) e y;
        leaves = λ p q r e y m k h. issue_fate p q (reached_keeps p q r) e y m k h;
        settles = λ p q r l j m k h. settle_only p l j m k h;
        marking = λ p q r l j m k h. mark_held p l j m k h;
        unmarking = λ p q r l m k h. unmark_held p l m k h;
        settled = λ p q r l k. settle_gone p l k ((reached_keeps p q r).once l k);
        whole = λ p q r xs y s m k h. whole_list p q xs (reached_keeps p q r) y s m k h;
        whole_new = λ p q r xs y s e a. whole_issued p q xs (reached_keeps p q r) y s e a;
        lost = λ p q r xs y m. lost_acts p q xs (reached_keeps p q r) y m;
        lost_first = replicate_none;
        lost_anew = λ p o. clear_lost p o o ∙ rw (eq-eqb o o refl) refl;
        lost_most = λ p q r l. (reached_keeps p q r).lost l;
        clears = λ p o. clear_none p o;
        clearing = λ p o m k d h. omega (arith, clear_other p o m k d);
      }
