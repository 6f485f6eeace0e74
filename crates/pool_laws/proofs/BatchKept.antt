-- The laws of issuing a list of records.
-- Assumes nothing.
use Rattle.basis.proofs.Std.{◌≡◌, refl, sym, ap, subst, fun_ext, ◌∙◌, Bool, true, false, ◌⊎◌, inl, inr, List, [], ◌∷◌, ◌++◌, ℕ, zero, suc, ◌+◌, ◌*◌, ◌≤◌, ◌<◌, mod-eq_of_lt, arith, ltb, eqb, eqb-true, length, lt-ltb, le-ltb, pick, both, not_both, lt_or_ge}
use Rattle.entry.specs.declared.Entry.{Entry}
use Rattle.pool.specs.declared.Place.{Place}
use Rattle.pool.specs.Pool.{lost_of, more_of}
use Rattle.pool_laws.specs.Acts.{Act, acts, May, renewed, next, Rising}
use Rattle.pool_laws.specs.Acts.Act.{Issue, Settle, Mark, Unmark}
use Rattle.pool_laws.specs.Acts.Rising.{none, then}
use Rattle.pool_laws.specs.Promises.{Reached}
use Rattle.pool_laws.specs.Promises.Reached.{after, later}
use Rattle.pool_laws.specs.Crowded.{Crowded}
use Rattle.pool_laws.specs.View.{records, loser_in, issue_view, losses}
use Rattle.pool_laws.proofs.Kept.{reached_keeps}
use Rattle.pool_laws.proofs.Crowded.{never_crowded}
use Rattle.pool_laws.proofs.Viewed.{viewed}
use Rattle.pool_laws.specs.declared.Batch.{Batch}
use Rattle.pool_laws.specs.Batch.{renumbered, under, beginning, added, added_all, issued_all}
use Rattle.pool_laws.specs.BatchLaws.{numbered, issues, Owned, together, view_all, losses_all, Lasting, Laws}

added_append : (n : ℕ) (b : Batch) (xs ys : List Entry) → added_all n b (xs ++ ys) ≡ added_all n (added_all n b xs) ys
added_append n b [] ys = refl
added_append n b (e ∷ xs) ys = added_append n (added n b e) xs ys

-- one more, where it can grow
more_is : (q : ℕ) → q < 2147483648 → more_of q ≡ q + 1
more_is q h = rw (lt-ltb q 18446744073709551615 (omega arith))

-- the number kept is the number taken, where it has 31 bits
under_is : (e : Entry) (q : ℕ) → q < 2147483648 → under e q ≡ renumbered e q
under_is e q h = ap (renumbered e) (mod-eq_of_lt h)

spent_stays : (n : ℕ) (b : Batch) (es : List Entry) → b.spent ≡ true → (added_all n b es).spent ≡ true
unfolding added
spent_stays n b [] h = h
spent_stays n b (e ∷ es) h = spent_stays n (added n b e) es (rw h)

-- the numbers after q are past the limit, where k are left
spent_tail : (q k : ℕ) → q < 2147483648 → both (ltb 0 k) (ltb 2147483648 (more_of q + k)) ≡ ltb 2147483648 (q + suc k)
spent_tail q zero h = sym (le-ltb 2147483648 (q + 1) (omega arith))
spent_tail q (suc k) h = let m : more_of q + suc k ≡ q + suc (suc k) = omega (arith, more_is q h) in rw (lt-ltb 0 (suc k) (omega arith)) (ap (ltb 2147483648) m)

spent_all : (n : ℕ) (b : Batch) (es : List Entry) → b.spent ≡ false → (added_all n b es).spent ≡ both (ltb 0 (length es)) (ltb 2147483648 (b.next + length es))
unfolding added
spent_all n b [] h = h
spent_all n b (e ∷ es) h = rw (lt-ltb 0 (suc (length es)) (omega arith)) (by (lt_or_ge b.next 2147483648) (spent_all n (added n b e) es))
  where
    by : (b.next < 2147483648) ⊎ (2147483648 ≤ b.next)
        → ((added n b e).spent ≡ false → (added_all n (added n b e) es).spent ≡ both (ltb 0 (length es)) (ltb 2147483648 (more_of b.next + length es)))
        → (added_all n (added n b e) es).spent ≡ ltb 2147483648 (b.next + suc (length es))
    by (inl k) rest = rest (rw h (le-ltb 2147483647 b.next (omega arith))) ∙ spent_tail b.next (length es) k
    by (inr k) rest =
        spent_stays n (added n b e) es (rw h (lt-ltb 2147483647 b.next (omega arith))) ∙ sym (lt-ltb 2147483648 (b.next + suc (length es)) (omega arith))

next_all : (n : ℕ) (b : Batch) (es : List Entry) → Lasting b.next es → (added_all n b es).next ≡ b.next + length es
unfolding added
next_all n b [] h = omega arith
next_all n b (e ∷ es) h =
    let m : more_of b.next ≡ b.next + 1 = more_is b.next (omega arith) in
    next_all n (added n b e) es (omega arith) ∙ omega arith

pool_all : (n : ℕ) (b : Batch) (es : List Entry) → Lasting b.next es → (added_all n b es).pool ≡ acts n b.pool (issues (numbered b.next es))
unfolding added
pool_all n b [] h = refl
pool_all n b (e ∷ es) h =
    let m : more_of b.next ≡ b.next + 1 = more_is b.next (omega arith) in
    rw (← m, ← under_is e b.next (omega arith)) (pool_all n (added n b e) es (omega arith))

-- lower next numbers ask for less
next_lower : (n : ℕ) (q r : ℕ → ℕ) → ((l : ℕ) → q l ≤ r l) → (a : Act) → (l : ℕ) → next q a l ≤ next r a l
next_lower n q r h (Issue e) l = by (eqb e.link l)
  where
    by : (t : Bool) → pick t (e.sequence + 1) (q l) ≤ pick t (e.sequence + 1) (r l)
    by true = omega arith
    by false = h l
next_lower n q r h (Settle m k) l = h l
next_lower n q r h (Mark m k) l = h l
next_lower n q r h (Unmark m) l = h l

may_lower : (n : ℕ) (q r : ℕ → ℕ) → ((l : ℕ) → q l ≤ r l) → (a : Act) → May n r a → May n q a
may_lower n q r h (Issue e) (m, (g, f)) = (m, (omega (arith, h e.link), f))
may_lower n q r h (Settle l k) m = m
may_lower n q r h (Mark l k) m = m
may_lower n q r h (Unmark l) m = m

rising_lower : (n : ℕ) (q r : ℕ → ℕ) (xs : List Act) → ((l : ℕ) → q l ≤ r l) → Rising n r xs → Rising n q xs
rising_lower n q r [] h none = none
rising_lower n q r (a ∷ xs) h (then m s) = then (may_lower n q r h a m) (rising_lower n (next q a) (next r a) xs (next_lower n q r h a) s)

-- one record issued under the next number of its site: all its owners have the number behind it next
one_more : (own : ℕ → Bool) (r : ℕ → ℕ) (q o : ℕ) → own o ≡ true → (l : ℕ) → renewed (together own q r) o (q + 1) l ≤ together own (q + 1) r l
one_more own r q o d l = by (own l) refl (eqb o l) refl
  where
    by : (t : Bool) → own l ≡ t → (s : Bool) → eqb o l ≡ s → pick s (q + 1) (pick t q (r l)) ≤ pick t (q + 1) (r l)
    by true e true f = omega arith
    by true e false f = omega arith
    by false e true f = not_both d (ap own (eqb-true o l f) ∙ e)
    by false e false f = omega arith

-- the owners' next number, where the site has k
own_next : (own : ℕ → Bool) (r : ℕ → ℕ) (q o : ℕ) → own o ≡ true → together own q r o ≡ q
own_next own r q o d = rw d refl

rising_all : (n : ℕ) (own : ℕ → Bool) (r : ℕ → ℕ) (q : ℕ) (es : List Entry) → Owned n own es → Lasting q es → Rising n (together own q r) (issues (numbered q es))
rising_all n own r q [] o h = none
rising_all n own r q (e ∷ es) o h =
    then {q = together own q r} {a = Issue (renumbered e q)} (o.0, (omega (arith, own_next own r q e.link o.1.0), omega arith))
    (rising_lower n (renewed (together own q r) e.link (q + 1)) (together own (q + 1) r) (issues (numbered (q + 1) es)) (one_more own r q e.link o.1.0)
    (rising_all n own r (q + 1) es o.1.1 (omega arith)))

module _ (n : ℕ) (small : 16 * n ≤ 128) (own : ℕ → Bool) (r : ℕ → ℕ) where
  -- the site's next number is the batch's
  abbrev Here : Batch → Type 0
  Here b = Reached n b.pool (together own b.next r)

  abbrev Mine : Entry → Type 0
  Mine e = (e.link < n) × (own e.link ≡ true)

  may : (b : Batch) (e : Entry) → Mine e → b.next < 2147483648 → May n (together own b.next r) (Issue (renumbered e b.next))
  may b e l h = (l.0, (omega (arith, own_next own r b.next e.link l.1), h))

  bounded : (b : Batch) → Here b → b.next < 2147483648 → (l : ℕ) → together own (b.next + 1) r l ≤ 2147483648
  bounded b z h l = by (own l) ((reached_keeps n small b.pool (together own b.next r) z).bound l)
    where
      by : (t : Bool) → pick t b.next (r l) ≤ 2147483648 → pick t (b.next + 1) (r l) ≤ 2147483648
      by true g = omega arith
      by false g = g

  step_reached : (b : Batch) (e : Entry) → Here b → Mine e → b.next < 2147483648 → Here (added n b e)
  unfolding added
  step_reached b e z l h =
      rw (more_is b.next h, under_is e b.next h)
      (later (together own (b.next + 1) r) (after (Issue (renumbered e b.next)) z (may b e l h)) (one_more own r b.next e.link l.1) (bounded b z h))

  step_next : (b : Batch) (e : Entry) → b.next < 2147483648 → (added n b e).next ≡ b.next + 1
  unfolding added
  step_next b e h = more_is b.next h

  step_lasts : (b : Batch) (e : Entry) (es : List Entry) → Lasting b.next (e ∷ es) → Lasting (added n b e).next es
  step_lasts b e es h = omega (arith, step_next b e (omega arith))

  reached_all : (b : Batch) (es : List Entry) → Here b → Owned n own es → Lasting b.next es → Here (added_all n b es)
  reached_all b [] z o h = z
  reached_all b (e ∷ es) z o h = reached_all (added n b e) es (step_reached b e z (o.0, o.1.0) (omega arith)) o.1.1 (step_lasts b e es h)

  uncrowded_all : (b : Batch) (xs : List Entry) (e : Entry) (ys : List Entry) → Here b → Owned n own (xs ++ e ∷ ys) → Lasting b.next (xs ++ e ∷ ys)
      → Crowded n (added_all n b xs).pool e.link → ⊥
  uncrowded_all b [] e ys z o h c = never_crowded n small b.pool (together own b.next r) z e.link c
  uncrowded_all b (x ∷ xs) e ys z o h c =
      uncrowded_all (added n b x) xs e ys (step_reached b x z (o.0, o.1.0) (omega arith)) o.1.1 (step_lasts b x (xs ++ e ∷ ys) h) c

  step_view : (b : Batch) (e : Entry) → Here b → Mine e → b.next < 2147483648 → records (added n b e).pool ≡ issue_view n (records b.pool) (renumbered e b.next)
  unfolding added
  step_view b e z l h = rw (under_is e b.next h) (fun_ext ((viewed n small).issue b.pool (together own b.next r) z (renumbered e b.next) (may b e l h)))

  step_lost : (b : Batch) (e : Entry) → Here b → Mine e → b.next < 2147483648 → (m : ℕ)
      → lost_of (added n b e).pool m ≡ lost_of b.pool m + losses (loser_in n (records b.pool) e.link) m
  unfolding added
  step_lost b e z l h m = rw (under_is e b.next h) ((viewed n small).issue_lost b.pool (together own b.next r) z (renumbered e b.next) (may b e l h) m)

  view_all_lem : (b : Batch) (es : List Entry) → Here b → Owned n own es → Lasting b.next es → (m : ℕ)
      → records (added_all n b es).pool m ≡ view_all n (records b.pool) (numbered b.next es) m
  view_all_lem b [] z o h m = refl
  view_all_lem b (e ∷ es) z o h m =
      view_all_lem (added n b e) es (step_reached b e z (o.0, o.1.0) (omega arith)) o.1.1 (step_lasts b e es h) m
      ∙ ap (λ (v : ℕ → List Place). view_all n v (numbered (added n b e).next es) m) (step_view b e z (o.0, o.1.0) (omega arith))
      ∙ ap (λ (q : ℕ). view_all n (issue_view n (records b.pool) (renumbered e b.next)) (numbered q es) m) (step_next b e (omega arith))

  lost_all : (b : Batch) (es : List Entry) → Here b → Owned n own es → Lasting b.next es → (m : ℕ)
      → lost_of (added_all n b es).pool m ≡ lost_of b.pool m + losses_all n (records b.pool) (numbered b.next es) m
  lost_all b [] z o h m = omega arith
  lost_all b (e ∷ es) z o h m =
      omega (
        arith,
        lost_all (added n b e) es (step_reached b e z (o.0, o.1.0) (omega arith)) o.1.1 (step_lasts b e es h) m,
        step_lost b e z (o.0, o.1.0) (omega arith) m,
        ap (λ (v : ℕ → List Place). losses_all n v (numbered (added n b e).next es) m) (step_view b e z (o.0, o.1.0) (omega arith)),
        ap (λ (q : ℕ). losses_all n (issue_view n (records b.pool) (renumbered e b.next)) (numbered q es) m) (step_next b e (omega arith)),
      )

module _ (n : ℕ) (small : 16 * n ≤ 128) where
  pub kept : Laws n
  kept =
      record {
        append = added_append n;
        spent = λ p q es. spent_all n (beginning p q) es refl;
        next = λ p q es h. next_all n (beginning p q) es h;
        pool = λ p q es h. pool_all n (beginning p q) es h;
        rising = rising_all n;
        reached = λ own r p q z es o h.
            subst (λ (k : ℕ). Reached n (issued_all n p q es).pool (together own k r)) (next_all n (beginning p q) es h) (reached_all n small own r (beginning p q) es z o h);
        uncrowded = λ own r p q z es o h xs e ys k. uncrowded_all n small own r (beginning p q) xs e ys z (rw k at o) (rw k at h);
        view = λ own r p q z es o h m. view_all_lem n small own r (beginning p q) es z o h m;
        lost = λ own r p q z es o h m. lost_all n small own r (beginning p q) es z o h m;
      }
