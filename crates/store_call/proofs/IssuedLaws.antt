-- Records issued one by one are issued as one list; nothing else of the site is changed by them.
-- Assumes nothing.
use Rattle.basis.proofs.Std.{ℕ, suc, ◌+◌, ◌-◌, ◌<◌, ◌≤◌, ◌≡◌, refl, sym, ap, ◌∙◌, Bool, true, false, ◌⊎◌, inl, inr, List, [], ◌∷◌, ◌++◌, arith, ltb, length, length-append, lt-ltb, le-ltb, both, bit, lt_or_ge}
use Rattle.entry.specs.declared.Entry.{Entry}
use Rattle.alarm.specs.declared.Changed.{Changed}
use Rattle.alarm.specs.Issued.{issued_of}
use Rattle.pool.specs.declared.Pool.{Pool}
use Rattle.pool.specs.Pool.{issue_of, more_of}
use Rattle.pool_laws.specs.declared.Batch.{Batch}
use Rattle.pool_laws.specs.Batch.{under, beginning, added, added_all, issued_all}
use Rattle.pool_laws.proofs.BatchKept.{kept}
use Rattle.pool_laws.specs.Upwards.{entries_to, entry_if}
use Rattle.site.specs.declared.Site.{Site}
use Rattle.site.specs.Site.{with_pool, with_issued, has_primary, owner_of}
use Rattle.store_site.specs.Layout.{site_of, with_next, with_last}
use Rattle.store_site.specs.Turns.{Moves}
use Rattle.store_site.proofs.TurnsLaws.{moves_none, moves_then, moves_as}
use Rattle.store_call.specs.Issued.{batch_in, issued_in, alarm_records}

-- what is issued depends on the pool and the next number alone
same : (b c : Batch) (es : List Entry) → b.pool ≡ c.pool → b.next ≡ c.next
    → ((added_all 8 b es).pool ≡ (added_all 8 c es).pool) × ((added_all 8 b es).next ≡ (added_all 8 c es).next)
unfolding added
same b c [] p q = (p, q)
same b c (e ∷ es) p q = same (added 8 b e) (added 8 c e) es (rw (p, q) refl) (rw q refl)

pub issued_none : (s : Site) → issued_in s [] ≡ s
unfolding issued_in
issued_none s = refl

pub issued_more : (s : Site) (xs ys : List Entry) → issued_in (issued_in s xs) ys ≡ issued_in s (xs ++ ys)
unfolding issued_in
issued_more s xs ys =
    let b = batch_in s xs in
    let e = same (beginning b.pool b.next) b ys refl refl in
    rw ((kept 8 (omega arith)).append (beginning s.pool s.next) xs ys, e.0, e.1) refl

pub issued_one : (s : Site) (e : Entry) → with_next (with_pool s (issue_of 8 s.pool (under e s.next))) (more_of s.next) ≡ issued_in s (e ∷ [])
unfolding issued_in added
issued_one s e = refl

-- the end of a call that issues
pub issued_end : (s : Site) (es : List Entry) (time : ℕ) → with_last (issued_in s es) time ≡ with_issued s (batch_in s es) time
unfolding issued_in
issued_end s es time = refl

-- number 10 depends on the next number and on how many records there are
pub spent_any : (p o : Pool) (q : ℕ) (es : List Entry) → (issued_all 8 p q es).spent ≡ (issued_all 8 o q es).spent
spent_any p o q es = (kept 8 (omega arith)).spent p q es ∙ sym ((kept 8 (omega arith)).spent o q es)

module _ (s : Site) (es : List Entry) where
  spent_is : (batch_in s es).spent ≡ both (ltb 0 (length es)) (ltb 2147483648 (s.next + length es))
  spent_is = (kept 8 (omega arith)).spent s.pool s.next es

  pub spent_none : length es ≡ 0 → false ≡ (batch_in s es).spent
  spent_none h = sym (spent_is ∙ rw h refl)

  module _ (h : 0 < length es) where
    pub spent_past : 2147483648 < s.next → true ≡ (batch_in s es).spent
    spent_past g = sym (spent_is ∙ rw (lt-ltb 0 (length es) h) (lt-ltb 2147483648 (s.next + length es) (omega arith)))

    pub spent_here : s.next ≤ 2147483648 → ltb (2147483648 - s.next) (length es) ≡ (batch_in s es).spent
    spent_here g = by (lt_or_ge 2147483648 (s.next + length es)) ∙ sym (spent_is ∙ rw (lt-ltb 0 (length es) h) refl)
      where
        by : (2147483648 < s.next + length es) ⊎ (s.next + length es ≤ 2147483648) → ltb (2147483648 - s.next) (length es) ≡ ltb 2147483648 (s.next + length es)
        by (inl k) = lt-ltb (2147483648 - s.next) (length es) (omega arith) ∙ sym (lt-ltb 2147483648 (s.next + length es) k)
        by (inr k) = le-ltb (2147483648 - s.next) (length es) (omega arith) ∙ sym (le-ltb 2147483648 (s.next + length es) k)

-- a loop that issues place by place, the records of a place not being changed by what is issued
module _ (f : Site → ℕ → List Entry) (steady : (s : Site) (es : List Entry) (i : ℕ) → f (issued_in s es) i ≡ f s i) where
  pub places_none : (ps ws : List ℕ) → Moves (λ (s : Site). issued_in s (entries_to (f s) 0)) ps ps ws ws
  places_none ps ws = moves_none ps ws (λ t. sym (issued_none (site_of ps ws t)))

  next_place : (s : Site) (i : ℕ) → issued_in (issued_in s (entries_to (f s) i)) (f (issued_in s (entries_to (f s) i)) i) ≡ issued_in s (entries_to (f s) (i + 1))
  next_place s i =
      let n : suc i ≡ i + 1 = omega arith in
      ap (issued_in (issued_in s (entries_to (f s) i))) (steady s (entries_to (f s) i) i) ∙ issued_more s (entries_to (f s) i) (f s i) ∙ ap (λ (k : ℕ). issued_in s (entries_to (f s) k)) n

  pub places_next : {ps os qs ws us vs : List ℕ} (i : ℕ) → Moves (λ (s : Site). issued_in s (entries_to (f s) i)) ps os ws us
      → Moves (λ (s : Site). issued_in s (f s i)) os qs us vs → Moves (λ (s : Site). issued_in s (entries_to (f s) (i + 1))) ps qs ws vs
  places_next {ps} {ws = ws} i a b = moves_as (moves_then a b) (λ t. next_place (site_of ps ws t) i)

-- how many records there are, place by place
count_next : (f : ℕ → List Entry) (i : ℕ) → length (entries_to f (i + 1)) ≡ length (entries_to f i) + length (f i)
count_next f i =
    let n : i + 1 ≡ suc i = omega arith in
    rw n (length-append (entries_to f i) (f i))

pub count_if : (b : Bool) (e : Entry) → length (entry_if b e) ≡ bit b
count_if true e = refl
count_if false e = refl

-- one place more, which has a record where b
pub count_one : (f : ℕ → List Entry) (i : ℕ) (b : Bool) {n m : ℕ} → n ≡ length (entries_to f i) → length (f i) ≡ bit b → m ≡ n + bit b → m ≡ length (entries_to f (i + 1))
count_one f i b p q r = omega (arith, count_next f i)

pub bit_most : (b : Bool) → bit b ≤ 1
bit_most true = omega arith
bit_most false = omega arith

-- the record of an alarm's change, or none
module _ (s : Site) (k : ℕ) (c : Changed) where
  pub alarm_none : length (alarm_records s k c) ≡ 0 → s ≡ issued_in s (alarm_records s k c)
  alarm_none h = by (both c.records (has_primary s)) h
    where
      by : (b : Bool) → length (entry_if b (issued_of c.alarm (owner_of s s.primary) k)) ≡ 0 → s ≡ issued_in s (entry_if b (issued_of c.alarm (owner_of s s.primary) k))
      by true e = absurd (omega (arith, e))
      by false e = sym (issued_none s)

  pub alarm_one : (length (alarm_records s k c) ≡ 0 → ⊥) → issued_in s (issued_of c.alarm (owner_of s s.primary) k ∷ []) ≡ issued_in s (alarm_records s k c)
  alarm_one h = by (both c.records (has_primary s)) h
    where
      by : (b : Bool) → (length (entry_if b (issued_of c.alarm (owner_of s s.primary) k)) ≡ 0 → ⊥)
          → issued_in s (issued_of c.alarm (owner_of s s.primary) k ∷ []) ≡ issued_in s (entry_if b (issued_of c.alarm (owner_of s s.primary) k))
      by true e = refl
      by false e = absurd (e refl)
