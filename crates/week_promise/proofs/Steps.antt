-- What is kept tells the tally of the entries, entry by entry, until it does not fit.
-- Assumes nothing.
use Rattle.basis.proofs.Std.{◌≡◌, refl, sym, ap, ◌∙◌, Bool, true, false, ⊎_elim, List, [], ◌∷◌, ◌++◌, ℕ, suc, ◌+◌, ◌-◌, ◌^◌, ◌≤◌, ◌<◌, zero-add, arith, le-leb, lt-leb, lt-ltb, le-ltb, leb, length, length-append, length-set, pick, bit, bool_cases, lt_or_ge, le_or_lt, both_no, not_both}
use Rattle.label.specs.Label.{text_of}
use Rattle.week_entry.specs.declared.Entry.{Entry}
use Rattle.week_count.specs.Values.{values_of, value_word}
use Rattle.week_tally.specs.Tally.{Status as Kept}
use Rattle.week_tally.specs.Tally.Tally.{too_many, within}
use Rattle.week_tally.specs.Words.{bumped}
use Rattle.week_tally.specs.Noted.{place_for, place_of, new_status as new_kept, one_null, entered, limited, marked, noted}
use Rattle.week_tally.proofs.Limits.{place_most}
use Rattle.week_promise.specs.Tally.{Status, value_of, is_same, add, total, fits}
use Rattle.week_promise.proofs.Lines.{grouped_from}
use Rattle.week_promise.proofs.Groups.{values_there, entered_hit, entered_miss, bumped_at, bumped_is, bumped_first, bumped_hit, bumped_miss, grouped_value, grouped_null, is, Most}
use Rattle.week_promise.proofs.Groups.Most.{none, more}

pub grouped_length : (p : ℕ) (fs : List Kept) (vs : List ℕ) → length (grouped_from p fs vs) ≡ length fs
unfolding grouped_from
grouped_length p [] vs = refl
grouped_length p (f ∷ fs) vs = ap suc (grouped_length (suc p) fs vs)

total_add : (ss : List Status) (e : Entry) → total (add ss e) ≡ total ss + bit e.known
unfolding total add
total_add [] e = bool_cases e.known (λ k. rw k) (λ k. rw k)
total_add (s ∷ ss) e =
    bool_cases (is_same s e)
    (λ h. rw h
    (bool_cases e.known
    (λ k. rw k (omega (arith, length-append s.values (value_of e ∷ []))))
    (λ k. rw k (omega arith))))
    (λ h. rw h (omega (arith, total_add ss e)))

add_length : (ss : List Status) (e : Entry) → length ss ≤ length (add ss e)
unfolding add
add_length [] e = omega arith
add_length (s ∷ ss) e =
    bool_cases (is_same s e)
    (λ h. rw h (omega arith))
    (λ h. rw h (omega (arith, add_length ss e)))

up : {a n m : ℕ} → a ≤ n → n ≤ m → a ≤ m
up p q = omega arith

one_up : {a n : ℕ} → a ≤ n → a ≤ n + 1
one_up p = omega arith

most_wider : {n : ℕ} {fs : List Kept} (m : ℕ) → n ≤ m → Most n fs → Most m fs
most_wider m h none = none
most_wider m h (more a b) = more (up a h) (most_wider m h b)

bumped_most : (n m : ℕ) → m ≤ n → bumped m ≤ n + 1
bumped_most n m h =
    ⊎_elim
    (λ (g : m < 2 ^ 64 - 1). rw (lt-ltb m (2 ^ 64 - 1) g) (omega arith))
    (λ (g : 2 ^ 64 - 1 ≤ m). rw (le-ltb m (2 ^ 64 - 1) g) (omega arith))
    (lt_or_ge m (2 ^ 64 - 1))

entered_none : (e : Entry) → entered [] e ≡ new_kept e ∷ []
unfolding entered place_for
entered_none e = refl

most_entered : {n : ℕ} (fs : List Kept) (e : Entry) → Most n fs → Most n (entered fs e)
most_entered {n} [] e none = rw (entered_none e) (more {f = new_kept e} (omega arith) none)
most_entered {n} (f ∷ fs) e (more a b) =
    bool_cases (is f fs e)
    (λ h. rw (entered_hit f fs e h) (more a b))
    (λ h. rw (entered_miss f fs e h) (more a (most_entered fs e b)))

most_bumped : {n : ℕ} (fs : List Kept) (e : Entry) → Most n fs → Most (n + 1) (bumped_at fs e)
most_bumped {n} [] e none = rw (bumped_first e) (more {f = one_null (new_kept e)} (bumped_most n 0 (omega arith)) none)
most_bumped {n} (f ∷ fs) e (more a b) =
    bool_cases (is f fs e)
    (λ h. rw (bumped_hit f fs e h) (more (bumped_most n f.nulls a) (most_wider (n + 1) (omega arith) b)))
    (λ h. rw (bumped_miss f fs e h) (more (one_up a) (most_bumped fs e b)))

-- after n entries: the groups are the tally, no value is astray, all are counted, and no status has more than n nulls
pub record Told (fs : List Kept) (vs : List ℕ) (ss : List Status) (n : ℕ) : Type 0 where
  pub groups : grouped_from 0 fs vs ≡ ss
  pub stray : (p : ℕ) → length fs ≤ p → values_of p vs ≡ []
  pub all : total ss ≡ length vs
  pub most : Most n fs

entered_long : (fs : List Kept) (e : Entry) → (place_of fs e < length (entered fs e)) × (length fs ≤ length (entered fs e))
unfolding entered
entered_long fs e =
    ⊎_elim
    (λ (g : place_of fs e < length fs). rw (lt-ltb (place_of fs e) (length fs) g) (g, omega arith))
    (λ (g : length fs ≤ place_of fs e).
    let l = place_most fs (text_of e.component) (text_of e.code) (text_of e.name) in
    let k = length-append fs (new_kept e ∷ []) in
    rw (le-ltb (place_of fs e) (length fs) g) (omega (arith, l, k), omega (arith, k)))
    (lt_or_ge (place_of fs e) (length fs))

bumped_long : (fs : List Kept) (e : Entry) → length (bumped_at fs e) ≡ length (entered fs e)
bumped_long fs e = rw (bumped_is fs e) (simp length-set)

-- the next entry
pub record Next (fs : List Kept) (vs : List ℕ) (ss : List Status) (n : ℕ) (e : Entry) : Type 0 where
  pub statuses : List Kept
  pub values : List ℕ
  pub told : Told statuses values (add ss e) (n + 1)
  pub is : noted (within fs vs) e ≡ limited statuses values

module _ {fs : List Kept} {vs : List ℕ} {ss : List Status} {n : ℕ} (t : Told fs vs ss n) (e : Entry) (h : n < 2 ^ 64 - 1) where
  next_value : e.known ≡ true → Next fs vs ss n e
  unfolding noted marked
  next_value k =
      let ws = vs ++ (value_word (place_of fs e) e.word ∷ []) in
      let l = entered_long fs e in
      record {
        statuses = entered fs e;
        values = ws;
        told =
            record {
              groups =
                  ap (λ (q : ℕ). grouped_from 0 (entered fs e) (vs ++ (value_word q e.word ∷ []))) (sym (zero-add (place_of fs e)))
                  ∙ grouped_value 0 fs vs e k (t.stray (0 + length fs) (omega arith))
                  ∙ ap (λ (x : List Status). add x e) t.groups;
              stray = λ p g. values_there p (place_of fs e) e.word vs (λ q. omega (arith, q, l.0)) ∙ t.stray p (omega (arith, l.1));
              all = total_add ss e ∙ rw k (omega (arith, t.all, length-append vs (value_word (place_of fs e) e.word ∷ [])));
              most = most_wider (n + 1) (omega arith) (most_entered fs e t.most);
            };
        is = rw k;
      }

  next_null : e.known ≡ false → Next fs vs ss n e
  unfolding noted marked
  next_null k =
      record {
        statuses = bumped_at fs e;
        values = vs;
        told =
            record {
              groups =
                  grouped_null 0 n fs vs e k (t.stray (0 + length fs) (omega arith)) t.most h
                  ∙ ap (λ (x : List Status). add x e) t.groups;
              stray = λ p g. t.stray p (omega (arith, bumped_long fs e, (entered_long fs e).1));
              all = total_add ss e ∙ rw k (omega (arith, t.all));
              most = most_bumped fs e t.most;
            };
        is =
            ap (λ (b : Bool). marked (entered fs e) vs (place_of fs e) b e.word) k
            ∙ ap (λ (l : List Kept). limited l vs) (sym (bumped_is fs e));
      }

  pub next : Next fs vs ss n e
  next = bool_cases e.known next_value next_null

-- the limits are the same on both sides
pub told_limited : {fs : List Kept} {vs : List ℕ} {ss : List Status} {n : ℕ} → Told fs vs ss n → limited fs vs ≡ pick (fits ss) (within fs vs) too_many
unfolding limited fits
told_limited {fs} {vs} {ss} t =
    let l : length ss ≡ length fs = sym (ap length t.groups) ∙ grouped_length 0 fs vs in
    rw (l, t.all)

-- what does not fit will not fit
pub fits_not : (ss : List Status) (e : Entry) → fits ss ≡ false → fits (add ss e) ≡ false
unfolding fits
fits_not ss e h =
    ⊎_elim
    (λ (a : length ss ≤ 64).
    ⊎_elim
    (λ (b : total ss ≤ 4000). not_both refl (rw (le-leb (length ss) 64 a, le-leb (total ss) 4000 b) at h))
    (λ (b : 4000 < total ss). both_no (leb (length (add ss e)) 64) _ (lt-leb (total (add ss e)) 4000 (omega (arith, total_add ss e))))
    (le_or_lt (total ss) 4000))
    (λ (a : 64 < length ss). rw (lt-leb (length (add ss e)) 64 (omega (arith, add_length ss e))))
    (le_or_lt (length ss) 64)
