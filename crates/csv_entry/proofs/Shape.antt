-- What the fields of a record are: simple texts, twelve of them; and the record that is guessed from them is the record.
-- Assumes nothing.
use Rattle.basis.proofs.Std.{ℕ, zero, suc, ◌+◌, ◌-◌, ◌^◌, ◌≤◌, ◌<◌, ◌≡◌, refl, sym, ap, subst, ◌∙◌, Bool, true, false, List, [], ◌∷◌, arith, T, leb, le-leb, lt-ltb, le-ltb, leb→le, eqb, eq-eqb, ne_eqb, lt_or_ge, ⊎_elim, picked, both, get_or, length, replicate, get_or-eq_default}
use Rattle.basis.proofs.Table.{at, both_left, both_right}
use Rattle.number.specs.Decimal.{digits, decimal_of}
use Rattle.number.specs.Signed.{signed_of}
use Rattle.number.proofs.Digits.{one_digit, says_digits, digits_length, begins}
use Rattle.entry.specs.declared.Entry.{Entry}
use Rattle.entry.specs.Flags.{event_of}
use Rattle.csv_words.specs.Words.{words, word_of, kind_word, event_word}
use Rattle.csv_entry.specs.Fields.{yes_no, alarm_fields, status_fields, aggregated_fields, fields_of}
use Rattle.csv_entry.specs.Guess.{number_in, below, signed_in, is_one, first_of, kind_in, event_in}
use Rattle.csv_entry.proofs.Simple.{Simple, AllSimple, digits_simple, decimal_simple}

-- words

simpleb : List ℕ → Bool
simpleb [] = true
simpleb (b ∷ d) = both (leb 45 b) (simpleb d)

simple_of : (d : List ℕ) → T (simpleb d) → Simple d
unfolding simpleb
simple_of [] t = Simple.none
simple_of (b ∷ d) t = Simple.next (leb→le 45 b (both_left (leb 45 b) (simpleb d) t)) (simple_of d (both_right (leb 45 b) (simpleb d) t))

pub word_simple : (i : ℕ) → Simple (word_of i)
unfolding simpleb
word_simple i = ⊎_elim
    (λ (h : i < 18). simple_of (word_of i) (at (λ (k x : ℕ). simpleb (word_of k)) (replicate 18 0) tt i h))
    (λ (h : 18 ≤ i). subst Simple (sym (get_or-eq_default words [] h)) Simple.none)
    (lt_or_ge i 18)

-- the three words from w on are three
pub three : (k : ℕ) → k < 3 → (kind_in (kind_word k) ≡ k) × (event_in (event_word k) ≡ k)
unfolding first_of
three zero h = (refl, refl)
three (suc zero) h = (refl, refl)
three (suc (suc zero)) h = (refl, refl)
three (suc (suc (suc k))) h = absurd (omega arith)

-- the fields of each kind

module _ (e : Entry) where
  pub as_alarm : e.kind ≡ 0 → fields_of e ≡ alarm_fields e
  unfolding fields_of
  as_alarm h = rw (eq-eqb e.kind 0 h)

  pub as_status : e.kind ≡ 1 → fields_of e ≡ status_fields e
  unfolding fields_of
  as_status h = rw (ne_eqb e.kind 0 (λ q. omega arith), eq-eqb e.kind 1 h)

  pub as_other : (e.kind ≡ 0 → ⊥) → (e.kind ≡ 1 → ⊥) → fields_of e ≡ aggregated_fields e
  unfolding fields_of
  as_other h g = rw (ne_eqb e.kind 0 h, ne_eqb e.kind 1 g)

  pub as_aggregated : e.kind ≡ 2 → fields_of e ≡ aggregated_fields e
  as_aggregated h = as_other (λ (q : e.kind ≡ 0). omega arith) (λ (q : e.kind ≡ 1). omega arith)

  alarm_simple : AllSimple (alarm_fields e)
  alarm_simple =
      AllSimple.next (digits_simple e.link) (AllSimple.next (word_simple 0) (AllSimple.next (digits_simple e.item)
      (AllSimple.next (word_simple (3 + event_of e.flags)) (AllSimple.next (digits_simple _) (AllSimple.next (digits_simple _) (AllSimple.next (digits_simple _)
      (AllSimple.next Simple.none (AllSimple.next Simple.none
      (AllSimple.next (digits_simple e.time) (AllSimple.next Simple.none (AllSimple.next (digits_simple e.sequence) AllSimple.none)))))))))))

  status_simple : AllSimple (status_fields e)
  status_simple =
      AllSimple.next (digits_simple e.link) (AllSimple.next (word_simple 1) (AllSimple.next (digits_simple e.item)
      (AllSimple.next Simple.none (AllSimple.next Simple.none (AllSimple.next Simple.none (AllSimple.next Simple.none
      (AllSimple.next (digits_simple _) (AllSimple.next (digits_simple _)
      (AllSimple.next (digits_simple e.time) (AllSimple.next (decimal_simple (signed_of e.value)) (AllSimple.next (digits_simple e.sequence) AllSimple.none)))))))))))

  aggregated_simple : AllSimple (aggregated_fields e)
  aggregated_simple =
      AllSimple.next (digits_simple e.link) (AllSimple.next (word_simple 2) (AllSimple.next (digits_simple e.item)
      (AllSimple.next Simple.none (AllSimple.next Simple.none (AllSimple.next Simple.none (AllSimple.next Simple.none
      (AllSimple.next Simple.none (AllSimple.next Simple.none
      (AllSimple.next (digits_simple e.time) (AllSimple.next (digits_simple e.value) (AllSimple.next (digits_simple e.sequence) AllSimple.none)))))))))))

  by_kind : (P : List (List ℕ) → Type 0) → P (alarm_fields e) → P (status_fields e) → P (aggregated_fields e) → P (fields_of e)
  unfolding fields_of
  by_kind P a s g = picked P (eqb e.kind 0) _ _ (λ _. a) (λ _. picked P (eqb e.kind 1) _ _ (λ _. s) (λ _. g))

  pub fields_simple : AllSimple (fields_of e)
  fields_simple = by_kind AllSimple alarm_simple status_simple aggregated_simple

  pub twelve : length (fields_of e) ≡ 12
  twelve = by_kind (λ (ds : List (List ℕ)). length ds ≡ 12) refl refl refl

  pub link_is : get_or (fields_of e) 0 [] ≡ digits e.link
  link_is = by_kind (λ (ds : List (List ℕ)). get_or ds 0 [] ≡ digits e.link) refl refl refl

  pub item_is : get_or (fields_of e) 2 [] ≡ digits e.item
  item_is = by_kind (λ (ds : List (List ℕ)). get_or ds 2 [] ≡ digits e.item) refl refl refl

  pub time_is : get_or (fields_of e) 9 [] ≡ digits e.time
  time_is = by_kind (λ (ds : List (List ℕ)). get_or ds 9 [] ≡ digits e.time) refl refl refl

  pub sequence_is : get_or (fields_of e) 11 [] ≡ digits e.sequence
  sequence_is = by_kind (λ (ds : List (List ℕ)). get_or ds 11 [] ≡ digits e.sequence) refl refl refl

-- numbers

pub number_back : (n : ℕ) → n < 10 ^ 15 → number_in (digits n) ≡ n
unfolding number_in
number_back n h = rw (le-leb (length (digits n)) 15 (digits_length 14 n h)) (says_digits n)

pub below_back : (limit n : ℕ) → n < limit → below limit n ≡ n
unfolding below
below_back limit n h = rw (lt-ltb n limit h)

pub small_back : (limit n : ℕ) → n < limit → limit ≤ 10 ^ 15 → below limit (number_in (digits n)) ≡ n
small_back limit n h l = rw (number_back n (omega arith)) (below_back limit n h)

pub one_back : (b : Bool) → is_one (yes_no b) ≡ b
one_back true = ap is_one (one_digit 1 (omega arith))
one_back false = ap is_one (one_digit 0 (omega arith))

first_digit : (n : ℕ) → eqb (get_or (digits n) 0 0) 45 ≡ false
first_digit n = let b = begins n in rw b.whole (ne_eqb b.first 45 (λ q. omega (arith, b.low)))

pub signed_back : (n : ℕ) → n < 10 ^ 15 → signed_in (digits n) ≡ n
unfolding signed_in
signed_back n h = rw (first_digit n) (number_back n h)

minus_back : (n : ℕ) → n < 10 ^ 15 → signed_in (45 ∷ digits n) ≡ 2 ^ 32 - n
unfolding signed_in
minus_back n h = ap (λ (m : ℕ). 2 ^ 32 - m) (number_back n h)

pub decimal_low : (v : ℕ) → v < 2 ^ 31 → decimal_of (signed_of v) ≡ digits v
unfolding decimal_of
decimal_low v l = rw (lt-ltb v (2 ^ 31) l)

pub decimal_high : (v : ℕ) → 2 ^ 31 ≤ v → v < 2 ^ 32 → decimal_of (signed_of v) ≡ 45 ∷ digits (2 ^ 32 - v)
unfolding decimal_of
decimal_high v l h =
    let k : suc (2 ^ 32 - suc v) ≡ 2 ^ 32 - v = omega arith in
    rw (le-ltb v (2 ^ 31) l) (ap (λ (m : ℕ). 45 ∷ digits m) k)

pub value_back : (v : ℕ) → v < 2 ^ 32 → signed_in (decimal_of (signed_of v)) ≡ v
value_back v h = ⊎_elim
    (λ (l : v < 2 ^ 31). ap signed_in (decimal_low v l) ∙ signed_back v (omega arith))
    (λ (l : 2 ^ 31 ≤ v). ap signed_in (decimal_high v l h) ∙ minus_back (2 ^ 32 - v) (omega arith) ∙ omega arith)
    (lt_or_ge v (2 ^ 31))
