-- The record that is guessed of twelve texts, branch by branch as the code goes.
-- Assumes nothing.
use Rattle.basis.proofs.Std.{ℕ, ◌+◌, ◌-◌, ◌^◌, ◌≤◌, ◌<◌, ◌≡◌, refl, true, false, List, [], ◌∷◌, arith, eq-eqb, ne_eqb, le-leb, lt-leb, lt-ltb, le-ltb, ⊎_elim, lt_or_ge, get_or, length, length-drop, take, take_all, drop, same_bytes}
use Rattle.std.specs.Prelude.{Result, Ok, Err, OkIff}
use Rattle.std.specs.Result.{result_unwrap_or}
use Rattle.number.specs.Reading.{says}
use Rattle.csv_words.specs.Words.{word_of}
use Rattle.csv_entry.specs.Guess.{number_in, below, signed_in, first_of, alarm_in, status_in, flags_in, value_in}

pub below_tried : (limit n : ℕ) {E : Type 0} (r : Result ℕ E) → OkIff r (n < limit) n → result_unwrap_or r 0 ≡ below limit n
unfolding below
below_tried limit n (Ok x) h = rw (lt-ltb n limit h.0) h.1
below_tried limit n (Err e) h = ⊎_elim (λ (l : n < limit). absurd (h l)) (λ (l : limit ≤ n). rw (le-ltb n limit l)) (lt_or_ge n limit)

module _ (f : List ℕ) where
  pub number_short : length f ≤ 15 → number_in f ≡ says 0 f
  unfolding number_in
  number_short h = rw (le-leb (length f) 15 h)

  pub number_long : 15 < length f → 0 ≡ number_in f
  unfolding number_in
  number_long h = rw (lt-leb (length f) 15 h)

  pub minus_in : get_or f 0 0 ≡ 45 → signed_in f ≡ 2 ^ 32 - number_in (take (length f - 1) (drop 1 f))
  unfolding signed_in
  minus_in h =
      let e : take (length f - 1) (drop 1 f) ≡ drop 1 f = take_all (length f - 1) (drop 1 f) (omega (arith, length-drop 1 f)) in
      rw (eq-eqb (get_or f 0 0) 45 h, e)

  pub no_minus_in : (get_or f 0 0 ≡ 45 → ⊥) → signed_in f ≡ number_in f
  unfolding signed_in
  no_minus_in h = rw (ne_eqb (get_or f 0 0) 45 h)

pub nothing_in : (f : List ℕ) → length f ≡ 0 → 0 ≡ signed_in f
unfolding signed_in number_in
nothing_in [] h = refl
nothing_in (b ∷ f) h = absurd (omega arith)

module _ (w : ℕ) (f : List ℕ) where
  pub first_word : same_bytes f (word_of w) ≡ true → 0 ≡ first_of w f
  unfolding first_of
  first_word a = rw a

  module _ (a : same_bytes f (word_of w) ≡ false) where
    pub second_word : same_bytes f (word_of (w + 1)) ≡ true → 1 ≡ first_of w f
    unfolding first_of
    second_word b = rw (a, b)

    module _ (b : same_bytes f (word_of (w + 1)) ≡ false) where
      pub third_word : same_bytes f (word_of (w + 2)) ≡ true → 2 ≡ first_of w f
      unfolding first_of
      third_word d = rw (a, b, d)

      pub no_word : same_bytes f (word_of (w + 2)) ≡ false → 3 ≡ first_of w f
      unfolding first_of
      no_word d = rw (a, b, d)

module _ (k : ℕ) (fs : List (List ℕ)) where
  pub alarm_flags_in : k ≡ 0 → flags_in k fs ≡ alarm_in (get_or fs 3 []) (get_or fs 4 []) (get_or fs 5 []) (get_or fs 6 [])
  unfolding flags_in
  alarm_flags_in h = rw (eq-eqb k 0 h)

  pub status_flags_in : k ≡ 1 → flags_in k fs ≡ status_in (get_or fs 7 []) (get_or fs 8 [])
  unfolding flags_in
  status_flags_in h = rw (ne_eqb k 0 (λ (q : k ≡ 0). omega arith), eq-eqb k 1 h)

  pub no_flags_in : (k ≡ 0 → ⊥) → (k ≡ 1 → ⊥) → 0 ≡ flags_in k fs
  unfolding flags_in
  no_flags_in g h = rw (ne_eqb k 0 g, ne_eqb k 1 h)

  pub no_value_in : k ≡ 0 → 0 ≡ value_in k fs
  unfolding value_in
  no_value_in h = rw (eq-eqb k 0 h)

  pub value_in_lem : (k ≡ 0 → ⊥) → value_in k fs ≡ below (2 ^ 32) (signed_in (get_or fs 10 []))
  unfolding value_in
  value_in_lem h = rw (ne_eqb k 0 h)
