-- What is asked of the awaited places straight from their words.
-- Assumes nothing.
use Rattle.basis.proofs.Std.{ℕ, zero, suc, ◌+◌, ◌-◌, ◌*◌, ◌%◌, ◌^◌, ◌<◌, ◌≤◌, ◌≡◌, refl, sym, ap, ap₂, ◌∙◌, Bool, true, false, List, [], ◌∷◌, mod-eq_of_lt, arith, eqb-true, eq-eqb, le-leb, lt-leb, eqb, leb, length, get_or, take, drop, pick, both, bit, count, bool_cases, both_true, both_of, same_is}
use Rattle.bits.specs.Fields.{bytes_of, number_of}
use Rattle.bits.proofs.Bytes.{number_bytes}
use Rattle.identity.specs.declared.Identity.{Identity}
use Rattle.awaited.specs.declared.Slot.{Slot}
use Rattle.awaited.specs.declared.Found.TheVariants.{For}
use Rattle.awaited.specs.Slot.{same_identity, is_free, is_taken, purpose_of, awaits_for}
use Rattle.awaited.specs.Awaited.{find_in, find_of, is_awaited, how_many_of}
use Rattle.store_words.specs.Words.{word, elements}
use Rattle.store_words.specs.Narrow.{identity_from}
use Rattle.store_words.proofs.Joined.{halves}
use Rattle.store_link.specs.Rows.{slot_from, slot_in, answers_to, awaited_in}

-- these two words are the identity's
abbrev pub Answers : List ℕ → ℕ → ℕ → Identity → Type 0
Answers ws a b id = (i : ℕ) → answers_to ws i a b ≡ awaits_for id (slot_in ws i)

-- a word whose bytes are these
word_back : (x : ℕ) (s : List ℕ) → x < 2 ^ 64 → bytes_of 8 x ≡ s → x ≡ number_of s % 2 ^ 64
word_back x s h e = sym (ap (λ (l : List ℕ). number_of l % 2 ^ 64) (sym e) ∙ ap (λ (n : ℕ). n % 2 ^ 64) (number_bytes 8 x h) ∙ mod-eq_of_lt h)

module _ (id : Identity) (l : length id.bytes ≡ 16) (low : (j : ℕ) → get_or id.bytes j 0 < 256) {a b : ℕ}
    (p : a ≡ number_of (take 8 id.bytes) % 2 ^ 64) (q : b ≡ number_of (take 8 (drop 8 id.bytes)) % 2 ^ 64) where
  there : (x y : ℕ) → both (eqb x a) (eqb y b) ≡ true → (identity_from x y).bytes ≡ id.bytes
  there x y t =
      let e = both_true (eqb x a) (eqb y b) t in
      ap (λ (k : Identity). k.bytes) (ap₂ identity_from (eqb-true x a e.0 ∙ p) (eqb-true y b e.1 ∙ q) ∙ halves id l low)

  back : (x y : ℕ) → x < 2 ^ 64 → y < 2 ^ 64 → (identity_from x y).bytes ≡ id.bytes → both (eqb x a) (eqb y b) ≡ true
  unfolding identity_from
  back x y f g e =
      both_of (eq-eqb x a (word_back x _ f (ap (λ (s : List ℕ). take 8 s) e) ∙ sym p))
      (eq-eqb y b (word_back y _ g (ap (λ (s : List ℕ). take 8 (drop 8 s)) e) ∙ sym q))

  words_same : (x y : ℕ) → x < 2 ^ 64 → y < 2 ^ 64 → both (eqb x a) (eqb y b) ≡ same_identity (identity_from x y) id
  unfolding same_identity
  words_same x y f g = same_is (identity_from x y).bytes id.bytes (both (eqb x a) (eqb y b)) (there x y) (back x y f g)

  pub answers_is : (ws : List ℕ) → ((j : ℕ) → word ws j < 2 ^ 64) → Answers ws a b id
  unfolding awaits_for slot_from
  answers_is ws h i = ap (λ (t : Bool). pick (is_free (slot_in ws i)) false t) (words_same (word ws (i + 2)) (word ws (i + 3)) (h (i + 2)) (h (i + 3)))

-- the places from number k on
abbrev pub slots_from : List ℕ → ℕ → ℕ → List Slot
slots_from ws i k = elements (λ (j : ℕ). slot_in ws (i + 4 * j)) k (16 - k)

one_more : {A : Type 0} (f : ℕ → A) (k : ℕ) → k < 16 → elements f k (16 - k) ≡ f k ∷ elements f (k + 1) (16 - (k + 1))
unfolding elements
one_more f k h =
    let e : 16 - k ≡ suc (16 - (k + 1)) = omega arith in
    let p : suc k ≡ k + 1 = omega arith in
    ap (λ (n : ℕ). elements f k n) e ∙ ap (λ (m : ℕ). f k ∷ elements f m (16 - (k + 1))) p

none_left : {A : Type 0} (f : ℕ → A) (k : ℕ) → 16 ≤ k → elements f k (16 - k) ≡ []
unfolding elements
none_left f k h =
    let e : 16 - k ≡ 0 = omega arith in
    ap (λ (n : ℕ). elements f k n) e

count_most : {A : Type 0} (g : A → Bool) (f : ℕ → A) (k n : ℕ) → count g (elements f k n) ≤ n
unfolding elements
count_most g f k zero = omega arith
count_most g f k (suc n) =
    bool_cases (g (f k)) (λ t. rw t (omega (arith, count_most g f (suc k) n))) (λ t. rw t (omega (arith, count_most g f (suc k) n)))

-- not found before number k
module _ (ws : List ℕ) (i : ℕ) (id : Identity) where
  abbrev pub Sought : ℕ → Type 0
  Sought k = find_of (awaited_in ws i) id ≡ find_in id (slots_from ws i k)

  pub sought : Sought 0
  unfolding awaited_in find_of
  sought = refl

  turn : (k : ℕ) → k < 16
      → find_in id (slots_from ws i k) ≡ pick (awaits_for id (slot_in ws (i + 4 * k))) (For (purpose_of (slot_in ws (i + 4 * k)))) (find_in id (slots_from ws i (k + 1)))
  unfolding find_in
  turn k h = ap (λ (l : List Slot). find_in id l) (one_more (λ (j : ℕ). slot_in ws (i + 4 * j)) k h)

  pub found : (k : ℕ) → k < 16 → Sought k → awaits_for id (slot_in ws (i + 4 * k)) ≡ true → true ≡ is_awaited (find_of (awaited_in ws i) id)
  found k h s t = rw (s, turn k h, t)

  pub sought_on : (k : ℕ) → k < 16 → Sought k → awaits_for id (slot_in ws (i + 4 * k)) ≡ false → Sought (k + 1)
  sought_on k h s t = rw (s, turn k h, t)

  pub not_found : (k : ℕ) → 16 ≤ k → Sought k → false ≡ is_awaited (find_of (awaited_in ws i) id)
  unfolding find_in
  not_found k h s = rw (s, none_left (λ (j : ℕ). slot_in ws (i + 4 * j)) k h)

-- none of the first k is free
module _ (ws : List ℕ) (i : ℕ) where
  abbrev pub Taken : ℕ → Type 0
  Taken k = k + count is_taken (slots_from ws i k) ≡ how_many_of (awaited_in ws i)

  pub taken : Taken 0
  unfolding awaited_in how_many_of
  taken = omega arith

  counted : (k : ℕ) → k < 16 → count is_taken (slots_from ws i k) ≡ bit (is_taken (slot_in ws (i + 4 * k))) + count is_taken (slots_from ws i (k + 1))
  counted k h = ap (λ (l : List Slot). count is_taken l) (one_more (λ (j : ℕ). slot_in ws (i + 4 * j)) k h)

  pub not_full : (k : ℕ) → k < 16 → Taken k → is_free (slot_in ws (i + 4 * k)) ≡ true → false ≡ leb 16 (how_many_of (awaited_in ws i))
  unfolding is_taken
  not_full k h s t =
      let e : count is_taken (slots_from ws i k) ≡ 0 + count is_taken (slots_from ws i (k + 1)) = rw t at (counted k h) in
      sym (lt-leb 16 (how_many_of (awaited_in ws i)) (omega (arith, s, e, count_most is_taken (λ (j : ℕ). slot_in ws (i + 4 * j)) (k + 1) (16 - (k + 1)))))

  pub taken_on : (k : ℕ) → k < 16 → Taken k → is_free (slot_in ws (i + 4 * k)) ≡ false → Taken (k + 1)
  unfolding is_taken
  taken_on k h s t =
      let e : count is_taken (slots_from ws i k) ≡ 1 + count is_taken (slots_from ws i (k + 1)) = rw t at (counted k h) in
      omega (arith, s, e)

  pub full : (k : ℕ) → 16 ≤ k → Taken k → true ≡ leb 16 (how_many_of (awaited_in ws i))
  full k h s = sym (le-leb 16 (how_many_of (awaited_in ws i)) (omega (arith, s)))
