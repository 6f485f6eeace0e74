-- The rows of UTF-8 are the code points' bytes: each code point that is no surrogate has one form, the one that `utf8` gives.
-- Assumes nothing.
use Rattle.basis.proofs.Std.{ℕ, ◌+◌, ◌-◌, ◌*◌, ◌/◌, ◌%◌, ◌<◌, ◌≤◌, ◌≡◌, sym, subst, List, [], ◌∷◌, ◌++◌, ◌⊎◌, inl, inr, ⊎_elim, arith, lt-ltb, le-ltb, lt_or_ge}
use Rattle.json_character.specs.Utf8.{In, Tail, Utf8, two, three, four}
use Rattle.json_character.specs.Utf8.Utf8.{utf8_1, utf8_2, utf8_3_E0, utf8_3_E1, utf8_3_ED, utf8_3_EE, utf8_4_F0, utf8_4_F1, utf8_4_F4}
use Rattle.json_character.proofs.Ranges.{between}
use Rattle.json_character.proofs.Sound.{three_row, four_row}
use Rattle.json_character.specs.Encoded.{Scalar, utf8}

-- `utf8` of each width
utf8_of_1 : (c : ℕ) → c < 0x80 → utf8 c ≡ c ∷ []
unfolding utf8
utf8_of_1 c h = simp (lt-ltb _ _ h)

utf8_of_2 : (c : ℕ) → 0x80 ≤ c → c < 0x800 → utf8 c ≡ (0xc0 + c / 0x40) ∷ (0x80 + c % 0x40) ∷ []
unfolding utf8
utf8_of_2 c h g = simp (le-ltb _ _ h, lt-ltb _ _ g)

utf8_of_3 : (c : ℕ) → 0x800 ≤ c → c < 0x10000 → utf8 c ≡ (0xe0 + c / 0x1000) ∷ (0x80 + c / 0x40 % 0x40) ∷ (0x80 + c % 0x40) ∷ []
unfolding utf8
utf8_of_3 c h g = simp (le-ltb c 0x80 (omega arith), le-ltb _ _ h, lt-ltb _ _ g)

utf8_of_4 : (c : ℕ) → 0x10000 ≤ c → utf8 c ≡ (0xf0 + c / 0x40000) ∷ (0x80 + c / 0x1000 % 0x40) ∷ (0x80 + c / 0x40 % 0x40) ∷ (0x80 + c % 0x40) ∷ []
unfolding utf8
utf8_of_4 c h = simp (le-ltb c 0x80 (omega arith), le-ltb c 0x800 (omega arith), le-ltb _ _ h)

scalar_gap : {c : ℕ} → Scalar c → (c < 0xd800) ⊎ (0xe000 ≤ c)
scalar_gap (Scalar.below_surrogates i) = inl (omega arith)
scalar_gap (Scalar.above_surrogates i) = inr (omega arith)

scalar_top : {c : ℕ} → Scalar c → c < 0x110000
scalar_top (Scalar.below_surrogates i) = omega arith
scalar_top (Scalar.above_surrogates i) = omega arith

-- what `utf8` writes is read as the code point it was written for
pub written : (c : ℕ) → Scalar c → (r : List ℕ) → Utf8 (utf8 c ++ r) r c
written c k r =
    ⊎_elim (λ x. rw (utf8_of_1 c x) (utf8_1 {a = c} (record { from = omega arith; to = omega arith }))) (λ x.
    ⊎_elim (λ y. rw (utf8_of_2 c x y) (by_two x y)) (λ y.
    ⊎_elim (λ z. rw (utf8_of_3 c y z) (by_three y z)) (λ z. rw (utf8_of_4 c z) (by_four z)) (lt_or_ge c 0x10000)) (lt_or_ge c 0x800)) (lt_or_ge c 0x80)
  where
    top : c < 0x110000
    top = scalar_top k

    by_two : 0x80 ≤ c → c < 0x800 → Utf8 ((0xc0 + c / 0x40) ∷ (0x80 + c % 0x40) ∷ r) r c
    by_two h g =
        let e : two (0xc0 + c / 0x40) (0x80 + c % 0x40) ≡ c = omega arith in
        subst (λ (n : ℕ). Utf8 ((0xc0 + c / 0x40) ∷ (0x80 + c % 0x40) ∷ r) r n) e (utf8_2 {a = 0xc0 + c / 0x40} {b = 0x80 + c % 0x40} (record { from = omega arith; to = omega arith }) (record { from = omega arith; to = omega arith }))

    by_three : 0x800 ≤ c → c < 0x10000 → Utf8 ((0xe0 + c / 0x1000) ∷ (0x80 + c / 0x40 % 0x40) ∷ (0x80 + c % 0x40) ∷ r) r c
    by_three h g =
        let e : three (0xe0 + c / 0x1000) (0x80 + c / 0x40 % 0x40) (0x80 + c % 0x40) ≡ c = omega arith in
        subst (λ (n : ℕ). Utf8 ((0xe0 + c / 0x1000) ∷ (0x80 + c / 0x40 % 0x40) ∷ (0x80 + c % 0x40) ∷ r) r n) e (three_row (0xe0 + c / 0x1000) (0x80 + c / 0x40 % 0x40) (0x80 + c % 0x40) r (omega arith) (omega arith) (omega arith) (omega arith) (omega arith) (omega arith) (omega arith) (⊎_elim (λ n. inl (omega arith)) (λ n. inr (omega arith)) (scalar_gap k)))

    by_four : 0x10000 ≤ c → Utf8 ((0xf0 + c / 0x40000) ∷ (0x80 + c / 0x1000 % 0x40) ∷ (0x80 + c / 0x40 % 0x40) ∷ (0x80 + c % 0x40) ∷ r) r c
    by_four h =
        let t = top in
        let f : c / 0x40 / 0x40 ≡ c / 0x1000 = omega arith in
        let g : c / 0x1000 / 0x40 ≡ c / 0x40000 = omega arith in
        let e : four (0xf0 + c / 0x40000) (0x80 + c / 0x1000 % 0x40) (0x80 + c / 0x40 % 0x40) (0x80 + c % 0x40) ≡ c = omega arith in
        subst (λ (n : ℕ). Utf8 ((0xf0 + c / 0x40000) ∷ (0x80 + c / 0x1000 % 0x40) ∷ (0x80 + c / 0x40 % 0x40) ∷ (0x80 + c % 0x40) ∷ r) r n) e (four_row (0xf0 + c / 0x40000) (0x80 + c / 0x1000 % 0x40) (0x80 + c / 0x40 % 0x40) (0x80 + c % 0x40) r (omega arith) (omega arith) (omega arith) (omega arith) (omega arith) (omega arith) (omega arith) (omega arith) (omega arith) (omega arith))

-- no surrogate is read
pub scalar : {t r : List ℕ} {c : ℕ} → Utf8 t r c → Scalar c
scalar (utf8_1 i) = Scalar.below_surrogates (record { from = omega arith; to = omega arith })
scalar (utf8_2 i j) = Scalar.below_surrogates (record { from = omega arith; to = omega arith })
scalar (utf8_3_E0 i j k) = Scalar.below_surrogates (record { from = omega arith; to = omega arith })
scalar (utf8_3_E1 i j k) = Scalar.below_surrogates (record { from = omega arith; to = omega arith })
scalar (utf8_3_ED i j k) = Scalar.below_surrogates (record { from = omega arith; to = omega arith })
scalar (utf8_3_EE i j k) = Scalar.above_surrogates (record { from = omega arith; to = omega arith })
scalar (utf8_4_F0 i j k l) = Scalar.above_surrogates (record { from = omega arith; to = omega arith })
scalar (utf8_4_F1 i j k l) = Scalar.above_surrogates (record { from = omega arith; to = omega arith })
scalar (utf8_4_F4 i j k l) = Scalar.above_surrogates (record { from = omega arith; to = omega arith })

module _ (a b c d : ℕ) (r : List ℕ) where
  only_two : In 0xc2 0xdf a → Tail b → a ∷ b ∷ r ≡ utf8 (two a b) ++ r
  only_two i j =
      let p : 0xc0 + two a b / 0x40 ≡ a = omega arith in
      let q : 0x80 + two a b % 0x40 ≡ b = omega arith in
      sym (rw (utf8_of_2 (two a b) (omega arith) (omega arith), p, q))

  only_three : In 0xe0 0xef a → Tail b → Tail c → 0x800 ≤ three a b c → a ∷ b ∷ c ∷ r ≡ utf8 (three a b c) ++ r
  only_three i j k h =
      let f : three a b c / 0x40 ≡ (a - 0xe0) * 0x40 + (b - 0x80) = omega arith in
      let p : 0xe0 + three a b c / 0x1000 ≡ a = omega arith in
      let q : 0x80 + three a b c / 0x40 % 0x40 ≡ b = omega arith in
      let s : 0x80 + three a b c % 0x40 ≡ c = omega arith in
      sym (rw (utf8_of_3 (three a b c) h (omega arith), p, q, s))

  only_four : In 0xf0 0xf4 a → Tail b → Tail c → Tail d → 0x10000 ≤ four a b c d → a ∷ b ∷ c ∷ d ∷ r ≡ utf8 (four a b c d) ++ r
  only_four i j k l h =
      let f : four a b c d / 0x40 ≡ (a - 0xf0) * 0x1000 + (b - 0x80) * 0x40 + (c - 0x80) = omega arith in
      let g : four a b c d / 0x1000 ≡ (a - 0xf0) * 0x40 + (b - 0x80) = omega arith in
      let p : 0xf0 + four a b c d / 0x40000 ≡ a = omega arith in
      let q : 0x80 + four a b c d / 0x1000 % 0x40 ≡ b = omega arith in
      let s : 0x80 + four a b c d / 0x40 % 0x40 ≡ c = omega arith in
      let t : 0x80 + four a b c d % 0x40 ≡ d = omega arith in
      sym (rw (utf8_of_4 (four a b c d) h, p, q, s, t))

-- a code point is read from no other bytes
pub only : {t r : List ℕ} {c : ℕ} → Utf8 t r c → t ≡ utf8 c ++ r
only (utf8_1 {a = a} i) = sym (rw (utf8_of_1 a (omega arith)))
only (utf8_2 {a = a} {b = b} {r = r} i j) = only_two a b 0 0 r i j
only (utf8_3_E0 {a = a} {b = b} {c = c} {r = r} i j k) = only_three a b c 0 r (between i (omega arith) (omega arith)) (between j (omega arith) (omega arith)) k (omega arith)
only (utf8_3_E1 {a = a} {b = b} {c = c} {r = r} i j k) = only_three a b c 0 r (between i (omega arith) (omega arith)) j k (omega arith)
only (utf8_3_ED {a = a} {b = b} {c = c} {r = r} i j k) = only_three a b c 0 r (between i (omega arith) (omega arith)) (between j (omega arith) (omega arith)) k (omega arith)
only (utf8_3_EE {a = a} {b = b} {c = c} {r = r} i j k) = only_three a b c 0 r (between i (omega arith) (omega arith)) j k (omega arith)
only (utf8_4_F0 {a = a} {b = b} {c = c} {d = d} {r = r} i j k l) = only_four a b c d r (between i (omega arith) (omega arith)) (between j (omega arith) (omega arith)) k l (omega arith)
only (utf8_4_F1 {a = a} {b = b} {c = c} {d = d} {r = r} i j k l) = only_four a b c d r (between i (omega arith) (omega arith)) j k l (omega arith)
only (utf8_4_F4 {a = a} {b = b} {c = c} {d = d} {r = r} i j k l) = only_four a b c d r (between i (omega arith) (omega arith)) (between j (omega arith) (omega arith)) k l (omega arith)
