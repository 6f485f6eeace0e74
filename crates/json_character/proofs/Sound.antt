-- What the definition reads is in the grammar.
-- Assumes nothing.
use Rattle.basis.proofs.Std.{ℕ, ◌+◌, ◌-◌, ◌*◌, ◌<◌, ◌≤◌, ◌≡◌, refl, sym, subst, true, List, [], ◌∷◌, ◌⊎◌, inl, inr, ⊎_elim, arith, add-zero, ltb, leb, eqb, length, get_or, drop, length-drop, get_or-drop, drop-drop, ltb-true, ltb-false, leb-true, eqb-true, eqb-false, pick, picked, lt_or_ge}
use Rattle.json_character.proofs.Laws.{digits}
use Rattle.json_character.proofs.Lists.{next}
use Rattle.json_character.specs.declared.Char.{Char}
use Rattle.json_character.specs.declared.Char.TheVariants.{One, Close, Bad}
use Rattle.json_character.specs.Char.{hex_of, hex4_of, hex4_at, escape_of, unicode_of, two_of, in_three, three_of, in_four, four_of, raw_of, char_of}
use Rattle.json_character.specs.Utf8.{Tail, Utf8, two, three, four}
use Rattle.json_character.specs.Utf8.Utf8.{utf8_1, utf8_2, utf8_3_E0, utf8_3_E1, utf8_3_ED, utf8_3_EE, utf8_4_F0, utf8_4_F1, utf8_4_F4}
use Rattle.json_character.specs.Grammar.{Unescaped, Escape, Hex, Hex4, Alone, Character}

-- what an answer at the start of t says
abbrev pub Says : List ℕ → Char → Type 0
Says t (One c w) = (w < length t) × Character t (drop (1 + w) t) c
Says t Close = t ≡ 0x22 ∷ drop 1 t
Says t Bad = Unit {0}

two_says : (a : ℕ) (t : List ℕ) → 0xc2 ≤ a → a < 0xe0 → Says (a ∷ t) (two_of a (get_or t 0 0))
unfolding two_of
two_says a [] h g = tt
two_says a (b ∷ r) h g =
    picked (Says (a ∷ b ∷ r)) (leb 0x80 b) _ _ (λ e.
    picked (Says (a ∷ b ∷ r)) (ltb b 0xc0) _ _ (λ f. made (leb-true _ _ e) (ltb-true _ _ f)) (λ f. tt)) (λ e. tt)
  where
    made : 0x80 ≤ b → b < 0xc0 → Says (a ∷ b ∷ r) (One (two a b) 1)
    made p q = (omega arith, Character.unescaped (utf8_2 (record { from = h; to = omega arith }) (record { from = p; to = omega arith })) (Unescaped.above (record { from = omega arith; to = omega arith })))

-- a code point of more than one byte
high : {t r : List ℕ} {c : ℕ} → Utf8 t r c → 0x80 ≤ c → c ≤ 0x10ffff → Character t r c
high u h g = Character.unescaped u (Unescaped.above (record { from = omega arith; to = g }))

module _ (a b c : ℕ) (r : List ℕ) (a₁ : 0xe0 ≤ a) (a₂ : a < 0xf0) (b₁ : 0x80 ≤ b) (b₂ : b < 0xc0) (c₁ : 0x80 ≤ c) (c₂ : c < 0xc0) where
  pub three_row : 0x800 ≤ three a b c → (three a b c < 0xd800) ⊎ (0xe000 ≤ three a b c) → Utf8 (a ∷ b ∷ c ∷ r) r (three a b c)
  three_row h g =
      ⊎_elim (λ x. utf8_3_E0 (record { from = a₁; to = omega arith }) (record { from = omega arith; to = omega arith }) last) (λ x.
      ⊎_elim (λ y. utf8_3_E1 (record { from = omega arith; to = omega arith }) second last) (λ y.
      ⊎_elim (λ z. utf8_3_ED (record { from = y; to = omega arith }) (record { from = b₁; to = ⊎_elim (λ n. omega arith) (λ n. omega arith) g }) last) (λ z. utf8_3_EE (record { from = z; to = omega arith }) second last) (lt_or_ge a 0xee)) (lt_or_ge a 0xed)) (lt_or_ge a 0xe1)
    where
      second : Tail b
      second = record { from = b₁; to = omega arith }

      last : Tail c
      last = record { from = c₁; to = omega arith }

  three_made : 0x800 ≤ three a b c → (three a b c < 0xd800) ⊎ (0xe000 ≤ three a b c) → Says (a ∷ b ∷ c ∷ r) (One (three a b c) 2)
  three_made h g = (omega arith, high (three_row h g) (omega arith) (omega arith))

  in_three_lem : Says (a ∷ b ∷ c ∷ r) (in_three (three a b c))
  unfolding in_three
  in_three_lem =
      picked P (ltb n 0x800) _ _ (λ e. tt) (λ e.
      picked P (ltb n 0xd800) _ _ (λ f. three_made (ltb-false _ _ e) (inl (ltb-true _ _ f))) (λ f.
      picked P (ltb n 0xe000) _ _ (λ g. tt) (λ g. three_made (ltb-false _ _ e) (inr (ltb-false _ _ g)))))
    where
      n : ℕ
      n = three a b c

      P : Char → Type 0
      P = Says (a ∷ b ∷ c ∷ r)

three_says : (a : ℕ) (t : List ℕ) → 0xe0 ≤ a → a < 0xf0 → Says (a ∷ t) (three_of a (get_or t 0 0) (get_or t 1 0))
unfolding three_of
three_says a [] h g = tt
three_says a (b ∷ []) h g = picked P (leb 0x80 b) _ _ (λ e. picked P (ltb b 0xc0) _ _ (λ f. tt) (λ f. tt)) (λ e. tt)
  where
    P : Char → Type 0
    P = Says (a ∷ b ∷ [])
three_says a (b ∷ c ∷ r) h g =
    picked P (leb 0x80 b) _ _ (λ e.
    picked P (ltb b 0xc0) _ _ (λ f.
    picked P (leb 0x80 c) _ _ (λ i.
    picked P (ltb c 0xc0) _ _ (λ j. in_three_lem a b c r h g (leb-true _ _ e) (ltb-true _ _ f) (leb-true _ _ i) (ltb-true _ _ j)) (λ j. tt)) (λ i. tt)) (λ f. tt)) (λ e. tt)
  where
    P : Char → Type 0
    P = Says (a ∷ b ∷ c ∷ r)

module _ (a b c d : ℕ) (r : List ℕ) (a₁ : 0xf0 ≤ a) (a₂ : a < 0xf5) (b₁ : 0x80 ≤ b) (b₂ : b < 0xc0) (c₁ : 0x80 ≤ c) (c₂ : c < 0xc0) (d₁ : 0x80 ≤ d) (d₂ : d < 0xc0) where
  pub four_row : 0x10000 ≤ four a b c d → four a b c d < 0x110000 → Utf8 (a ∷ b ∷ c ∷ d ∷ r) r (four a b c d)
  four_row h g =
      ⊎_elim (λ x. utf8_4_F0 (record { from = a₁; to = omega arith }) (record { from = omega arith; to = omega arith }) third last) (λ x.
      ⊎_elim (λ y. utf8_4_F1 (record { from = x; to = omega arith }) (record { from = b₁; to = omega arith }) third last) (λ y. utf8_4_F4 (record { from = y; to = omega arith }) (record { from = b₁; to = omega arith }) third last) (lt_or_ge a 0xf4)) (lt_or_ge a 0xf1)
    where
      third : Tail c
      third = record { from = c₁; to = omega arith }

      last : Tail d
      last = record { from = d₁; to = omega arith }

  in_four_lem : Says (a ∷ b ∷ c ∷ d ∷ r) (in_four (four a b c d))
  unfolding in_four
  in_four_lem = picked P (ltb n 0x10000) _ _ (λ e. tt) (λ e. picked P (ltb n 0x110000) _ _ (λ f. made (ltb-false _ _ e) (ltb-true _ _ f)) (λ f. tt))
    where
      n : ℕ
      n = four a b c d

      P : Char → Type 0
      P = Says (a ∷ b ∷ c ∷ d ∷ r)

      made : 0x10000 ≤ n → n < 0x110000 → Says (a ∷ b ∷ c ∷ d ∷ r) (One (four a b c d) 3)
      made h g = (omega arith, high (four_row h g) (omega arith) (omega arith))

four_says : (a : ℕ) (t : List ℕ) → 0xf0 ≤ a → a < 0xf5 → Says (a ∷ t) (four_of a (get_or t 0 0) (get_or t 1 0) (get_or t 2 0))
unfolding four_of
four_says a [] h g = tt
four_says a (b ∷ []) h g = picked P (leb 0x80 b) _ _ (λ e. picked P (ltb b 0xc0) _ _ (λ f. tt) (λ f. tt)) (λ e. tt)
  where
    P : Char → Type 0
    P = Says (a ∷ b ∷ [])
four_says a (b ∷ c ∷ []) h g =
    picked P (leb 0x80 b) _ _ (λ e.
    picked P (ltb b 0xc0) _ _ (λ f.
    picked P (leb 0x80 c) _ _ (λ i.
    picked P (ltb c 0xc0) _ _ (λ j. tt) (λ j. tt)) (λ i. tt)) (λ f. tt)) (λ e. tt)
  where
    P : Char → Type 0
    P = Says (a ∷ b ∷ c ∷ [])
four_says a (b ∷ c ∷ d ∷ r) h g =
    picked P (leb 0x80 b) _ _ (λ e.
    picked P (ltb b 0xc0) _ _ (λ f.
    picked P (leb 0x80 c) _ _ (λ i.
    picked P (ltb c 0xc0) _ _ (λ j.
    picked P (leb 0x80 d) _ _ (λ k.
    picked P (ltb d 0xc0) _ _ (λ l. in_four_lem a b c d r h g (leb-true _ _ e) (ltb-true _ _ f) (leb-true _ _ i) (ltb-true _ _ j) (leb-true _ _ k) (ltb-true _ _ l)) (λ l. tt)) (λ k. tt)) (λ j. tt)) (λ i. tt)) (λ f. tt)) (λ e. tt)
  where
    P : Char → Type 0
    P = Says (a ∷ b ∷ c ∷ d ∷ r)

raw_says : (a : ℕ) (t : List ℕ) → ¬ (a ≡ 0x22) → ¬ (a ≡ 0x5c) → Says (a ∷ t) (raw_of a (get_or t 0 0) (get_or t 1 0) (get_or t 2 0))
unfolding raw_of
raw_says a t p q =
    picked P (ltb a 0x20) _ _ (λ e. tt) (λ e.
    picked P (ltb a 0x80) _ _ (λ f. one (ltb-false _ _ e) (ltb-true _ _ f)) (λ f.
    picked P (ltb a 0xc2) _ _ (λ g. tt) (λ g.
    picked P (ltb a 0xe0) _ _ (λ h. two_says a t (ltb-false _ _ g) (ltb-true _ _ h)) (λ h.
    picked P (ltb a 0xf0) _ _ (λ i. three_says a t (ltb-false _ _ h) (ltb-true _ _ i)) (λ i.
    picked P (ltb a 0xf5) _ _ (λ j. four_says a t (ltb-false _ _ i) (ltb-true _ _ j)) (λ j. tt))))))
  where
    P : Char → Type 0
    P = Says (a ∷ t)

    sort : 0x20 ≤ a → a < 0x80 → Unescaped a
    sort h g =
        ⊎_elim (λ x. Unescaped.below_quote (record { from = h; to = omega arith })) (λ x.
        ⊎_elim (λ y. Unescaped.below_backslash (record { from = omega arith; to = omega arith })) (λ y. Unescaped.above (record { from = omega arith; to = omega arith })) (lt_or_ge a 0x5c)) (lt_or_ge a 0x22)

    one : 0x20 ≤ a → a < 0x80 → Says (a ∷ t) (One a 0)
    one h g = (omega arith, Character.unescaped (utf8_1 {a = a} (record { from = omega arith; to = omega arith })) (sort h g))

hex_says : (b : ℕ) → hex_of b < 16 → Hex b (hex_of b)
unfolding hex_of
hex_says b =
    picked P (ltb b 0x30) _ _ (λ e k. absurd (omega arith)) (λ e.
    picked P (ltb b 0x3a) _ _ (λ f k. decimal (ltb-false _ _ e) (ltb-true _ _ f)) (λ f.
    picked P (ltb b 0x41) _ _ (λ g k. absurd (omega arith)) (λ g.
    picked P (ltb b 0x47) _ _ (λ h k. upper (ltb-false _ _ g) (ltb-true _ _ h)) (λ h.
    picked P (ltb b 0x61) _ _ (λ i k. absurd (omega arith)) (λ i.
    picked P (ltb b 0x67) _ _ (λ j k. lower (ltb-false _ _ i) (ltb-true _ _ j)) (λ j k. absurd (omega arith)))))))
  where
    P : ℕ → Type 0
    P v = v < 16 → Hex b v

    decimal : 0x30 ≤ b → b < 0x3a → Hex b (b - 0x30)
    decimal h g = Hex.decimal (record { from = h; to = omega arith })

    upper : 0x41 ≤ b → b < 0x47 → Hex b (b - 0x37)
    upper h g = subst (λ (v : ℕ). Hex b v) (omega arith) (Hex.upper (record { from = h; to = omega arith }))

    lower : 0x61 ≤ b → b < 0x67 → Hex b (b - 0x57)
    lower h g = subst (λ (v : ℕ). Hex b v) (omega arith) (Hex.lower (record { from = h; to = omega arith }))

four_digits : (a b c d : ℕ) → hex4_of a b c d < 0x10000 → (hex_of a < 16) × (hex_of b < 16) × (hex_of c < 16) × (hex_of d < 16)
unfolding hex4_of
four_digits a b c d =
    picked P (ltb (hex_of a) 16) _ _ (λ e.
    picked P (ltb (hex_of b) 16) _ _ (λ f.
    picked P (ltb (hex_of c) 16) _ _ (λ g.
    picked P (ltb (hex_of d) 16) _ _ (λ h k. (ltb-true _ _ e, ltb-true _ _ f, ltb-true _ _ g, ltb-true _ _ h)) (λ h k. absurd (omega arith))) (λ g k. absurd (omega arith))) (λ f k. absurd (omega arith))) (λ e k. absurd (omega arith))
  where
    P : ℕ → Type 0
    P v = v < 0x10000 → (hex_of a < 16) × (hex_of b < 16) × (hex_of c < 16) × (hex_of d < 16)

no_digit : hex_of 0 ≡ 16
unfolding hex_of
no_digit = refl

hex4_says : (t : List ℕ) → hex4_of (get_or t 0 0) (get_or t 1 0) (get_or t 2 0) (get_or t 3 0) < 0x10000 → (4 ≤ length t) × Hex4 t (drop 4 t) (hex4_of (get_or t 0 0) (get_or t 1 0) (get_or t 2 0) (get_or t 3 0))
hex4_says [] h = absurd (omega (arith, four_digits 0 0 0 0 h, no_digit))
hex4_says (a ∷ []) h = absurd (omega (arith, four_digits a 0 0 0 h, no_digit))
hex4_says (a ∷ b ∷ []) h = absurd (omega (arith, four_digits a b 0 0 h, no_digit))
hex4_says (a ∷ b ∷ c ∷ []) h = absurd (omega (arith, four_digits a b c 0 h, no_digit))
hex4_says (a ∷ b ∷ c ∷ d ∷ r) h =
    let k = four_digits a b c d h in
    (omega arith, rw (digits a b c d k.0 k.1 k.2 k.3) (Hex4.hex4 (hex_says a k.0) (hex_says b k.1) (hex_says c k.2) (hex_says d k.3)))

hex4_at_says : (t : List ℕ) (i : ℕ) → hex4_at t i < 0x10000 → (i + 4 ≤ length t) × Hex4 (drop i t) (drop (i + 4) t) (hex4_at t i)
hex4_at_says t i h =
    let here : hex4_of (get_or (drop i t) 0 0) (get_or (drop i t) 1 0) (get_or (drop i t) 2 0) (get_or (drop i t) 3 0) ≡ hex4_at t i = simp (get_or-drop i t, add-zero) in
    let k = hex4_says (drop i t) (rw here h) in
    (omega (arith, length-drop i t, k.0, h), rw (← here, ← drop-drop) k.1)

alone_below : {h : ℕ} → Alone h → h < 0x10000
alone_below (Alone.below_surrogates i) = omega arith
alone_below (Alone.above_surrogates i) = omega arith

unicode_says : (u : List ℕ) → Says (0x5c ∷ 0x75 ∷ u) (unicode_of (hex4_at u 0) (get_or u 4 0) (get_or u 5 0) (hex4_at u 6))
unfolding unicode_of
unicode_says u =
    picked P (ltb h 0xd800) _ _ (λ e. alone (Alone.below_surrogates (record { from = omega arith; to = omega (arith, ltb-true h 0xd800 e) }))) (λ e.
    picked P (ltb h 0xdc00) _ _ (λ f.
    picked P (eqb (get_or u 4 0) 0x5c) _ _ (λ g.
    picked P (eqb (get_or u 5 0) 0x75) _ _ (λ i.
    picked P (leb 0xdc00 l) _ _ (λ j.
    picked P (ltb l 0xe000) _ _ (λ k. pair (ltb-false _ _ e) (ltb-true _ _ f) (eqb-true _ _ g) (eqb-true _ _ i) (leb-true _ _ j) (ltb-true _ _ k)) (λ k. tt)) (λ j. tt)) (λ i. tt)) (λ g. tt)) (λ f.
    picked P (ltb h 0xe000) _ _ (λ g. tt) (λ g.
    picked P (ltb h 0x10000) _ _ (λ i. alone (Alone.above_surrogates (record { from = ltb-false _ _ g; to = omega (arith, ltb-true h 0x10000 i) }))) (λ i. tt))))
  where
    h : ℕ
    h = hex4_at u 0

    l : ℕ
    l = hex4_at u 6

    P : Char → Type 0
    P = Says (0x5c ∷ 0x75 ∷ u)

    alone : Alone h → Says (0x5c ∷ 0x75 ∷ u) (One h 5)
    alone a = let k = hex4_at_says u 0 (alone_below a) in (omega (arith, k.0), Character.numbered k.1 a)

    pair : 0xd800 ≤ h → h < 0xdc00 → get_or u 4 0 ≡ 0x5c → get_or u 5 0 ≡ 0x75 → 0xdc00 ≤ l → l < 0xe000 → Says (0x5c ∷ 0x75 ∷ u) (One (0x10000 + (h - 0xd800) * 1024 + (l - 0xdc00)) 11)
    pair h₁ h₂ m n l₁ l₂ =
        let x = hex4_at_says u 0 (omega arith) in
        let y = hex4_at_says u 6 (omega arith) in
        let split : drop 4 u ≡ 0x5c ∷ 0x75 ∷ drop 6 u = rw (next u 4 (omega (arith, y.0)), m, next u 5 (omega (arith, y.0)), n) in
        (omega (arith, y.0), Character.paired (subst (λ (v : List ℕ). Hex4 u v h) split x.1) (record { from = h₁; to = omega arith }) y.1 (record { from = l₁; to = omega arith }))

escape_says : (e : ℕ) (r : List ℕ) → Says (0x5c ∷ e ∷ r) (escape_of e)
unfolding escape_of
escape_says e r =
    picked P (eqb e 0x22) _ _ (made Escape.quotation_mark) (λ _.
    picked P (eqb e 0x5c) _ _ (made Escape.reverse_solidus) (λ _.
    picked P (eqb e 0x2f) _ _ (made Escape.solidus) (λ _.
    picked P (eqb e 0x62) _ _ (made Escape.backspace) (λ _.
    picked P (eqb e 0x66) _ _ (made Escape.form_feed) (λ _.
    picked P (eqb e 0x6e) _ _ (made Escape.line_feed) (λ _.
    picked P (eqb e 0x72) _ _ (made Escape.carriage_return) (λ _.
    picked P (eqb e 0x74) _ _ (made Escape.tab) (λ _. tt))))))))
  where
    P : Char → Type 0
    P = Says (0x5c ∷ e ∷ r)

    made : {k c : ℕ} → Escape k c → eqb e k ≡ true → Says (0x5c ∷ e ∷ r) (One c 1)
    made {k} {c} x q = (omega arith, Character.escaped (subst (λ (v : ℕ). Escape v c) (sym (eqb-true e k q)) x))

backslash_says : (y : ℕ) (u : List ℕ) → Says (0x5c ∷ y ∷ u) (pick (eqb y 0x75) (unicode_of (hex4_at u 0) (get_or u 4 0) (get_or u 5 0) (hex4_at u 6)) (escape_of y))
backslash_says y u = picked (Says (0x5c ∷ y ∷ u)) (eqb y 0x75) _ _ (λ e. rw (eqb-true y 0x75 e) (unicode_says u)) (λ e. escape_says y u)

pub char_says : (t : List ℕ) → Says t (char_of t)
unfolding char_of raw_of escape_of
char_says [] = tt
char_says (a ∷ []) =
    picked P (eqb a 0x22) _ _ (λ e. rw (eqb-true a 0x22 e)) (λ e.
    picked P (eqb a 0x5c) _ _ (λ f. tt) (λ f. raw_says a [] (eqb-false _ _ e) (eqb-false _ _ f)))
  where
    P : Char → Type 0
    P = Says (a ∷ [])
char_says (a ∷ y ∷ u) =
    picked P (eqb a 0x22) _ _ (λ e. rw (eqb-true a 0x22 e)) (λ e.
    picked P (eqb a 0x5c) _ _ (λ f. rw (eqb-true a 0x5c f) (backslash_says y u)) (λ f. raw_says a (y ∷ u) (eqb-false _ _ e) (eqb-false _ _ f)))
  where
    P : Char → Type 0
    P = Says (a ∷ y ∷ u)
