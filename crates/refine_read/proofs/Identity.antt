-- The machine's pattern of an identity passes exactly what the code reads, and a text is an identity's exactly where these bytes are read.
-- Assumes nothing.
use Rattle.basis.proofs.Std.{ℕ, ◌+◌, ◌-◌, ◌*◌, ◌/◌, ◌%◌, ◌≤◌, ◌<◌, arith, ◌≡◌, refl, sym, ap, subst, ◌∙◌, Bool, true, false, List, [], ◌∷◌, map, T, eqb, ltb, leb, eqb→eq, ltb→lt, leb→le, length, get_or, length-map, ext_get_or, lt-ltb, le-ltb, le-leb, lt-leb, leb-true, ltb-true, ltb-false, eqb-true, eqb-false, pick, both, same_bytes, text, bool_cases, same_is, same_true, same_self, untrue, both_true}
use Rattle.basis.proofs.Table.{at, both_left, both_right}
use Rattle.identity.specs.Hex.{hex_digit, hex_value, lower_hex, lowered}
use Rattle.identity.specs.Text.{identity_text}
use Rattle.identity.specs.Read.{SixteenBytes, Says, found, starts, byte_at, bytes_of, read_identity}
use Rattle.identity.proofs.Fill.{mapped}
use Rattle.identity.proofs.Hex.{value_below}
use Rattle.identity.proofs.Text.{shape, char_of, text_length, text_at}
use Rattle.identity.proofs.Read.{byte_read, answers, one_answer}
use Rattle.identity.proofs.Lowered.{lowered_same}
use Rattle.json_text.specs.Copied.{ascii}
use Rattle.machine.specs.Words.{Bytes}
use Rattle.machine.specs.Json.{is_hex, is_identity, is_identity_of}

-- ---- one byte
digit : (b : ℕ) → 48 ≤ b → b ≤ 57 → is_hex b ≡ true
digit b h k = rw (le-leb 48 b h, le-leb b 57 k)

upper : (b : ℕ) → 65 ≤ b → b ≤ 70 → is_hex b ≡ true
upper b h k = rw (le-leb 48 b (omega arith), lt-leb b 57 (omega arith), le-leb 65 b h, le-leb b 70 k)

lower : (b : ℕ) → 97 ≤ b → b ≤ 102 → is_hex b ≡ true
lower b h k = rw (le-leb 48 b (omega arith), lt-leb b 57 (omega arith), le-leb 65 b (omega arith), lt-leb b 70 (omega arith), le-leb 97 b h, le-leb b 102 k)

hex_split : {P : Type 0} (b : ℕ) → is_hex b ≡ true → (48 ≤ b → b ≤ 57 → P) → (65 ≤ b → b ≤ 70 → P) → (97 ≤ b → b ≤ 102 → P) → P
hex_split {P} b e f g h = by (both (leb 48 b) (leb b 57)) (both (leb 65 b) (leb b 70)) refl refl e
  where
    by : (x y : Bool) → both (leb 48 b) (leb b 57) ≡ x → both (leb 65 b) (leb b 70) ≡ y → pick x true (pick y true (both (leb 97 b) (leb b 102))) ≡ true → P
    by true y p q r = let z = both_true (leb 48 b) (leb b 57) p in f (leb-true 48 b z.0) (leb-true b 57 z.1)
    by false true p q r = let z = both_true (leb 65 b) (leb b 70) q in g (leb-true 65 b z.0) (leb-true b 70 z.1)
    by false false p q r = let z = both_true (leb 97 b) (leb b 102) r in h (leb-true 97 b z.0) (leb-true b 102 z.1)

-- a digit in either case, made small, is the digit of its value
valued : (b : ℕ) → is_hex b ≡ true → hex_digit (hex_value (lower_hex b)) ≡ lower_hex b
unfolding hex_digit hex_value lower_hex
valued b e = hex_split b e
    (λ h k. rw (lt-ltb b 65 (omega arith), le-ltb b 48 h, lt-ltb b 58 (omega arith), lt-ltb (b - 48) 10 (omega arith)) (omega arith))
    (λ h k. rw (le-ltb b 65 h, lt-ltb b 71 (omega arith), le-ltb (b + 32) 48 (omega arith), le-ltb (b + 32) 58 (omega arith), le-ltb (b + 32) 97 (omega arith), lt-ltb (b + 32) 103 (omega arith), le-ltb (b + 32 - 87) 10 (omega arith)) (omega arith))
    (λ h k. rw (le-ltb b 65 (omega arith), le-ltb b 71 (omega arith), le-ltb b 48 (omega arith), le-ltb b 58 (omega arith), le-ltb b 97 h, lt-ltb b 103 (omega arith), le-ltb (b - 87) 10 (omega arith)) (omega arith))

data Small (n : ℕ) : Type 0 where
  small_digit : 48 ≤ n → n ≤ 57 → Small n
  small_letter : 97 ≤ n → n ≤ 102 → Small n

small : (x : ℕ) → x < 16 → Small (hex_digit x)
unfolding hex_digit
small x h = bool_cases (ltb x 10)
    (λ t. rw t (small_digit (omega arith) (omega (arith, ltb-true x 10 t))))
    (λ f. rw f (small_letter (omega (arith, ltb-false x 10 f)) (omega arith)))

-- what is a digit, made small, was one
was : (b : ℕ) → Small (lower_hex b) → is_hex b ≡ true
unfolding lower_hex
was b s = by (ltb b 65) (ltb b 71) refl refl s
  where
    by : (x y : Bool) → ltb b 65 ≡ x → ltb b 71 ≡ y → Small (pick x b (pick y (b + 32) b)) → is_hex b ≡ true
    by true y p q (small_digit h k) = digit b h k
    by true y p q (small_letter h k) = absurd (omega (arith, ltb-true b 65 p))
    by false true p q r = upper b (ltb-false b 65 p) (omega (arith, ltb-true b 71 q))
    by false false p q (small_digit h k) = absurd (omega (arith, ltb-false b 71 q))
    by false false p q (small_letter h k) = lower b h k

was_dash : (b : ℕ) → lower_hex b ≡ 45 → b ≡ 45
unfolding lower_hex
was_dash b e = by (ltb b 65) (ltb b 71) refl refl e
  where
    by : (x y : Bool) → ltb b 65 ≡ x → ltb b 71 ≡ y → pick x b (pick y (b + 32) b) ≡ 45 → b ≡ 45
    by true y p q e = e
    by false true p q e = absurd (omega (arith, ltb-false b 65 p))
    by false false p q e = e

-- ---- the machine's mark of a byte
abbrev pub mark : ℕ → ℕ
mark b = pick (is_hex b) 120 (pick (eqb b 45) 45 0)

abbrev pub pattern : List ℕ
pattern = text "xxxxxxxx-xxxx-xxxx-xxxx-xxxxxxxxxxxx"

mark_hex : (b : ℕ) → mark b ≡ 120 → is_hex b ≡ true
mark_hex b e = by (is_hex b) (eqb b 45) e
  where
    by : (x y : Bool) → pick {A = ℕ} x 120 (pick y 45 0) ≡ 120 → x ≡ true
    by true y e = refl
    by false true e = absurd (omega arith)
    by false false e = absurd (omega arith)

mark_dash : (b : ℕ) → mark b ≡ 45 → b ≡ 45
mark_dash b e = by (is_hex b) (eqb b 45) refl e
  where
    by : (x y : Bool) → eqb b 45 ≡ y → pick {A = ℕ} x 120 (pick y 45 0) ≡ 45 → b ≡ 45
    by true y q e = absurd (omega arith)
    by false true q e = eqb-true b 45 q
    by false false q e = absurd (omega arith)

-- ---- the places: a dash in both, or the digit whose number is the shape's
placed : ℕ → ℕ → Bool
placed k c =
    pick (eqb (get_or pattern k 0) 45) (eqb c 45)
    (both (eqb (get_or pattern k 0) 120) (both (leb 48 c) (both (ltb ((c - 48) / 2) 16) (eqb (get_or starts ((c - 48) / 2) 0 + (c - 48) % 2) k))))

record Digit (k c : ℕ) : Type 0 where
  mark_there : get_or pattern k 0 ≡ 120
  low : 48 ≤ c
  within : (c - 48) / 2 < 16
  place : get_or starts ((c - 48) / 2) 0 + (c - 48) % 2 ≡ k

place_cases : {P : Type 0} (k : ℕ) → k < 36 → (get_or pattern k 0 ≡ 45 → get_or shape k 0 ≡ 45 → P) → (Digit k (get_or shape k 0) → P) → P
unfolding placed
place_cases {P} k h f g = by (eqb (get_or pattern k 0) 45) refl (at placed shape tt k h)
  where
    by : (x : Bool) → eqb (get_or pattern k 0) 45 ≡ x
        → T (pick x (eqb (get_or shape k 0) 45) (both (eqb (get_or pattern k 0) 120) (both (leb 48 (get_or shape k 0)) (both (ltb ((get_or shape k 0 - 48) / 2) 16) (eqb (get_or starts ((get_or shape k 0 - 48) / 2) 0 + (get_or shape k 0 - 48) % 2) k)))))
        → P
    by true e t = f (eqb-true (get_or pattern k 0) 45 e) (eqb→eq (get_or shape k 0) 45 t)
    by false e t =
        let u = both_right (eqb (get_or pattern k 0) 120) _ t in
        let v = both_right (leb 48 (get_or shape k 0)) _ u in
        g (record {
          mark_there = eqb→eq (get_or pattern k 0) 120 (both_left (eqb (get_or pattern k 0) 120) _ t);
          low = leb→le 48 (get_or shape k 0) (both_left (leb 48 (get_or shape k 0)) _ u);
          within = ltb→lt ((get_or shape k 0 - 48) / 2) 16 (both_left (ltb ((get_or shape k 0 - 48) / 2) 16) _ v);
          place = eqb→eq _ k (both_right (ltb ((get_or shape k 0 - 48) / 2) 16) _ v);
        })

-- the character of a digit's place is a small digit
digit_of : (bs : List ℕ) → SixteenBytes bs → (k c : ℕ) → Digit k c → Small (char_of bs c)
digit_of bs v k c d =
    let b = v.bytes ((c - 48) / 2) in
    rw (le-ltb c 48 d.low) (by (eqb ((c - 48) % 2) 0) (small (get_or bs ((c - 48) / 2) 0 / 16) (omega arith)) (small (get_or bs ((c - 48) / 2) 0 % 16) (omega arith)))
  where
    by : (x : Bool) → Small (hex_digit (get_or bs ((c - 48) / 2) 0 / 16)) → Small (hex_digit (get_or bs ((c - 48) / 2) 0 % 16))
        → Small (pick x (hex_digit (get_or bs ((c - 48) / 2) 0 / 16)) (hex_digit (get_or bs ((c - 48) / 2) 0 % 16)))
    by true p q = p
    by false p q = q

-- of the bytes that a text's digits say it is the digit of the value at that place
high : (v w : ℕ) → w ≤ 15 → (v * 16 + w) / 16 ≡ v
high v w h = omega arith

low : (v w : ℕ) → w ≤ 15 → (v * 16 + w) % 16 ≡ w
low v w h = omega arith

digit_said : (l : List ℕ) (k c : ℕ) → Digit k c → char_of (bytes_of l) c ≡ hex_digit (hex_value (get_or l k 0))
digit_said l k c d =
    let p = get_or starts ((c - 48) / 2) 0 in
    let e : get_or (bytes_of l) ((c - 48) / 2) 0 ≡ byte_at l p = byte_read l ((c - 48) / 2) d.within in
    let w : hex_value (get_or l (p + 1) 0) ≤ 15 = value_below (get_or l (p + 1) 0) in
    rw (le-ltb c 48 d.low, e)
    (bool_cases (eqb ((c - 48) % 2) 0)
    (λ t.
    let z : p ≡ k = omega (arith, d.place, eqb-true ((c - 48) % 2) 0 t) in
    rw t (ap hex_digit (high (hex_value (get_or l p 0)) (hex_value (get_or l (p + 1) 0)) w ∙ ap (λ (i : ℕ). hex_value (get_or l i 0)) z)))
    (λ f.
    let z : p + 1 ≡ k = omega (arith, d.place, eqb-false ((c - 48) % 2) 0 f) in
    rw f (ap hex_digit (low (hex_value (get_or l p 0)) (hex_value (get_or l (p + 1) 0)) w ∙ ap (λ (i : ℕ). hex_value (get_or l i 0)) z))))

-- ---- the whole text
abbrev filled : List ℕ → Bool
filled [] = true
filled (x ∷ xs) = both (ltb 0 x) (filled xs)

marked_below : (b : ℕ) → 0 < mark b → b < 128
marked_below b h = by (is_hex b) (eqb b 45) refl refl h
  where
    by : (x y : Bool) → is_hex b ≡ x → eqb b 45 ≡ y → 0 < pick {A = ℕ} x 120 (pick y 45 0) → b < 128
    by true y p q h = hex_split b p (λ l m. omega arith) (λ l m. omega arith) (λ l m. omega arith)
    by false true p q h = omega (arith, eqb-true b 45 q)
    by false false p q h = absurd (omega arith)

dash_low : lower_hex 45 ≡ 45
unfolding lower_hex
dash_low = refl

hex_mark : (b : ℕ) → is_hex b ≡ true → mark b ≡ 120
hex_mark b e = rw e

module _ (d : Bytes) where
  marked : is_identity d ≡ true → map mark d ≡ pattern
  marked e = same_true (map mark d) pattern e

  long : is_identity d ≡ true → length d ≡ 36
  long e = sym (length-map d mark) ∙ ap length (marked e)

  reads_it : is_identity d ≡ true → (read_identity d).found ≡ true
  unfolding read_identity
  reads_it e =
      let bs = bytes_of (lowered d) in
      let n : length d ≡ 36 = long e in
      rw (← (lowered_same d (identity_text bs) (n ∙ sym (text_length bs)) (λ k h.
      let q : k < 36 = omega arith in
      let m : mark (get_or d k 0) ≡ get_or pattern k 0 = sym (mapped mark d k h) ∙ ap (λ (l : List ℕ). get_or l k 0) (marked e) in
      place_cases k q
      (λ a b. ap lower_hex (mark_dash (get_or d k 0) (m ∙ a)) ∙ dash_low ∙ sym (text_at bs k q ∙ ap (char_of bs) b))
      (λ g.
      sym (valued (get_or d k 0) (mark_hex (get_or d k 0) (m ∙ g.mark_there)))
      ∙ ap (λ (c : ℕ). hex_digit (hex_value c)) (sym (mapped lower_hex d k h))
      ∙ sym (text_at bs k q ∙ digit_said (lowered d) k (get_or shape k 0) g)))))

  is_it : (read_identity d).found ≡ true → is_identity d ≡ true
  is_it e =
      let s : Says d (read_identity d).id.bytes = (answers d).accepted e in
      let bs = (read_identity d).id.bytes in
      let n : length d ≡ 36 = sym (length-map d lower_hex) ∙ ap length s.said ∙ text_length bs in
      let w : map mark d ≡ pattern = ext_get_or 0 (map mark d) pattern (length-map d mark ∙ n) (λ k h.
      let q : k < 36 = subst (λ (m : ℕ). k < m) (length-map d mark ∙ n) h in
      let g : k < length d = omega arith in
      let c : lower_hex (get_or d k 0) ≡ char_of bs (get_or shape k 0) = sym (mapped lower_hex d k g) ∙ ap (λ (l : List ℕ). get_or l k 0) s.said ∙ text_at bs k q in
      mapped mark d k g ∙ place_cases k q
      (λ a b. ap mark (was_dash (get_or d k 0) (c ∙ ap (char_of bs) b)) ∙ sym a)
      (λ x. hex_mark (get_or d k 0) (was (get_or d k 0) (subst Small (sym c) (digit_of bs s.valid k (get_or shape k 0) x))) ∙ sym x.mark_there))
      in
      ap (same_bytes (map mark d)) (sym w) ∙ same_self (map mark d)

pub same_bool : (a b : Bool) → (a ≡ true → b ≡ true) → (b ≡ true → a ≡ true) → a ≡ b
same_bool true b f g = sym (f refl)
same_bool false true f g = g refl
same_bool false false f g = refl

pub readable : (d : Bytes) → is_identity d ≡ (read_identity d).found
readable d = same_bool (is_identity d) (read_identity d).found (reads_it d) (is_it d)

pub identity_long : (d : Bytes) → is_identity d ≡ true → length d ≡ 36
identity_long d e = long d e

-- all of it is ASCII
pub identity_ascii : (d : Bytes) → is_identity d ≡ true → ascii d ≡ true
unfolding ascii
identity_ascii d e = go d pattern e refl
  where
    go : (d p : List ℕ) → same_bytes (map mark d) p ≡ true → filled p ≡ true → ascii d ≡ true
    go [] p e f = refl
    go (b ∷ d) [] e f = untrue e
    go (b ∷ d) (x ∷ p) e f =
        let q = both_true (eqb (mark b) x) (same_bytes (map mark d) p) e in
        let r = both_true (ltb 0 x) (filled p) f in
        rw (lt-ltb b 128 (marked_below b (omega (arith, eqb-true (mark b) x q.0, ltb-true 0 x r.0)))) (go d p q.1 r.1)

-- an identity's text, and no other, says its bytes
pub says_bytes : (a d : Bytes) → SixteenBytes a → is_identity_of a d ≡ both (read_identity d).found (same_bytes a (read_identity d).id.bytes)
says_bytes a d v = sym (same_is (lowered d) (identity_text a) _
    (λ t.
    let p = both_true (read_identity d).found _ t in
    ((answers d).accepted p.0).said ∙ ap identity_text (sym (same_true a (read_identity d).id.bytes p.1)))
    (λ e.
    let s : Says d a = record { valid = v; said = e } in
    let r : read_identity d ≡ found a = one_answer d (read_identity d) (found a) (answers d) (record { accepted = λ t. s; refused = λ f. untrue (sym f) }) in
    rw r (same_self a)))
