-- The text of an identity by its places.
-- Assumes nothing.
use Rattle.basis.proofs.Std.{◌≡◌, refl, sym, ap, ap₂, ◌∙◌, Bool, List, [], ◌∷◌, ◌++◌, map, map-append, ℕ, zero, suc, ◌+◌, ◌-◌, ◌*◌, ◌/◌, ◌%◌, ◌<◌, arith, T, ltb, eqb, ltb→lt, eqb→eq, length, get_or, ext_get_or, le-ltb, eq-eqb, ne_eqb, pick, both, text}
use Rattle.basis.proofs.Table.{at, both_left, both_right}
use Rattle.identity.specs.Hex.{hex_digit, lower_hex, lowered}
use Rattle.identity.specs.Text.{hex_bytes, identity_text}
use Rattle.identity.specs.Read.{SixteenBytes, starts, byte_at, bytes_of}
use Rattle.identity.proofs.Fill.{mapped}
use Rattle.identity.proofs.Hex.{lower_digit, byte_digits}

-- at each place the number of its digit, counted from the character 0 on; the dashes as they are
abbrev pub shape : List ℕ
shape = text "01234567-89:;-<=>?-@ABC-DEFGHIJKLMNO"

abbrev pub char_of : List ℕ → ℕ → ℕ
char_of bs c = pick (ltb c 48) c (pick (eqb ((c - 48) % 2) 0) (hex_digit (get_or bs ((c - 48) / 2) 0 / 16)) (hex_digit (get_or bs ((c - 48) / 2) 0 % 16)))

by_places : (bs : List ℕ) → identity_text bs ≡ map (char_of bs) shape
unfolding identity_text
by_places bs = refl

-- the text out of the digits of four bytes at a time
abbrev pub joined : List ℕ → List ℕ → List ℕ → List ℕ → List ℕ
joined x y z w =
    get_or x 0 0 ∷ get_or x 1 0 ∷ get_or x 2 0 ∷ get_or x 3 0 ∷ get_or x 4 0 ∷ get_or x 5 0 ∷ get_or x 6 0 ∷ get_or x 7 0 ∷ 45
    ∷ get_or y 0 0 ∷ get_or y 1 0 ∷ get_or y 2 0 ∷ get_or y 3 0 ∷ 45 ∷ get_or y 4 0 ∷ get_or y 5 0 ∷ get_or y 6 0 ∷ get_or y 7 0 ∷ 45
    ∷ get_or z 0 0 ∷ get_or z 1 0 ∷ get_or z 2 0 ∷ get_or z 3 0 ∷ 45 ∷ get_or z 4 0 ∷ get_or z 5 0 ∷ get_or z 6 0 ∷ get_or z 7 0
    ∷ get_or w 0 0 ∷ get_or w 1 0 ∷ get_or w 2 0 ∷ get_or w 3 0 ∷ get_or w 4 0 ∷ get_or w 5 0 ∷ get_or w 6 0 ∷ get_or w 7 0 ∷ []

abbrev four : List ℕ → ℕ → List ℕ
four bs i = hex_bytes (get_or bs i 0 ∷ get_or bs (i + 1) 0 ∷ get_or bs (i + 2) 0 ∷ get_or bs (i + 3) 0 ∷ []) 0 4

pub by_fours : (bs x y z w : List ℕ) → x ≡ four bs 0 → y ≡ four bs 4 → z ≡ four bs 8 → w ≡ four bs 12 → joined x y z w ≡ identity_text bs
unfolding identity_text
by_fours bs x y z w p q r t = λ i. joined (p i) (q i) (r i) (t i)

pub text_length : (bs : List ℕ) → length (identity_text bs) ≡ 36
unfolding identity_text
text_length bs = refl

pub text_at : (bs : List ℕ) (k : ℕ) → k < 36 → get_or (identity_text bs) k 0 ≡ char_of bs (get_or shape k 0)
text_at bs k h = ap (λ (l : List ℕ). get_or l k 0) (by_places bs) ∙ mapped (char_of bs) shape k h

-- the digits of byte i have the numbers 2 * i and 2 * i + 1
placed : ℕ → ℕ → Bool
placed i p = both (ltb (p + 1) 36) (both (eqb (get_or shape p 0) (48 + 2 * i)) (eqb (get_or shape (p + 1) 0) (49 + 2 * i)))

first_digit : (bs : List ℕ) (i : ℕ) → char_of bs (48 + 2 * i) ≡ hex_digit (get_or bs i 0 / 16)
first_digit bs i =
    let e : (48 + 2 * i - 48) / 2 ≡ i = omega arith in
    rw (le-ltb (48 + 2 * i) 48 (omega arith), eq-eqb ((48 + 2 * i - 48) % 2) 0 (omega arith), e)

second_digit : (bs : List ℕ) (i : ℕ) → char_of bs (49 + 2 * i) ≡ hex_digit (get_or bs i 0 % 16)
second_digit bs i =
    let e : (49 + 2 * i - 48) / 2 ≡ i = omega arith in
    rw (le-ltb (49 + 2 * i) 48 (omega arith), ne_eqb ((49 + 2 * i - 48) % 2) 0 (λ z. omega arith), e)

pub start_below : (i : ℕ) → i < 16 → get_or starts i 0 + 1 < 36
unfolding placed
start_below i h = let p = get_or starts i 0 in ltb→lt (p + 1) 36 (both_left (ltb (p + 1) 36) _ (at placed starts tt i h))

byte_said : (bs : List ℕ) → SixteenBytes bs → (i : ℕ) → i < 16 → byte_at (identity_text bs) (get_or starts i 0) ≡ get_or bs i 0
unfolding placed
byte_said bs v i h =
    let p = get_or starts i 0 in
    let b : T (both (eqb (get_or shape p 0) (48 + 2 * i)) (eqb (get_or shape (p + 1) 0) (49 + 2 * i))) = both_right (ltb (p + 1) 36) _ (at placed starts tt i h) in
    let e : get_or shape p 0 ≡ 48 + 2 * i = eqb→eq (get_or shape p 0) (48 + 2 * i) (both_left (eqb (get_or shape p 0) (48 + 2 * i)) _ b) in
    let f : get_or shape (p + 1) 0 ≡ 49 + 2 * i = eqb→eq (get_or shape (p + 1) 0) (49 + 2 * i) (both_right (eqb (get_or shape p 0) (48 + 2 * i)) _ b) in
    let s = start_below i h in
    let x : get_or (identity_text bs) p 0 ≡ hex_digit (get_or bs i 0 / 16) = text_at bs p (omega arith) ∙ ap (char_of bs) e ∙ first_digit bs i in
    let y : get_or (identity_text bs) (p + 1) 0 ≡ hex_digit (get_or bs i 0 % 16) = text_at bs (p + 1) s ∙ ap (char_of bs) f ∙ second_digit bs i in
    rw (x, y) (byte_digits (get_or bs i 0) (v.bytes i))

-- the digits of the text of sixteen bytes say these bytes
pub bytes_said : (bs : List ℕ) → SixteenBytes bs → bytes_of (identity_text bs) ≡ bs
unfolding bytes_of
bytes_said bs v = ext_get_or 0 (map (byte_at (identity_text bs)) starts) bs (sym v.sixteen) (λ i h. mapped (byte_at (identity_text bs)) starts i h ∙ byte_said bs v i h)

both_lowered : {a b : List ℕ} → lowered a ≡ a → lowered b ≡ b → lowered (a ++ b) ≡ a ++ b
both_lowered {a} {b} p q = map-append lower_hex a b ∙ ap₂ (λ (x y : List ℕ). x ++ y) p q

hex_lowered : (bs : List ℕ) → SixteenBytes bs → (i n : ℕ) → lowered (hex_bytes bs i n) ≡ hex_bytes bs i n
hex_lowered bs v i zero = refl
hex_lowered bs v i (suc n) =
    let h = v.bytes i in
    let x = lower_digit (get_or bs i 0 / 16) (omega arith) in
    let y = lower_digit (get_or bs i 0 % 16) (omega arith) in
    let z = hex_lowered bs v (suc i) n in
    λ j. x j ∷ y j ∷ z j

-- the text has no letter to make small
pub text_lowered : (bs : List ℕ) → SixteenBytes bs → lowered (identity_text bs) ≡ identity_text bs
unfolding identity_text lower_hex
text_lowered bs v =
    let h = hex_lowered bs v in
    let dash : lowered (text "-") ≡ text "-" = refl in
    both_lowered (both_lowered (both_lowered (both_lowered (both_lowered (both_lowered (both_lowered (both_lowered (h 0 4) dash) (h 4 2)) dash) (h 6 2)) dash) (h 8 2)) dash) (h 10 6)
