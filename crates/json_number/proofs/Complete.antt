-- A number of the grammar before bytes with which none goes on is what the machine reads.
-- Assumes nothing.
use Rattle.basis.proofs.Std.{ℕ, ◌≤◌, ◌<◌, ◌≡◌, refl, ap, Bool, true, false, List, [], ◌∷◌, ◌⊎◌, inl, inr, arith, ltb, lit<, lit≤, lt-ltb, le-ltb, ne_eqb, ltb-true, ltb-false, eqb-false, pick}
use Rattle.json_text.specs.Decoded.{Parsed, push}
use Rattle.json_text.specs.Decoded.Parsed.{ok}
use Rattle.json_number.specs.declared.At.{At}
use Rattle.json_number.specs.declared.At.TheVariants.{Start, Minus, Zero, Int, Dot, Frac, Mark, Sign, Exp, Stop}
use Rattle.json_number.specs.Number.{Digit, Digits, Integer, Fraction, Signed, Exponent, Number, Apart, Ended}
use Rattle.json_number.specs.Machine.{if_digit, apart, read_num, read_number}

-- from q the machine reads up to r
abbrev Reads : At → List ℕ → List ℕ → Type 0
Reads q x r = (d : List ℕ) × (read_num q x ≡ ok d r)

pushes : (b : ℕ) (p : Parsed (List ℕ)) (r : List ℕ) → ((d : List ℕ) × (p ≡ ok d r)) → (d : List ℕ) × (push b p ≡ ok d r)
pushes b p r h = (b ∷ h.0, ap (push b) h.1)

if_digit_lem : (b : ℕ) (q : At) → Digit b → if_digit b q ≡ q
if_digit_lem b q d = simp (le-ltb _ _ d.from, lt-ltb _ _ d.to)

-- b is no digit
no_digit : (b : ℕ) (q : At) → ¬ (Digit b) → if_digit b q ≡ Stop
no_digit b q h = go (ltb b 0x30) refl (ltb b 0x3a) refl
  where
    go : (x : Bool) → ltb b 0x30 ≡ x → (y : Bool) → ltb b 0x3a ≡ y → if_digit b q ≡ Stop
    go true e y f = rw e
    go false e true f = absurd (h (record { from = ltb-false _ _ e; to = ltb-true _ _ f }))
    go false e false f = rw (e, f)

-- b can follow a number
apart_true : (b : ℕ) → Apart b → apart b ≡ true
unfolding apart
apart_true b h = rw (ne_eqb _ _ h.no_point, ne_eqb _ _ h.no_small, ne_eqb _ _ h.no_large) (go (ltb b 0x30) refl (ltb b 0x3a) refl)
  where
    go : (x : Bool) → ltb b 0x30 ≡ x → (y : Bool) → ltb b 0x3a ≡ y → pick (ltb b 0x30) true (pick (ltb b 0x3a) false true) ≡ true
    go true e y f = rw e
    go false e true f = absurd (h.no_digit (record { from = ltb-false _ _ e; to = ltb-true _ _ f }))
    go false e false f = rw (e, f)

-- at the end of a number
stop_exp : (r : List ℕ) → Ended r → Reads Exp r r
unfolding read_num
stop_exp [] h = ([], refl)
stop_exp (b ∷ x) h = ([], rw (no_digit b Exp h.no_digit, apart_true b h))

stop_frac : (r : List ℕ) → Ended r → Reads Frac r r
unfolding read_num
stop_frac [] h = ([], refl)
stop_frac (b ∷ x) h = ([], rw (ne_eqb _ _ h.no_small, ne_eqb _ _ h.no_large, no_digit b Frac h.no_digit, apart_true b h))

stop_int : (r : List ℕ) → Ended r → Reads Int r r
unfolding read_num
stop_int [] h = ([], refl)
stop_int (b ∷ x) h = ([], rw (ne_eqb _ _ h.no_point, ne_eqb _ _ h.no_small, ne_eqb _ _ h.no_large, no_digit b Int h.no_digit, apart_true b h))

stop_zero : (r : List ℕ) → Ended r → Reads Zero r r
unfolding read_num
stop_zero [] h = ([], refl)
stop_zero (b ∷ x) h = ([], rw (ne_eqb _ _ h.no_point, ne_eqb _ _ h.no_small, ne_eqb _ _ h.no_large, apart_true b h))

-- a digit is none of the marks
digit_not : (b k : ℕ) → Digit b → (k < 0x30) ⊎ (0x3a ≤ k) → ¬ (b ≡ k)
digit_not b k d (inl h) e = omega (arith, d.from)
digit_not b k d (inr h) e = omega (arith, d.to)

exp_digit : (b : ℕ) (x r : List ℕ) → Digit b → Reads Exp x r → Reads Exp (b ∷ x) r
unfolding read_num
exp_digit b x r d h = rw (if_digit_lem b Exp d) (pushes b (read_num Exp x) r h)

frac_digit : (b : ℕ) (x r : List ℕ) → Digit b → Reads Frac x r → Reads Frac (b ∷ x) r
unfolding read_num
frac_digit b x r d h = rw (ne_eqb _ _ (digit_not b 0x65 d (inr (lit≤ tt))), ne_eqb _ _ (digit_not b 0x45 d (inr (lit≤ tt))), if_digit_lem b Frac d) (pushes b (read_num Frac x) r h)

int_digit : (b : ℕ) (x r : List ℕ) → Digit b → Reads Int x r → Reads Int (b ∷ x) r
unfolding read_num
int_digit b x r d h = rw (ne_eqb _ _ (digit_not b 0x2e d (inl (lit< tt))), ne_eqb _ _ (digit_not b 0x65 d (inr (lit≤ tt))), ne_eqb _ _ (digit_not b 0x45 d (inr (lit≤ tt))), if_digit_lem b Int d) (pushes b (read_num Int x) r h)

-- digits in each of the three states that digits stay in
exp_digits : {x r : List ℕ} → Digits x r → Ended r → Reads Exp x r
exp_digits {r = r} (Digits.one {b = b} d) h = exp_digit b r r d (stop_exp r h)
exp_digits {r = r} (Digits.more {b = b} {x = x} d m) h = exp_digit b x r d (exp_digits m h)

sign_digits : {x r : List ℕ} → Digits x r → Ended r → Reads Sign x r
unfolding read_num
sign_digits {r = r} (Digits.one {b = b} d) h = rw (if_digit_lem b Exp d) (pushes b (read_num Exp r) r (stop_exp r h))
sign_digits {r = r} (Digits.more {b = b} {x = x} d m) h = rw (if_digit_lem b Exp d) (pushes b (read_num Exp x) r (exp_digits m h))

mark_digits : {x r : List ℕ} → Digits x r → Ended r → Reads Mark x r
unfolding read_num
mark_digits {r = r} (Digits.one {b = b} d) h = rw (ne_eqb _ _ (digit_not b 0x2b d (inl (lit< tt))), ne_eqb _ _ (digit_not b 0x2d d (inl (lit< tt))), if_digit_lem b Exp d) (pushes b (read_num Exp r) r (stop_exp r h))
mark_digits {r = r} (Digits.more {b = b} {x = x} d m) h = rw (ne_eqb _ _ (digit_not b 0x2b d (inl (lit< tt))), ne_eqb _ _ (digit_not b 0x2d d (inl (lit< tt))), if_digit_lem b Exp d) (pushes b (read_num Exp x) r (exp_digits m h))

signed : {x r : List ℕ} → Signed x r → Ended r → Reads Mark x r
unfolding read_num
signed (Signed.unsigned d) h = mark_digits d h
signed {r = r} (Signed.plus {x = x} d) h = pushes 0x2b (read_num Sign x) r (sign_digits d h)
signed {r = r} (Signed.minus {x = x} d) h = pushes 0x2d (read_num Sign x) r (sign_digits d h)

frac_exponent : {x r : List ℕ} → Exponent x r → Ended r → Reads Frac x r
unfolding read_num
frac_exponent {r = r} Exponent.plain h = stop_frac r h
frac_exponent {r = r} (Exponent.small {x = x} e) h = pushes 0x65 (read_num Mark x) r (signed e h)
frac_exponent {r = r} (Exponent.large {x = x} e) h = pushes 0x45 (read_num Mark x) r (signed e h)

frac_digits : {x y r : List ℕ} → Digits x y → Exponent y r → Ended r → Reads Frac x r
frac_digits {y = y} {r = r} (Digits.one {b = b} d) e h = frac_digit b y r d (frac_exponent e h)
frac_digits {r = r} (Digits.more {b = b} {x = x} d m) e h = frac_digit b x r d (frac_digits m e h)

dot_digits : {x y r : List ℕ} → Digits x y → Exponent y r → Ended r → Reads Dot x r
unfolding read_num
dot_digits {y = y} {r = r} (Digits.one {b = b} d) e h = rw (if_digit_lem b Frac d) (pushes b (read_num Frac y) r (frac_exponent e h))
dot_digits {r = r} (Digits.more {b = b} {x = x} d m) e h = rw (if_digit_lem b Frac d) (pushes b (read_num Frac x) r (frac_digits m e h))

-- after an integer
int_rest : {x y r : List ℕ} → Fraction x y → Exponent y r → Ended r → Reads Int x r
unfolding read_num
int_rest {r = r} Fraction.whole Exponent.plain h = stop_int r h
int_rest {r = r} Fraction.whole (Exponent.small {x = x} e) h = pushes 0x65 (read_num Mark x) r (signed e h)
int_rest {r = r} Fraction.whole (Exponent.large {x = x} e) h = pushes 0x45 (read_num Mark x) r (signed e h)
int_rest {r = r} (Fraction.point {x = x} d) e h = pushes 0x2e (read_num Dot x) r (dot_digits d e h)

zero_rest : {x y r : List ℕ} → Fraction x y → Exponent y r → Ended r → Reads Zero x r
unfolding read_num
zero_rest {r = r} Fraction.whole Exponent.plain h = stop_zero r h
zero_rest {r = r} Fraction.whole (Exponent.small {x = x} e) h = pushes 0x65 (read_num Mark x) r (signed e h)
zero_rest {r = r} Fraction.whole (Exponent.large {x = x} e) h = pushes 0x45 (read_num Mark x) r (signed e h)
zero_rest {r = r} (Fraction.point {x = x} d) e h = pushes 0x2e (read_num Dot x) r (dot_digits d e h)

int_digits : {x y z r : List ℕ} → Digits x y → Fraction y z → Exponent z r → Ended r → Reads Int x r
int_digits {y = y} {r = r} (Digits.one {b = b} d) f e h = int_digit b y r d (int_rest f e h)
int_digits {r = r} (Digits.more {b = b} {x = x} d m) f e h = int_digit b x r d (int_digits m f e h)

-- the first digit, from Minus
first : (b : ℕ) (x r : List ℕ) → Digit b → ¬ (b ≡ 0x30) → Reads Int x r → Reads Minus (b ∷ x) r
unfolding read_num
first b x r d n h = rw (ne_eqb _ _ n, if_digit_lem b Int d) (pushes b (read_num Int x) r h)

integer : {x y z r : List ℕ} → Integer x y → Fraction y z → Exponent z r → Ended r → Reads Minus x r
unfolding read_num
integer {r = r} (Integer.nought {r = y}) f e h = pushes 0x30 (read_num Zero y) r (zero_rest f e h)
integer {r = r} (Integer.digit {b = b} {r = y} d n) f e h = first b y r d n (int_rest f e h)
integer {r = r} (Integer.digits {b = b} {x = x} d n m) f e h = first b x r d n (int_digits m f e h)

-- an integer, from Start as from Minus
start : (b : ℕ) (x r : List ℕ) → ¬ (b ≡ 0x2d) → Reads Minus (b ∷ x) r → Reads Start (b ∷ x) r
unfolding read_num
start b x r n h = rw (ne_eqb _ _ n) h

started : {x r : List ℕ} → Number x r → Ended r → Reads Start x r
unfolding read_num
started (Number.positive (Integer.nought {r = y}) f e) h = start 0x30 y _ (λ q. eqb-false 0x30 0x2d refl q) (integer Integer.nought f e h)
started (Number.positive (Integer.digit {b = b} {r = y} d n) f e) h = start b y _ (digit_not b 0x2d d (inl (lit< tt))) (integer (Integer.digit d n) f e h)
started (Number.positive (Integer.digits {b = b} {x = y} d n m) f e) h = start b y _ (digit_not b 0x2d d (inl (lit< tt))) (integer (Integer.digits d n m) f e h)
started {r = r} (Number.negative {x = x} i f e) h = pushes 0x2d (read_num Minus x) r (integer i f e h)

pub number : {t r : List ℕ} → Number t r → Ended r → (d : List ℕ) × (read_number t ≡ ok d r)
unfolding read_number
number n h = started n h
