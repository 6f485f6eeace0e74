-- What the machine reads is a number of the grammar, with nothing after it with which one goes on.
-- Assumes nothing.
use Rattle.basis.proofs.Std.{ℕ, ◌≡◌, refl, sym, subst, ap, Bool, true, false, false≢true, List, [], ◌∷◌, ◌++◌, arith, ltb, eqb, eqb-true, eqb-false, ltb-true, ltb-false, both, picked}
use Rattle.json_text.specs.Decoded.{Parsed, push}
use Rattle.json_text.specs.Decoded.Parsed.{ok, none}
use Rattle.json_number.specs.declared.At.{At}
use Rattle.json_number.specs.declared.At.TheVariants.{Start, Minus, Zero, Int, Dot, Frac, Mark, Sign, Exp, Stop}
use Rattle.json_number.specs.Number.{Digit, Digits, Integer, Fraction, Signed, Exponent, Number, Apart, Ended}
use Rattle.json_number.specs.Machine.{if_digit, turn_of, is_stop, final_of, apart, stop_at, onward, read_num, read_number}

-- *DIGIT
data Run : List ℕ → List ℕ → Type 0 where
  end : {r : List ℕ} → Run r r
  digit : {b : ℕ} {x r : List ℕ} → Digit b → Run x r → Run (b ∷ x) r

record IntRest (x r : List ℕ) : Type 0 where
  point : List ℕ
  exp : List ℕ
  run : Run x point
  fraction : Fraction point exp
  exponent : Exponent exp r

record FracRest (x r : List ℕ) : Type 0 where
  exp : List ℕ
  run : Run x exp
  exponent : Exponent exp r

-- what the machine still reads in each state
abbrev Rest : At → List ℕ → List ℕ → Type 0
Rest Start x r = Number x r
Rest Minus x r = (y : List ℕ) × (z : List ℕ) × Integer x y × Fraction y z × Exponent z r
Rest Zero x r = (y : List ℕ) × Fraction x y × Exponent y r
Rest Int x r = IntRest x r
Rest Dot x r = (y : List ℕ) × Digits x y × Exponent y r
Rest Frac x r = FracRest x r
Rest Mark x r = Signed x r
Rest Sign x r = Digits x r
Rest Exp x r = Run x r
Rest Stop x r = ⊥

digits : {b : ℕ} {x r : List ℕ} → Digit b → Run x r → Digits (b ∷ x) r
digits d Run.end = Digits.one d
digits d (Run.digit e m) = Digits.more d (digits e m)

integer : {b : ℕ} {x r : List ℕ} → Digit b → ¬ (b ≡ 0x30) → Run x r → Integer (b ∷ x) r
integer d n Run.end = Integer.digit d n
integer d n (Run.digit e m) = Integer.digits d n (digits e m)

-- what a turn to p on the byte b says: the rest from p on makes a rest from q on
abbrev Turns : At → ℕ → At → Type 0
Turns q b p = (x r : List ℕ) → Rest p x r → Rest q (b ∷ x) r

no_turn : (q : At) (b : ℕ) → Turns q b Stop
no_turn q b x r h = absurd h

at : (P : ℕ → Type 0) (b k : ℕ) → P k → eqb b k ≡ true → P b
at P b k h e = subst P (sym (eqb-true b k e)) h

on_digit : (q p : At) (b : ℕ) → (Digit b → Turns q b p) → Turns q b (if_digit b p)
on_digit q p b f =
    picked (Turns q b) (ltb b 0x30) _ _ (λ _. no_turn q b)
    (λ lo. picked (Turns q b) (ltb b 0x3a) _ _ (λ hi. f (record { from = ltb-false _ _ lo; to = ltb-true _ _ hi })) (λ _. no_turn q b))

-- zero, or a first digit, then what follows an integer
minus : (b : ℕ) → Turns Minus b (turn_of Minus b)
minus b =
    picked (Turns Minus b) (eqb b 0x30) _ _ (at (λ n. Turns Minus n Zero) b 0x30 (λ x r h. (x, h.0, Integer.nought, h.1, h.2)))
    (λ n. on_digit Minus Int b (λ d x r h. (h.point, h.exp, integer d (eqb-false _ _ n) h.run, h.fraction, h.exponent)))

start : (b : ℕ) → Turns Start b (turn_of Start b)
start b =
    picked (Turns Start b) (eqb b 0x2d) _ _
    (at (λ n. Turns Start n Minus) b 0x2d (λ x r h. Number.negative h.2 h.3 h.4))
    (λ _ x r h. let m = minus b x r h in Number.positive m.2 m.3 m.4)

zero : (b : ℕ) → Turns Zero b (turn_of Zero b)
zero b =
    picked (Turns Zero b) (eqb b 0x2e) _ _ (at (λ n. Turns Zero n Dot) b 0x2e (λ x r h. (h.0, Fraction.point h.1, h.2)))
    (λ _. picked (Turns Zero b) (eqb b 0x65) _ _ (at (λ n. Turns Zero n Mark) b 0x65 (λ x r h. (0x65 ∷ x, Fraction.whole, Exponent.small h)))
    (λ _. picked (Turns Zero b) (eqb b 0x45) _ _ (at (λ n. Turns Zero n Mark) b 0x45 (λ x r h. (0x45 ∷ x, Fraction.whole, Exponent.large h)))
    (λ _. no_turn Zero b)))

int : (b : ℕ) → Turns Int b (turn_of Int b)
int b =
    picked (Turns Int b) (eqb b 0x2e) _ _
    (at (λ n. Turns Int n Dot) b 0x2e (λ x r h. record { point = 0x2e ∷ x; exp = h.0; run = Run.end; fraction = Fraction.point h.1; exponent = h.2 }))
    (λ _. picked (Turns Int b) (eqb b 0x65) _ _
    (at (λ n. Turns Int n Mark) b 0x65 (λ x r h. record { point = 0x65 ∷ x; exp = 0x65 ∷ x; run = Run.end; fraction = Fraction.whole; exponent = Exponent.small h }))
    (λ _. picked (Turns Int b) (eqb b 0x45) _ _
    (at (λ n. Turns Int n Mark) b 0x45 (λ x r h. record { point = 0x45 ∷ x; exp = 0x45 ∷ x; run = Run.end; fraction = Fraction.whole; exponent = Exponent.large h }))
    (λ _. on_digit Int Int b (λ d x r h. record { point = h.point; exp = h.exp; run = Run.digit d h.run; fraction = h.fraction; exponent = h.exponent }))))

frac : (b : ℕ) → Turns Frac b (turn_of Frac b)
frac b =
    picked (Turns Frac b) (eqb b 0x65) _ _
    (at (λ n. Turns Frac n Mark) b 0x65 (λ x r h. record { exp = 0x65 ∷ x; run = Run.end; exponent = Exponent.small h }))
    (λ _. picked (Turns Frac b) (eqb b 0x45) _ _
    (at (λ n. Turns Frac n Mark) b 0x45 (λ x r h. record { exp = 0x45 ∷ x; run = Run.end; exponent = Exponent.large h }))
    (λ _. on_digit Frac Frac b (λ d x r h. record { exp = h.exp; run = Run.digit d h.run; exponent = h.exponent })))

mark : (b : ℕ) → Turns Mark b (turn_of Mark b)
mark b =
    picked (Turns Mark b) (eqb b 0x2b) _ _ (at (λ n. Turns Mark n Sign) b 0x2b (λ x r h. Signed.plus h))
    (λ _. picked (Turns Mark b) (eqb b 0x2d) _ _ (at (λ n. Turns Mark n Sign) b 0x2d (λ x r h. Signed.minus h))
    (λ _. on_digit Mark Exp b (λ d x r h. Signed.unsigned (digits d h))))

turns : (q : At) (b : ℕ) → Turns q b (turn_of q b)
turns Start b = start b
turns Minus b = minus b
turns Zero b = zero b
turns Int b = int b
turns Dot b = on_digit Dot Frac b (λ d x r h. (h.exp, digits d h.run, h.exponent))
turns Frac b = frac b
turns Mark b = mark b
turns Sign b = on_digit Sign Exp b (λ d x r h. digits d h)
turns Exp b = on_digit Exp Exp b (λ d x r h. Run.digit d h)
turns Stop b = no_turn Stop b

-- nothing more, in a state where a number may end
ended : (q : At) (r : List ℕ) → final_of q ≡ true → Rest q r r
ended Start r e = absurd (false≢true e)
ended Minus r e = absurd (false≢true e)
ended Zero r e = (r, Fraction.whole, Exponent.plain)
ended Int r e = record { point = r; exp = r; run = Run.end; fraction = Fraction.whole; exponent = Exponent.plain }
ended Dot r e = absurd (false≢true e)
ended Frac r e = record { exp = r; run = Run.end; exponent = Exponent.plain }
ended Mark r e = absurd (false≢true e)
ended Sign r e = absurd (false≢true e)
ended Exp r e = Run.end
ended Stop r e = absurd (false≢true e)

apart_sound : (b : ℕ) → apart b ≡ true → Apart b
unfolding apart
apart_sound b =
    picked P (eqb b 0x2e) _ _ (λ _ e. absurd (false≢true e))
    (λ p. picked P (eqb b 0x65) _ _ (λ _ e. absurd (false≢true e))
    (λ s. picked P (eqb b 0x45) _ _ (λ _ e. absurd (false≢true e))
    (λ l. picked P (ltb b 0x30) _ _ (λ lo _. apart_by p s l (λ d. omega (arith, ltb-true b 0x30 lo, d.from)))
    (λ lo. picked P (ltb b 0x3a) _ _ (λ _ e. absurd (false≢true e)) (λ hi _. apart_by p s l (λ d. omega (arith, ltb-false b 0x3a hi, d.to)))))))
  where
    P : Bool → Type 0
    P q = q ≡ true → Apart b

    apart_by : eqb b 0x2e ≡ false → eqb b 0x65 ≡ false → eqb b 0x45 ≡ false → ¬ (Digit b) → Apart b
    apart_by p s l n = record { no_digit = n; no_point = eqb-false _ _ p; no_small = eqb-false _ _ s; no_large = eqb-false _ _ l }

abbrev ReadIf : At → List ℕ → Parsed (List ℕ) → Type 0
ReadIf q x (ok d r) = Rest q x r × Ended r × (x ≡ d ++ r)
ReadIf q x none = Unit {0}

machine : (q : At) (x : List ℕ) → ReadIf q x (read_num q x)
unfolding read_num
machine q [] = go (final_of q) (ended q [])
  where
    go : (f : Bool) → (f ≡ true → Rest q [] []) → ReadIf q [] (stop_at f [])
    go true h = (h refl, tt, refl)
    go false h = tt
machine q (b ∷ x) = go (is_stop (turn_of q b)) (machine (turn_of q b) x)
  where
    stops : (f a : Bool) → (f ≡ true → Rest q (b ∷ x) (b ∷ x)) → (a ≡ true → Apart b) → ReadIf q (b ∷ x) (stop_at (both f a) (b ∷ x))
    stops true true h k = (h refl, k refl, refl)
    stops true false h k = tt
    stops false a h k = tt

    more : (p : Parsed (List ℕ)) → ReadIf (turn_of q b) x p → ReadIf q (b ∷ x) (push b p)
    more (ok d r) h = (turns q b x r h.0, h.1, ap (λ (y : List ℕ). b ∷ y) h.2)
    more none h = tt

    go : (e : Bool) → ReadIf (turn_of q b) x (read_num (turn_of q b) x) → ReadIf q (b ∷ x) (onward e (λ p. read_num p x) (turn_of q b) b (stop_at (both (final_of q) (apart b)) (b ∷ x)))
    go true h = stops (final_of q) (apart b) (ended q (b ∷ x)) (apart_sound b)
    go false h = more (read_num (turn_of q b) x) h

-- what a number's reading says
abbrev pub NumberIf : List ℕ → Parsed (List ℕ) → Type 0
NumberIf t (ok d r) = Number t r × Ended r × (t ≡ d ++ r)
NumberIf t none = Unit {0}

pub number : (t : List ℕ) → NumberIf t (read_number t)
unfolding read_number
number t = go (read_num Start t) (machine Start t)
  where
    go : (p : Parsed (List ℕ)) → ReadIf Start t p → NumberIf t p
    go (ok d r) h = h
    go none h = tt
