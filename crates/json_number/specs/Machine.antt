-- An executable reader of numbers: a machine that takes byte after byte.
-- Assumes nothing.
use Rattle.std.specs.Prelude.{ℕ, Bool, true, false, List, [], ◌∷◌, ltb, eqb}
use Rattle.basis.specs.Pick.{pick, both}
use Rattle.json_text.specs.Decoded.{Parsed, push}
use Rattle.json_text.specs.Decoded.Parsed.{ok, none}
use Rattle.json_number.specs.declared.At.{At}
use Rattle.json_number.specs.declared.At.TheVariants.{Start, Minus, Zero, Int, Dot, Frac, Mark, Sign, Exp, Stop}

-- on to q with a digit; `Stop`: the number does not go on with the byte
abbrev pub if_digit : ℕ → At → At
if_digit b q = pick (ltb b 0x30) Stop (pick (ltb b 0x3a) q Stop)

abbrev pub lead_of : ℕ → At
lead_of b = pick (eqb b 0x30) Zero (if_digit b Int)

abbrev pub or_mark : ℕ → At → At
or_mark b q = pick (eqb b 0x65) Mark (pick (eqb b 0x45) Mark q)

abbrev pub or_point : ℕ → At → At
or_point b q = pick (eqb b 0x2e) Dot q

abbrev pub sign_of : ℕ → At
sign_of b = pick (eqb b 0x2b) Sign (pick (eqb b 0x2d) Sign (if_digit b Exp))

abbrev pub start_of : ℕ → At
start_of b = pick (eqb b 0x2d) Minus (lead_of b)

-- where a byte takes the machine
abbrev pub turn_of : At → ℕ → At
turn_of Start b = start_of b
turn_of Minus b = lead_of b
turn_of Zero b = or_point b (or_mark b Stop)
turn_of Int b = or_point b (or_mark b (if_digit b Int))
turn_of Dot b = if_digit b Frac
turn_of Frac b = or_mark b (if_digit b Frac)
turn_of Mark b = sign_of b
turn_of Sign b = if_digit b Exp
turn_of Exp b = if_digit b Exp
turn_of Stop b = Stop

abbrev pub is_stop : At → Bool
is_stop Start = false
is_stop Minus = false
is_stop Zero = false
is_stop Int = false
is_stop Dot = false
is_stop Frac = false
is_stop Mark = false
is_stop Sign = false
is_stop Exp = false
is_stop Stop = true

-- a number may end there
abbrev pub final_of : At → Bool
final_of Start = false
final_of Minus = false
final_of Zero = true
final_of Int = true
final_of Dot = false
final_of Frac = true
final_of Mark = false
final_of Sign = false
final_of Exp = true
final_of Stop = false

-- the byte is no digit, point or e
unfoldable pub apart : ℕ → Bool
apart b =
    pick (eqb b 0x2e) false
    (pick (eqb b 0x65) false (pick (eqb b 0x45) false (pick (ltb b 0x30) true (pick (ltb b 0x3a) false true))))

abbrev pub stop_at : Bool → List ℕ → Parsed (List ℕ)
stop_at true r = ok [] r
stop_at false r = none

abbrev pub onward : Bool → (At → Parsed (List ℕ)) → At → ℕ → Parsed (List ℕ) → Parsed (List ℕ)
onward true more p b z = z
onward false more p b z = push b (more p)

-- the bytes up to the first with which the machine stops, if it may stop there
unfoldable pub read_num : At → List ℕ → Parsed (List ℕ)
read_num q [] = stop_at (final_of q) []
read_num q (b ∷ x) =
    onward (is_stop (turn_of q b)) (λ p. read_num p x) (turn_of q b) b (stop_at (both (final_of q) (apart b)) (b ∷ x))

-- the number at the start of a text, and what follows it
unfoldable pub read_number : List ℕ → Parsed (List ℕ)
read_number t = read_num Start t
