-- In a text of the grammar the scan finds a name twice exactly where its meaning has one.
-- Assumes nothing.
use Rattle.basis.proofs.Std.{ℕ, ◌≤◌, ◌≡◌, refl, ap, ◌∙◌, Bool, true, false, List, [], ◌∷◌, eqb, arith, ne_eqb, same_bytes, pick, both}
use Rattle.json_text.specs.Decoded.{Parsed, decoded}
use Rattle.json_text.specs.Decoded.Parsed.{ok, none}
use Rattle.json_text.proofs.Meaning as Strings
use Rattle.json_number.specs.Number.{Digit, Digits, Integer, Fraction, Signed, Exponent, Number}
use Rattle.json_value.specs.Grammar.{Json, Jsons, Members, Space, Ws, Name, Value, Elements, Pairs}
use Rattle.json_value.specs.Grammar.Members.{mnil, mcons}
use Rattle.json_value.specs.Reader.{skip_ws, is_space, Named, colon_at, colon, read_name, read_start, after_start, read_entry, read_value}
use Rattle.json_value.proofs.Complete as Complete
use Rattle.json_find.specs.Entries.{goes_on, next_entry, after_next, entries}
use Rattle.json_find.proofs.Walks.{unroll}
use Rattle.json_find.proofs.Meaning.{Pairing, pairing}
use Rattle.json_find.proofs.Meaning.Pairing.{pnil, pcons}
use Rattle.json_packet.specs.Names.{called, no_twice, all_once, once}
use Rattle.json_packet.specs.Scan.{same_string, any_same, later, again, read_token, after_token, scan}
use Rattle.json_packet.proofs.Scans.{scan_cons}

-- bytes that are no quotation mark are passed over

byte_token : (b : ℕ) (t : List ℕ) → eqb b 0x22 ≡ false → read_token (b ∷ t) ≡ ok [] t
unfolding read_token
byte_token b t h = rw h

skip_byte : (b : ℕ) (t : List ℕ) → eqb b 0x22 ≡ false → scan (b ∷ t) ≡ scan t
skip_byte b t h = scan_cons b t ∙ ap (after_token (λ u. scan u)) (byte_token b t h)

space_byte : {b : ℕ} → Space b → eqb b 0x22 ≡ false
space_byte Space.blank = refl
space_byte Space.tab = refl
space_byte Space.line = refl
space_byte Space.return = refl

pub skip_ws_lem : {t u : List ℕ} → Ws t u → scan t ≡ scan u
skip_ws_lem Ws.none = refl
skip_ws_lem (Ws.more {b = b} {t = t} s w) = skip_byte b t (space_byte s) ∙ skip_ws_lem w

digit_byte : {b : ℕ} → Digit b → eqb b 0x22 ≡ false
digit_byte {b} d = ne_eqb b 0x22 (λ e. omega (arith, d.from))

digits : {t r : List ℕ} → Digits t r → scan t ≡ scan r
digits (Digits.one {b = b} {r = r} d) = skip_byte b r (digit_byte d)
digits (Digits.more {b = b} {x = x} d m) = skip_byte b x (digit_byte d) ∙ digits m

integer : {t r : List ℕ} → Integer t r → scan t ≡ scan r
integer (Integer.nought {r = r}) = skip_byte 0x30 r refl
integer (Integer.digit {b = b} {r = r} d n) = skip_byte b r (digit_byte d)
integer (Integer.digits {b = b} {x = x} d n m) = skip_byte b x (digit_byte d) ∙ digits m

fraction : {t r : List ℕ} → Fraction t r → scan t ≡ scan r
fraction Fraction.whole = refl
fraction (Fraction.point {x = x} m) = skip_byte 0x2e x refl ∙ digits m

signed : {t r : List ℕ} → Signed t r → scan t ≡ scan r
signed (Signed.unsigned m) = digits m
signed (Signed.plus {x = x} m) = skip_byte 0x2b x refl ∙ digits m
signed (Signed.minus {x = x} m) = skip_byte 0x2d x refl ∙ digits m

exponent : {t r : List ℕ} → Exponent t r → scan t ≡ scan r
exponent Exponent.plain = refl
exponent (Exponent.small {x = x} m) = skip_byte 0x65 x refl ∙ signed m
exponent (Exponent.large {x = x} m) = skip_byte 0x45 x refl ∙ signed m

number : {t r : List ℕ} → Number t r → scan t ≡ scan r
number (Number.positive i f e) = integer i ∙ fraction f ∙ exponent e
number (Number.negative {x = x} i f e) = skip_byte 0x2d x refl ∙ integer i ∙ fraction f ∙ exponent e

-- a string passes unless it is a name again

string_token : (t : List ℕ) {d r : List ℕ} → decoded t ≡ ok d r → read_token (0x22 ∷ t) ≡ pick (again t (0x22 ∷ t)) none (ok d r)
unfolding read_token
string_token t c = rw c

skip_string : (t : List ℕ) {d r : List ℕ} → decoded t ≡ ok d r → scan (0x22 ∷ t) ≡ pick (again t (0x22 ∷ t)) false (scan r)
skip_string t {d} {r} c = scan_cons 0x22 t ∙ ap (after_token (λ u. scan u)) (string_token t c) ∙ go (again t (0x22 ∷ t))
  where
    go : (q : Bool) → after_token (λ u. scan u) (pick q none (ok d r)) ≡ pick q false (scan r)
    go true = refl
    go false = refl

-- no colon follows: the string is no name
abbrev NoColon : List ℕ → Type 0
NoColon [] = Unit {0}
NoColon (b ∷ t) = eqb b 0x3a ≡ false

no_name : (t : List ℕ) {d r : List ℕ} → decoded t ≡ ok d r → NoColon (skip_ws r) → read_start 0x7d (0x22 ∷ t) ≡ none
unfolding read_start read_name skip_ws
no_name t {d} {r} c h = ap colon c ∙ go (skip_ws r) h
  where
    go : (u : List ℕ) → NoColon u → colon_at d u ≡ none
    go [] h = refl
    go (b ∷ u) h = rw h

no_next : (t : List ℕ) {d r : List ℕ} → decoded t ≡ ok d r → NoColon (skip_ws r) → next_entry 0x7d (0x22 ∷ t) ≡ none
unfolding next_entry read_entry
no_next t c h = ap (λ (p : Parsed (List ℕ)). goes_on (after_start 0x7d (λ v. read_value 7 v) p)) (no_name t c h)

not_again : (t : List ℕ) {d r : List ℕ} → decoded t ≡ ok d r → NoColon (skip_ws r) → again t (0x22 ∷ t) ≡ false
unfolding again
not_again t c h =
    ap (λ (ts : List (List ℕ)). any_same (decoded t) (later ts)) (unroll 0x7d (0x22 ∷ t))
    ∙ ap (λ (p : Parsed Named). any_same (decoded t) (after_next (λ u. entries 0x7d u) p)) (no_next t c h)

string : (t : List ℕ) {d r : List ℕ} → decoded t ≡ ok d r → NoColon (skip_ws r) → scan (0x22 ∷ t) ≡ scan r
string t {d} {r} c h = skip_string t c ∙ ap (λ (q : Bool). pick q false (scan r)) (not_again t c h)

-- a name is there again exactly where a later member has it

name_same : (d v : List ℕ) {t u e : List ℕ} → Name t u e → same_string (ok d v) (skip_ws t) ≡ same_bytes e d
unfolding same_string
name_same d v (Name.name a c b w) = rw (Complete.skip a refl, Strings.complete c)

any_called : (d v : List ℕ) {ts : List (List ℕ)} {ms : Members} → Pairing ts ms → any_same (ok d v) ts ≡ called d ms
any_called d v pnil = refl
any_called d v (pcons {d = e} {ms = ms} a x i) = rw (name_same d v a, any_called d v i)

later_pairing : {d : List ℕ} {j : Json} {ts : List (List ℕ)} {ms : Members} → Pairing ts (mcons d j ms) → Pairing (later ts) ms
later_pairing (pcons a x i) = i

again_called : {l : ℕ} {u v r d : List ℕ} {j : Json} {ms : Members} → l ≤ 7 → Pairs l (0x22 ∷ u) r (mcons d j ms) → decoded u ≡ ok d v → again u (0x22 ∷ u) ≡ called d ms
unfolding again
again_called {u = u} {v = v} {d = d} h i c = ap (λ (p : Parsed (List ℕ)). any_same p (later (entries 0x7d (0x22 ∷ u)))) c ∙ any_called d v (later_pairing (pairing h i))

-- what stands before a value's rest

closes : {v r : List ℕ} (b : ℕ) → is_space b ≡ false → eqb b 0x3a ≡ false → Ws v (b ∷ r) → NoColon (skip_ws v)
closes b s h w = rw (Complete.skip w s) h

join : (a b c : Bool) → both a (both b c) ≡ both (both a b) c
join true b c = refl
join false b c = refl

one : (a c : Bool) → both a c ≡ both (both a true) c
one true c = refl
one false c = refl

name_one : (q a c : Bool) → pick q false (both a c) ≡ both (pick q false (both a true)) c
name_one true a c = refl
name_one false true c = refl
name_one false false c = refl

name_join : (q a b c : Bool) → pick q false (both a (both b c)) ≡ both (pick q false (both a b)) c
name_join true a b c = refl
name_join false true b c = refl
name_join false false b c = refl

mutual
  unfolding no_twice all_once once

  pub value : {l : ℕ} {t r : List ℕ} {j : Json} → l ≤ 8 → Value l t r j → NoColon (skip_ws r) → scan t ≡ both (no_twice j) (scan r)
  value h (Value.vnull {r = r}) n = skip_byte 0x6e (0x75 ∷ 0x6c ∷ 0x6c ∷ r) refl ∙ skip_byte 0x75 (0x6c ∷ 0x6c ∷ r) refl ∙ skip_byte 0x6c (0x6c ∷ r) refl ∙ skip_byte 0x6c r refl
  value h (Value.vtrue {r = r}) n = skip_byte 0x74 (0x72 ∷ 0x75 ∷ 0x65 ∷ r) refl ∙ skip_byte 0x72 (0x75 ∷ 0x65 ∷ r) refl ∙ skip_byte 0x75 (0x65 ∷ r) refl ∙ skip_byte 0x65 r refl
  value h (Value.vfalse {r = r}) n = skip_byte 0x66 (0x61 ∷ 0x6c ∷ 0x73 ∷ 0x65 ∷ r) refl ∙ skip_byte 0x61 (0x6c ∷ 0x73 ∷ 0x65 ∷ r) refl ∙ skip_byte 0x6c (0x73 ∷ 0x65 ∷ r) refl ∙ skip_byte 0x73 (0x65 ∷ r) refl ∙ skip_byte 0x65 r refl
  value h (Value.vnum x e d) n = number x
  value h (Value.vstr {t = t} c) n = string t (Strings.complete c) n
  value h (Value.varr₀ {t = t} {r = r} w) n = skip_byte 0x5b t refl ∙ skip_ws_lem w ∙ skip_byte 0x5d r refl
  value h (Value.varr {t = t} i) n = skip_byte 0x5b t refl ∙ elements (omega arith) i
  value h (Value.vobj₀ {t = t} {r = r} w) n = skip_byte 0x7b t refl ∙ skip_ws_lem w ∙ skip_byte 0x7d r refl
  value h (Value.vobj {t = t} i) n = skip_byte 0x7b t refl ∙ pairs (omega arith) i

  elements : {l : ℕ} {t r : List ℕ} {js : Jsons} → l ≤ 7 → Elements l t r js → scan t ≡ both (all_once js) (scan r)
  elements h (Elements.elast {v = v} {r = r} {j = j} a x b) =
      skip_ws_lem a ∙ value (omega arith) x (closes 0x5d refl refl b)
      ∙ ap (both (no_twice j)) (skip_ws_lem b ∙ skip_byte 0x5d r refl) ∙ one (no_twice j) (scan r)
  elements h (Elements.enext {v = v} {w = w} {r = r} {j = j} {js = js} a x b i) =
      skip_ws_lem a ∙ value (omega arith) x (closes 0x2c refl refl b)
      ∙ ap (both (no_twice j)) (skip_ws_lem b ∙ skip_byte 0x2c w refl ∙ elements h i) ∙ join (no_twice j) (all_once js) (scan r)

  pairs : {l : ℕ} {t r : List ℕ} {ms : Members} → l ≤ 7 → Pairs l t r ms → scan t ≡ both (once ms) (scan r)
  pairs h (Pairs.plast {r = r} {d = d} {j = j} (Name.name {u = u} {v = v} {w = w} a c b e) x z) =
      skip_ws_lem a ∙ skip_string u (Strings.complete c)
      ∙ ap (λ (q : Bool). pick q false (scan v)) (again_called h (Pairs.plast (Name.name Ws.none c b e) x z) (Strings.complete c))
      ∙ ap (λ (q : Bool). pick (called d mnil) false q) (skip_ws_lem b ∙ skip_byte 0x3a w refl ∙ skip_ws_lem e ∙ value (omega arith) x (closes 0x7d refl refl z) ∙ ap (both (no_twice j)) (skip_ws_lem z ∙ skip_byte 0x7d r refl))
      ∙ name_one (called d mnil) (no_twice j) (scan r)
  pairs h (Pairs.pnext {w = y} {r = r} {d = d} {j = j} {ms = ms} (Name.name {u = u} {v = v} {w = w} a c b e) x z i) =
      skip_ws_lem a ∙ skip_string u (Strings.complete c)
      ∙ ap (λ (q : Bool). pick q false (scan v)) (again_called h (Pairs.pnext (Name.name Ws.none c b e) x z i) (Strings.complete c))
      ∙ ap (λ (q : Bool). pick (called d ms) false q) (skip_ws_lem b ∙ skip_byte 0x3a w refl ∙ skip_ws_lem e ∙ value (omega arith) x (closes 0x2c refl refl z) ∙ ap (both (no_twice j)) (skip_ws_lem z ∙ skip_byte 0x2c y refl ∙ pairs h i))
      ∙ name_join (called d ms) (no_twice j) (once ms) (scan r)
