-- A version's text: the code reads it part by part, the machine splits it at its dots.
-- Assumes nothing.
use Rattle.basis.proofs.Std.{ℕ, ◌+◌, ◌*◌, ◌≤◌, arith, ◌≡◌, refl, ap, ◌∙◌, Bool, true, false, List, [], ◌∷◌, ◌++◌, Option, some, none, eqb, leb, length, length-append, leb-true, lt-leb, pick, both, same_bytes, text}
use Rattle.number.specs.declared.Number.{Number}
use Rattle.number.specs.declared.Number.TheVariants.{Is, No}
use Rattle.number.specs.Decimal.{digits}
use Rattle.number.specs.Reading.{says}
use Rattle.number.proofs.Alphabet.{digits_in}
use Rattle.number.proofs.Digits.{digits_length}
use Rattle.json_text.specs.Copied.{ascii}
use Rattle.read_versions.specs.Version.{version, Writes, one, two, three, ReadsVersion, is, no, before, Behind, nothing, more, behind, rest_of, join_parts, alone, one_part, two_parts, version_of}
use Rattle.read_versions.proofs.Exact.{reads}
use Rattle.machine.specs.Words.{Bytes, ◌and◌, is_some, or_else, each}
use Rattle.machine.specs.Json as Json
use Rattle.machine.specs.Json.{number_in, grown, parts, version_in}
use Rattle.refine_read.proofs.Words.{usable, Sure}
use Rattle.refine_read.proofs.Usable.{alphabet_ascii, ascii_append, usable_of}
use Rattle.refine_read.proofs.Entries.{said_number, number_is}
use Rattle.refine_read.specs.Versions.{number_of, numbered}

-- ---- the parts between dots
abbrev parts_behind : Behind → List Bytes
parts_behind nothing = []
parts_behind (more s) = parts s

split : (s : Bytes) → parts s ≡ before s ∷ parts_behind (behind s)
unfolding before behind
split [] = refl
split (b ∷ s) = by (eqb b 46) (split s)
  where
    by : (q : Bool) → parts s ≡ before s ∷ parts_behind (behind s)
        → pick q ([] ∷ parts s) (grown b (parts s)) ≡ pick q [] (b ∷ before s) ∷ parts_behind (pick q (more s) (behind s))
    by true e = refl
    by false e = ap (grown b) e

-- ---- what both read
pub data Alike : Option (List ℕ) → Number → Type 0 where
  a_version : (a b c : ℕ) → a ≤ 255 → b ≤ 255 → c ≤ 255 → Alike (some (a ∷ b ∷ c ∷ [])) (Is (version a b c))
  no_version : Alike none No

-- a part that is read is no more than 255
pub data Part : Option ℕ → Type 0 where
  a_part : (n : ℕ) → n ≤ 255 → Part (some n)
  no_part : Part none

part : (d : Bytes) → Part (number_in 255 d)
part d = by (leb (says 0 d) 255) (same_bytes d (digits (says 0 d))) refl
  where
    by : (a b : Bool) → leb (says 0 d) 255 ≡ a → Part (pick (both a b) (some (says 0 d)) none)
    by true true e = a_part (says 0 d) (leb-true (says 0 d) 255 e)
    by true false e = no_part
    by false b e = no_part

-- the parts' numbers, or none where one is no number
abbrev whole : Bool → List ℕ → Option (List ℕ)
whole b v = pick b (some v) none

of_one : {a : Option ℕ} → Part a → Alike (whole (is_some a and true) (or_else 0 a ∷ 0 ∷ 0 ∷ [])) (join_parts 65536 (said_number a) (Is 0))
of_one (a_part a h) = let z : a * 65536 + 0 ≡ version a 0 0 = omega arith in rw z (a_version a 0 0 h (omega arith) (omega arith))
of_one no_part = no_version

of_two : {a b : Option ℕ} → Part a → Part b
    → Alike (whole (is_some a and is_some b and true) (or_else 0 a ∷ or_else 0 b ∷ 0 ∷ [])) (join_parts 65536 (said_number a) (join_parts 256 (said_number b) (Is 0)))
of_two (a_part a h) (a_part b k) = let z : a * 65536 + (b * 256 + 0) ≡ version a b 0 = omega arith in rw z (a_version a b 0 h k (omega arith))
of_two (a_part a h) no_part = no_version
of_two no_part p = no_version

of_three : {a b c : Option ℕ} → Part a → Part b → Part c
    → Alike (whole (is_some a and is_some b and is_some c and true) (or_else 0 a ∷ or_else 0 b ∷ or_else 0 c ∷ [])) (join_parts 65536 (said_number a) (join_parts 256 (said_number b) (said_number c)))
of_three (a_part a h) (a_part b k) (a_part c l) = let z : a * 65536 + (b * 256 + c) ≡ version a b c = omega arith in rw z (a_version a b c h k l)
of_three (a_part a h) (a_part b k) no_part = no_version
of_three (a_part a h) no_part p = no_version
of_three no_part p q = no_version

no_more : (w : ℕ) (r : Number) → join_parts w r No ≡ No
no_more w (Is a) = refl
no_more w No = refl

-- ---- a text by its parts
abbrev in_parts : List Bytes → Option (List ℕ)
in_parts ps = pick (leb (length ps) 3 and each (λ p. is_some (number_in 255 p)) ps) (some (Json.numbered ps)) none

too_many : (p q r : Bytes) (w : Bytes) → in_parts (p ∷ q ∷ r ∷ parts w) ≡ none
too_many p q r w = rw (split w) (rw (lt-leb (length (p ∷ q ∷ r ∷ before w ∷ parts_behind (behind w))) 3 (omega arith)))

three_parts : (p q u : Bytes) (x : Behind)
    → Alike (in_parts (p ∷ q ∷ before u ∷ parts_behind x)) (join_parts 65536 (said_number (number_in 255 p)) (join_parts 256 (said_number (number_in 255 q)) (alone (said_number (number_in 255 (before u))) x)))
three_parts p q u nothing = of_three (part p) (part q) (part (before u))
three_parts p q u (more w) =
    rw (too_many p q (before u) w, no_more 256 (said_number (number_in 255 q)), no_more 65536 (said_number (number_in 255 p))) no_version

two_parts_lem : (p t : Bytes) (x : Behind)
    → Alike (in_parts (p ∷ before t ∷ parts_behind x)) (join_parts 65536 (said_number (number_in 255 p)) (join_parts 256 (said_number (number_in 255 (before t))) (rest_of one_part x)))
unfolding one_part
two_parts_lem p t nothing = of_two (part p) (part (before t))
two_parts_lem p t (more u) = rw (split u, number_is 255 (before u)) (three_parts p (before t) u (behind u))

one_part_lem : (s : Bytes) (x : Behind) → Alike (in_parts (before s ∷ parts_behind x)) (join_parts 65536 (said_number (number_in 255 (before s))) (rest_of two_parts x))
unfolding two_parts
one_part_lem s nothing = of_one (part (before s))
one_part_lem s (more t) = rw (split t, number_is 255 (before t)) (two_parts_lem (before s) t (behind t))

pub alike : (s : Bytes) → Alike (version_in s) (version_of s)
unfolding version_in version_of
alike s = rw (split s, number_is 255 (before s)) (one_part_lem s (behind s))

pub text_is : (s : Bytes) → version_of s ≡ numbered (version_in s)
text_is s = by (alike s)
  where
    by : {o : Option (List ℕ)} {r : Number} → Alike o r → r ≡ numbered o
    by (a_version a b c h k l) = refl
    by no_version = refl

-- ---- what is read can be used
digits_ascii : (n : ℕ) → ascii (digits n) ≡ true
digits_ascii n = alphabet_ascii (digits n) (digits_in n)

dot : ascii (text ".") ≡ true
unfolding ascii
dot = refl

dotted : (n : ℕ) → ascii (text "." ++ digits n) ≡ true
unfolding ascii
dotted n = digits_ascii n

short : (n : ℕ) → n ≤ 255 → length (digits n) ≤ 3
short n h = digits_length 2 n (omega arith)

written_usable : {d : Bytes} {n : ℕ} → Writes d n → usable d ≡ true
written_usable (one a h) = usable_of (digits a) (omega (arith, short a h)) (digits_ascii a)
written_usable (two a b h k) =
    usable_of (digits a ++ (text "." ++ digits b)) (omega (arith, short a h, short b k, length-append (digits a) (text "." ++ digits b)))
    (ascii_append (digits a) (text "." ++ digits b) (digits_ascii a) (dotted b))
written_usable (three a b c h k l) =
    let t = digits b ++ (text "." ++ digits c) in
    usable_of (digits a ++ (text "." ++ t)) (omega (arith, short a h, short b k, short c l, length-append (digits a) (text "." ++ t), length-append (digits b) (text "." ++ digits c)))
    (ascii_append (digits a) (text "." ++ t) (digits_ascii a) (ascii_append (text ".") t dot (ascii_append (digits b) (text "." ++ digits c) (digits_ascii b) (dotted c))))

abbrev pub is_version : Bytes → Bool
is_version s = is_some (version_in s)

pub version_sure : Sure is_version
version_sure d e = by (version_in d) refl e (reads d)
  where
    of : {r : Number} (n : ℕ) → r ≡ Is n → ReadsVersion d r → usable d ≡ true
    of n p (is m w) = written_usable w
    of n p (no f) = absurd (let y : ◌≡◌ {A = ℕ} 0 1 = cc in omega arith)

    by : (o : Option (List ℕ)) → version_in d ≡ o → is_some o ≡ true → ReadsVersion d (version_of d) → usable d ≡ true
    by none p e r = absurd (let y : ◌≡◌ {A = ℕ} 0 1 = cc in omega arith)
    by (some v) p e r = of (number_of v) (text_is d ∙ ap numbered p) r
