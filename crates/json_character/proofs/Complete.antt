-- A character of the grammar is read.
-- Assumes nothing.
use Rattle.basis.proofs.Std.{ℕ, ◌+◌, ◌-◌, ◌*◌, ◌<◌, ◌≤◌, ◌≡◌, refl, ◌∙◌, List, ◌∷◌, ◌⊎◌, inl, inr, arith, get_or, drop, lt-ltb, le-ltb, le-leb, ne_eqb}
use Rattle.json_character.specs.declared.Char.TheVariants.{One, Close}
use Rattle.json_character.specs.Char.{hex_of, hex4_of, hex4_at, escape_of, unicode_of, two_of, in_three, three_of, in_four, four_of, raw_of, char_of}
use Rattle.json_character.proofs.Laws.{digits}
use Rattle.json_character.proofs.Ranges.{between}
use Rattle.json_character.specs.Utf8.{In, Tail, Utf8, two, three, four}
use Rattle.json_character.specs.Utf8.Utf8.{utf8_1, utf8_2, utf8_3_E0, utf8_3_E1, utf8_3_ED, utf8_3_EE, utf8_4_F0, utf8_4_F1, utf8_4_F4}
use Rattle.json_character.specs.Grammar.{Unescaped, Escape, Hex, Hex4, Alone, Character}

-- a character of code point c before r is read at the start of t
pub record Reads (t r : List ℕ) (c : ℕ) : Type 0 where
  pub width : ℕ
  pub says : char_of t ≡ One c width
  pub rest : drop (1 + width) t ≡ r

raw_char : (a : ℕ) (t : List ℕ) → ¬ (a ≡ 0x22) → ¬ (a ≡ 0x5c) → char_of (a ∷ t) ≡ raw_of a (get_or t 0 0) (get_or t 1 0) (get_or t 2 0)
unfolding char_of
raw_char a t p q = simp (ne_eqb _ _ p, ne_eqb _ _ q)

raw_one : (a b c d : ℕ) → 0x20 ≤ a → a < 0x80 → raw_of a b c d ≡ One a 0
unfolding raw_of
raw_one a b c d h g = simp (le-ltb _ _ h, lt-ltb _ _ g)

raw_two : (a b c d : ℕ) → In 0xc2 0xdf a → Tail b → raw_of a b c d ≡ One (two a b) 1
unfolding raw_of two_of
raw_two a b c d i j = simp (le-ltb a 0x20 (omega arith), le-ltb a 0x80 (omega arith), le-ltb a 0xc2 (omega arith), lt-ltb a 0xe0 (omega arith), le-leb 0x80 b (omega arith), lt-ltb b 0xc0 (omega arith))

in_three_lem : (n : ℕ) → 0x800 ≤ n → (n < 0xd800) ⊎ (0xe000 ≤ n) → in_three n ≡ One n 2
unfolding in_three
in_three_lem n h (inl g) = simp (le-ltb _ _ h, lt-ltb _ _ g)
in_three_lem n h (inr g) = simp (le-ltb _ _ h, le-ltb n 0xd800 (omega arith), le-ltb _ _ g)

raw_three : (a b c d : ℕ) → In 0xe0 0xef a → Tail b → Tail c → 0x800 ≤ three a b c → (three a b c < 0xd800) ⊎ (0xe000 ≤ three a b c) → raw_of a b c d ≡ One (three a b c) 2
unfolding raw_of three_of
raw_three a b c d i j k h g =
    simp (
      le-ltb a 0x20 (omega arith),
      le-ltb a 0x80 (omega arith),
      le-ltb a 0xc2 (omega arith),
      le-ltb a 0xe0 (omega arith),
      lt-ltb a 0xf0 (omega arith),
      le-leb 0x80 b (omega arith),
      lt-ltb b 0xc0 (omega arith),
      le-leb 0x80 c (omega arith),
      lt-ltb c 0xc0 (omega arith),
    )
    (in_three_lem (three a b c) h g)

raw_four : (a b c d : ℕ) → In 0xf0 0xf4 a → Tail b → Tail c → Tail d → 0x10000 ≤ four a b c d → four a b c d < 0x110000 → raw_of a b c d ≡ One (four a b c d) 3
unfolding raw_of four_of in_four
raw_four a b c d i j k l h g =
    simp (
      le-ltb a 0x20 (omega arith),
      le-ltb a 0x80 (omega arith),
      le-ltb a 0xc2 (omega arith),
      le-ltb a 0xe0 (omega arith),
      le-ltb a 0xf0 (omega arith),
      lt-ltb a 0xf5 (omega arith),
      le-leb 0x80 b (omega arith),
      lt-ltb b 0xc0 (omega arith),
      le-leb 0x80 c (omega arith),
      lt-ltb c 0xc0 (omega arith),
      le-leb 0x80 d (omega arith),
      lt-ltb d 0xc0 (omega arith),
      le-ltb _ _ h,
      lt-ltb _ _ g,
    )

three_reads : {a b c : ℕ} {r : List ℕ} → In 0xe0 0xef a → Tail b → Tail c → 0x800 ≤ three a b c → (three a b c < 0xd800) ⊎ (0xe000 ≤ three a b c) → Reads (a ∷ b ∷ c ∷ r) r (three a b c)
three_reads {a} {b} {c} {r} i j k h g = record { width = 2; says = raw_char a (b ∷ c ∷ r) (λ e. omega arith) (λ e. omega arith) ∙ raw_three a b c _ i j k h g; rest = refl }

four_reads : {a b c d : ℕ} {r : List ℕ} → In 0xf0 0xf4 a → Tail b → Tail c → Tail d → 0x10000 ≤ four a b c d → four a b c d < 0x110000 → Reads (a ∷ b ∷ c ∷ d ∷ r) r (four a b c d)
four_reads {a} {b} {c} {d} {r} i j k l h g = record { width = 3; says = raw_char a (b ∷ c ∷ d ∷ r) (λ e. omega arith) (λ e. omega arith) ∙ raw_four a b c d i j k l h g; rest = refl }

raw_reads : {t r : List ℕ} {c : ℕ} → Utf8 t r c → Unescaped c → Reads t r c
raw_reads (utf8_1 {a = a} {r = r} i) u = record { width = 0; says = raw_char a r (ne a u) (ne' a u) ∙ raw_one a _ _ _ (low a u) (omega arith); rest = refl }
  where
    ne : (a : ℕ) → Unescaped a → ¬ (a ≡ 0x22)
    ne a (Unescaped.below_quote j) e = omega arith
    ne a (Unescaped.below_backslash j) e = omega arith
    ne a (Unescaped.above j) e = omega arith

    ne' : (a : ℕ) → Unescaped a → ¬ (a ≡ 0x5c)
    ne' a (Unescaped.below_quote j) e = omega arith
    ne' a (Unescaped.below_backslash j) e = omega arith
    ne' a (Unescaped.above j) e = omega arith

    low : (a : ℕ) → Unescaped a → 0x20 ≤ a
    low a (Unescaped.below_quote j) = omega arith
    low a (Unescaped.below_backslash j) = omega arith
    low a (Unescaped.above j) = omega arith
raw_reads (utf8_2 {a = a} {b = b} {r = r} i j) u = record { width = 1; says = raw_char a (b ∷ r) (λ e. omega arith) (λ e. omega arith) ∙ raw_two a b _ _ i j; rest = refl }
raw_reads (utf8_3_E0 i j k) u = three_reads (between i (omega arith) (omega arith)) (between j (omega arith) (omega arith)) k (omega arith) (inl (omega arith))
raw_reads (utf8_3_E1 i j k) u = three_reads (between i (omega arith) (omega arith)) j k (omega arith) (inl (omega arith))
raw_reads (utf8_3_ED i j k) u = three_reads (between i (omega arith) (omega arith)) (between j (omega arith) (omega arith)) k (omega arith) (inl (omega arith))
raw_reads (utf8_3_EE i j k) u = three_reads (between i (omega arith) (omega arith)) j k (omega arith) (inr (omega arith))
raw_reads (utf8_4_F0 i j k l) u = four_reads (between i (omega arith) (omega arith)) (between j (omega arith) (omega arith)) k l (omega arith) (omega arith)
raw_reads (utf8_4_F1 i j k l) u = four_reads (between i (omega arith) (omega arith)) j k l (omega arith) (omega arith)
raw_reads (utf8_4_F4 i j k l) u = four_reads (between i (omega arith) (omega arith)) (between j (omega arith) (omega arith)) k l (omega arith) (omega arith)

hex_value_lem : {b v : ℕ} → Hex b v → (hex_of b ≡ v) × (v < 16)
unfolding hex_of
hex_value_lem (Hex.decimal {b = b} i) = (simp (le-ltb b 0x30 (omega arith), lt-ltb b 0x3a (omega arith)), omega arith)
hex_value_lem (Hex.upper {b = b} i) = (simp (le-ltb b 0x30 (omega arith), le-ltb b 0x3a (omega arith), le-ltb b 0x41 (omega arith), lt-ltb b 0x47 (omega arith)) (omega arith), omega arith)
hex_value_lem (Hex.lower {b = b} i) = (simp (le-ltb b 0x30 (omega arith), le-ltb b 0x3a (omega arith), le-ltb b 0x41 (omega arith), le-ltb b 0x47 (omega arith), le-ltb b 0x61 (omega arith), lt-ltb b 0x67 (omega arith)) (omega arith), omega arith)

hex4_value : {t r : List ℕ} {h : ℕ} → Hex4 t r h → (hex4_of (get_or t 0 0) (get_or t 1 0) (get_or t 2 0) (get_or t 3 0) ≡ h) × (drop 4 t ≡ r)
hex4_value (Hex4.hex4 {a = a} {b = b} {c = c} {d = d} p q s t) =
    let w = hex_value_lem p in
    let x = hex_value_lem q in
    let y = hex_value_lem s in
    let z = hex_value_lem t in
    (digits a b c d (omega arith) (omega arith) (omega arith) (omega arith) ∙ rw (w.0, x.0, y.0, z.0), refl)

escape_char : {e c : ℕ} (r : List ℕ) → Escape e c → char_of (0x5c ∷ e ∷ r) ≡ One c 1
unfolding char_of escape_of
escape_char r Escape.quotation_mark = refl
escape_char r Escape.reverse_solidus = refl
escape_char r Escape.solidus = refl
escape_char r Escape.backspace = refl
escape_char r Escape.form_feed = refl
escape_char r Escape.line_feed = refl
escape_char r Escape.carriage_return = refl
escape_char r Escape.tab = refl

unicode_alone : (h m u l : ℕ) → Alone h → unicode_of h m u l ≡ One h 5
unfolding unicode_of
unicode_alone h m u l (Alone.below_surrogates i) = simp (lt-ltb h 0xd800 (omega arith))
unicode_alone h m u l (Alone.above_surrogates i) = simp (le-ltb h 0xd800 (omega arith), le-ltb h 0xdc00 (omega arith), le-ltb h 0xe000 (omega arith), lt-ltb h 0x10000 (omega arith))

unicode_pair : (h l : ℕ) → In 0xd800 0xdbff h → In 0xdc00 0xdfff l → unicode_of h 0x5c 0x75 l ≡ One (0x10000 + (h - 0xd800) * 0x400 + (l - 0xdc00)) 11
unfolding unicode_of
unicode_pair h l i j = simp (le-ltb h 0xd800 (omega arith), lt-ltb h 0xdc00 (omega arith), le-leb 0xdc00 l (omega arith), lt-ltb l 0xe000 (omega arith))

unicode_char : (t : List ℕ) → char_of (0x5c ∷ 0x75 ∷ t) ≡ unicode_of (hex4_at t 0) (get_or t 4 0) (get_or t 5 0) (hex4_at t 6)
unfolding char_of
unicode_char t = refl

pub char_reads : {t r : List ℕ} {c : ℕ} → Character t r c → Reads t r c
char_reads (Character.unescaped x u) = raw_reads x u
char_reads (Character.escaped {r = r} e) = record { width = 1; says = escape_char r e; rest = refl }
char_reads (Character.numbered {t = t} {h = h} x a) = record { width = 5; says = unicode_char t ∙ rw (hex4_value x).0 (unicode_alone h _ _ _ a); rest = (hex4_value x).1 }
char_reads (Character.paired {u = u} {h = h} {l = l} (Hex4.hex4 {a = a} {b = b} {c = c} {d = d} p q s t) i y j) =
    record { width = 11; says = unicode_char (a ∷ b ∷ c ∷ d ∷ 0x5c ∷ 0x75 ∷ u) ∙ rw ((hex4_value (Hex4.hex4 {r = u} p q s t)).0, (hex4_value y).0) (unicode_pair _ l i j); rest = (hex4_value y).1 }

pub quotation_mark : (r : List ℕ) → char_of (0x22 ∷ r) ≡ Close
unfolding char_of
quotation_mark r = refl
