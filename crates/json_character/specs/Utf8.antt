-- UTF-8 as RFC 3629, section 4, has it, row by row. `Utf8 t r c`: the text t begins with a character of the code point c, and r is
-- what follows it. No overlong form, no surrogate and nothing above U+10FFFF is in these rows.
-- Assumes nothing.
use Rattle.std.specs.Prelude.{ℕ, ◌+◌, ◌-◌, ◌*◌, ◌≤◌, List, ◌∷◌}

-- %xAA-BB: from one number to another, both included
pub record In (low high b : ℕ) : Type 0 where
  pub from : low ≤ b
  pub to : b ≤ high

-- UTF8-tail = %x80-BF
abbrev pub Tail : ℕ → Type 0
Tail b = In 0x80 0xbf b

-- the code points of two, three and four bytes: the bits that follow the marking ones, first byte highest, six bits of each tail
abbrev pub two : ℕ → ℕ → ℕ
two a b = (a - 0xc0) * 0x40 + (b - 0x80)

abbrev pub three : ℕ → ℕ → ℕ → ℕ
three a b c = (a - 0xe0) * 0x1000 + (b - 0x80) * 0x40 + (c - 0x80)

abbrev pub four : ℕ → ℕ → ℕ → ℕ → ℕ
four a b c d = (a - 0xf0) * 0x40000 + (b - 0x80) * 0x1000 + (c - 0x80) * 0x40 + (d - 0x80)

pub data Utf8 : List ℕ → List ℕ → ℕ → Type 0 where
  -- UTF8-1 = %x00-7F
  utf8_1 : {a : ℕ} {r : List ℕ} → In 0x00 0x7f a → Utf8 (a ∷ r) r a
  -- UTF8-2 = %xC2-DF UTF8-tail
  utf8_2 : {a b : ℕ} {r : List ℕ} → In 0xc2 0xdf a → Tail b → Utf8 (a ∷ b ∷ r) r (two a b)
  -- UTF8-3 = %xE0 %xA0-BF UTF8-tail / %xE1-EC 2( UTF8-tail ) / %xED %x80-9F UTF8-tail / %xEE-EF 2( UTF8-tail )
  utf8_3_E0 : {a b c : ℕ} {r : List ℕ} → In 0xe0 0xe0 a → In 0xa0 0xbf b → Tail c → Utf8 (a ∷ b ∷ c ∷ r) r (three a b c)
  utf8_3_E1 : {a b c : ℕ} {r : List ℕ} → In 0xe1 0xec a → Tail b → Tail c → Utf8 (a ∷ b ∷ c ∷ r) r (three a b c)
  utf8_3_ED : {a b c : ℕ} {r : List ℕ} → In 0xed 0xed a → In 0x80 0x9f b → Tail c → Utf8 (a ∷ b ∷ c ∷ r) r (three a b c)
  utf8_3_EE : {a b c : ℕ} {r : List ℕ} → In 0xee 0xef a → Tail b → Tail c → Utf8 (a ∷ b ∷ c ∷ r) r (three a b c)
  -- UTF8-4 = %xF0 %x90-BF 2( UTF8-tail ) / %xF1-F3 3( UTF8-tail ) / %xF4 %x80-8F 2( UTF8-tail )
  utf8_4_F0 : {a b c d : ℕ} {r : List ℕ} → In 0xf0 0xf0 a → In 0x90 0xbf b → Tail c → Tail d → Utf8 (a ∷ b ∷ c ∷ d ∷ r) r (four a b c d)
  utf8_4_F1 : {a b c d : ℕ} {r : List ℕ} → In 0xf1 0xf3 a → Tail b → Tail c → Tail d → Utf8 (a ∷ b ∷ c ∷ d ∷ r) r (four a b c d)
  utf8_4_F4 : {a b c d : ℕ} {r : List ℕ} → In 0xf4 0xf4 a → In 0x80 0x8f b → Tail c → Tail d → Utf8 (a ∷ b ∷ c ∷ d ∷ r) r (four a b c d)
