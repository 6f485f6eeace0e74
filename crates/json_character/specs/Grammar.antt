-- A character of a JSON string as RFC 8259, section 7, has it, production by production, over bytes in UTF-8. `X t r ..`: the text t begins with
-- an X, and r is what follows it.
-- Assumes nothing.
use Rattle.std.specs.Prelude.{ℕ, ◌+◌, ◌-◌, ◌*◌, List, ◌∷◌}
use Rattle.json_character.specs.Utf8.{In, Utf8}

-- unescaped = %x20-21 / %x23-5B / %x5D-10FFFF
pub data Unescaped (c : ℕ) : Type 0 where
  below_quote : In 0x20 0x21 c → Unescaped c
  below_backslash : In 0x23 0x5b c → Unescaped c
  above : In 0x5d 0x10ffff c → Unescaped c

-- the byte after a backslash, but for u, and the code point that the two stand for
pub data Escape : ℕ → ℕ → Type 0 where
  quotation_mark : Escape 0x22 0x22
  reverse_solidus : Escape 0x5c 0x5c
  solidus : Escape 0x2f 0x2f
  backspace : Escape 0x62 0x08
  form_feed : Escape 0x66 0x0c
  line_feed : Escape 0x6e 0x0a
  carriage_return : Escape 0x72 0x0d
  tab : Escape 0x74 0x09

-- HEXDIG, of either case, and its value
pub data Hex : ℕ → ℕ → Type 0 where
  decimal : {b : ℕ} → In 0x30 0x39 b → Hex b (b - 0x30)
  upper : {b : ℕ} → In 0x41 0x46 b → Hex b (b - 0x41 + 10)
  lower : {b : ℕ} → In 0x61 0x66 b → Hex b (b - 0x61 + 10)

-- 4HEXDIG
pub data Hex4 : List ℕ → List ℕ → ℕ → Type 0 where
  hex4 : {a b c d w x y z : ℕ} {r : List ℕ} → Hex a w → Hex b x → Hex c y → Hex d z → Hex4 (a ∷ b ∷ c ∷ d ∷ r) r (w * 0x1000 + x * 0x100 + y * 0x10 + z)

-- a number of four digits that is no surrogate
pub data Alone (h : ℕ) : Type 0 where
  below_surrogates : In 0 0xd7ff h → Alone h
  above_surrogates : In 0xe000 0xffff h → Alone h

-- char. A code point above U+FFFF is escaped as a high surrogate and a low one; no surrogate stands alone
pub data Character : List ℕ → List ℕ → ℕ → Type 0 where
  unescaped : {t r : List ℕ} {c : ℕ} → Utf8 t r c → Unescaped c → Character t r c
  escaped : {e c : ℕ} {r : List ℕ} → Escape e c → Character (0x5c ∷ e ∷ r) r c
  numbered : {t r : List ℕ} {h : ℕ} → Hex4 t r h → Alone h → Character (0x5c ∷ 0x75 ∷ t) r h
  paired : {t u r : List ℕ} {h l : ℕ} → Hex4 t (0x5c ∷ 0x75 ∷ u) h → In 0xd800 0xdbff h → Hex4 u r l → In 0xdc00 0xdfff l → Character (0x5c ∷ 0x75 ∷ t) r (0x10000 + (h - 0xd800) * 0x400 + (l - 0xdc00))
