-- One character of a string, as numbers: by RFC 8259 for escapes and RFC 3629 for UTF-8.
-- Assumes nothing.
use Rattle.std.specs.Prelude.{ℕ, ◌+◌, ◌-◌, ◌*◌, List, get_or, Bool, true, false, ltb, leb, eqb}
use Rattle.basis.specs.Pick.{pick}
use Rattle.json_character.specs.Utf8.{two, three, four}
use Rattle.json_character.specs.declared.Char.{Char}
use Rattle.json_character.specs.declared.Char.TheVariants.{One, Close, Bad}

-- a digit's value, and 16 of a byte that is none
unfoldable pub hex_of : ℕ → ℕ
hex_of b =
    pick (ltb b 0x30) 16
    (pick (ltb b 0x3a) (b - 0x30)
    (pick (ltb b 0x41) 16
    (pick (ltb b 0x47) (b - 0x37) (pick (ltb b 0x61) 16 (pick (ltb b 0x67) (b - 0x57) 16)))))

-- four digits' number, and 0x10000 where one is none
unfoldable pub hex4_of : ℕ → ℕ → ℕ → ℕ → ℕ
hex4_of a b c d =
    pick (ltb (hex_of a) 16)
    (pick (ltb (hex_of b) 16)
    (pick (ltb (hex_of c) 16)
    (pick (ltb (hex_of d) 16) (hex_of a * 4096 + hex_of b * 256 + hex_of c * 16 + hex_of d) 0x10000)
    0x10000)
    0x10000)
    0x10000

abbrev pub hex4_at : List ℕ → ℕ → ℕ
hex4_at t i = hex4_of (get_or t i 0) (get_or t (i + 1) 0) (get_or t (i + 2) 0) (get_or t (i + 3) 0)

-- \u of h, followed by the bytes m and u and by four digits of l
unfoldable pub unicode_of : ℕ → ℕ → ℕ → ℕ → Char
unicode_of h m u l =
    pick (ltb h 0xd800) (One h 5)
    (pick (ltb h 0xdc00)
    (pick (eqb m 0x5c)
    (pick (eqb u 0x75)
    (pick (leb 0xdc00 l)
    (pick (ltb l 0xe000) (One (0x10000 + (h - 0xd800) * 1024 + (l - 0xdc00)) 11) Bad)
    Bad)
    Bad)
    Bad)
    (pick (ltb h 0xe000) Bad (pick (ltb h 0x10000) (One h 5) Bad)))

unfoldable pub escape_of : ℕ → Char
escape_of e =
    pick (eqb e 0x22) (One 0x22 1)
    (pick (eqb e 0x5c) (One 0x5c 1)
    (pick (eqb e 0x2f) (One 0x2f 1)
    (pick (eqb e 0x62) (One 0x08 1)
    (pick (eqb e 0x66) (One 0x0c 1)
    (pick (eqb e 0x6e) (One 0x0a 1) (pick (eqb e 0x72) (One 0x0d 1) (pick (eqb e 0x74) (One 0x09 1) Bad)))))))

-- two bytes, the first of them 0xc2 to 0xdf
unfoldable pub two_of : ℕ → ℕ → Char
two_of x y = pick (leb 0x80 y) (pick (ltb y 0xc0) (One (two x y) 1) Bad) Bad

-- a number in three bytes is no smaller one in a longer form, and no surrogate
unfoldable pub in_three : ℕ → Char
in_three n = pick (ltb n 0x800) Bad (pick (ltb n 0xd800) (One n 2) (pick (ltb n 0xe000) Bad (One n 2)))

-- three bytes, the first of them 0xe0 to 0xef
unfoldable pub three_of : ℕ → ℕ → ℕ → Char
three_of x y z =
    pick (leb 0x80 y)
    (pick (ltb y 0xc0)
    (pick (leb 0x80 z)
    (pick (ltb z 0xc0) (in_three (three x y z)) Bad)
    Bad)
    Bad)
    Bad

unfoldable pub in_four : ℕ → Char
in_four n = pick (ltb n 0x10000) Bad (pick (ltb n 0x110000) (One n 3) Bad)

-- four bytes, the first of them 0xf0 to 0xf4
unfoldable pub four_of : ℕ → ℕ → ℕ → ℕ → Char
four_of x y z w =
    pick (leb 0x80 y)
    (pick (ltb y 0xc0)
    (pick (leb 0x80 z)
    (pick (ltb z 0xc0)
    (pick (leb 0x80 w)
    (pick (ltb w 0xc0)
    (in_four (four x y z w))
    Bad)
    Bad)
    Bad)
    Bad)
    Bad)
    Bad

-- a character that is no escape, by its first byte
unfoldable pub raw_of : ℕ → ℕ → ℕ → ℕ → Char
raw_of x y z w =
    pick (ltb x 0x20) Bad
    (pick (ltb x 0x80) (One x 0)
    (pick (ltb x 0xc2) Bad
    (pick (ltb x 0xe0) (two_of x y)
    (pick (ltb x 0xf0) (three_of x y z) (pick (ltb x 0xf5) (four_of x y z w) Bad)))))

-- the character at the start of a text. Past the end stands 0, which is in no character
unfoldable pub char_of : List ℕ → Char
char_of t =
    pick (eqb (get_or t 0 0) 0x22) Close
    (pick (eqb (get_or t 0 0) 0x5c)
    (pick (eqb (get_or t 1 0) 0x75)
    (unicode_of (hex4_of (get_or t 2 0) (get_or t 3 0) (get_or t 4 0) (get_or t 5 0)) (get_or t 6 0) (get_or t 7 0) (hex4_of (get_or t 8 0) (get_or t 9 0) (get_or t 10 0) (get_or t 11 0)))
    (escape_of (get_or t 1 0)))
    (raw_of (get_or t 0 0) (get_or t 1 0) (get_or t 2 0) (get_or t 3 0)))

-- a byte that is a character by itself
unfoldable pub is_plain : ℕ → Bool
is_plain b = pick (ltb b 0x20) false (pick (leb 0x80 b) false (pick (eqb b 0x22) false (pick (eqb b 0x5c) false true)))
