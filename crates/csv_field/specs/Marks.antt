-- The marks of a text of fields, and how far a text goes to the next of them.
-- Assumes nothing.
use Rattle.std.specs.Prelude.{Bool, true, false, List, [], ◌∷◌, ℕ, suc, ◌+◌, ◌-◌, eqb, length, get_or, drop}
use Rattle.basis.specs.Pick.{pick, both, bit}

-- t begins with a quote, with a comma, with CRLF
abbrev pub is_quote : List ℕ → Bool
is_quote t = eqb (get_or t 0 0) 34

abbrev pub is_comma : List ℕ → Bool
is_comma t = eqb (get_or t 0 0) 44

abbrev pub is_break : List ℕ → Bool
is_break t = both (eqb (get_or t 0 0) 13) (eqb (get_or t 1 0) 10)

-- a comma, CRLF or the end
abbrev pub is_stop : List ℕ → Bool
is_stop [] = true
is_stop (b ∷ t) = pick (is_comma (b ∷ t)) true (is_break (b ∷ t))

-- how many bytes stand before the first quote, comma or CRLF, or the end
unfoldable pub plain_run : List ℕ → ℕ
plain_run [] = 0
plain_run (b ∷ t) = pick (is_quote (b ∷ t)) 0 (pick (is_stop (b ∷ t)) 0 (suc (plain_run t)))

abbrev on_quote : Bool → (Bool → ℕ) → ℕ
on_quote true more = more true
on_quote false more = suc (more false)

-- how many stand before the quote that closes, or the end; with `true`, behind a quote that closes unless another follows it
unfoldable pub quoted_run : Bool → List ℕ → ℕ
quoted_run q [] = 0
quoted_run true (b ∷ t) = pick (eqb b 34) (suc (suc (quoted_run false t))) 0
quoted_run false (b ∷ t) = on_quote (eqb b 34) (λ q. quoted_run q t)

-- how many the first CRLF ends, or all
unfoldable pub line_run : List ℕ → ℕ
line_run [] = 0
line_run (b ∷ t) = pick (is_break (b ∷ t)) 2 (suc (line_run t))

-- the place behind a CRLF that may stand at i
abbrev pub behind_break : List ℕ → ℕ → ℕ
behind_break s i = pick (is_break (drop i s)) (i + 2) i

-- how many CRLF stand in t
unfoldable pub breaks : List ℕ → ℕ
breaks [] = 0
breaks (b ∷ t) = bit (is_break (b ∷ t)) + breaks t

-- CRLF ends t
abbrev pub is_ended : List ℕ → Bool
is_ended t = is_break (drop (length t - 2) t)

-- a quoted field's text: of two quotes the second is left out; with `true`, behind the first of them
unfoldable pub unquoted : Bool → List ℕ → List ℕ
unquoted q [] = []
unquoted true (b ∷ t) = unquoted false t
unquoted false (b ∷ t) = b ∷ unquoted (eqb b 34) t
