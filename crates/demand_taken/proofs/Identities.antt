-- The text of sixteen bytes, in either case, is a readable mId.
-- Assumes nothing.
use Rattle.basis.proofs.Std.{ℕ, ◌/◌, ◌%◌, ◌≤◌, ◌<◌, ◌≡◌, refl, sym, ◌∙◌, ap, Bool, true, false, [], ◌∷◌, map, Option, some, none, ◌⊎◌, inl, inr, eqb, eqb→eq, get_or, replicate, arith, le-ltb, pick, text, lt_or_ge, not_both}
use Rattle.basis.proofs.Table.{at}
use Rattle.identity.specs.Hex.{hex_digit, lower_hex, lowered}
use Rattle.identity.specs.Text.{identity_text}
use Rattle.identity.specs.Read.{SixteenBytes, Says}
use Rattle.json_value.specs.Grammar.{Json}
use Rattle.machine.specs.Words.{Bytes, maybe, or_else}
use Rattle.machine.specs.Json.{string_at, string_of, is_hex, is_identity}
use Rattle.machine.specs.Answers.{is_readable}

-- a digit, a dash, another
abbrev kind : ℕ → ℕ
kind b = pick (is_hex b) 120 (pick (eqb b 45) 45 0)

lowers : ℕ → ℕ → Bool
unfolding lower_hex
lowers n x = eqb (kind (lower_hex n)) (kind n)

lower_kind : (c : ℕ) → kind (lower_hex c) ≡ kind c
unfolding lowers lower_hex
lower_kind c = go (lt_or_ge c 71)
  where
    go : (c < 71) ⊎ (71 ≤ c) → kind (lower_hex c) ≡ kind c
    go (inl h) = eqb→eq (kind (lower_hex c)) (kind c) (at lowers (replicate 71 0) tt c h)
    go (inr h) = rw (le-ltb c 65 (omega (arith, h)), le-ltb c 71 h)

lowered_kinds : (s : Bytes) → map kind (lowered s) ≡ map kind s
lowered_kinds [] = refl
lowered_kinds (c ∷ s) = λ i. lower_kind c i ∷ lowered_kinds s i

is_digit_lem : ℕ → ℕ → Bool
unfolding hex_digit
is_digit_lem n x = eqb (kind (hex_digit n)) 120

digit_kind : (n : ℕ) → n < 16 → kind (hex_digit n) ≡ 120
unfolding is_digit_lem hex_digit
digit_kind n h = eqb→eq (kind (hex_digit n)) 120 (at is_digit_lem (replicate 16 0) tt n h)

text_kinds : (bs : Bytes) → SixteenBytes bs → map kind (identity_text bs) ≡ text "xxxxxxxx-xxxx-xxxx-xxxx-xxxxxxxxxxxx"
unfolding identity_text
text_kinds bs h =
    λ j. high 0 j ∷ low 0 j ∷ high 1 j ∷ low 1 j ∷ high 2 j ∷ low 2 j ∷ high 3 j ∷ low 3 j ∷ 45 ∷ high 4 j ∷ low 4 j ∷ high 5 j ∷ low 5 j ∷ 45 ∷ high 6 j ∷ low 6 j ∷ high 7 j ∷ low 7 j ∷ 45 ∷ high 8 j ∷ low 8 j ∷ high 9 j ∷ low 9 j ∷ 45 ∷ high 10 j ∷ low 10 j ∷ high 11 j ∷ low 11 j ∷ high 12 j ∷ low 12 j ∷ high 13 j ∷ low 13 j ∷ high 14 j ∷ low 14 j ∷ high 15 j ∷ low 15 j ∷ []
  where
    high : (i : ℕ) → kind (hex_digit (get_or bs i 0 / 16)) ≡ 120
    high i = digit_kind (get_or bs i 0 / 16) (omega (arith, h.bytes i))

    low : (i : ℕ) → kind (hex_digit (get_or bs i 0 % 16)) ≡ 120
    low i = digit_kind (get_or bs i 0 % 16) (omega arith)

is_identity_lem : (s id : Bytes) → Says s id → is_identity s ≡ true
is_identity_lem s id says = rw (sym (lowered_kinds s) ∙ ap (map kind) says.said ∙ text_kinds id says.valid)

pub readable : (j : Json) (id : Bytes) → Says (string_of "mId" j) id → is_readable j ≡ true
readable j id says = go (string_at "mId" j) says
  where
    go : (o : Option Bytes) → Says (or_else [] o) id → maybe false is_identity o ≡ true
    go none s = not_both (is_identity_lem [] id s) refl
    go (some x) s = is_identity_lem x id s
