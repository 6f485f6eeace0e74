-- A readable mId is the text of an identity, in either case.
-- Assumes nothing.
use Rattle.basis.proofs.Std.{ℕ, ◌+◌, ◌*◌, ◌/◌, ◌%◌, ◌<◌, ◌≡◌, refl, sym, ◌∙◌, ap, subst, Bool, true, false, List, [], ◌∷◌, map, Option, some, none, eqb, leb, T, eqb→eq, replicate, arith, eqb-true, leb-true, pick, both, same_bytes, same_true, same_self, not_both}
use Rattle.basis.proofs.Table.{at}
use Rattle.identity.specs.Hex.{hex_digit, hex_value, lower_hex, lowered}
use Rattle.identity.specs.Text.{identity_text}
use Rattle.identity.specs.Read.{bytes_of, read_identity}
use Rattle.identity.proofs.Hex.{value_below}
use Rattle.identity.proofs.Read.{answers}
use Rattle.json_value.specs.Grammar.{Json}
use Rattle.write_laws.specs.Formed.{Received}
use Rattle.machine.specs.Words.{Bytes, maybe, or_else}
use Rattle.machine.specs.Json.{string_at, string_of, is_hex, is_identity}
use Rattle.machine.specs.Answers.{is_readable}

-- ---- digits
back : ℕ → ℕ → Bool
unfolding hex_digit hex_value lower_hex
back n x = pick (is_hex n) (eqb (hex_digit (hex_value (lower_hex n))) (lower_hex n)) true

hex_below : (c : ℕ) → is_hex c ≡ true → c < 103
hex_below c e = go (leb 48 c) (leb c 57) (leb 65 c) (leb c 70) (leb 97 c) (leb c 102) refl refl refl e
  where
    go : (a b d f g h : Bool) → leb c 57 ≡ b → leb c 70 ≡ f → leb c 102 ≡ h → pick (both a b) true (pick (both d f) true (both g h)) ≡ true → c < 103
    go true true d f g h p q r e = omega (arith, leb-true c 57 p)
    go true false true true g h p q r e = omega (arith, leb-true c 70 q)
    go true false true false true true p q r e = omega (arith, leb-true c 102 r)
    go true false true false true false p q r e = not_both e refl
    go true false true false false h p q r e = not_both e refl
    go true false false f true true p q r e = omega (arith, leb-true c 102 r)
    go true false false f true false p q r e = not_both e refl
    go true false false f false h p q r e = not_both e refl
    go false b true true g h p q r e = omega (arith, leb-true c 70 q)
    go false b true false true true p q r e = omega (arith, leb-true c 102 r)
    go false b true false true false p q r e = not_both e refl
    go false b true false false h p q r e = not_both e refl
    go false b false f true true p q r e = omega (arith, leb-true c 102 r)
    go false b false f true false p q r e = not_both e refl
    go false b false f false h p q r e = not_both e refl

digit_back : (c : ℕ) → is_hex c ≡ true → hex_digit (hex_value (lower_hex c)) ≡ lower_hex c
unfolding back hex_digit hex_value lower_hex
digit_back c e = eqb→eq (hex_digit (hex_value (lower_hex c))) (lower_hex c) (go (is_hex c) e (at back (replicate 103 0) tt c (hex_below c e)))
  where
    go : (b : Bool) → b ≡ true → T (pick b (eqb (hex_digit (hex_value (lower_hex c))) (lower_hex c)) true) → T (eqb (hex_digit (hex_value (lower_hex c))) (lower_hex c))
    go true f t = t
    go false f t = not_both f refl

high : (a b : ℕ) → is_hex a ≡ true → lower_hex a ≡ hex_digit ((hex_value (lower_hex a) * 16 + hex_value (lower_hex b)) / 16)
high a b e =
    let same : (hex_value (lower_hex a) * 16 + hex_value (lower_hex b)) / 16 ≡ hex_value (lower_hex a) = omega (arith, value_below (lower_hex b)) in
    sym (digit_back a e) ∙ ap hex_digit (sym same)

low : (a b : ℕ) → is_hex b ≡ true → lower_hex b ≡ hex_digit ((hex_value (lower_hex a) * 16 + hex_value (lower_hex b)) % 16)
low a b e =
    let same : (hex_value (lower_hex a) * 16 + hex_value (lower_hex b)) % 16 ≡ hex_value (lower_hex b) = omega (arith, value_below (lower_hex b)) in
    sym (digit_back b e) ∙ ap hex_digit (sym same)

-- ---- a text of digits and dashes
pub data Shaped : List Bool → List ℕ → Type 0 where
  ends : Shaped [] []
  digit : {c : ℕ} {ps : List Bool} {s : List ℕ} → is_hex c ≡ true → Shaped ps s → Shaped (true ∷ ps) (c ∷ s)
  dash : {ps : List Bool} {s : List ℕ} → Shaped ps s → Shaped (false ∷ ps) (45 ∷ s)

abbrev kind : ℕ → ℕ
kind b = pick (is_hex b) 120 (pick (eqb b 45) 45 0)

abbrev code : Bool → ℕ
code true = 120
code false = 45

is_digit_lem : (c : ℕ) → kind c ≡ 120 → is_hex c ≡ true
is_digit_lem c e = go (is_hex c) (eqb c 45) e
  where
    go : (a b : Bool) → ◌≡◌ {A = ℕ} (pick a 120 (pick b 45 0)) 120 → a ≡ true
    go true b e = refl
    go false true e = absurd (omega (arith, e))
    go false false e = absurd (omega (arith, e))

is_dash : (c : ℕ) → kind c ≡ 45 → c ≡ 45
is_dash c e = eqb-true c 45 (go (is_hex c) (eqb c 45) e)
  where
    go : (a b : Bool) → ◌≡◌ {A = ℕ} (pick a 120 (pick b 45 0)) 45 → b ≡ true
    go true b e = absurd (omega (arith, e))
    go false true e = refl
    go false false e = absurd (omega (arith, e))

shaped : (ps : List Bool) (s : List ℕ) → map kind s ≡ map code ps → Shaped ps s
shaped [] [] e = ends
shaped [] (c ∷ s) e = absurd (let z : ◌≡◌ {A = ℕ} 0 1 = cc in omega arith)
shaped (p ∷ ps) [] e = absurd (let z : ◌≡◌ {A = ℕ} 0 1 = cc in omega arith)
shaped (true ∷ ps) (c ∷ s) e =
    let first : kind c ≡ 120 = cc in
    let rest : map kind s ≡ map code ps = cc in
    digit (is_digit_lem c first) (shaped ps s rest)
shaped (false ∷ ps) (c ∷ s) e =
    let first : kind c ≡ 45 = cc in
    let rest : map kind s ≡ map code ps = cc in
    rw (is_dash c first) (dash (shaped ps s rest))

abbrev pattern : List Bool
pattern =
    true ∷ true ∷ true ∷ true ∷ true ∷ true ∷ true ∷ true ∷ false ∷ true ∷ true ∷ true ∷ true ∷ false ∷ true ∷ true ∷ true ∷ true ∷ false ∷ true ∷ true ∷ true ∷ true ∷ false ∷ true ∷ true ∷ true ∷ true ∷ true ∷ true ∷ true ∷ true ∷ true ∷ true ∷ true ∷ true ∷ []

dash_small : lower_hex 45 ≡ 45
unfolding lower_hex
dash_small = refl

said : {s : List ℕ} → Shaped pattern s → lowered s ≡ identity_text (bytes_of (lowered s))
unfolding identity_text bytes_of
said (digit {c = c0} h0 (digit {c = c1} h1 (digit {c = c2} h2 (digit {c = c3} h3 (digit {c = c4} h4 (digit {c = c5} h5 (digit {c = c6} h6 (digit {c = c7} h7 (dash (digit {c = c9} h9 (digit {c = c10} h10 (digit {c = c11} h11 (digit {c = c12} h12 (dash (digit {c = c14} h14 (digit {c = c15} h15 (digit {c = c16} h16 (digit {c = c17} h17 (dash (digit {c = c19} h19 (digit {c = c20} h20 (digit {c = c21} h21 (digit {c = c22} h22 (dash (digit {c = c24} h24 (digit {c = c25} h25 (digit {c = c26} h26 (digit {c = c27} h27 (digit {c = c28} h28 (digit {c = c29} h29 (digit {c = c30} h30 (digit {c = c31} h31 (digit {c = c32} h32 (digit {c = c33} h33 (digit {c = c34} h34 (digit {c = c35} h35 (ends))))))))))))))))))))))))))))))))))))) =
    λ j. high c0 c1 h0 j ∷ low c0 c1 h1 j ∷ high c2 c3 h2 j ∷ low c2 c3 h3 j ∷ high c4 c5 h4 j ∷ low c4 c5 h5 j ∷ high c6 c7 h6 j ∷ low c6 c7 h7 j ∷ dash_small j ∷ high c9 c10 h9 j ∷ low c9 c10 h10 j ∷ high c11 c12 h11 j ∷ low c11 c12 h12 j ∷ dash_small j ∷ high c14 c15 h14 j ∷ low c14 c15 h15 j ∷ high c16 c17 h16 j ∷ low c16 c17 h17 j ∷ dash_small j ∷ high c19 c20 h19 j ∷ low c19 c20 h20 j ∷ high c21 c22 h21 j ∷ low c21 c22 h22 j ∷ dash_small j ∷ high c24 c25 h24 j ∷ low c24 c25 h25 j ∷ high c26 c27 h26 j ∷ low c26 c27 h27 j ∷ high c28 c29 h28 j ∷ low c28 c29 h29 j ∷ high c30 c31 h30 j ∷ low c30 c31 h31 j ∷ high c32 c33 h32 j ∷ low c32 c33 h33 j ∷ high c34 c35 h34 j ∷ low c34 c35 h35 j ∷ []

received_is : (s : Bytes) → is_identity s ≡ true → Received s
unfolding read_identity
received_is s e =
    record { bytes = (read_identity s).id.bytes; says = (answers s).accepted (rw same) }
  where
    as_shaped : Shaped pattern s
    as_shaped = shaped pattern s (same_true (map kind s) (map code pattern) e)

    same : same_bytes (lowered s) (identity_text (bytes_of (lowered s))) ≡ true
    same = subst (λ (x : List ℕ). same_bytes (lowered s) x ≡ true) (said as_shaped) (same_self (lowered s))

pub received_id : (j : Json) → is_readable j ≡ true → Received (string_of "mId" j)
received_id j e = go (string_at "mId" j) e
  where
    go : (o : Option Bytes) → maybe false is_identity o ≡ true → Received (or_else [] o)
    go none f = not_both f refl
    go (some s) f = received_is s f
