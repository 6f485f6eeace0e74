-- How far a text goes to the next mark: byte by byte, at a place of a slice.
-- Assumes nothing.
use Rattle.basis.proofs.Std.{ℕ, suc, ◌+◌, ◌<◌, ◌≤◌, ◌≡◌, refl, ap, ◌∙◌, Bool, true, false, List, [], ◌∷◌, arith, zero-add, picked, eqb, pick, bit, length, get_or, take, drop}
use Rattle.csv_field.specs.Marks.{is_quote, is_break, is_stop, plain_run, quoted_run, line_run, breaks, unquoted}
use Rattle.csv_field.proofs.Marks.{next, past, byte_at, quote_in, break_in}

-- without quotes

pub plain_quote : (t : List ℕ) → is_quote t ≡ true → plain_run t ≡ 0
unfolding plain_run
plain_quote [] e = refl
plain_quote (b ∷ t) e = rw e

pub plain_stop : (t : List ℕ) → is_stop t ≡ true → plain_run t ≡ 0
unfolding plain_run
plain_stop [] e = refl
plain_stop (b ∷ t) e = rw e (picked (λ (n : ℕ). n ≡ 0) (is_quote (b ∷ t)) 0 0 (λ _. refl) (λ _. refl))

plain_more : (b : ℕ) (t : List ℕ) → is_quote (b ∷ t) ≡ false → is_stop (b ∷ t) ≡ false → plain_run (b ∷ t) ≡ suc (plain_run t)
unfolding plain_run
plain_more b t e f = rw (e, f)

pub plain_past : (s : List ℕ) (i : ℕ) → length s ≤ i → plain_run (drop i s) ≡ 0
unfolding plain_run
plain_past s i h = rw (past s i h)

pub plain_on : (s : List ℕ) (i : ℕ) → i < length s → is_quote (drop i s) ≡ false → is_stop (drop i s) ≡ false → plain_run (drop i s) ≡ suc (plain_run (drop (i + 1) s))
plain_on s i h = rw (next s i h) (plain_more (get_or s i 0) (drop (i + 1) s))

pub plain_within : (t : List ℕ) → plain_run t ≤ length t
unfolding plain_run
plain_within [] = omega arith
plain_within (b ∷ t) = go (plain_within t) (is_quote (b ∷ t)) (is_stop (b ∷ t))
  where
    go : plain_run t ≤ length t → (q z : Bool) → pick q 0 (pick z 0 (suc (plain_run t))) ≤ suc (length t)
    go h true z = omega arith
    go h false true = omega arith
    go h false false = omega arith

-- what stands before a mark has no quote
pub plain_text : (t : List ℕ) → take (plain_run t) t ≡ unquoted false (take (plain_run t) t)
unfolding plain_run unquoted
plain_text [] = refl
plain_text (b ∷ t) = go (plain_text t) (eqb b 34) refl (is_stop (b ∷ t))
  where
    go : take (plain_run t) t ≡ unquoted false (take (plain_run t) t) → (q : Bool) → eqb b 34 ≡ q → (z : Bool) → take (pick q 0 (pick z 0 (suc (plain_run t)))) (b ∷ t) ≡ unquoted false (take (pick q 0 (pick z 0 (suc (plain_run t)))) (b ∷ t))
    go h true e z = refl
    go h false e true = refl
    go h false e false = rw e (ap (λ (l : List ℕ). b ∷ l) h)

-- within quotes

pub quoted_past : (s : List ℕ) (i : ℕ) → length s ≤ i → quoted_run false (drop i s) ≡ 0
unfolding quoted_run
quoted_past s i h = rw (past s i h)

pub quoted_more : (b : ℕ) (t : List ℕ) → eqb b 34 ≡ false → quoted_run false (b ∷ t) ≡ suc (quoted_run false t)
unfolding quoted_run
quoted_more b t e = rw e

quoted_one : (b : ℕ) (t : List ℕ) → eqb b 34 ≡ true → quoted_run false (b ∷ t) ≡ quoted_run true t
unfolding quoted_run
quoted_one b t e = rw e

quoted_two : (b : ℕ) (t : List ℕ) → eqb b 34 ≡ true → quoted_run true (b ∷ t) ≡ suc (suc (quoted_run false t))
unfolding quoted_run
quoted_two b t e = rw e

pub quoted_closed : (t : List ℕ) → is_quote t ≡ false → quoted_run true t ≡ 0
unfolding quoted_run
quoted_closed [] e = refl
quoted_closed (b ∷ t) e = rw e

module _ (s : List ℕ) (i : ℕ) where
  pub quoted_on : i < length s → is_quote (drop i s) ≡ false → quoted_run false (drop i s) ≡ suc (quoted_run false (drop (i + 1) s))
  quoted_on h = rw (next s i h) (quoted_more (get_or s i 0) (drop (i + 1) s))

  opened : is_quote (drop i s) ≡ true → quoted_run false (drop i s) ≡ quoted_run true (drop (i + 1) s)
  opened e = rw (next s i (quote_in s i e)) (quoted_one (get_or s i 0) (drop (i + 1) s) (byte_at s i 34 ∙ e))

  pub quoted_close : is_quote (drop i s) ≡ true → is_quote (drop (i + 1) s) ≡ false → quoted_run false (drop i s) ≡ 0
  quoted_close e f = opened e ∙ quoted_closed (drop (i + 1) s) f

  pub quoted_twice : is_quote (drop i s) ≡ true → is_quote (drop (i + 1) s) ≡ true → quoted_run false (drop i s) ≡ suc (suc (quoted_run false (drop (i + 2) s)))
  quoted_twice e f =
      let k : i + 1 + 1 ≡ i + 2 = omega arith in
      opened e ∙ ap (quoted_run true) (next s (i + 1) (quote_in s (i + 1) f)) ∙ quoted_two (get_or s (i + 1) 0) (drop (i + 1 + 1) s) (byte_at s (i + 1) 34 ∙ f) ∙ ap (λ (n : ℕ). suc (suc (quoted_run false (drop n s)))) k

pub quoted_within : (q : Bool) (t : List ℕ) → quoted_run q t ≤ bit q + length t
unfolding quoted_run
quoted_within q [] = omega arith
quoted_within true (b ∷ t) = go (quoted_within false t) (eqb b 34)
  where
    go : quoted_run false t ≤ 0 + length t → (z : Bool) → pick z (suc (suc (quoted_run false t))) 0 ≤ 1 + suc (length t)
    go h true = omega arith
    go h false = omega arith
quoted_within false (b ∷ t) = go (quoted_within true t) (quoted_within false t) (eqb b 34) refl
  where
    go : quoted_run true t ≤ 1 + length t → quoted_run false t ≤ 0 + length t → (z : Bool) → eqb b 34 ≡ z → quoted_run false (b ∷ t) ≤ 0 + suc (length t)
    go h g true e = omega (arith, quoted_one b t e)
    go h g false e = omega (arith, quoted_more b t e)

-- to the first CRLF

pub line_past : (s : List ℕ) (i : ℕ) → length s ≤ i → line_run (drop i s) ≡ 0
unfolding line_run
line_past s i h = rw (past s i h)

pub line_more : (b : ℕ) (t : List ℕ) → is_break (b ∷ t) ≡ false → line_run (b ∷ t) ≡ suc (line_run t)
unfolding line_run
line_more b t e = rw e

pub line_broken : (b : ℕ) (t : List ℕ) → is_break (b ∷ t) ≡ true → line_run (b ∷ t) ≡ 2
unfolding line_run
line_broken b t e = rw e

pub line_on : (s : List ℕ) (i : ℕ) → i < length s → is_break (drop i s) ≡ false → line_run (drop i s) ≡ suc (line_run (drop (i + 1) s))
line_on s i h = rw (next s i h) (line_more (get_or s i 0) (drop (i + 1) s))

pub line_break : (s : List ℕ) (i : ℕ) → i < length s → is_break (drop i s) ≡ true → line_run (drop i s) ≡ 2
line_break s i h = rw (next s i h) (line_broken (get_or s i 0) (drop (i + 1) s))

pub line_within : (t : List ℕ) → line_run t ≤ length t
unfolding line_run
line_within [] = omega arith
line_within (b ∷ t) = go (line_within t) (is_break (b ∷ t)) refl
  where
    go : line_run t ≤ length t → (z : Bool) → is_break (b ∷ t) ≡ z → pick z 2 (suc (line_run t)) ≤ suc (length t)
    go h true e = omega (arith, break_in (b ∷ t) 0 e)
    go h false e = omega arith

-- how many CRLF

pub breaks_past : (t : List ℕ) (i : ℕ) → length t ≤ i → breaks (drop i t) ≡ 0
unfolding breaks
breaks_past t i h = rw (past t i h)

breaks_more : (b : ℕ) (t : List ℕ) → breaks (b ∷ t) ≡ bit (is_break (b ∷ t)) + breaks t
unfolding breaks
breaks_more b t = refl

breaks_on : (t : List ℕ) (i : ℕ) → i < length t → breaks (drop i t) ≡ bit (is_break (drop i t)) + breaks (drop (i + 1) t)
breaks_on t i h = rw (next t i h) (breaks_more (get_or t i 0) (drop (i + 1) t))

module _ (t : List ℕ) (i : ℕ) (h : i < length t) where
  pub breaks_one : is_break (drop i t) ≡ true → breaks (drop i t) ≡ 1 + breaks (drop (i + 1) t)
  breaks_one e = breaks_on t i h ∙ ap (λ (b : Bool). bit b + breaks (drop (i + 1) t)) e

  pub breaks_none : is_break (drop i t) ≡ false → breaks (drop i t) ≡ breaks (drop (i + 1) t)
  breaks_none e = breaks_on t i h ∙ ap (λ (b : Bool). bit b + breaks (drop (i + 1) t)) e ∙ zero-add (breaks (drop (i + 1) t))
