-- A text's characters one by one: an equation for each answer of `step`, with no count of calls in it.
-- Assumes nothing.
use Rattle.basis.proofs.Std.{ℕ, zero, suc, ◌+◌, ◌<◌, ◌≤◌, ◌≡◌, refl, sym, ap, ◌∙◌, true, false, List, [], ◌∷◌, arith, eqb, eqb-zero-suc, eqb-suc-suc, length, get_or, drop, length-drop, drop-drop, eq-eqb, ne_eqb}
use Rattle.json_character.proofs.Lists.{next, past}
use Rattle.json_character.proofs.Sound.{Says, char_says}
use Rattle.json_character.specs.declared.Char.{Char}
use Rattle.json_character.specs.declared.Char.TheVariants.{One, Close, Bad}
use Rattle.json_text.specs.declared.Read.{Read}
use Rattle.json_character.specs.Char.{char_of, is_plain}
use Rattle.json_character.proofs.Laws.{at_plain}
use Rattle.json_text.specs.Decoded.{Parsed, push, by_char, read_chars, decoded, is_text, same_text}
use Rattle.json_text.specs.Decoded.Parsed.{ok, none}
use Rattle.json_text.specs.Ends.{Ends}
use Rattle.json_text.specs.Ends.Ends.{ends, fails}

-- a character ends within its text, and so does a quotation mark
abbrev Within : ℕ → Char → Type 0
Within n (One c w) = w < n
Within n Close = 0 < n
Within n Bad = Unit {0}

step_within : (t : List ℕ) → Within (length t) (char_of t)
step_within t = go (char_of t) (char_says t)
  where
    go : (ch : Char) → Says t ch → Within (length t) ch
    go (One c w) h = h.0
    go Close h = omega (arith, ap length h)
    go Bad h = tt

-- with as many calls as bytes, more calls change nothing
enough : (n m : ℕ) (t : List ℕ) → length t ≤ n → length t ≤ m → read_chars n t ≡ read_chars m t
unfolding read_chars
enough zero zero t h g = refl
enough zero (suc m) t h g = sym (empty t (omega arith) m)
  where
    empty : (t : List ℕ) → length t ≡ 0 → (m : ℕ) → by_char (λ u. read_chars m u) (char_of t) t ≡ none
    empty t e m = go (char_of t) (step_within t)
      where
        go : (ch : Char) → Within (length t) ch → by_char (λ u. read_chars m u) ch t ≡ none
        go (One c w) h = absurd (omega arith)
        go Close h = absurd (omega arith)
        go Bad h = refl
enough (suc n) zero t h g = go (char_of t) (step_within t)
  where
    go : (ch : Char) → Within (length t) ch → by_char (λ u. read_chars n u) ch t ≡ none
    go (One c w) h = absurd (omega arith)
    go Close h = absurd (omega arith)
    go Bad h = refl
enough (suc n) (suc m) t h g = go (λ u. enough n m u) (char_of t) (step_within t)
  where
    go : ((u : List ℕ) → length u ≤ n → length u ≤ m → read_chars n u ≡ read_chars m u) → (ch : Char) → Within (length t) ch → by_char (λ u. read_chars n u) ch t ≡ by_char (λ u. read_chars m u) ch t
    go ih (One c w) k = ap (push c) (ih (drop (1 + w) t) (omega (arith, length-drop (1 + w) t)) (omega (arith, length-drop (1 + w) t)))
    go ih Close k = refl
    go ih Bad k = refl

-- the definition with no count of calls in it
pub unroll : (t : List ℕ) → decoded t ≡ by_char (λ u. decoded u) (char_of t) t
unfolding decoded read_chars
unroll t = enough (length t) (suc (length t)) t (omega arith) (omega arith) ∙ go (char_of t) (step_within t)
  where
    go : (ch : Char) → Within (length t) ch → by_char (λ u. read_chars (length t) u) ch t ≡ by_char (λ u. read_chars (length u) u) ch t
    go (One c w) k = ap (push c) (enough (length t) (length (drop (1 + w) t)) (drop (1 + w) t) (omega (arith, length-drop (1 + w) t)) (omega arith))
    go Close k = refl
    go Bad k = refl

module _ (s : List ℕ) (i : ℕ) where
  -- a character at i, and the text after it
  pub one : (c w : ℕ) → One c w ≡ char_of (drop i s) → decoded (drop i s) ≡ push c (decoded (drop (i + (1 + w)) s))
  one c w e = unroll (drop i s) ∙ rw (← e, drop-drop)

  pub one_in : (c w : ℕ) → One c w ≡ char_of (drop i s) → i + (1 + w) ≤ length s
  one_in c w e = omega (arith, length-drop i s, rw (← e) at (step_within (drop i s)))

  pub close : Close ≡ char_of (drop i s) → decoded (drop i s) ≡ ok [] (drop (i + 1) s)
  close e = unroll (drop i s) ∙ rw (← e, drop-drop)

  pub close_in : Close ≡ char_of (drop i s) → i < length s
  close_in e = omega (arith, length-drop i s, rw (← e) at (step_within (drop i s)))

  pub no_char : Bad ≡ char_of (drop i s) → decoded (drop i s) ≡ none
  no_char e = unroll (drop i s) ∙ rw (← e)

pub pushed : {s : List ℕ} {i k : ℕ} {p : Parsed (List ℕ)} {r : Read} (c : ℕ) → i ≤ k → Ends s k p r → Ends s i (push c p) r
pushed c h (ends e a b) = ends e (omega arith) b
pushed c h fails = fails

-- comparisons

pub text_same : (p : Parsed (List ℕ)) (c b : ℕ) (n : List ℕ) → c ≡ b → is_text (push c p) (b ∷ n) ≡ is_text p n
text_same (ok d r) c b n e = rw (eq-eqb _ _ e)
text_same none c b n e = refl

pub text_other : (p : Parsed (List ℕ)) (c b : ℕ) (n : List ℕ) → ¬ (c ≡ b) → is_text (push c p) (b ∷ n) ≡ false
text_other (ok d r) c b n e = rw (ne_eqb _ _ e)
text_other none c b n e = refl

pub text_long : (p : Parsed (List ℕ)) (c : ℕ) → is_text (push c p) [] ≡ false
text_long (ok d r) c = refl
text_long none c = refl

pub text_done : (r : List ℕ) (k : ℕ) (name : List ℕ) → k ≤ length name → is_text (ok [] r) (drop k name) ≡ eqb k (length name)
text_done r zero [] h = refl
text_done r zero (b ∷ n) h = sym (eqb-zero-suc (length n))
text_done r (suc k) [] h = absurd (omega arith)
text_done r (suc k) (b ∷ n) h = text_done r k n (omega arith) ∙ sym (eqb-suc-suc k (length n))

-- two texts, by their first characters
pub both : (p q : Parsed (List ℕ)) (x y : ℕ) → x ≡ y → same_text (push x p) (push y q) ≡ same_text p q
both (ok d r) q x y e = text_same q y x d (sym e)
both none q x y e = refl

pub differ : (p q : Parsed (List ℕ)) (x y : ℕ) → ¬ (x ≡ y) → same_text (push x p) (push y q) ≡ false
differ (ok d r) q x y e = text_other q y x d (λ h. e (sym h))
differ none q x y e = refl

pub longer : (p : Parsed (List ℕ)) (x : ℕ) (r : List ℕ) → same_text (push x p) (ok [] r) ≡ false
longer (ok d u) x r = refl
longer none x r = refl

pub no_second : (p : Parsed (List ℕ)) → same_text p none ≡ false
no_second (ok d r) = refl
no_second none = refl

-- a comparison with a name: the text from i on, the name from k on
module _ (s : List ℕ) (i : ℕ) (name : List ℕ) (k : ℕ) where
  pub name_same : (c w : ℕ) → One c w ≡ char_of (drop i s) → k < length name → c ≡ get_or name k 0 → is_text (decoded (drop (i + (1 + w)) s)) (drop (k + 1) name) ≡ is_text (decoded (drop i s)) (drop k name)
  name_same c w e h q = sym (rw (one s i c w e, next name k h) (text_same (decoded (drop (i + (1 + w)) s)) c (get_or name k 0) (drop (k + 1) name) q))

  pub name_other : (c w : ℕ) → One c w ≡ char_of (drop i s) → k < length name → ¬ (c ≡ get_or name k 0) → false ≡ is_text (decoded (drop i s)) (drop k name)
  name_other c w e h q = sym (rw (one s i c w e, next name k h) (text_other (decoded (drop (i + (1 + w)) s)) c (get_or name k 0) (drop (k + 1) name) q))

  pub name_long : (c w : ℕ) → One c w ≡ char_of (drop i s) → length name ≤ k → false ≡ is_text (decoded (drop i s)) (drop k name)
  name_long c w e h = sym (rw (one s i c w e, past name k h) (text_long (decoded (drop (i + (1 + w)) s)) c))

  pub name_close : Close ≡ char_of (drop i s) → k ≤ length name → eqb k (length name) ≡ is_text (decoded (drop i s)) (drop k name)
  name_close e h = sym (rw (close s i e) (text_done (drop (i + 1) s) k name h))

  pub name_bad : Bad ≡ char_of (drop i s) → false ≡ is_text (decoded (drop i s)) (drop k name)
  name_bad e = sym (rw (no_char s i e))

  -- the same of a plain byte
  module _ (p : is_plain (get_or s i 0) ≡ true) (h : k < length name) where
    pub plain_same : get_or s i 0 ≡ get_or name k 0 → is_text (decoded (drop (i + 1) s)) (drop (k + 1) name) ≡ is_text (decoded (drop i s)) (drop k name)
    plain_same q = name_same (get_or s i 0) 0 (sym (at_plain s i p)) h q

    pub plain_other : ¬ (get_or s i 0 ≡ get_or name k 0) → false ≡ is_text (decoded (drop i s)) (drop k name)
    plain_other q = name_other (get_or s i 0) 0 (sym (at_plain s i p)) h q

pub ruleset name_steps = (one_in, name_same, name_other, name_close, name_bad, name_long, plain_same, plain_other)

-- a comparison of two texts, from i and from j on
module _ (s : List ℕ) (i j : ℕ) where
  pub same_both : (c w d v : ℕ) → One c w ≡ char_of (drop i s) → One d v ≡ char_of (drop j s) → c ≡ d → same_text (decoded (drop (i + (1 + w)) s)) (decoded (drop (j + (1 + v)) s)) ≡ same_text (decoded (drop i s)) (decoded (drop j s))
  same_both c w d v e f q = sym (rw (one s i c w e, one s j d v f) (both (decoded (drop (i + (1 + w)) s)) (decoded (drop (j + (1 + v)) s)) c d q))

  pub same_differ : (c w d v : ℕ) → One c w ≡ char_of (drop i s) → One d v ≡ char_of (drop j s) → ¬ (c ≡ d) → false ≡ same_text (decoded (drop i s)) (decoded (drop j s))
  same_differ c w d v e f q = sym (rw (one s i c w e, one s j d v f) (differ (decoded (drop (i + (1 + w)) s)) (decoded (drop (j + (1 + v)) s)) c d q))

  pub same_longer : (c w : ℕ) → One c w ≡ char_of (drop i s) → Close ≡ char_of (drop j s) → false ≡ same_text (decoded (drop i s)) (decoded (drop j s))
  same_longer c w e f = sym (rw (one s i c w e, close s j f) (longer (decoded (drop (i + (1 + w)) s)) c (drop (j + 1) s)))

  pub same_shorter : (d v : ℕ) → Close ≡ char_of (drop i s) → One d v ≡ char_of (drop j s) → false ≡ same_text (decoded (drop i s)) (decoded (drop j s))
  same_shorter d v e f = sym (rw (close s i e, one s j d v f) (text_long (decoded (drop (j + (1 + v)) s)) d))

  pub same_done : Close ≡ char_of (drop i s) → Close ≡ char_of (drop j s) → true ≡ same_text (decoded (drop i s)) (decoded (drop j s))
  same_done e f = sym (rw (close s i e, close s j f))

  pub same_bad_1 : Bad ≡ char_of (drop i s) → false ≡ same_text (decoded (drop i s)) (decoded (drop j s))
  same_bad_1 e = sym (rw (no_char s i e))

  pub same_bad_2 : Bad ≡ char_of (drop j s) → false ≡ same_text (decoded (drop i s)) (decoded (drop j s))
  same_bad_2 e = sym (rw (no_char s j e) (no_second (decoded (drop i s))))

pub ruleset same_steps = (one_in, same_both, same_differ, same_longer, same_shorter, same_done, same_bad_1, same_bad_2)
