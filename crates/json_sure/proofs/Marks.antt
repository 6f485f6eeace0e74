-- Marks, character by character.
-- Assumes nothing.
use Rattle.basis.proofs.Std.{ℕ, ◌+◌, ◌*◌, ◌<◌, ◌≤◌, ◌≡◌, refl, sym, ap, ◌∙◌, true, List, mul-le-mul, mod-lt, arith, eqb, length, get_or, drop, ne_eqb, eq-eqb}
use Rattle.json_character.proofs.Lists.{past}
use Rattle.json_character.proofs.Lists as Lists
use Rattle.json_value.specs.Answers.{Skipped}
use Rattle.json_character.specs.Char.{char_of, is_plain}
use Rattle.json_character.proofs.Laws.{at_plain}
use Rattle.json_character.specs.declared.Char.TheVariants.{One, Close, Bad}
use Rattle.json_text.proofs.Texts.{one_in}
use Rattle.json_text.specs.Decoded.{Parsed, push, decoded}
use Rattle.json_text.specs.Decoded.Parsed.{ok, none}
use Rattle.json_text.proofs.Texts.{one, close, no_char}
use Rattle.json_sure.specs.Sure.{next, mark_from, mark_read, name_mark, mark_at}

-- the product of two numbers of 32 bits leaves room for a character in 64
pub product_low : (h key : ℕ) → h < 4294967296 → key < 4294967296 → h * key ≤ 18446744065119617025
product_low h key a b = mul-le-mul {n₁ = h} {m₁ = key} {n₂ = 4294967295} {m₂ = 4294967295} (omega arith) (omega arith)

pub next_low : (key h c : ℕ) → next key h c < 4294967296
next_low key h c =
    let l : next key h c < 4294967291 = mod-lt (h * key + c) (omega arith) in
    omega arith

pushed : (key h c : ℕ) (p : Parsed (List ℕ)) → mark_read key h (push c p) ≡ mark_read key (next key h c) p
unfolding mark_from
pushed key h c (ok d r) = refl
pushed key h c none = refl

module _ (key : ℕ) (s : List ℕ) (i h : ℕ) where
  pub mark_one : (c w : ℕ) → One c w ≡ char_of (drop i s) → mark_read key h (decoded (drop i s)) ≡ mark_read key (next key h c) (decoded (drop (i + (1 + w)) s))
  mark_one c w e = ap (mark_read key h) (one s i c w e) ∙ pushed key h c (decoded (drop (i + (1 + w)) s))

  pub mark_plain : is_plain (get_or s i 0) ≡ true → mark_read key h (decoded (drop i s)) ≡ mark_read key (next key h (get_or s i 0)) (decoded (drop (i + 1) s))
  mark_plain p = mark_one (get_or s i 0) 0 (sym (at_plain s i p))

  pub mark_close : Close ≡ char_of (drop i s) → mark_read key h (decoded (drop i s)) ≡ h
  unfolding mark_from
  mark_close e = ap (mark_read key h) (close s i e)

  pub mark_bad : Bad ≡ char_of (drop i s) → mark_read key h (decoded (drop i s)) ≡ 4294967296
  mark_bad e = ap (mark_read key h) (no_char s i e)

-- the mark at a place, white space going on to k
module _ (key : ℕ) (s : List ℕ) (at k close : ℕ) where
  pub mark_none : ¬ (close ≡ 0x7d) → 4294967296 ≡ mark_at key (eqb close 0x7d) (drop at s)
  unfolding mark_at
  mark_none e = rw (ne_eqb _ _ e)

  module _ (e : close ≡ 0x7d) (ws : Skipped s at k) where
    named : mark_at key (eqb close 0x7d) (drop at s) ≡ name_mark key (drop k s)
    unfolding mark_at
    named = rw (eq-eqb _ _ e, ws.rest)

    pub mark_past : length s ≤ k → 4294967296 ≡ mark_at key (eqb close 0x7d) (drop at s)
    mark_past h = sym (named ∙ ap (name_mark key) (past s k h))

    pub mark_there : k < length s → mark_read key 1 (decoded (drop (k + 1) s)) ≡ mark_at key (eqb close 0x7d) (drop at s)
    mark_there h = sym (named ∙ ap (name_mark key) (Lists.next s k h))

pub ruleset mark_steps = (one_in, product_low, next_low, mark_one, mark_plain, mark_close, mark_bad)

pub ruleset name_marks = (mark_none, mark_past, mark_there)
