-- The marks at a place of a slice.
-- Assumes nothing.
use Rattle.basis.proofs.Std.{ℕ, ◌+◌, ◌<◌, ◌≤◌, ◌≡◌, sym, ap, ◌∙◌, true, false, List, [], ◌∷◌, arith, add-one, add-zero, ⊎_elim, lt_or_ge, untrue, both_false, eqb, ne_eqb, length, get_or, drop, drop-cons, drop_of_length-le, get_or-drop, get_or-eq_default}
use Rattle.csv_field.specs.Marks.{is_quote, is_comma, is_break}

module _ (s : List ℕ) (i : ℕ) where
  pub next : i < length s → drop i s ≡ get_or s i 0 ∷ drop (i + 1) s
  next h = rw (add-one, drop-cons s i 0)

  pub past : length s ≤ i → drop i s ≡ []
  past h = drop_of_length-le s h

  pub first : get_or (drop i s) 0 0 ≡ get_or s i 0
  first = get_or-drop i s 0 0 ∙ ap (λ (k : ℕ). get_or s k 0) (add-zero i)

  module _ (b : ℕ) where
    pub byte_at : eqb (get_or s i 0) b ≡ eqb (get_or (drop i s) 0 0) b
    byte_at = ap (λ (x : ℕ). eqb x b) (sym first)

    pub byte_past : 0 < b → length s ≤ i → false ≡ eqb (get_or (drop i s) 0 0) b
    byte_past n h = sym (rw (past h) (ne_eqb 0 b (λ e. omega arith)))

    byte_in : 0 < b → eqb (get_or (drop i s) 0 0) b ≡ true → i < length s
    byte_in n e = ⊎_elim (λ (h : i < length s). h) (λ (h : length s ≤ i). untrue (byte_past n h ∙ e)) (lt_or_ge i (length s))

  pub break_short : length s ≤ i + 1 → false ≡ is_break (drop i s)
  break_short h = sym (rw (get_or-drop i s 1 0, get_or-eq_default s 0 h) (both_false (eqb (get_or (drop i s) 0 0) 13)))

  -- a mark stands within the slice
  pub quote_in : is_quote (drop i s) ≡ true → i < length s
  quote_in e = byte_in 34 (omega arith) e

  pub comma_in : is_comma (drop i s) ≡ true → i < length s
  comma_in e = byte_in 44 (omega arith) e

  pub break_in : is_break (drop i s) ≡ true → i + 1 < length s
  break_in e = ⊎_elim (λ (h : i + 1 < length s). h) (λ (h : length s ≤ i + 1). untrue (break_short h ∙ e)) (lt_or_ge (i + 1) (length s))
