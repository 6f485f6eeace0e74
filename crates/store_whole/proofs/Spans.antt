-- A part of the words as a list, and parts one behind the other.
-- Assumes nothing.
use Rattle.basis.proofs.Std.{◌≡◌, refl, sym, ap, ap₂, ◌∙◌, ◌⊎◌, inl, inr, ℕ, zero, suc, ◌+◌, ◌-◌, ◌<◌, ◌≤◌, zero-add, arith, List, ◌++◌, length, length-append, get_or-append, get_or-append-add, lt_or_ge}
use Rattle.store_words.specs.Words.{word, elements, list_of}
use Rattle.store_words.proofs.Elements.{list_at, list_is, list_length}
use Rattle.store_whole.specs.Image.{flat}

-- n words from i on
abbrev pub span : List ℕ → ℕ → ℕ → List ℕ
span ws i n = list_of (λ (j : ℕ). word ws (i + j)) n

pub skip : (xs ys : List ℕ) (n i m : ℕ) → length xs ≡ n → i ≡ n + m → word (xs ++ ys) i ≡ word ys m
skip xs ys n i m e f =
    let g : i ≡ length xs + m = rw e f in
    ap (λ (k : ℕ). word (xs ++ ys) k) g ∙ get_or-append-add xs ys m 0

pub keep : (xs ys : List ℕ) (i : ℕ) → i < length xs → word (xs ++ ys) i ≡ word xs i
keep xs ys i h = get_or-append xs ys 0 i h

pub span_append : (ws : List ℕ) (i a b m n : ℕ) → m ≡ i + a → n ≡ a + b → span ws i a ++ span ws m b ≡ span ws i n
span_append ws i a b m n e f =
    let p : length (span ws i a) ≡ a = list_length (λ (j : ℕ). word ws (i + j)) a in
    let q : length (span ws m b) ≡ b = list_length (λ (j : ℕ). word ws (m + j)) b in
    list_is (λ (j : ℕ). word ws (i + j)) n (span ws i a ++ span ws m b) 0 (length-append (span ws i a) (span ws m b) ∙ ap₂ (λ (x y : ℕ). x + y) p q ∙ sym f)
    (λ j g. by j g p (lt_or_ge j a))
  where
    by : (j : ℕ) → j < n → length (span ws i a) ≡ a → (j < a) ⊎ (a ≤ j) → word (span ws i a ++ span ws m b) j ≡ word ws (i + j)
    by j g p (inl h) = keep (span ws i a) (span ws m b) j (omega arith) ∙ list_at (λ (k : ℕ). word ws (i + k)) a j 0 h
    by j g p (inr h) =
        let z : m + (j - a) ≡ i + j = omega arith in
        skip (span ws i a) (span ws m b) a j (j - a) p (omega arith) ∙ list_at (λ (k : ℕ). word ws (m + k)) b (j - a) 0 (omega arith) ∙ ap (word ws) z

pub span_whole : (ws : List ℕ) (n : ℕ) → length ws ≡ n → ws ≡ span ws 0 n
span_whole ws n e = list_is (λ (j : ℕ). word ws (0 + j)) n ws 0 e (λ j g. ap (word ws) (sym (zero-add j)))

-- elements whose words stand one behind the other, element k at `at k`
module _ {A : Type 0} (f : A → List ℕ) (g : ℕ → A) (at len : ℕ → ℕ) (w most : ℕ) (ws : List ℕ)
    (step : (k : ℕ) → at (suc k) ≡ at k + w) (start : len 0 ≡ 0) (grow : (n : ℕ) → len (suc n) ≡ w + len n)
    (row : (k : ℕ) → k < most → f (g k) ≡ span ws (at k) w) where
  rows : (n k : ℕ) → k + n ≤ most → flat f (elements g k n) ≡ span ws (at k) (len n)
  unfolding flat elements
  rows zero k h = rw start refl
  rows (suc n) k h =
      ap₂ (λ (x y : List ℕ). x ++ y) (row k (omega arith)) (rows n (suc k) (omega arith))
      ∙ span_append ws (at k) w (len n) (at (suc k)) (len (suc n)) (step k) (grow n)

  pub flat_span : flat f (list_of g most) ≡ span ws (at 0) (len most)
  flat_span = rows most 0 (omega arith)
