-- A list made of words, element by element: what stands at a place, and what one changed element comes to. Any width, any element.
-- Assumes nothing.
use Rattle.basis.proofs.Std.{◌≡◌, refl, sym, ap, ◌∙◌, ◌≢◌, ◌⊎◌, inl, inr, ℕ, zero, suc, ◌+◌, ◌<◌, le_of_suc-le-suc, not-suc-le-zero, suc-add, add-zero, add-suc, zero-add, arith, List, length, get_or, set, length-set, ext_get_or, get_or-set_same, get_or-set_other, eq_or_ne}
use Rattle.store_words.specs.Words.{elements, list_of}

module _ {A : Type 0} where
  at : (f : ℕ → A) (k n i : ℕ) (d : A) → i < n → get_or (elements f k n) i d ≡ f (k + i)
  unfolding elements
  at f k zero i d h = absurd (not-suc-le-zero h)
  at f k (suc n) zero d h = ap f (sym (add-zero k))
  at f k (suc n) (suc i) d h = at f (suc k) n i d (le_of_suc-le-suc h) ∙ ap f (suc-add k i ∙ sym (add-suc k i))

  long : (f : ℕ → A) (k n : ℕ) → length (elements f k n) ≡ n
  unfolding elements
  long f k zero = refl
  long f k (suc n) = ap suc (long f (suc k) n)

  pub list_at : (f : ℕ → A) (n i : ℕ) (d : A) → i < n → get_or (list_of f n) i d ≡ f i
  list_at f n i d h = at f 0 n i d h ∙ ap f (zero-add i)

  pub list_length : (f : ℕ → A) (n : ℕ) → length (list_of f n) ≡ n
  list_length f n = long f 0 n

  -- a list of that length whose elements are these
  pub list_is : (f : ℕ → A) (n : ℕ) (l : List A) (d : A) → length l ≡ n → ((j : ℕ) → j < n → get_or l j d ≡ f j) → l ≡ list_of f n
  list_is f n l d e h =
      ext_get_or d l (list_of f n) (e ∙ sym (list_length f n)) (λ j g. h j (omega arith) ∙ sym (list_at f n j d (omega arith)))

  pub list_same : (f g : ℕ → A) (n : ℕ) → ((j : ℕ) → j < n → g j ≡ f j) → list_of g n ≡ list_of f n
  list_same f g n h = list_is f n (list_of g n) (f 0) (list_length g n) (λ j k. list_at g n j (f 0) k ∙ h j k)

  pub list_put : (f g : ℕ → A) (n i : ℕ) (x : A) → i < n → ((j : ℕ) → j < n → j ≢ i → g j ≡ f j) → g i ≡ x → list_of g n ≡ set (list_of f n) i x
  list_put f g n i x h e q = sym (list_is g n (set (list_of f n) i x) x (length-set (list_of f n) i x ∙ list_length f n) (λ j k. by j k (eq_or_ne j i)))
    where
      by : (j : ℕ) → j < n → (j ≡ i) ⊎ (j ≡ i → ⊥) → get_or (set (list_of f n) i x) j x ≡ g j
      by j k (inl z) = rw z (get_or-set_same (list_of f n) i x x (omega (arith, list_length f n)) ∙ sym q)
      by j k (inr z) = get_or-set_other (list_of f n) i j x x z ∙ list_at f n j x k ∙ sym (e j k z)

  -- the first k elements are these: one more
  pub fill_next : (f : ℕ → A) (l : List A) (k : ℕ) (d x : A) → k < length l → ((j : ℕ) → j < k → get_or l j d ≡ f j) → x ≡ f k
      → (j : ℕ) → j < k + 1 → get_or (set l k x) j d ≡ f j
  fill_next f l k d x h e q j g = by (eq_or_ne j k)
    where
      by : (j ≡ k) ⊎ (j ≡ k → ⊥) → get_or (set l k x) j d ≡ f j
      by (inl z) = rw z (get_or-set_same l k x d h ∙ q)
      by (inr z) = get_or-set_other l k j x d z ∙ e j (omega (arith, z))
