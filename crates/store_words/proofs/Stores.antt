-- Words after stores side by side, and which of them are as they were.
-- Assumes nothing.
use Rattle.basis.proofs.Std.{◌≡◌, refl, ◌∙◌, ◌⊎◌, inl, inr, ℕ, suc, ◌+◌, ◌-◌, ◌<◌, ◌≤◌, arith, List, [], ◌∷◌, length, get_or, set, length-set, get_or-set_same, get_or-set_other, eq_or_ne}
use Rattle.store_words.specs.Words.{word, stores, Stored}

module _ (i : ℕ) where
  before : (vs ws : List ℕ) (k j : ℕ) → j < i + k → word (stores ws i k vs) j ≡ word ws j
  before [] ws k j h = refl
  before (v ∷ vs) ws k j h = before vs (set ws (i + k) v) (suc k) j (omega arith) ∙ get_or-set_other ws (i + k) j v 0 (λ q. omega (arith, q))

  behind : (vs ws : List ℕ) (k j : ℕ) → i + (k + length vs) ≤ j → word (stores ws i k vs) j ≡ word ws j
  behind [] ws k j h = refl
  behind (v ∷ vs) ws k j h = behind vs (set ws (i + k) v) (suc k) j (omega arith) ∙ get_or-set_other ws (i + k) j v 0 (λ q. omega (arith, q))

  there : (vs ws : List ℕ) (k m : ℕ) → k ≤ m → m < k + length vs → i + (k + length vs) ≤ length ws → word (stores ws i k vs) (i + m) ≡ get_or vs (m - k) 0
  there [] ws k m g h e = absurd (omega arith)
  there (v ∷ vs) ws k m g h e =
      by (eq_or_ne m k) (λ z. there vs (set ws (i + k) v) (suc k) m z (omega arith) (omega (arith, length-set ws (i + k) v)))
    where
      by : (m ≡ k) ⊎ (m ≡ k → ⊥) → (k < m → word (stores (set ws (i + k) v) i (suc k) vs) (i + m) ≡ get_or vs (m - suc k) 0)
          → word (stores ws i k (v ∷ vs)) (i + m) ≡ get_or (v ∷ vs) (m - k) 0
      by (inl z) r =
          let n : m - k ≡ 0 = omega arith in
          rw (n, z) (before vs (set ws (i + k) v) (suc k) (i + k) (omega arith) ∙ get_or-set_same ws (i + k) v 0 (omega arith))
      by (inr z) r =
          let n : m - k ≡ suc (m - suc k) = omega (arith, z) in
          rw n (r (omega (arith, z)))

-- n words stored, from i on: a first, then the others
module _ (ws : List ℕ) (i a : ℕ) (vs : List ℕ) (h : i + suc (length vs) ≤ length ws) where
  abbrev after : List ℕ
  after = stores (set ws i a) i 1 vs

  pub stored : Stored ws after i (suc (length vs))
  stored =
      record {
        before = λ j g. before i vs (set ws i a) 1 j (omega arith) ∙ get_or-set_other ws i j a 0 (λ q. omega (arith, q));
        behind = λ j g. behind i vs (set ws i a) 1 j (omega arith) ∙ get_or-set_other ws i j a 0 (λ q. omega (arith, q));
      }

  pub first : word after i ≡ a
  first = before i vs (set ws i a) 1 i (omega arith) ∙ get_or-set_same ws i a 0 (omega arith)

  pub next : (m : ℕ) → 1 ≤ m → m < suc (length vs) → word after (i + m) ≡ get_or vs (m - 1) 0
  next m g k = there i vs (set ws i a) 1 m g (omega arith) (omega (arith, length-set ws i a))

-- nothing stored; one store behind the other; in a wider part
pub nothing : (ws : List ℕ) (i : ℕ) → Stored ws ws i 0
nothing ws i = record { before = λ j h. refl; behind = λ j h. refl }

pub wider : {ws vs : List ℕ} {i n : ℕ} (k m : ℕ) → Stored ws vs i n → k ≤ i → i + n ≤ k + m → Stored ws vs k m
wider k m s g h = record { before = λ j e. s.before j (omega arith); behind = λ j e. s.behind j (omega arith) }

pub then : {ws vs us : List ℕ} {i n : ℕ} → Stored ws vs i n → Stored vs us i n → Stored ws us i n
then s t = record { before = λ j e. t.before j e ∙ s.before j e; behind = λ j e. t.behind j e ∙ s.behind j e }

-- n words from i on are as they were
abbrev pub Same : List ℕ → List ℕ → ℕ → ℕ → Type 0
Same ws vs i n = (j : ℕ) → i ≤ j → j < i + n → word vs j ≡ word ws j

pub below : {ws vs : List ℕ} {i n : ℕ} (k m : ℕ) → Stored ws vs i n → k + m ≤ i → Same ws vs k m
below k m s h j f g = s.before j (omega arith)

pub above : {ws vs : List ℕ} {i n : ℕ} (k m : ℕ) → Stored ws vs i n → i + n ≤ k → Same ws vs k m
above k m s h j f g = s.behind j (omega arith)
