-- Words that a host lends: what stands at a place, lists made of them, and which of them a store leaves as they were.
-- Assumes nothing.
use Rattle.std.specs.Prelude.{ℕ, zero, suc, ◌+◌, ◌<◌, ◌≤◌, ◌≡◌, Bool, List, [], ◌∷◌, ltb, get_or, set}

abbrev pub word : List ℕ → ℕ → ℕ
word ws i = get_or ws i 0

-- a test in a word: every number but 0 is yes
abbrev pub flag : ℕ → Bool
flag x = ltb 0 x

-- n elements, number k first
unfoldable pub elements : {A : Type 0} → (ℕ → A) → ℕ → ℕ → List A
elements f k zero = []
elements f k (suc n) = f k ∷ elements f (suc k) n

-- n elements, number 0 first
abbrev pub list_of : {A : Type 0} → (ℕ → A) → ℕ → List A
list_of f n = elements f 0 n

-- the words after stores at i + k, i + k + 1, ..
abbrev pub stores : List ℕ → ℕ → ℕ → List ℕ → List ℕ
stores ws i k [] = ws
stores ws i k (v ∷ vs) = stores (set ws (i + k) v) i (suc k) vs

-- of the words only the n from i on may differ
pub record Stored (ws vs : List ℕ) (i n : ℕ) : Type 0 where
  pub before : (j : ℕ) → j < i → word vs j ≡ word ws j
  pub behind : (j : ℕ) → i + n ≤ j → word vs j ≡ word ws j

-- what a store leaves: the part of n words from i on is this one, and nothing else differs
pub record Put {A : Type 0} (f : List ℕ → ℕ → A) (n : ℕ) (ws vs : List ℕ) (i : ℕ) (x : A) : Type 0 where
  pub there : f vs i ≡ x
  pub kept : Stored ws vs i n
