-- A line of comma-separated fields as RFC 4180 has it: its written form, quoted or not, and what a fault in its quotes makes of it.
-- Bytes: 34 is `"`, 44 is `,`, 13 and 10 are CRLF.
-- Assumes nothing.
use Rattle.std.specs.Prelude.{◌≡◌, List, [], ◌∷◌, ℕ}

-- what stands behind a field: a comma, CRLF or the end
pub data Stop : List ℕ → Type 0 where
  comma : {r : List ℕ} → Stop (44 ∷ r)
  line : {r : List ℕ} → Stop (13 ∷ 10 ∷ r)
  end : Stop []

-- no quote begins r
abbrev pub Unquoted : List ℕ → Type 0
Unquoted r = (t : List ℕ) → r ≡ 34 ∷ t → ⊥

-- `Quoted t r d`: t, behind the opening quote, goes on to the closing one, r is what follows it, and d is the text: `""` is one quote
pub data Quoted : List ℕ → List ℕ → List ℕ → Type 0 where
  close : {r : List ℕ} → Unquoted r → Quoted (34 ∷ r) r []
  twice : {t r d : List ℕ} → Quoted t r d → Quoted (34 ∷ 34 ∷ t) r (34 ∷ d)
  other : {b : ℕ} {t r d : List ℕ} → (b ≡ 34 → ⊥) → Quoted t r d → Quoted (b ∷ t) r (b ∷ d)

-- no quote closes t
pub data Open : List ℕ → Type 0 where
  end : Open []
  twice : {t : List ℕ} → Open t → Open (34 ∷ 34 ∷ t)
  other : {b : ℕ} {t : List ℕ} → (b ≡ 34 → ⊥) → Open t → Open (b ∷ t)

-- `Plain t r d`: t without quotes goes on to r, which begins with a quote, or is what stands behind a field; d is what stands before r
pub data Plain : List ℕ → List ℕ → List ℕ → Type 0 where
  quote : {t : List ℕ} → Plain (34 ∷ t) (34 ∷ t) []
  stop : {t : List ℕ} → Stop t → Plain t t []
  more : {b : ℕ} {t r d : List ℕ} → (b ≡ 34 → ⊥) → (Stop (b ∷ t) → ⊥) → Plain t r d → Plain (b ∷ t) r (b ∷ d)

-- `Field t r d`: t begins with a field whose text is d, and r is what stands behind it
pub data Field : List ℕ → List ℕ → List ℕ → Type 0 where
  quoted : {t r d : List ℕ} → Quoted t r d → Stop r → Field (34 ∷ t) r d
  plain : {t r d : List ℕ} → Unquoted t → Plain t r d → Stop r → Field t r d

-- `Fault t r`: the field at t is badly quoted, and r is the text from the fault on
pub data Fault : List ℕ → List ℕ → Type 0 where
  inside : {t r d : List ℕ} → Unquoted t → Plain t (34 ∷ r) d → Fault t (34 ∷ r)
  behind : {t r d : List ℕ} → Quoted t r d → (Stop r → ⊥) → Fault (34 ∷ t) r
  not_closed : {t : List ℕ} → Open t → Fault (34 ∷ t) []

-- `Behind t r`: r is what follows the first CRLF of t, or the end
pub data Behind : List ℕ → List ℕ → Type 0 where
  line : {r : List ℕ} → Behind (13 ∷ 10 ∷ r) r
  end : Behind [] []
  more : {b : ℕ} {t r : List ℕ} → ((u : List ℕ) → b ∷ t ≡ 13 ∷ 10 ∷ u → ⊥) → Behind t r → Behind (b ∷ t) r

-- a line that begins at s: its fields' texts, and what follows the line
pub data Parts : List ℕ → List (List ℕ) → List ℕ → Type 0 where
  last : {s r d : List ℕ} → Field s (13 ∷ 10 ∷ r) d → Parts s (d ∷ []) r
  end : {s d : List ℕ} → Field s [] d → Parts s (d ∷ []) []
  more : {s t r d : List ℕ} {ds : List (List ℕ)} → Field s (44 ∷ t) d → Parts t ds r → Parts s (d ∷ ds) r

-- a line with a fault, and what follows it: it ends at the first CRLF behind the fault
pub data Faulty : List ℕ → List ℕ → Type 0 where
  here : {s t r : List ℕ} → Fault s t → Behind t r → Faulty s r
  later : {s t r d : List ℕ} → Field s (44 ∷ t) d → Faulty t r → Faulty s r
