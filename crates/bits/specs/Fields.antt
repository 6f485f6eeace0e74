-- Fields in the bits of a number, most significant first; bytes are fields of eight bits.
-- Assumes nothing.
use Rattle.std.specs.Prelude.{List, [], ◌∷◌, ℕ, ◌+◌, ◌*◌, ◌/◌, ◌%◌, ◌^◌, ◌<◌, length, replicate}

-- n, and behind it the k low bits of v
abbrev pub pushed : ℕ → ℕ → ℕ → ℕ
pushed n k v = n * 2 ^ k + v % 2 ^ k

-- the k bits of n that have s bits behind them
abbrev pub field_of : ℕ → ℕ → ℕ → ℕ
field_of n s k = n / 2 ^ s % 2 ^ k

-- how many bits the fields of these widths take
abbrev pub total : List ℕ → ℕ
total [] = 0
total (k ∷ ks) = k + total ks

-- n, and behind it the values, each in its width
abbrev pub joined : ℕ → List ℕ → List ℕ → ℕ
joined n [] vs = n
joined n (k ∷ ks) [] = n
joined n (k ∷ ks) (v ∷ vs) = joined (pushed n k v) ks vs

-- the last bits of n, as the fields of these widths
abbrev pub split : List ℕ → ℕ → List ℕ
split [] n = []
split (k ∷ ks) n = field_of n (total ks) k ∷ split ks n

-- each value fits its width, and there are as many of both
pub data Within : List ℕ → List ℕ → Type 0 where
  none : Within [] []
  next : {k v : ℕ} {ks vs : List ℕ} → v < 2 ^ k → Within ks vs → Within (k ∷ ks) (v ∷ vs)

-- the n low bytes of v
abbrev pub bytes_of : ℕ → ℕ → List ℕ
bytes_of n v = split (replicate n 8) v

-- the number that bytes say
abbrev pub number_of : List ℕ → ℕ
number_of bs = joined 0 (replicate (length bs) 8) bs
