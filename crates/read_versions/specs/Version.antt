-- An RSMP version: one to three dotted numbers, each 0 to 255 without leading zeros; a missing part is 0.
-- Assumes nothing.
use Rattle.std.specs.Prelude.{List, [], ◌∷◌, ◌++◌, ℕ, ◌+◌, ◌*◌, ◌≤◌, eqb}
use Rattle.basis.specs.Pick.{pick}
use Rattle.basis.specs.Text.{text}
use Rattle.number.specs.declared.Number.{Number}
use Rattle.number.specs.declared.Number.TheVariants.{Is, No}
use Rattle.number.specs.Decimal.{digits}
use Rattle.read_versions.specs.Numeral.{number_in}

-- a version as one number: a later version is a greater one
abbrev pub version : ℕ → ℕ → ℕ → ℕ
version a b c = a * 65536 + b * 256 + c

-- s is a written form of a version
pub data Writes : List ℕ → ℕ → Type 0 where
  one : (a : ℕ) → a ≤ 255 → Writes (digits a) (version a 0 0)
  two : (a b : ℕ) → a ≤ 255 → b ≤ 255 → Writes (digits a ++ (text "." ++ digits b)) (version a b 0)
  three : (a b c : ℕ) → a ≤ 255 → b ≤ 255 → c ≤ 255 → Writes (digits a ++ (text "." ++ (digits b ++ (text "." ++ digits c)))) (version a b c)

-- the answer to a text: the version that it writes, and else nothing
pub data ReadsVersion (s : List ℕ) : Number → Type 0 where
  is : (n : ℕ) → Writes s n → ReadsVersion s (Is n)
  no : ((n : ℕ) → Writes s n → ⊥) → ReadsVersion s No

-- Reading as a function, for definitions that go on with the answer. It is not to be believed: the claims say that it gives the answer.

-- what stands before the first dot
unfoldable pub before : List ℕ → List ℕ
before [] = []
before (b ∷ s) = pick (eqb b 46) [] (b ∷ before s)

pub data Behind : Type 0 where
  nothing : Behind
  more : List ℕ → Behind

-- what stands behind it
unfoldable pub behind : List ℕ → Behind
behind [] = nothing
behind (b ∷ s) = pick (eqb b 46) (more s) (behind s)

-- "a missing part is 0"
abbrev pub rest_of : (List ℕ → Number) → Behind → Number
rest_of rest nothing = Is 0
rest_of rest (more s) = rest s

abbrev pub join_parts : ℕ → Number → Number → Number
join_parts w (Is a) (Is n) = Is (a * w + n)
join_parts w (Is a) No = No
join_parts w No r = No

-- the last part: nothing stands behind it
abbrev pub alone : Number → Behind → Number
alone r nothing = r
alone r (more s) = No

unfoldable pub one_part : List ℕ → Number
one_part s = alone (number_in 255 (before s)) (behind s)

unfoldable pub two_parts : List ℕ → Number
two_parts s = join_parts 256 (number_in 255 (before s)) (rest_of one_part (behind s))

unfoldable pub version_of : List ℕ → Number
version_of s = join_parts 65536 (number_in 255 (before s)) (rest_of two_parts (behind s))
