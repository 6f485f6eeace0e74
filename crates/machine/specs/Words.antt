-- The words that the rules are written in.
-- Assumes nothing.
--
-- How these files are read, for who knows C. A definition says what a value is; nothing is ever changed.
--   f : A → B → C, then f a b = ..    f takes an A and a B and gives a C; the first line that fits counts (`abbrev`, `unfoldable`: for the checker)
--   m.x, record { x = a; y = b }     field x of the record m; a record of these fields
--   [], x ∷ xs, xs ++ ys              the empty list, x and then xs, one list behind the other
--   some a, none; maybe d f o         an `Option`: there or not; f of what is there, else d. `or_else d o`: what is there, else d
--   λ x. e; (a, b), p.0, p.1        the function that makes e of x; a pair, its parts
--   ℕ, a - b                          numbers from 0 on of any size; 0 where b is above a
--   ℤ, pos 2, negsuc 1                whole numbers: 2, -2 (negsuc n is -(n + 1))
--   leb a b, ltb a b, eqb a b         a ≤ b, a < b, a = b, as true or false
--   a ≡ b, A × B, A ⊎ B, A → ⊥        statements: a is b; A and B; A or B; not A
-- A default that stands for what a packet asks for (`or_else 0 (alarm_asked m j)`) is never reached: `reason_of` has refused the packet where it is not there.
use Rattle.std.specs.Prelude.{ℕ, zero, suc, Bool, true, false, not, List, [], ◌∷◌, ◌++◌, eqb}
use Prim.Native.String.{String}
use Rattle.std.proofs.Math.Option.{Option, some, none}
use Rattle.basis.specs.Pick.{pick, both}
use Rattle.basis.specs.Lists.{same_bytes}
use Rattle.basis.specs.Text.{text}

infixr 12 if'◌then◌else◌
infixr 30 ◌and◌
infixr 20 ◌or◌
infixr 70 ◌when◌
abbrev pub Bytes : Type 0
Bytes = List ℕ

abbrev pub if'◌then◌else◌ : {A : Type 0} → Bool → A → A → A
if'◌then◌else◌ test a b = pick test a b

abbrev pub ◌and◌ : Bool → Bool → Bool
◌and◌ a b = both a b

abbrev pub ◌or◌ : Bool → Bool → Bool
◌or◌ a b = pick a true b

abbrev pub alike : Bool → Bool → Bool
alike a b = pick a b (not b)

-- the bytes are the quoted text
abbrev pub reads : String → Bytes → Bool
reads quoted bytes = same_bytes bytes (text quoted)

-- ---- what may be there or not
abbrev pub maybe : {A B : Type 0} → B → (A → B) → Option A → B
maybe b f none = b
maybe b f (some a) = f a

abbrev pub is_some : {A : Type 0} → Option A → Bool
is_some none = false
is_some (some a) = true

abbrev pub or_else : {A : Type 0} → A → Option A → A
or_else a none = a
or_else a (some b) = b

abbrev pub is_number : ℕ → Option ℕ → Bool
is_number n none = false
is_number n (some k) = eqb n k

-- ---- lists
abbrev pub keep : {A : Type 0} → (A → Bool) → List A → List A
keep f [] = []
keep f (x ∷ xs) = pick (f x) (x ∷ keep f xs) (keep f xs)

abbrev pub any : {A : Type 0} → (A → Bool) → List A → Bool
any f [] = false
any f (x ∷ xs) = f x or any f xs

abbrev pub each : {A : Type 0} → (A → Bool) → List A → Bool
each f [] = true
each f (x ∷ xs) = f x and each f xs

-- the first element that passes, all but that one, and its place
abbrev pub first_that : {A : Type 0} → (A → Bool) → List A → Option A
first_that f [] = none
first_that f (x ∷ xs) = pick (f x) (some x) (first_that f xs)

abbrev pub but_first : {A : Type 0} → (A → Bool) → List A → List A
but_first f [] = []
but_first f (x ∷ xs) = pick (f x) xs (x ∷ but_first f xs)

abbrev pub place_from : {A : Type 0} → ℕ → (A → Bool) → List A → Option ℕ
place_from i f [] = none
place_from i f (x ∷ xs) = pick (f x) (some i) (place_from (suc i) f xs)

abbrev pub place_of : {A : Type 0} → (A → Bool) → List A → Option ℕ
place_of f xs = place_from 0 f xs

abbrev pub flat : {A B : Type 0} → (A → List B) → List A → List B
flat f [] = []
flat f (x ∷ xs) = f x ++ flat f xs

-- element i changed
abbrev pub changed : {A : Type 0} → ℕ → (A → A) → List A → List A
changed i f [] = []
changed zero f (x ∷ xs) = f x ∷ xs
changed (suc i) f (x ∷ xs) = x ∷ changed i f xs

-- the numbers below n, upwards
abbrev pub up_to : ℕ → List ℕ
up_to zero = []
up_to (suc n) = up_to n ++ (n ∷ [])

-- ---- "first that applies"
pub record Case (A : Type 0) : Type 0 where
  pub gives : A
  pub applies : Bool

abbrev pub ◌when◌ : {A : Type 0} → A → Bool → Case A
◌when◌ a applies = record { gives = a; applies = applies }

abbrev pub first_of : {A : Type 0} → List (Case A) → Option A
first_of [] = none
first_of (c ∷ cs) = pick c.applies (some c.gives) (first_of cs)
