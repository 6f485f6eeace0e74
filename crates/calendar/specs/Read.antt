-- Reading a time. Document 02, request 05: "Reading a time shall accept zero to six decimals, drop those after the third, and say how many
-- stood there." A text is accepted exactly where it has the form of a time of 1970 to 9999; the answer is the time and the number of decimals.
-- Assumes nothing.
use Rattle.std.specs.Prelude.{◌≡◌, Bool, true, List, [], ◌∷◌, ◌++◌, ℕ, ◌+◌, ◌-◌, ◌*◌, ◌≤◌, length, get_or, take, drop, ltb, leb, eqb}
use Rattle.basis.specs.Pick.{pick, both}
use Rattle.basis.specs.Lists.{same_bytes}
use Rattle.basis.specs.Text.{text}
use Rattle.calendar.specs.declared.Date.{Date}
use Rattle.calendar.specs.declared.Second.{Second}
use Rattle.calendar.specs.declared.Second.TheVariants.{Is as IsSecond, No as NoSecond}
use Rattle.calendar.specs.declared.Time.{Time}
use Rattle.calendar.specs.declared.Time.TheVariants.{Is, No}
use Rattle.calendar.specs.Days.{day_of}
use Rattle.calendar.specs.Text.{last_second, second_text}

abbrev pub is_digit : ℕ → Bool
is_digit b = both (leb 48 b) (leb b 57)

abbrev pub are_digits : List ℕ → Bool
are_digits [] = true
are_digits (b ∷ bs) = both (is_digit b) (are_digits bs)

-- the number of one digit, and of two from a place on; 0 of a digit that is not there, any number of other bytes
abbrev pub one_at : List ℕ → ℕ → ℕ
one_at s at = get_or s at 0 - 48

abbrev pub two_at : List ℕ → ℕ → ℕ
two_at s at = one_at s at * 10 + one_at s (at + 1)

-- the decimals behind a dot; where there are none there is no dot
abbrev pub pointed : List ℕ → List ℕ
pointed [] = []
pointed (d ∷ ds) = text "." ++ (d ∷ ds)

-- tenths, hundredths and thousandths of a second: those after the third are dropped
abbrev pub millis : List ℕ → ℕ
millis ds = one_at ds 0 * 100 + two_at ds 1

-- the form of a time: the first 19 characters of a second, zero to six decimals, Z
pub record Form (s : List ℕ) (second : ℕ) (ds : List ℕ) : Type 0 where
  pub to_9999 : second ≤ last_second
  pub digits : are_digits ds ≡ true
  pub most : length ds ≤ 6
  pub said : s ≡ second_text second ++ (pointed ds ++ text "Z")

-- the answer to a text
pub data Reads (s : List ℕ) : Time → Type 0 where
  is : (second : ℕ) (ds : List ℕ) → Form s second ds → Reads s (Is (second * 1000 + millis ds) (length ds))
  no : ((second : ℕ) (ds : List ℕ) → Form s second ds → ⊥) → Reads s No

-- Reading as a function, for definitions that go on with the answer. It is not to be believed: the law `answers` says that it gives the
-- answer, and `one_time` that there is no other.

-- r is the answer to the text s, where the numbers up to the last have texts
pub record Answers (text_of : ℕ → List ℕ) (last : ℕ) (s : List ℕ) (r : Second) : Type 0 where
  pub accepted : (n : ℕ) → r ≡ IsSecond n → (n ≤ last) × (s ≡ text_of n)
  pub refused : r ≡ NoSecond → (n : ℕ) → n ≤ last → s ≡ text_of n → ⊥

-- the answer to s, if no number but this guess can have the text s
abbrev pub checked : (ℕ → List ℕ) → ℕ → List ℕ → ℕ → Second
checked text_of last s guess = pick (both (leb guess last) (same_bytes s (text_of guess))) (IsSecond guess) NoSecond

abbrev pub date_said : List ℕ → Date
date_said h = record { year = two_at h 0 * 100 + two_at h 2; month = two_at h 5; day = two_at h 8 }

abbrev pub clock_said : List ℕ → ℕ
clock_said h = two_at h 11 * 3600 + two_at h 14 * 60 + two_at h 17

-- the first 19 characters
unfoldable pub read_second : List ℕ → Second
read_second h = checked second_text last_second h (day_of (date_said h) * 86400 + clock_said h)

-- what stands between the dot and the Z
unfoldable pub read_decimals : List ℕ → Time
read_decimals ds = pick (ltb (length ds) 1) No (pick (ltb 6 (length ds)) No (pick (are_digits ds) (Is (millis ds) (length ds)) No))

-- the characters after the first 19
unfoldable pub read_rest : List ℕ → Time
read_rest t =
    pick (ltb (length t) 1) No
    (pick (eqb (get_or t (length t - 1) 0) 90)
    (pick (ltb (length t) 2) (Is 0 0)
    (pick (eqb (get_or t 0 0) 46) (read_decimals (take (length t - 1 - 1) (drop 1 t))) No))
    No)

abbrev pub join_rest : ℕ → Time → Time
join_rest s (Is m k) = Is (s * 1000 + m) k
join_rest s No = No

abbrev pub join_time : Second → Time → Time
join_time (IsSecond s) t = join_rest s t
join_time NoSecond t = No

unfoldable pub read_time : List ℕ → Time
read_time s = join_time (read_second (take 19 s)) (read_rest (drop 19 s))

pub record TimeRead (s : List ℕ) (r : Time) : Type 0 where
  pub answers : Reads s r
  pub equals : r ≡ read_time s
