-- The text of a time: YYYY-MM-DDThh:mm:ss.mmmZ, of the milliseconds since 1970 UTC.
-- Assumes nothing.
use Rattle.std.specs.Prelude.{List, [], ◌∷◌, ◌++◌, ℕ, zero, suc, ◌+◌, ◌/◌, ◌%◌}
use Rattle.basis.specs.Text.{text}
pub use Rattle.answer.specs.Times.{last_time}
use Rattle.calendar.specs.declared.Date.{Date}
use Rattle.calendar.specs.Civil.{date_of}

-- the last second of 9999
abbrev pub last_second : ℕ
last_second = 253402300799

-- the last w decimal digits of n, the highest first
abbrev pub decimals : ℕ → ℕ → List ℕ
decimals zero n = []
decimals (suc w) n = decimals w (n / 10) ++ (48 + n % 10) ∷ []

-- YYYY-MM-DD
abbrev pub date_text : Date → List ℕ
date_text d = decimals 4 d.year ++ text "-" ++ decimals 2 d.month ++ text "-" ++ decimals 2 d.day

-- hh:mm:ss of a second of the day
abbrev pub clock_text : ℕ → List ℕ
clock_text s = decimals 2 (s / 3600) ++ text ":" ++ decimals 2 (s / 60 % 60) ++ text ":" ++ decimals 2 (s % 60)

-- the first 19 characters, of the seconds since 1970
unfoldable pub second_text : ℕ → List ℕ
second_text s = date_text (date_of (s / 86400)) ++ text "T" ++ clock_text (s % 86400)

-- the decimals and the Z
unfoldable pub milli_text : ℕ → List ℕ
milli_text m = text "." ++ decimals 3 m ++ text "Z"

unfoldable pub time_text : ℕ → List ℕ
time_text ms = second_text (ms / 1000) ++ milli_text (ms % 1000)
