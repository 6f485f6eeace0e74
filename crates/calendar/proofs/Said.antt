-- The numbers that the digits of a written time say are the ones that were written.
-- Assumes nothing.
use Rattle.basis.proofs.Std.{◌≡◌, refl, sym, ap, subst, ◌∙◌, List, ℕ, ◌+◌, ◌-◌, ◌*◌, ◌/◌, ◌%◌, ◌≤◌, ◌<◌, arith, length}
use Rattle.calendar.specs.Days.{day_of, Valid}
use Rattle.calendar.specs.Civil.{date_of}
use Rattle.calendar.specs.Text.{last_second, decimals, second_text, milli_text}
use Rattle.calendar.specs.Read.{millis, date_said, clock_said}
use Rattle.calendar.proofs.Months.{month_below}
use Rattle.calendar.proofs.Counted.{date_valid, date_day}
use Rattle.calendar.proofs.Digits.{two_digits, three_digits, four_digits}

pub second_length : (n : ℕ) → length (second_text n) ≡ 19
unfolding second_text
second_length n = refl

pub milli_length : (m : ℕ) → length (milli_text m) ≡ 5
unfolding milli_text
milli_length m = refl

day_below : (n : ℕ) → n ≤ last_second → n / 86400 < 2932897
day_below n h = omega arith

date_said_lem : (n : ℕ) → n ≤ last_second → date_said (second_text n) ≡ date_of (n / 86400)
unfolding second_text
date_said_lem n h =
    let d = date_of (n / 86400) in
    let v = date_valid (n / 86400) (day_below n h) in
    let y = four_digits d.year v.year.1 in
    let m = two_digits d.month (omega (arith, v.month.1)) in
    let k = two_digits d.day (omega (arith, v.day.1, month_below d.year d.month)) in
    λ i. record { year = y i; month = m i; day = k i }

clock_said_lem : (n : ℕ) → clock_said (second_text n) ≡ n % 86400
unfolding second_text
clock_said_lem n = by (n % 86400) (omega arith)
  where
    hours : (k : ℕ) → k < 86400 → k / 3600 ≤ 99
    hours k h = omega arith

    minutes : (k : ℕ) → k / 60 % 60 ≤ 99
    minutes k = omega arith

    seconds : (k : ℕ) → k % 60 ≤ 99
    seconds k = omega arith

    whole : (k : ℕ) → k / 3600 * 3600 + k / 60 % 60 * 60 + k % 60 ≡ k
    whole k = omega arith

    by : (k : ℕ) → k < 86400 →
        ((48 + k / 3600 / 10 % 10 - 48) * 10 + (48 + k / 3600 % 10 - 48)) * 3600 + ((48 + k / 60 % 60 / 10 % 10 - 48) * 10 + (48 + k / 60 % 60 % 10 - 48)) * 60 + ((48 + k % 60 / 10 % 10 - 48) * 10 + (48 + k % 60 % 10 - 48)) ≡ k
    by k h = rw (two_digits (k / 3600) (hours k h), two_digits (k / 60 % 60) (minutes k), two_digits (k % 60) (seconds k)) (whole k)

-- what h says, where it is the text of the second n
module _ (h : List ℕ) (n : ℕ) (b : n ≤ last_second) (e : h ≡ second_text n) where
  pub said_date : date_said h ≡ date_of (n / 86400)
  said_date = ap date_said e ∙ date_said_lem n b

  pub said_valid : Valid (date_said h)
  said_valid = subst Valid (sym said_date) (date_valid (n / 86400) (day_below n b))

  pub said_second : day_of (date_said h) * 86400 + clock_said h ≡ n
  said_second =
      let d : day_of (date_said h) ≡ n / 86400 = ap day_of said_date ∙ date_day (n / 86400) (day_below n b) in
      let c : clock_said h ≡ n % 86400 = ap clock_said e ∙ clock_said_lem n in
      rw (d, c) (whole n)
    where
      whole : (n : ℕ) → n / 86400 * 86400 + n % 86400 ≡ n
      whole n = omega arith

pub said_millis : (m : ℕ) → m ≤ 999 → millis (decimals 3 m) ≡ m
said_millis m b = three_digits m b
