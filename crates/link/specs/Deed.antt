-- What can happen in a link's life.
-- Assumes nothing.
use Rattle.std.specs.Prelude.{ℕ, Bool, eqb}

pub data Deed : Type 0 where
  Connected : Deed
  OurVersion : Deed
  OurVersionAcked : Deed
  TheirVersion : Deed
  OurWatchdog : Deed
  OurWatchdogAcked : Deed
  TheirWatchdog : Deed
  OurAggregated : Deed

abbrev number : Deed → ℕ
number Connected = 0
number OurVersion = 1
number OurVersionAcked = 2
number TheirVersion = 3
number OurWatchdog = 4
number OurWatchdogAcked = 5
number TheirWatchdog = 6
number OurAggregated = 7

abbrev pub is : Deed → Deed → Bool
is d e = eqb (number d) (number e)
