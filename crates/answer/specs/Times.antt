-- The times that a call takes: number 5's range, which records and written times keep to as well.
-- Assumes nothing.
use Rattle.std.specs.Prelude.{ℕ}

-- the last millisecond of 9999
abbrev pub last_time : ℕ
last_time = 253402300799999
