-- The text of a written time.
-- Assumes nothing.
use Rattle.std.specs.Prelude.{ℕ, min, List}
use Rattle.calendar.specs.Text.{last_time, time_text}

-- the text of a time; of one past the last, the last one's
abbrev pub moment_text : ℕ → List ℕ
moment_text ms = time_text (min ms last_time)
