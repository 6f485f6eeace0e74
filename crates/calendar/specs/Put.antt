-- What writing a time leaves in a lent output: its text where it has one; after 9999 nothing, as if there were no room.
-- Assumes nothing.
use Rattle.std.specs.Prelude.{◌≡◌, List, ℕ, ◌+◌, length, leb}
use Rattle.basis.specs.Pick.{pick}
use Rattle.output.specs.Put.{Out, output, put_piece}
use Rattle.calendar.specs.Text.{last_time, time_text}

unfoldable pub put_time : Out → ℕ → Out
put_time o ms = pick (leb ms last_time) (put_piece o (time_text ms)) (output o.bytes (length o.bytes + 1))

-- a writer that was lent xs with the present end `at` put the time ms: it leaves ys and answers the end r
pub record WroteTime (xs : List ℕ) (at : ℕ) (ms : ℕ) (ys : List ℕ) (r : ℕ) : Type 0 where
  pub all : output ys r ≡ put_time (output xs at) ms
