-- A time that has a text is put as one piece.
-- Assumes nothing.
use Rattle.basis.proofs.Std.{◌∙◌, List, [], ◌∷◌, ℕ, ◌≤◌, le-leb}
use Rattle.output.specs.Put.{Wrote}
use Rattle.calendar.specs.Text.{last_time, time_text}
use Rattle.calendar.specs.Put.{WroteTime, put_time}

pub as_piece : {xs : List ℕ} {at : ℕ} {ms : ℕ} {ys : List ℕ} {r : ℕ} → ms ≤ last_time → WroteTime xs at ms ys r → Wrote xs at (time_text ms ∷ []) ys r
unfolding put_time
as_piece {ms = ms} h w = record { all = w.all ∙ simp (le-leb ms last_time h) }
