-- Writing a time: one piece, or nothing after 9999.
-- Assumes nothing.
use Rattle.basis.proofs.Std.{◌≡◌, sym, ◌∙◌, List, [], ◌∷◌, ℕ, ◌+◌, ◌≤◌, ◌<◌, length, le-leb, lt-leb}
use Rattle.output.specs.Put.{output, put_piece, Wrote}
use Rattle.calendar.specs.Text.{last_time, time_text}
use Rattle.calendar.specs.Put.{put_time, WroteTime}

put_in_time : (xs : List ℕ) (at ms : ℕ) → ms ≤ last_time → put_time (output xs at) ms ≡ put_piece (output xs at) (time_text ms)
unfolding put_time
put_in_time xs at ms h = rw (le-leb ms last_time h)

pub wrote : {xs : List ℕ} {at ms : ℕ} {ys : List ℕ} {r : ℕ} → ms ≤ last_time → Wrote xs at (time_text ms ∷ []) ys r → WroteTime xs at ms ys r
wrote {xs} {at} {ms} h w = record { all = w.all ∙ sym (put_in_time xs at ms h) }

pub too_late : {xs : List ℕ} {at ms : ℕ} → last_time < ms → WroteTime xs at ms xs (length xs + 1)
unfolding put_time
too_late {xs} {at} {ms} h = record { all = rw (lt-leb ms last_time h) }
