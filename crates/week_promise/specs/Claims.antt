-- The weekly report: whatever the pieces, what is printed is the report of the entries that count in the stream. proofs/Kept.antt proves it.
-- Assumes nothing.
use Rattle.std.specs.Prelude.{◌≡◌, true, List, ◌∷◌, map, ℕ, ◌+◌, ◌/◌, ◌^◌, ◌≤◌, ◌<◌, ℤ, length, get_or, take}
use Rattle.week_stream.specs.Packets.{entries_of}
use Rattle.weekc.specs.declared.Told.{Told}
use Rattle.week_promise.specs.Figures.{word_value, has_rank, middle}
use Rattle.week_promise.specs.Report.{report_text}
use Rattle.week_promise.specs.Reading.{Reading, Prints, Free}

pub record Claims : Type 0 where
  pub free : Free
  -- no status has more nulls than 64 bits count
  pub report : {stream w held out after : List ℕ} {used : ℕ} {r : Told} → Reading stream w held used → length (entries_of stream) < 2 ^ 64 → length w ≡ 5027
      → Prints w out after r → r.number ≡ 0 → take r.written after ≡ report_text (entries_of stream)
  -- 16,384 bytes are room enough, whatever the lent words hold
  pub room : {w out after : List ℕ} {r : Told} → length w ≡ 5027 → ((i : ℕ) → get_or w i 0 < 2 ^ 64) → 16384 ≤ length out → Prints w out after r → r.number ≡ 0
  -- among any values at most one number has a rank
  pub once : (rank : ℕ) (vs : List ℤ) (m k : ℤ) → has_rank rank vs m ≡ true → has_rank rank vs k ≡ true → m ≡ k
  -- and the middle has the rank (n + 1) / 2, the half dropped
  pub ranked : (w : ℕ) (ws : List ℕ) → has_rank ((length (w ∷ ws) + 1) / 2) (map word_value (w ∷ ws)) (middle (word_value w) (map word_value ws)) ≡ true
