-- What the exported functions answer, and what they leave in lent memory: 5,027 words for the tally, 4,096 bytes for the packet that has begun.
-- Assumes nothing.
use Rattle.std.specs.Prelude.{◌≡◌, List, [], ℕ, leb, length}
use Rattle.basis.specs.Pick.{pick}
use Rattle.output.specs.Put.{Wrote}
use Rattle.week_tally.specs.Tally.Tally.{within}
use Rattle.week_tally.specs.Words.{tally_of}
use Rattle.week_text.specs.Pieces.{report_pieces}
use Rattle.week_stream.specs.Feed.{fed, state_of}
use Rattle.weekc.specs.declared.Fed.{Fed}
use Rattle.weekc.specs.declared.Told.{Told}

-- number 1 is memory of another length: nothing has changed

pub record Begins (w after : List ℕ) (r : ℕ) : Type 0 where
  pub done : length w ≡ 5027 → (r ≡ 0) × (tally_of after ≡ within [] [])
  pub refused : (length w ≡ 5027 → ⊥) → (r ≡ 1) × (after ≡ w)

pub record Feeds (w held : List ℕ) (used : ℕ) (piece after begun : List ℕ) (r : Fed) : Type 0 where
  pub done : length w ≡ 5027 → length held ≡ 4096 → (r.number ≡ 0) × (state_of after begun r.used ≡ fed (state_of w held used) piece)
  pub refused : (length w ≡ 5027 → length held ≡ 4096 → ⊥) → (r ≡ record { number = 1; used = used }) × ((after ≡ w) × (begun ≡ held))

-- number 2 is an output without room for the report
pub record Tells (w out after : List ℕ) (r : Told) : Type 0 where
  pub done : length w ≡ 5027 → Wrote out 0 (report_pieces (tally_of w)) after r.written × (r.number ≡ pick (leb r.written (length out)) 0 2)
  pub refused : (length w ≡ 5027 → ⊥) → (r ≡ record { written = 0; number = 1 }) × (after ≡ out)
