-- What the pieces that are written of a tally come to. proofs/ReportKept.antt proves it.
-- Assumes nothing.
use Rattle.std.specs.Prelude.{ℕ, ◌^◌, ◌≤◌, ◌<◌, ◌≡◌, List, [], length, get_or, take}
use Rattle.output.specs.Put.{Wrote, concat}
use Rattle.week_entry.specs.declared.Entry.{Entry}
use Rattle.week_tally.specs.Tally.Tally.{within}
use Rattle.week_tally.specs.Words.{tally_of}
use Rattle.week_tally.specs.Noted.{noted_all}
use Rattle.week_text.specs.Pieces.{report_pieces}
use Rattle.week_promise.specs.Report.{report_text}

pub record Claims : Type 0 where
  -- what is written of a tally that began empty and noted these entries is their report (no status has more nulls than 64 bits count)
  pub report : (es : List Entry) → length es < 2 ^ 64 → concat (report_pieces (noted_all (within [] []) es)) ≡ report_text es
  -- so where it has room, the lent output begins with the report
  pub printed : (es : List Entry) → length es < 2 ^ 64 → {xs ys : List ℕ} {r : ℕ} → Wrote xs 0 (report_pieces (noted_all (within [] []) es)) ys r → r ≤ length ys
      → take r ys ≡ report_text es
  -- 16,384 bytes are room enough, whatever the lent words hold
  pub room : (ws : List ℕ) → length ws ≡ 5027 → ((i : ℕ) → get_or ws i 0 < 2 ^ 64) → length (concat (report_pieces (tally_of ws))) ≤ 16384
