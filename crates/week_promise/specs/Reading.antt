-- A stream read by the exported functions, each cited by its own contract: begun once, then fed piece by piece, each piece of any size; and its report.
-- Assumes nothing.
use Rattle.std.specs.Prelude.{ℕ, ◌≡◌, List, [], ◌++◌, length}
use contract.Lifetimes.{Lfts}
use Rattle.std.specs.Borrow.{Bor, MutBor}
use denote.Triple.Clauses.{AtExit}
use borrow.Fn.Kinds.{ended_of}
use Rattle.weekc.specs.declared.Fed.{Fed}
use Rattle.weekc.specs.declared.Told.{Told}
use Rattle.weekc.proofs.rsmp_week_begin.Reads as week_begin
use Rattle.weekc.proofs.rsmp_week_begin.Kinds as begin_kinds
use Rattle.weekc.proofs.rsmp_week_feed.Reads as week_feed
use Rattle.weekc.proofs.rsmp_week_feed.Kinds as feed_kinds
use Rattle.weekc.proofs.rsmp_week_report.Reads as week_report
use Rattle.weekc.proofs.rsmp_week_report.Kinds as report_kinds

-- what was fed so far, the words, the bytes and `used` as the calls left them
pub data Reading : List ℕ → List ℕ → List ℕ → ℕ → Type 0 where
  begun : {held : List ℕ} (κs : Lfts 1) (w : MutBor (List ℕ)) (r : ℕ) (e : AtExit (ended_of 1 begin_kinds.ps begin_kinds.r) κs)
      → week_begin.Learnt κs (w, tt) r e → length w.now ≡ 5027 → Reading [] e.0.now held 0
  further : {stream : List ℕ} (κs : Lfts 3) (w held : MutBor (List ℕ)) (used : ℕ) (piece : Bor (List ℕ)) (r : Fed) (e : AtExit (ended_of 3 feed_kinds.ps feed_kinds.r) κs)
      → week_feed.Learnt κs (w, (held, (used, (piece, tt)))) r e → length w.now ≡ 5027 → length held.now ≡ 4096
      → Reading stream w.now held.now used → Reading (stream ++ piece.now) e.0.now e.1.0.now r.used

-- the words, the lent output before and afterwards, and what is told
pub data Prints : List ℕ → List ℕ → List ℕ → Told → Type 0 where
  prints : (κs : Lfts 2) (w : Bor (List ℕ)) (out : MutBor (List ℕ)) (r : Told) (e : AtExit (ended_of 2 report_kinds.ps report_kinds.r) κs)
      → week_report.Learnt κs (w, (out, tt)) r e → Prints w.now out.now e.1.0.now r

-- no function asks anything of what it is given
pub record Free : Type 0 where
  pub begin : (κs : Lfts 1) (given : _) → week_begin.Asked κs given
  pub feed : (κs : Lfts 3) (given : _) → week_feed.Asked κs given
  pub report : (κs : Lfts 2) (given : _) → week_report.Asked κs given
