-- A message that waits for an answer, with no word on places.
-- Assumes nothing.
use Rattle.std.specs.Prelude.{ℕ, ◌+◌, Bool, leb}
use Rattle.identity.specs.declared.Identity.{Identity}
use Rattle.awaited.specs.declared.Purpose.{Purpose}

-- the messages that wait for an answer, latest first
pub record Wait : Type 0 where
  pub id : Identity
  pub time : ℕ
  pub purpose : Purpose

abbrev pub long_ago : ℕ → Wait → Bool
long_ago t x = leb (x.time + 30000) t
