-- What the table reader makes of bytes: the table whose bytes they are, and number 11 where document 01 allows none.
-- Assumes nothing.
use Rattle.std.specs.Prelude.{◌≡◌, List, ℕ}
use Rattle.answer.specs.declared.Refusal.TheVariants.{NotAccepted}
use Rattle.table_whole.specs.declared.TableRead.{TableRead}
use Rattle.table_whole.specs.declared.Verdict.TheVariants.{Accepted, Refused}
use Rattle.table_whole.specs.Table.{Table}
use Rattle.table_whole.specs.Bytes.{table_bytes}
use Rattle.table_whole.specs.Allowed.{Allowed}
use Rattle.table_whole.specs.Memory.{memory_of, no_table}

pub data Reads (b : List ℕ) : TableRead → Type 0 where
  reads : {edition : ℕ} {t : Table} → Allowed edition t → table_bytes edition t ≡ b → Reads b (record { table = memory_of t; verdict = Accepted })
  refuses : ((edition : ℕ) (t : Table) → Allowed edition t → table_bytes edition t ≡ b → ⊥) → Reads b (record { table = no_table; verdict = Refused NotAccepted })
