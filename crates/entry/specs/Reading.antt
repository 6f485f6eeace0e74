-- What the record reader makes of bytes: the record whose bytes they are, and number 11 where there is none.
-- Assumes nothing.
use Rattle.std.specs.Prelude.{◌≡◌, List, ℕ}
use Rattle.entry.specs.declared.Entry.{Entry}
use Rattle.entry.specs.declared.Unpacked.{Unpacked}
use Rattle.entry.specs.declared.Unpacked.TheVariants.{Accepted, Refused}
use Rattle.answer.specs.declared.Refusal.TheVariants.{NotAccepted}
use Rattle.entry.specs.Layout.{bytes_of}
use Rattle.entry.specs.Valid.{Valid}

pub data Reads (b : List ℕ) : Unpacked → Type 0 where
  reads : {e : Entry} → Valid e → bytes_of e ≡ b → Reads b (Accepted e)
  refuses : ((e : Entry) → Valid e → bytes_of e ≡ b → ⊥) → Reads b (Refused NotAccepted)
