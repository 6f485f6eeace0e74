-- What is claimed of numbers. proofs/Kept.antt proves it.
-- Assumes nothing.
use Rattle.std.specs.Prelude.{◌≡◌, List, ◌++◌, ℕ}
use Rattle.json_text.specs.Decoded.Parsed.{ok}
use Rattle.json_number.specs.Number.{Number, Ended}
use Rattle.json_number.specs.Machine.{read_number}

pub record Claims : Type 0 where
  -- what the machine reads is a number of the grammar, its bytes are d, and none goes on with what follows it
  pub sound : (t r d : List ℕ) → read_number t ≡ ok d r → Number t r × Ended r × (t ≡ d ++ r)
  -- such a number is read
  pub complete : {t r d : List ℕ} → Number t r → Ended r → t ≡ d ++ r → read_number t ≡ ok d r
