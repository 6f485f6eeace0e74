-- What is claimed of lines: the definition that the code equals takes apart what the grammar has, and nothing else. proofs/Kept.antt proves it.
-- Assumes nothing.
use Rattle.std.specs.Prelude.{◌≡◌, List, ℕ}
use Rattle.csv_field.specs.Grammar.{Parts, Faulty}
use Rattle.csv_field.specs.Split.{split, fields, faulty}

pub record Claims : Type 0 where
  pub sound : (s r : List ℕ) (ds : List (List ℕ)) → split s ≡ fields ds r → Parts s ds r
  pub complete : {s r : List ℕ} {ds : List (List ℕ)} → Parts s ds r → split s ≡ fields ds r
  -- a line is faulty, and ends there, exactly if no fields are found
  pub spoilt : (s r : List ℕ) → split s ≡ faulty r → Faulty s r
  pub spoilt' : {s r : List ℕ} → Faulty s r → split s ≡ faulty r
