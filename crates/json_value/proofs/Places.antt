-- Answers from one place of a slice on as answers from an earlier one; what an answer says of the reading.
-- Assumes nothing.
use Rattle.basis.proofs.Std.{ℕ, ◌≤◌, ◌≡◌, refl, List, length, drop, arith}
use Rattle.json_text.specs.Decoded.{Parsed}
use Rattle.json_text.specs.Decoded.Parsed.{ok}
use Rattle.json_text.specs.declared.Read.{Read}
use Rattle.json_text.specs.Ends.{Ends}
use Rattle.json_text.specs.Ends.Ends.{ends, fails}

pub from : {A : Type 0} {s : List ℕ} {i k : ℕ} {p : Parsed A} {r : Read} → i ≤ k → Ends s k p r → Ends s i p r
from h (ends e a b) = ends e (omega arith) b
from h fails = fails

pub record Ended {A : Type 0} (s : List ℕ) (i e : ℕ) (p : Parsed A) : Type 0 where
  pub what : A
  pub reads : p ≡ ok what (drop e s)
  pub on : i ≤ e
  pub inside : e ≤ length s

pub ended : {A : Type 0} {s : List ℕ} {i e : ℕ} {p : Parsed A} → Ends s i p (Read.End e) → Ended s i e p
ended (ends {a = a} e h g) = record { what = a; reads = refl; on = h; inside = g }
