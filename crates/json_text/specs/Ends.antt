-- What the code's answers say of a reading that begins at a place of a slice s: `End e`, and e is where what follows begins; or `Bad`.
-- One reading has one answer: `answered` of Claims.antt.
-- Assumes nothing.
use Rattle.std.specs.Prelude.{ℕ, ◌≤◌, List, length, drop}
use Rattle.json_text.specs.Decoded.{Parsed}
use Rattle.json_text.specs.Decoded.Parsed.{ok, none}
use Rattle.json_text.specs.declared.Read.{Read}
use Rattle.json_text.specs.declared.Read.TheVariants.{End, Bad}

pub data Ends {A : Type 0} (s : List ℕ) (at : ℕ) : Parsed A → Read → Type 0 where
  ends : {a : A} (e : ℕ) → at ≤ e → e ≤ length s → Ends s at (ok a (drop e s)) (End e)
  fails : Ends s at none Bad
