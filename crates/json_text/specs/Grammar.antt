-- A JSON string as RFC 8259, section 7, has it. `Chars t r d`: the text t, after the opening quotation mark, goes on to the closing
-- one, r is what follows that, and d is the meaning, a list of code points.
-- Assumes nothing.
use Rattle.std.specs.Prelude.{ℕ, List, [], ◌∷◌}
use Rattle.json_character.specs.Grammar.{Character}

-- *char quotation-mark: what follows the opening quotation mark of a string, with the code points
pub data Chars : List ℕ → List ℕ → List ℕ → Type 0 where
  close : {r : List ℕ} → Chars (0x22 ∷ r) r []
  more : {t u r d : List ℕ} {c : ℕ} → Character t u c → Chars u r d → Chars t r (c ∷ d)
