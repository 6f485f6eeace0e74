-- What the code's answers say of a slice s, besides `Ends`.
-- Assumes nothing.
use Rattle.std.specs.Prelude.{ℕ, ◌≤◌, ◌<◌, ◌≡◌, Bool, true, false, List, length, drop}
use Rattle.json_text.specs.Decoded.{Parsed}
use Rattle.json_text.specs.Decoded.Parsed.{ok, none}
use Rattle.json_value.specs.Reader.{skip_ws, Entry}
use Rattle.json_value.specs.declared.Mark.{Mark}
use Rattle.json_value.specs.declared.Mark.TheVariants.{Close, Comma, Neither}

-- white space from `at` goes to r
pub record Skipped (s : List ℕ) (at r : ℕ) : Type 0 where
  pub from : at ≤ r
  pub within : at ≤ length s → r ≤ length s
  pub rest : skip_ws (drop at s) ≡ drop r s

-- where what follows a closing byte or a comma begins
pub data Marks (s : List ℕ) (at : ℕ) : Parsed Bool → Mark → Type 0 where
  closes : (e : ℕ) → at < e → e ≤ length s → Marks s at (ok true (drop e s)) (Close e)
  commas : (e : ℕ) → at < e → e ≤ length s → Marks s at (ok false (drop e s)) (Comma e)
  neither : Marks s at none Neither

-- of an entry, whether it is the last
abbrev pub last_of : Parsed Entry → Parsed Bool
last_of (ok e r) = ok e.last r
last_of none = none
