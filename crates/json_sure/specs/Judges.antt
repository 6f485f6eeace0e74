-- What the code's answers say of a slice s: where the reading ends, as json's do, and whether what was read is sure.
-- Assumes nothing.
use Rattle.std.specs.Prelude.{ℕ, ◌≡◌, Bool, true, List}
use Rattle.json_text.specs.Decoded.{Parsed}
use Rattle.json_text.specs.Decoded.Parsed.{ok}
use Rattle.json_text.specs.declared.Read.{Read}
use Rattle.json_text.specs.Ends.{Ends}
use Rattle.json_value.specs.Grammar.{Json}
use Rattle.json_value.specs.Reader.{Entry}
use Rattle.json_value.specs.Answers.{Marks, last_of}
use Rattle.json_value.specs.declared.Mark.{Mark}
use Rattle.json_sure.specs.declared.Judged.{Judged}
use Rattle.json_sure.specs.declared.Entered.{Entered}
use Rattle.json_sure.specs.Sure.{sure, sure_in, sure_entry}

abbrev pub ended_of : Read → Judged
ended_of (Read.End e) = Judged.End e true
ended_of Read.Bad = Judged.Bad

abbrev pub followed_of : Mark → Bool → Entered
followed_of (Mark.Close n) q = Entered.Close n q
followed_of (Mark.Comma n) q = Entered.Comma n q
followed_of Mark.Neither q = Entered.Neither

abbrev pub place_of : Judged → Read
place_of (Judged.End e q) = Read.End e
place_of Judged.Bad = Read.Bad

-- Bad says nothing, and nothing was read
abbrev pub Says : Judged → Bool → Type 0
Says (Judged.End e q) b = q ≡ b
Says Judged.Bad b = Unit {0}

abbrev pub mark_of : Entered → Mark
mark_of (Entered.Close n q) = Mark.Close n
mark_of (Entered.Comma n q) = Mark.Comma n
mark_of Entered.Neither = Mark.Neither

abbrev pub SaysEntry : Entered → Bool → Type 0
SaysEntry (Entered.Close n q) b = q ≡ b
SaysEntry (Entered.Comma n q) b = q ≡ b
SaysEntry Entered.Neither b = Unit {0}

pub record Judges (key : ℕ) (s : List ℕ) (at : ℕ) (p : Parsed Json) (r : Judged) : Type 0 where
  pub place : Ends s at p (place_of r)
  pub says : (j : Json) (u : List ℕ) → p ≡ ok j u → Says r (sure key j)

-- with room for so many marks
pub record JudgesIn (key room : ℕ) (s : List ℕ) (at : ℕ) (p : Parsed Json) (r : Judged) : Type 0 where
  pub place : Ends s at p (place_of r)
  pub says : (j : Json) (u : List ℕ) → p ≡ ok j u → Says r (sure_in key room j)

pub record EntersIn (key room : ℕ) (s : List ℕ) (at : ℕ) (p : Parsed Entry) (r : Entered) : Type 0 where
  pub place : Marks s at (last_of p) (mark_of r)
  pub says : (e : Entry) (u : List ℕ) → p ≡ ok e u → SaysEntry r (sure_entry key room e)
