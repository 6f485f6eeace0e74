-- Names looked for among noted places, one place after the other.
-- Assumes nothing.
use Rattle.basis.proofs.Std.{ℕ, ◌+◌, ◌<◌, ◌≤◌, ◌≡◌, ap, true, false, List, length, get_or, drop, arith}
use Rattle.json_text.specs.declared.Read.{Read}
use Rattle.json_text.specs.Ends.{Ends}
use Rattle.json_text.specs.Ends.Ends.{fails}
use Rattle.json_value.specs.Reader.{skip_ws, read_start}
use Rattle.json_value.specs.Answers.{Skipped}
use Rattle.json_character.proofs.Lists.{next, past}
use Rattle.json_value.proofs.Places.{from}
use Rattle.json_find.specs.Kinds.{string_at}
use Rattle.json_find.specs.Entries.{first_named, member_at}
use Rattle.json_find.specs.Index.{texts_at, Indexed}

module _ (s places name : List ℕ) (k : ℕ) where
  module _ (h : k < length places) (j : ℕ) (ws : Skipped s (get_or places k 0) j) where
    pub among_here : true ≡ string_at name (drop j s) → (r : Read) → Ends s (get_or places k 0) (read_start 0x7d (drop (get_or places k 0) s)) r → Ends s 0 (first_named name (texts_at s (drop k places))) r
    among_here e r x = rw (next places k h, ws.rest, ← e) (from (omega arith) x)

    pub among_next : false ≡ string_at name (drop j s) → first_named name (texts_at s (drop k places)) ≡ first_named name (texts_at s (drop (k + 1) places))
    among_next e = rw (next places k h, ws.rest, ← e)

  pub among_none : length places ≤ k → Ends s 0 (first_named name (texts_at s (drop k places))) Read.Bad
  among_none h = rw (past places k h) fails

module _ (s name : List ℕ) where
  pub unnoted : (at : ℕ) → Skipped s 0 at → (r : Read) → Ends s at (member_at name (drop at s)) r → Ends s 0 (member_at name (skip_ws s)) r
  unnoted at ws r x = rw ws.rest (from (omega arith) x)

  pub noted : (places : List ℕ) → Indexed s places → ¬ (length places ≡ 0) → (r : Read) → Ends s 0 (first_named name (texts_at s places)) r → Ends s 0 (member_at name (skip_ws s)) r
  noted places x h r y = rw (← x.finds (λ e. h (ap length e)) name) y

pub ruleset among_steps = (among_here, among_next, among_none)

pub ruleset noted_steps = (unnoted, noted)
