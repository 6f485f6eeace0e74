-- What an object's reader leaves: the judgement of its text, and the places of its entries.
-- Assumes nothing.
use Rattle.std.specs.Prelude.{ℕ, ◌+◌, ◌<◌, ◌≤◌, ◌≡◌, Bool, List, [], ◌∷◌, ◌++◌, ltb, length, take, drop}
use Rattle.basis.specs.Pick.{pick}
use Rattle.json_value.specs.Reader.{skip_ws}
use Rattle.json_find.specs.Entries.{unless_closed, entries_of, first_named}
use Rattle.json_find.specs.Index.{texts_at}
use Rattle.json_sure.specs.declared.Judged.{Judged}
use Rattle.json_sure.specs.declared.Listed.{Listed}

abbrev pub judged_of : Listed → Judged
judged_of (Listed.End e q n) = Judged.End e q
judged_of Listed.Bad = Judged.Bad

abbrev pub count_of : Listed → ℕ
count_of (Listed.End e q n) = n
count_of Listed.Bad = 0

-- where there is room, one more place stands behind the first n
pub record Placed (places : List ℕ) (n at : ℕ) (after : List ℕ) : Type 0 where
  pub stands : n < length places → take (n + 1) after ≡ take n places ++ (at ∷ [])

abbrev pub all_or_none : ℕ → ℕ → ℕ
all_or_none n room = pick (ltb room n) 0 n

-- the entries of an object, of what follows its opening brace
abbrev pub entries_in : List ℕ → List (List ℕ)
entries_in t = entries_of 0x7d (unless_closed 0x7d t (skip_ws t))

-- where places are noted, every name is found among them as in the object whose brace ends at a place; and of an object that is one all its
-- entries are noted, or none where there is no room for all
pub record Finds (s : List ℕ) (at : ℕ) (places : List ℕ) (r : Listed) : Type 0 where
  pub within : count_of r ≤ length places
  pub finds : ¬ (count_of r ≡ 0) → (name : List ℕ) → first_named name (texts_at s (take (count_of r) places)) ≡ first_named name (entries_in (drop at s))
  pub all : (e : ℕ) (sure : Bool) (n : ℕ) → r ≡ Listed.End e sure n → n ≡ all_or_none (length (entries_in (drop at s))) (length places)
