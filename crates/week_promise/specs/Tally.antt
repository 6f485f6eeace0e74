-- The statuses of a week, in order of first appearance, each with its values in order and its nulls.
-- Assumes nothing.
use Rattle.std.specs.Prelude.{ℕ, ◌+◌, Bool, List, [], ◌∷◌, ◌++◌, leb, ℤ, length}
use Rattle.basis.specs.Pick.{pick, both}
use Rattle.basis.specs.Lists.{same_bytes}
use Rattle.label.specs.Label.{text_of}
use Rattle.week_entry.specs.declared.Entry.{Entry}
use Rattle.week_promise.specs.Figures.{word_value}

pub record Status : Type 0 where
  pub component : List ℕ
  pub code : List ℕ
  pub name : List ℕ
  pub values : List ℤ
  pub nulls : ℕ

abbrev pub value_of : Entry → ℤ
value_of e = word_value e.word

abbrev pub is_same : Status → Entry → Bool
is_same s e =
    both (same_bytes s.name (text_of e.name))
    (both (same_bytes s.code (text_of e.code)) (same_bytes s.component (text_of e.component)))

-- a known value is one value more, null one null more
abbrev pub with_entry : Status → Entry → Status
with_entry s e =
    record {
      component = s.component;
      code = s.code;
      name = s.name;
      values = pick e.known (s.values ++ (value_of e ∷ [])) s.values;
      nulls = pick e.known s.nulls (s.nulls + 1);
    }

abbrev pub new_status : Entry → Status
new_status e = record { component = text_of e.component; code = text_of e.code; name = text_of e.name; values = []; nulls = 0 }

-- the entry goes to the status of its component, code and name; where there is none, to a new one behind the others
unfoldable pub add : List Status → Entry → List Status
add [] e = with_entry (new_status e) e ∷ []
add (s ∷ ss) e = pick (is_same s e) (with_entry s e ∷ ss) (s ∷ add ss e)

unfoldable pub tally_from : List Status → List Entry → List Status
tally_from ss [] = ss
tally_from ss (e ∷ es) = tally_from (add ss e) es

abbrev pub tally : List Entry → List Status
tally es = tally_from [] es

-- how many values in all
unfoldable pub total : List Status → ℕ
total [] = 0
total (s ∷ ss) = length s.values + total ss

-- at most 64 statuses and 4,000 values
unfoldable pub fits : List Status → Bool
fits ss = both (leb (length ss) 64) (leb (total ss) 4000)
