-- The words of a line: the kinds of records by their numbers, an alarm's events by theirs, the columns in their order.
-- Assumes nothing.
use Rattle.std.specs.Prelude.{List, [], ◌∷◌, ◌++◌, ℕ, ◌+◌, get_or}
use Rattle.basis.specs.Text.{text}

abbrev pub kinds : List (List ℕ)
kinds = text "Alarm" ∷ text "StatusUpdate" ∷ text "AggregatedStatus" ∷ []

abbrev pub events : List (List ℕ)
events = text "Issue" ∷ text "Acknowledge" ∷ text "Suspend" ∷ []

abbrev pub columns : List (List ℕ)
columns =
    text "link" ∷ text "kind" ∷ text "item" ∷ text "event" ∷ text "ack" ∷ text "active" ∷ text "suspended" ∷ text "known"
    ∷ text "old" ∷ text "time" ∷ text "value" ∷ text "sequence" ∷ []

-- all of them in one table
abbrev pub words : List (List ℕ)
words = kinds ++ events ++ columns

-- word i; past the last one the empty text
abbrev pub word_of : ℕ → List ℕ
word_of i = get_or words i []

abbrev pub kind_word : ℕ → List ℕ
kind_word k = word_of k

abbrev pub event_word : ℕ → List ℕ
event_word e = word_of (3 + e)

abbrev pub column_word : ℕ → List ℕ
column_word j = word_of (6 + j)
