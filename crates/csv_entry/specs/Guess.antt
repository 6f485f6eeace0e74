-- The one record that twelve texts can be the fields of: whatever they say is taken, and held against them afterwards.
-- Assumes nothing.
use Rattle.std.specs.Prelude.{Bool, List, [], ℕ, ◌+◌, ◌-◌, ◌^◌, eqb, ltb, leb, length, get_or, drop, Option, Some, None}
use Rattle.basis.specs.Pick.{pick}
use Rattle.basis.specs.Lists.{same_bytes}
use Rattle.basis.specs.Text.{text}
use Rattle.number.specs.Reading.{says}
use Rattle.entry.specs.declared.Entry.{Entry}
use Rattle.entry.specs.Flags.{alarm_flags, status_flags}
use Rattle.csv_words.specs.Words.{word_of}

-- what up to fifteen digits say
unfoldable pub number_in : List ℕ → ℕ
number_in f = pick (leb (length f) 15) (says 0 f) 0

-- n below the limit
unfoldable pub below : ℕ → ℕ → ℕ
below limit n = pick (ltb n limit) n 0

-- with a minus, what 2 ^ 32 has more
unfoldable pub signed_in : List ℕ → ℕ
signed_in f = pick (eqb (get_or f 0 0) 45) (2 ^ 32 - number_in (drop 1 f)) (number_in f)

abbrev pub is_one : List ℕ → Bool
is_one f = same_bytes f (text "1")

-- the first of the three words from w on that f is, and 3 for none
unfoldable pub first_of : ℕ → List ℕ → ℕ
first_of w f = pick (same_bytes f (word_of w)) 0 (pick (same_bytes f (word_of (w + 1))) 1 (pick (same_bytes f (word_of (w + 2))) 2 3))

abbrev pub kind_in : List ℕ → ℕ
kind_in f = first_of 0 f

abbrev pub kind_named : List ℕ → Option ℕ
kind_named f = pick (ltb (kind_in f) 3) (Some (kind_in f)) None

abbrev pub event_in : List ℕ → ℕ
event_in f = first_of 3 f

abbrev pub alarm_in : List ℕ → List ℕ → List ℕ → List ℕ → ℕ
alarm_in event acknowledged active suspended = alarm_flags (event_in event) (is_one acknowledged) (is_one active) (is_one suspended)

abbrev pub status_in : List ℕ → List ℕ → ℕ
status_in known old = status_flags (is_one known) (is_one old)

unfoldable pub flags_in : ℕ → List (List ℕ) → ℕ
flags_in k fs =
    pick (eqb k 0) (alarm_in (get_or fs 3 []) (get_or fs 4 []) (get_or fs 5 []) (get_or fs 6 []))
    (pick (eqb k 1) (status_in (get_or fs 7 []) (get_or fs 8 [])) 0)

unfoldable pub value_in : ℕ → List (List ℕ) → ℕ
value_in k fs = pick (eqb k 0) 0 (below (2 ^ 32) (signed_in (get_or fs 10 [])))

unfoldable pub guess_of : ℕ → List (List ℕ) → Entry
guess_of k fs = record {
  link = below (2 ^ 16) (number_in (get_or fs 0 []));
  kind = k;
  item = below (2 ^ 16) (number_in (get_or fs 2 []));
  flags = flags_in k fs;
  time = number_in (get_or fs 9 []);
  value = value_in k fs;
  sequence = below (2 ^ 32) (number_in (get_or fs 11 []));
}
