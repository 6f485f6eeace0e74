-- Four names looked up in one walk over an object's entries, which also finds the object's end.
-- Assumes nothing.
use Rattle.std.specs.Prelude.{ℕ, ◌≤◌, List, drop}
use Rattle.basis.specs.Pick.{pick}
use Rattle.json_text.specs.declared.Read.{Read}
use Rattle.json_text.specs.declared.Read.TheVariants.{End, Bad}
use Rattle.json_text.specs.Ends.{Ends}
use Rattle.json_value.specs.declared.Mark.{Mark}
use Rattle.json_value.specs.declared.Mark.TheVariants.{Close, Comma, Neither}
use Rattle.json_value.specs.Reader.{skip_ws, read_start, read_mark, read_entry, read_value}
use Rattle.json_value.specs.Answers.{Marks, last_of}
use Rattle.json_find.specs.declared.FourFound.{FourFound}
use Rattle.json_find.specs.declared.Turn.{Turn}
use Rattle.json_find.specs.declared.Turn.TheVariants.{Last, Next, Stop}
use Rattle.json_find.specs.Kinds.{string_at}
use Rattle.json_find.specs.Entries.{member_at}

-- each name's member of the object at a place, and the object's end
pub record FindsFour (s : List ℕ) (at : ℕ) (first second third fourth : List ℕ) (r : FourFound) : Type 0 where
  pub one : Ends s at (member_at first (drop at s)) r.first
  pub two : Ends s at (member_at second (drop at s)) r.second
  pub three : Ends s at (member_at third (drop at s)) r.third
  pub four : Ends s at (member_at fourth (drop at s)) r.fourth
  pub whole : Ends s at (read_value 7 (drop at s)) r.end

abbrev pub next_by : Mark → Read
next_by (Comma n) = End n
next_by (Close n) = Bad
next_by Neither = Bad

-- the place of the next entry, after a value's end
pub data Follows (s : List ℕ) (close : ℕ) : Read → Read → Type 0 where
  after_none : Follows s close Bad Bad
  after_end : (e : ℕ) (m : Mark) → Marks s e (read_mark close (drop e s)) m → Follows s close (End e) (next_by m)

-- what one entry says: where its value begins, and what follows it, whether the value is read with six levels or with more
pub data TurnAt (s : List ℕ) (i : ℕ) : Turn → Type 0 where
  last : (v e : ℕ) → Ends s i (read_start 0x7d (drop i s)) (End v) → ((l : ℕ) → 6 ≤ l → Marks s i (last_of (read_entry 0x7d (λ u. read_value l u) (drop i s))) (Close e)) → TurnAt s i (Last v e)
  next : (v e : ℕ) → Ends s i (read_start 0x7d (drop i s)) (End v) → ((l : ℕ) → 6 ≤ l → Marks s i (last_of (read_entry 0x7d (λ u. read_value l u) (drop i s))) (Comma e)) → TurnAt s i (Next v e)
  stop : Marks s i (last_of (read_entry 0x7d (λ u. read_value 6 u) (drop i s))) Neither → TurnAt s i Stop

-- the first of two answers that is a place
abbrev pub or_else : Read → Read → Read
or_else (End e) r = End e
or_else Bad r = r

-- a name's answer after an entry t, whose value begins at v
abbrev pub here : List ℕ → List ℕ → ℕ → Read
here t name v = pick (string_at name (skip_ws t)) (End v) Bad

abbrev pub with_entry : FourFound → List ℕ → ℕ → List ℕ → List ℕ → List ℕ → List ℕ → Read → FourFound
with_entry found t v first second third fourth end =
    record {
      first = or_else found.first (here t first v);
      second = or_else found.second (here t second v);
      third = or_else found.third (here t third v);
      fourth = or_else found.fourth (here t fourth v);
      end = end;
    }

abbrev pub nothing : FourFound
nothing = record { first = Bad; second = Bad; third = Bad; fourth = Bad; end = Bad }
