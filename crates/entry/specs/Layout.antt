-- The record in 128 bits, most significant first.
-- Assumes nothing.
use Rattle.std.specs.Prelude.{List, [], ◌∷◌, ℕ, get_or}
use Rattle.bits.specs.Fields.{joined, bytes_of as bytes_in}
use Rattle.entry.specs.declared.Entry.{Entry}

-- link 3 (the first bit the site), kind 2, item 6, flags 6, time 48, value 32, sequence 31
abbrev pub widths : List ℕ
widths = 3 ∷ 2 ∷ 6 ∷ 6 ∷ 48 ∷ 32 ∷ 31 ∷ []

abbrev pub values_of : Entry → List ℕ
values_of e = e.link ∷ e.kind ∷ e.item ∷ e.flags ∷ e.time ∷ e.value ∷ e.sequence ∷ []

abbrev pub entry_of : List ℕ → Entry
entry_of vs = record {
  link = get_or vs 0 0;
  kind = get_or vs 1 0;
  item = get_or vs 2 0;
  flags = get_or vs 3 0;
  time = get_or vs 4 0;
  value = get_or vs 5 0;
  sequence = get_or vs 6 0;
}

-- the sixteen bytes of a record
unfoldable pub bytes_of : Entry → List ℕ
bytes_of e = bytes_in 16 (joined 0 widths (values_of e))
