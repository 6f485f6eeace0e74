-- What reading the head gives: the counts and the place behind it, or a place that is far behind every table.
-- Assumes nothing.
use Rattle.std.specs.Prelude.{ℕ, ◌+◌, Bool, List, ltb, leb, eqb, length, take}
use Rattle.basis.specs.Pick.{pick, both}
use Rattle.bits.specs.Fields.{field_of, number_of}
use Rattle.label.specs.Reading.{far}
use Rattle.table_row.specs.declared.Head.{Head}

-- components 4, alarms 6, statuses 6, and this many bits behind them
unfoldable pub good_counts : ℕ → ℕ → Bool
good_counts behind n =
    both (leb 1 (field_of n (behind + 12) 4))
    (both (leb (field_of n (behind + 12) 4) 8)
    (both (leb (field_of n (behind + 6) 6) 32)
    (leb (field_of n behind 6) 32)))

-- edition 4, the counts, zero 4
unfoldable pub good_first : ℕ → Bool
good_first n = both (eqb (field_of n 20 4) 1) (both (eqb (field_of n 0 4) 0) (good_counts 4 n))

-- edition 4, the counts, commands 5, zero 7
unfoldable pub good_second : ℕ → Bool
good_second n = both (eqb (field_of n 28 4) 2) (both (eqb (field_of n 0 7) 0) (both (leb (field_of n 7 5) 16) (good_counts 12 n)))

abbrev pub no_head : Head
no_head = record { components = 0; alarms = 0; statuses = 0; commands = 0; next = far }

abbrev pub counted : ℕ → ℕ → ℕ → ℕ → Head
counted behind n commands next =
    record {
      components = field_of n (behind + 12) 4;
      alarms = field_of n (behind + 6) 6;
      statuses = field_of n behind 6;
      commands = commands;
      next = next;
    }

unfoldable pub first_head : List ℕ → Head
first_head s =
    pick (leb 3 (length s)) (pick (good_first (number_of (take 3 s))) (counted 4 (number_of (take 3 s)) 0 3) no_head) no_head

unfoldable pub second_head : List ℕ → Head
second_head s =
    pick (leb 4 (length s))
    (pick (good_second (number_of (take 4 s))) (counted 12 (number_of (take 4 s)) (field_of (number_of (take 4 s)) 7 5) 4) no_head)
    no_head

unfoldable pub head_of : List ℕ → Head
head_of s = pick (ltb (first_head s).next far) (first_head s) (second_head s)
