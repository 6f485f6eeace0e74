-- What reading a row at a place gives, case by case.
-- Assumes nothing.
use Rattle.basis.proofs.Std.{◌≡◌, true, false, List, ℕ, ◌+◌, ◌≤◌, ◌<◌, length, get_or, lt-ltb, le-ltb, lt-leb, le-leb}
use Rattle.label.specs.Reading.{read_at}
use Rattle.table_row.specs.declared.ItemRead.{ItemRead}
use Rattle.table_row.specs.Rows.{good_alarm, good_status, missed_item, alarm_with, status_with, alarm_at, status_at, range_at, ranged, good_range, with_range}

module _ (s : List ℕ) (components at : ℕ) where
  pub alarm_behind : length s ≤ at → alarm_at s components at ≡ missed_item
  unfolding alarm_at
  alarm_behind h = simp (le-ltb at (length s) h)

  pub status_behind : length s ≤ at → status_at s components at ≡ missed_item
  unfolding status_at
  status_behind h = simp (le-ltb at (length s) h)

  module _ (h : at < length s) where
    pub alarm_bad : good_alarm components (get_or s at 0) ≡ false → alarm_at s components at ≡ missed_item
    unfolding alarm_at
    alarm_bad e = simp (lt-ltb at (length s) h, e)

    pub alarm_good : good_alarm components (get_or s at 0) ≡ true → alarm_at s components at ≡ alarm_with (get_or s at 0) (read_at s (at + 1))
    unfolding alarm_at
    alarm_good e = simp (lt-ltb at (length s) h, e)

    pub status_bad : good_status components (get_or s at 0) ≡ false → status_at s components at ≡ missed_item
    unfolding status_at
    status_bad e = simp (lt-ltb at (length s) h, e)

    pub status_good : good_status components (get_or s at 0) ≡ true
        → status_at s components at ≡ status_with (get_or s at 0) (read_at s (at + 1)) (read_at s (read_at s (at + 1)).next)
    unfolding status_at
    status_good e = simp (lt-ltb at (length s) h, e)

module _ (s : List ℕ) (r : ItemRead) where
  pub range_behind : length s < r.next + 4 → with_range s r ≡ missed_item
  unfolding with_range
  range_behind h = simp (lt-leb (r.next + 4) (length s) h)

  module _ (h : r.next + 4 ≤ length s) where
    pub range_bad : good_range (range_at s r.next) ≡ false → with_range s r ≡ missed_item
    unfolding with_range
    range_bad e = simp (le-leb (r.next + 4) (length s) h, e)

    pub range_good : good_range (range_at s r.next) ≡ true
        → with_range s r ≡ record { item = ranged r.item (range_at s r.next); next = r.next + 4 }
    unfolding with_range
    range_good e = simp (le-leb (r.next + 4) (length s) h, e)
