-- Which records there are, said on their fields, kind by kind.
-- Assumes nothing.
use Rattle.std.specs.Prelude.{◌≡◌, Bool, true, false, ℕ, ◌^◌, ◌≤◌, ◌<◌}
pub use Rattle.answer.specs.Times.{last_time}
use Rattle.entry.specs.declared.Entry.{Entry}
use Rattle.entry.specs.Flags.{alarm_flags, status_flags}

-- kind 0, an alarm: its event and its states in the flags, and no value
pub record Alarm (e : Entry) : Type 0 where
  pub kind : e.kind ≡ 0
  pub item : e.item < 32
  pub event : ℕ
  pub acknowledged : Bool
  pub active : Bool
  pub suspended : Bool
  pub event_is : event < 3
  pub flags : e.flags ≡ alarm_flags event acknowledged active suspended
  pub value : e.value ≡ 0

-- kind 1, a status: known or not, old or not, and a value of 32 bits, which is 0 if it is not known
pub record Status (e : Entry) : Type 0 where
  pub kind : e.kind ≡ 1
  pub item : e.item < 32
  pub known : Bool
  pub old : Bool
  pub flags : e.flags ≡ status_flags known old
  pub value : e.value < 2 ^ 32
  pub unknown : known ≡ false → e.value ≡ 0

-- kind 2, the aggregated status: eight booleans in the low byte
pub record Aggregated (e : Entry) : Type 0 where
  pub kind : e.kind ≡ 2
  pub item : e.item ≡ 0
  pub flags : e.flags ≡ 0
  pub value : e.value < 256

pub data OfKind (e : Entry) : Type 0 where
  an_alarm : Alarm e → OfKind e
  a_status : Status e → OfKind e
  an_aggregated : Aggregated e → OfKind e

pub record Valid (e : Entry) : Type 0 where
  pub link : e.link < 8
  pub time : e.time ≤ last_time
  pub sequence : e.sequence < 2 ^ 31
  pub of_kind : OfKind e

-- a test that says whether P holds
pub record Decides (r : Bool) (P : Type 0) : Type 0 where
  pub yes : r ≡ true → P
  pub only : P → r ≡ true
