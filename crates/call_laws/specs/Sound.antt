-- The invariants of a reachable site, each by its part of the site. Statements only: their proofs are `started` and `kept`.
-- Assumes nothing.
use Rattle.std.specs.Prelude.{ℕ, ◌+◌, ◌*◌, ◌/◌, ◌%◌, ◌^◌, ◌≤◌, ◌<◌, ◌≡◌, true, List, [], ◌∷◌, ◌⊎◌, eqb, ltb, length, get_or}
use Rattle.basis.specs.Pick.{pick}
use Rattle.answer.specs.Times.{last_time}
use Rattle.entry.specs.declared.Entry.{Entry}
use Rattle.entry.specs.Valid.{Valid}
use Rattle.pool.specs.declared.Place.{Place}
use Rattle.alarm.specs.declared.Alarm.{Alarm}
use Rattle.alarm.specs.Alarm.{beginning}
use Rattle.status.specs.declared.Status.{Status}
use Rattle.status.specs.Status.{unknown}
use Rattle.subscription.specs.declared.Subscription.{Subscription}
use Rattle.subscription.specs.Subscription.{none}
use Rattle.aggregated.specs.declared.Aggregated.{Aggregated}
use Rattle.table_whole.specs.declared.SiteTable.{SiteTable}
use Rattle.table_whole.specs.Table.{Table}
use Rattle.table_whole.specs.Allowed.{Allowed}
use Rattle.table_whole.specs.Memory.{memory_of}
use Rattle.site.specs.declared.Site.{Site}
use Rattle.site.specs.Site.{owned_by}

-- what start was given: 1 to 4 links, the primary one of them or 65535, a period of 1 to 3600 seconds, an allowed table as it is kept
pub record SoundStart (links primary period : ℕ) (table : SiteTable) : Type 0 where
  pub fewest_links : 1 ≤ links
  pub most_links : links ≤ 4
  pub a_link_or_none_lem : (primary < links) ⊎ (primary ≡ 65535)
  pub shortest_period : 1 ≤ period
  pub longest_period : period ≤ 3600
  pub edition : ℕ
  pub read : Table
  pub allowed : Allowed edition read
  pub kept : table ≡ memory_of read

-- an alarm's states are 0 or 1, its event is Issue, Acknowledge or Suspend, and happened by now
pub record SoundAlarm (now : ℕ) (a : Alarm) : Type 0 where
  pub acknowledged : a.acknowledged ≤ 1
  pub active : a.active ≤ 1
  pub suspended : a.suspended ≤ 1
  pub event : a.event ≤ 2
  pub time : a.time ≤ now

pub record SoundAlarms (now : ℕ) (xs : List Alarm) : Type 0 where
  pub many : length xs ≡ 32
  pub each : (k : ℕ) → SoundAlarm now (get_or xs k (beginning 0))

-- a status is known or not, and its value has 32 bits
pub record SoundStatus (x : Status) : Type 0 where
  pub known : x.known ≤ 1
  pub value : x.value < 2 ^ 32

pub record SoundStatuses (xs : List Status) : Type 0 where
  pub many : length xs ≡ 32
  pub each : (k : ℕ) → SoundStatus (get_or xs k unknown)

-- eight booleans, changed by now
pub record SoundAggregated (now : ℕ) (a : Aggregated) : Type 0 where
  pub value : a.value < 256
  pub time : a.time ≤ now

-- nobody subscribes on a link that is not configured, or to a status that the table does not have
pub record SoundSubscriptions (links statuses : ℕ) (xs : List Subscription) : Type 0 where
  pub many : length xs ≡ 128
  pub others : (l k : ℕ) → k < 32 → (links ≤ l) ⊎ (statuses ≤ k) → get_or xs (l * 32 + k) none ≡ none

-- how many items of a kind there are: kind 0 alarms, 1 statuses, 2 the aggregated status alone
abbrev pub items_of : SiteTable → ℕ → ℕ
items_of t kind = pick (eqb kind 0) t.alarmcount (pick (eqb kind 1) t.statuscount 1)

-- a record of a site is one that the record reader accepts, of a configured link and an item of the table, made by now; alarm records are
-- the primary's alone
pub record SoundEntry (site links primary : ℕ) (t : SiteTable) (now : ℕ) (e : Entry) : Type 0 where
  pub valid : Valid e
  pub of_site : e.link / 4 ≡ site
  pub link : e.link % 4 < links
  pub item : e.item < items_of t e.kind
  pub time : e.time ≤ now
  pub for_primary : e.kind ≡ 0 → e.link % 4 ≡ primary

-- it holds of every record that stands in these places
abbrev pub EachHeld : (Entry → Type 0) → List Place → Type 0
EachHeld P [] = Unit {0}
EachHeld P (x ∷ xs) = (ltb 0 x.mark ≡ true → P x.entry) × EachHeld P xs

-- it holds of every record of the list
abbrev pub Each : (Entry → Type 0) → List Entry → Type 0
Each P [] = Unit {0}
Each P (e ∷ es) = P e × Each P es

-- a record of the site, made by now
abbrev pub EntryOf : Site → ℕ → Entry → Type 0
EntryOf s now = SoundEntry s.site s.linkcount s.primary s.table now

-- a held record is the other site's, or one of the site, made by now
abbrev pub HeldOf : Site → ℕ → Entry → Type 0
HeldOf s now e = owned_by s e.link ≡ true → EntryOf s now e

-- the site's parts are sound, where `now` is the last time
pub record SoundAt (now : ℕ) (s : Site) : Type 0 where
  pub site : s.site < 2
  pub start : SoundStart s.linkcount s.primary s.period s.table
  pub last : now ≤ last_time
  pub next : s.next ≤ 2147483648
  pub links : length s.links ≡ 4
  pub subscriptions : SoundSubscriptions s.linkcount s.table.statuscount s.subscriptions
  pub alarms : SoundAlarms now s.alarms
  pub statuses : SoundStatuses s.statuses
  pub aggregated : SoundAggregated now s.aggregated
  pub held : EachHeld (HeldOf s now) s.pool.places

abbrev pub Sound : Site → Type 0
Sound s = SoundAt s.last s
