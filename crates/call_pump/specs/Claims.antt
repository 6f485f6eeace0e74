-- What is claimed of pump, in the words of document 01. proofs/Kept.antt proves it.
-- Assumes nothing.
use Rattle.std.specs.Prelude.{ℕ, ◌+◌, ◌*◌, ◌≤◌, ◌<◌, ◌≡◌, true, false, List, [], ◌∷◌, length, take, drop}
use Rattle.answer.specs.declared.Report.{Report}
use Rattle.answer.specs.declared.Answer.TheVariants.{Done}
use Rattle.answer.specs.Times.{last_time}
use Rattle.identity.specs.declared.Identity.{Identity}
use Rattle.awaited.specs.declared.Found.TheVariants.{Nothing as NotAwaited}
use Rattle.awaited.specs.declared.Purpose.TheVariants.{Entry as ForEntry, Other as ForOther}
use Rattle.awaited.specs.Awaited.{find_of, how_many_of}
use Rattle.pool.specs.declared.Place.{Place}
use Rattle.pool.specs.declared.Sought.TheVariants.{Found, Nothing as NoEntry}
use Rattle.pool.specs.Pool.{mark_of, oldest_unsent, newest_alarm}
use Rattle.pool_laws.specs.Promises.{Reached}
use Rattle.pool_laws.specs.Leaves.{Held}
use Rattle.link.specs.declared.Phase.TheVariants.{Down, Up}
use Rattle.link.specs.declared.Due.TheVariants.{Nothing, Watchdog, Aggregated, Alarm, Entry}
use Rattle.link.specs.Phase.{phase_of}
use Rattle.link.specs.Steps.{message_out_of, alarm_passed_of}
use Rattle.write_message.specs.Message.{Message}
use Rattle.write_message.specs.Listing.{bytes_of}
use Rattle.alarm.specs.Issued.{issued_of}
use Rattle.site.specs.declared.Site.{Site}
use Rattle.site.specs.declared.Step.{Step}
use Rattle.site.specs.Site.{link_at, with_link, with_pool, owner_of}
use Rattle.site.specs.Parts.{alarm_at}
use Rattle.site.specs.Call.{Gives}
use Rattle.send_message.specs.Sending.{alarm_message, entry_message}
use Rattle.call_pump.specs.Pump.{due_at, pump_refuses, sends, pump_plan}

-- a configured link that is not Down, 4,096 bytes or more, a time that is neither before the last nor past the end of 9999, something due,
-- fewer than 8 awaited, and an identity that is not awaited
pub record Ready (s : Site) (l time : ℕ) (id : Identity) (room : ℕ) : Type 0 where
  pub four : l < 4
  pub configured : l < s.linkcount
  pub enough : 4096 ≤ room
  pub later : s.last ≤ time
  pub years : time ≤ last_time
  pub not_down : phase_of (link_at s l) ≡ Down → ⊥
  pub due : due_at s l time ≡ Nothing → ⊥
  pub few : how_many_of (link_at s l).awaited < 8
  pub fresh : find_of (link_at s l).awaited id ≡ NotAwaited

-- the bytes of m, form feed included, stand at the beginning of the output, and all else is as it was
pub record Written (m : Message) (xs ys : List ℕ) : Type 0 where
  pub begins : take (length (bytes_of m)) ys ≡ bytes_of m
  pub behind : drop (length (bytes_of m)) ys ≡ drop (length (bytes_of m)) xs

abbrev pub Gave : Site → ℕ → ℕ → Identity → List ℕ → List ℕ → Step → Type 0
Gave s l time id xs ys r = Gives s time (pump_refuses s l time id (length xs)) (pump_plan s l time id) xs ys r

-- the record is of the alarm's last event, states and time
pub record SameEvent (s : Site) (k : ℕ) (x : Place) : Type 0 where
  pub time : x.entry.time ≡ (alarm_at s k).time
  pub states : x.entry.flags ≡ (issued_of (alarm_at s k) 0 k).flags

-- what is due in Up, in this order
module _ (s : Site) (l time : ℕ) where
  -- less than a period after the last Watchdog, and the AggregatedStatus of this life is out
  pub record Passing : Type 0 where
    pub up : phase_of (link_at s l) ≡ Up
    pub soon : time < (link_at s l).beat + s.period * 1000
    pub aggregated : (link_at s l).aggregatedout ≡ true

  -- the first pass is over: it goes through the alarms on the primary alone
  abbrev pub Passed : Type 0
  Passed = l ≡ s.primary → s.table.alarmcount ≤ (link_at s l).alarm

  pub record InOrder : Type 0 where
    -- Watchdog a period or more after the last
    pub watchdog : phase_of (link_at s l) ≡ Up → (link_at s l).beat + s.period * 1000 ≤ time → due_at s l time ≡ Watchdog
    -- once per link life the AggregatedStatus
    pub aggregated : phase_of (link_at s l) ≡ Up → time < (link_at s l).beat + s.period * 1000 → (link_at s l).aggregatedout ≡ false → due_at s l time ≡ Aggregated
    -- then on the primary every alarm 0 upwards
    pub alarm : Passing → l ≡ s.primary → (link_at s l).alarm < s.table.alarmcount → due_at s l time ≡ Alarm (link_at s l).alarm
    -- then the oldest held record not sent
    pub entry : Passing → Passed → (x : Place) → oldest_unsent s.pool (owner_of s l) ≡ Found x → due_at s l time ≡ Entry
    pub nothing : Passing → Passed → oldest_unsent s.pool (owner_of s l) ≡ NoEntry → due_at s l time ≡ Nothing

pub record Claims : Type 0 where
  pub in_order : (s : Site) (l time : ℕ) → InOrder s l time
  -- a call that nothing stands against is done, and only such a one
  pub done : (s : Site) (l time : ℕ) (id : Identity) (xs ys : List ℕ) (r : Step) → Gave s l time id xs ys r → Ready s l time id (length xs)
      → (q : Report) × (r.answer ≡ Done q)
  pub only_then : (s : Site) (l time : ℕ) (id : Identity) (xs ys : List ℕ) (r : Step) (q : Report) → Gave s l time id xs ys r → r.answer ≡ Done q
      → Ready s l time id (length xs)
  -- it sends one message
  pub one : (s : Site) (l time : ℕ) (id : Identity) (room : ℕ) → Ready s l time id room → (m : Message) × ((pump_plan s l time id).messages ≡ m ∷ [])
  -- and writes exactly its text, which it counts
  pub text : (s : Site) (l time : ℕ) (id : Identity) (xs ys : List ℕ) (r : Step) (m : Message) → Gave s l time id xs ys r → Ready s l time id (length xs)
      → (pump_plan s l time id).messages ≡ m ∷ [] → length (bytes_of m) ≤ 4096
      → Written m xs ys × (r.answer ≡ Done (record { hint = 0; written = length (bytes_of m); closed = 0; hinted = 0; commands = 0 }))
  -- one at most, whatever is due, and no record is issued
  pub most : (s : Site) (l time : ℕ) (id : Identity) → length (pump_plan s l time id).messages ≤ 1
  pub issues_none : (s : Site) (l time : ℕ) (id : Identity) → (pump_plan s l time id).issued ≡ []
  -- a record that is sent stays held, and nothing is lost
  pub held : (s : Site) (l time : ℕ) (id : Identity) (q : ℕ → ℕ) (m k : ℕ) → Reached 8 s.pool q → Held s.pool m k → Held (pump_plan s l time id).site.pool m k
  pub reached : (s : Site) (l time : ℕ) (id : Identity) (q : ℕ → ℕ) → Reached 8 s.pool q → Reached 8 (pump_plan s l time id).site.pool q
  -- after the first pass: the oldest held record not sent, which is marked
  pub found : (s : Site) (l time : ℕ) → due_at s l time ≡ Entry → (x : Place) × (oldest_unsent s.pool (owner_of s l) ≡ Found x)
  pub entry : (s : Site) (l time : ℕ) (id : Identity) (x : Place) → due_at s l time ≡ Entry → oldest_unsent s.pool (owner_of s l) ≡ Found x
      → pump_plan s l time id
      ≡ sends (with_pool (with_link s l (message_out_of (link_at s l) id time (ForEntry x.entry.sequence))) (mark_of s.pool (owner_of s l) x.entry.sequence))
      (entry_message s id.bytes x.entry)
  -- the first pass: where the newest held record of the alarm equals its last event, states and time, the message carries that record
  pub carries : (s : Site) (l time : ℕ) (id : Identity) (k : ℕ) (x : Place) → due_at s l time ≡ Alarm k → newest_alarm s.pool (owner_of s l) k ≡ Found x → SameEvent s k x
      → pump_plan s l time id
      ≡ sends (with_pool (with_link s l (alarm_passed_of (message_out_of (link_at s l) id time (ForEntry x.entry.sequence)))) (mark_of s.pool (owner_of s l) x.entry.sequence))
      (alarm_message s id.bytes k)
  -- and none where it does not, or none is held
  pub other : (s : Site) (l time : ℕ) (id : Identity) (k : ℕ) (x : Place) → due_at s l time ≡ Alarm k → newest_alarm s.pool (owner_of s l) k ≡ Found x → (SameEvent s k x → ⊥)
      → pump_plan s l time id ≡ sends (with_link s l (alarm_passed_of (message_out_of (link_at s l) id time ForOther))) (alarm_message s id.bytes k)
  pub none : (s : Site) (l time : ℕ) (id : Identity) (k : ℕ) → due_at s l time ≡ Alarm k → newest_alarm s.pool (owner_of s l) k ≡ NoEntry
      → pump_plan s l time id ≡ sends (with_link s l (alarm_passed_of (message_out_of (link_at s l) id time ForOther))) (alarm_message s id.bytes k)
