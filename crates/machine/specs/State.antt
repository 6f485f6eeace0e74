-- Document 01, "What the box speaks": what the box keeps, the calls, and what a call gives.
-- Assumes nothing.
use Rattle.std.specs.Prelude.{ℕ, Bool, true, false, List, [], ◌∷◌, ℤ, get_or}
use Rattle.std.proofs.Math.Option.{Option, some, none}
use Rattle.table_whole.specs.Table.{Table}
use Rattle.write_message.specs.Message.{Message}
use Rattle.machine.specs.Words.{Bytes, changed}

-- ---- what stays as start gave it: "Start also takes link count, primary (or none), watchdog period"
pub record Setup : Type 0 where
  pub table : Table
  pub links : ℕ
  pub primary : Option ℕ
  pub period : ℕ

-- ---- alarms, statuses, subscriptions
pub data Event : Type 0 where
  Issue Acknowledge Suspend : Event

abbrev pub event_number : Event → ℕ
event_number Issue = 0
event_number Acknowledge = 1
event_number Suspend = 2

pub record Alarm : Type 0 where
  pub active : Bool
  pub acknowledged : Bool
  pub suspended : Bool
  pub event : Event  -- the last event
  pub time : ℕ  -- and its time

abbrev pub alarm_of : Bool → Bool → Bool → Event → ℕ → Alarm
alarm_of active acknowledged suspended event time =
    record { active = active; acknowledged = acknowledged; suspended = suspended; event = event; time = time }

pub record Subscription : Type 0 where
  pub link : ℕ
  pub status : ℕ
  pub interval : ℕ  -- uRt, seconds
  pub on_change : Bool  -- sOc
  pub since : ℕ  -- "the subscribing call or the last tick that did so"

-- ---- records
-- what a record tells: an alarm as it was at the event, a status' value and whether it is old, the aggregated value; and its time
pub data Content : Type 0 where
  of_alarm : (number : ℕ) (alarm : Alarm) → Content
  of_status : (number : ℕ) (value : Option ℤ) (old : Bool) (time : ℕ) → Content
  of_aggregated : (value time : ℕ) → Content

-- a record to be issued, and a held one
pub record Issued : Type 0 where
  pub link : ℕ
  pub content : Content

abbrev pub issued_for : ℕ → Content → Issued
issued_for link content = record { link = link; content = content }

pub record Held : Type 0 where
  pub link : ℕ
  pub content : Content
  pub sequence : ℕ
  pub sent : Bool  -- in this life of its link

abbrev pub held_as : ℕ → Content → ℕ → Bool → Held
held_as link content sequence sent = record { link = link; content = content; sequence = sequence; sent = sent }

-- what a site has in the pool
pub record Share : Type 0 where
  pub held : List Held  -- oldest first
  pub lost : List ℕ  -- by link

abbrev pub share_of : List Held → List ℕ → Share
share_of held lost = record { held = held; lost = lost }

abbrev pub no_share : Share
no_share = share_of [] []

-- request 10, "North and south boom shall share one box, .. and one pool of 128": the pool as a site has it, with the other's share beside its own
pub record Pool : Type 0 where
  pub site : ℕ  -- 0 or 1
  pub next : ℕ  -- "the site's next sequence number"
  pub held : List Held  -- oldest first
  pub lost : List ℕ  -- by link
  pub beside : Share  -- under the other's sequence numbers

abbrev pub shared_pool : ℕ → ℕ → List Held → List ℕ → Share → Pool
shared_pool site next held lost beside = record { site = site; next = next; held = held; lost = lost; beside = beside }

-- site 0's, with no other site beside it
abbrev pub pool_of : ℕ → List Held → List ℕ → Pool
pool_of next held lost = shared_pool 0 next held lost no_share

abbrev pub own_of : Pool → Share
own_of p = share_of p.held p.lost

abbrev pub with_own : Share → Pool → Pool
with_own s p = shared_pool p.site p.next s.held s.lost p.beside

abbrev pub with_beside : Share → Pool → Pool
with_beside s p = shared_pool p.site p.next p.held p.lost s

-- ---- request 01, "A value in its range is handed to the host": a command's number in the table, and its value
pub record Command : Type 0 where
  pub number : ℕ
  pub value : ℤ

abbrev pub command_of : ℕ → ℤ → Command
command_of number value = record { number = number; value = value }

-- ---- a link's life
-- what an awaited message was: our Version, a Watchdog of ours, one that carried the record of a number, any other
pub data Sent : Type 0 where
  own_version own_watchdog no_record : Sent
  the_record : (sequence : ℕ) → Sent

pub record Awaited : Type 0 where
  pub identity : Bytes  -- sixteen bytes
  pub time : ℕ  -- of sending
  pub message : Sent

-- Versions, and Watchdogs, are exchanged once ours is acknowledged and theirs accepted or taken
pub record Exchange : Type 0 where
  pub sent : Bool
  pub acknowledged : Bool
  pub taken : Bool

abbrev pub exchange : Bool → Bool → Bool → Exchange
exchange sent acknowledged taken = record { sent = sent; acknowledged = acknowledged; taken = taken }

pub record Life : Type 0 where
  pub connected : Bool
  pub versions : Exchange
  pub watchdogs : Exchange
  pub version : List ℕ  -- the chosen one, three numbers; none before
  pub beat : ℕ  -- when our last Watchdog went out
  pub pass : ℕ  -- how many messages of the first pass went out
  pub awaited : List Awaited

abbrev pub life_of : Bool → Exchange → Exchange → List ℕ → ℕ → ℕ → List Awaited → Life
life_of connected versions watchdogs version beat pass awaited =
    record { connected = connected; versions = versions; watchdogs = watchdogs; version = version; beat = beat; pass = pass; awaited = awaited }

abbrev pub fresh : Bool → Life
fresh connected = life_of connected (exchange false false false) (exchange false false false) [] 0 0 []

-- ---- the machine
pub record Machine : Type 0 where
  pub setup : Setup
  pub last : ℕ  -- "the last time of a call done"
  pub alarms : List Alarm
  pub statuses : List (Option ℤ)
  pub aggregated : ℕ  -- the eight booleans, first highest
  pub aggregated_time : ℕ
  pub subscriptions : List Subscription
  pub lives : List Life
  pub pool : Pool

abbrev pub machine : Setup → ℕ → List Alarm → List (Option ℤ) → ℕ → ℕ → List Subscription → List Life → Pool → Machine
machine u t xs vs g gt ss ls p =
    record { setup = u; last = t; alarms = xs; statuses = vs; aggregated = g; aggregated_time = gt; subscriptions = ss; lives = ls; pool = p }

abbrev pub life_at : Machine → ℕ → Life
life_at m l = get_or m.lives l (fresh false)

abbrev pub alarm_at : Machine → ℕ → Alarm
alarm_at m i = get_or m.alarms i (alarm_of false true false Issue 0)

abbrev pub value_at : Machine → ℕ → Option ℤ
value_at m i = get_or m.statuses i none

abbrev pub with_alarm : ℕ → Alarm → Machine → Machine
with_alarm i a m = machine m.setup m.last (changed i (λ x. a) m.alarms) m.statuses m.aggregated m.aggregated_time m.subscriptions m.lives m.pool

abbrev pub with_status : ℕ → ℤ → Machine → Machine
with_status i v m = machine m.setup m.last m.alarms (changed i (λ x. some v) m.statuses) m.aggregated m.aggregated_time m.subscriptions m.lives m.pool

abbrev pub with_aggregated : ℕ → ℕ → Machine → Machine
with_aggregated g t m = machine m.setup m.last m.alarms m.statuses g t m.subscriptions m.lives m.pool

abbrev pub with_subscriptions : List Subscription → Machine → Machine
with_subscriptions ss m = machine m.setup m.last m.alarms m.statuses m.aggregated m.aggregated_time ss m.lives m.pool

abbrev pub with_life : ℕ → Life → Machine → Machine
with_life l k m = machine m.setup m.last m.alarms m.statuses m.aggregated m.aggregated_time m.subscriptions (changed l (λ x. k) m.lives) m.pool

abbrev pub with_held : List Held → Machine → Machine
with_held hs m = machine m.setup m.last m.alarms m.statuses m.aggregated m.aggregated_time m.subscriptions m.lives (with_own (share_of hs m.pool.lost) m.pool)

abbrev pub at_end : ℕ → Pool → Machine → Machine
at_end t p m = machine m.setup t m.alarms m.statuses m.aggregated m.aggregated_time m.subscriptions m.lives p

-- ---- "Calls: start, connect, disconnect, packet (one message without its form feed), alarm input, status value, aggregated
-- value, tick, pump (sends the next due message, one at most)."
pub record Start : Type 0 where
  pub site : ℕ
  pub table : Bytes
  pub links : ℕ
  pub primary : Option ℕ
  pub period : ℕ
  pub first : ℕ
  pub time : ℕ

-- "Packet and pump also carry 16 random bytes and an output of 4,096 bytes or more": of the output its length counts here
pub data Act : Type 0 where
  connect : (link : ℕ) → Act
  disconnect : (link : ℕ) → Act
  packet : (link : ℕ) (random received : Bytes) (room : ℕ) → Act
  alarm_input : (number : ℕ) (active : Bool) → Act
  status_value : (number : ℕ) (value : ℤ) → Act
  aggregated_value : (value : ℕ) → Act
  tick : Act
  pump : (link : ℕ) (random : Bytes) (room : ℕ) → Act

-- "Each call after start carries the time in milliseconds since 1970 UTC."
pub record Call : Type 0 where
  pub time : ℕ
  pub act : Act

-- ---- "0: done; says how many output bytes were written, the links closed, and a clock hint": the messages tell the bytes; and the
-- commands that it hands over, in their order
pub data Outcome : Type 0 where
  refused : (number : ℕ) → Outcome
  done : (messages : List Message) (closed : List ℕ) (hint : Option ℕ) (commands : List Command) → Outcome

-- what a call lays down if nothing refuses it: the machine but for the records issued and the last time, those records in
-- order, the messages written, the links closed, the hint, the commands handed over
pub record Effect : Type 0 where
  pub leaves : Machine
  pub issues : List Issued
  pub messages : List Message
  pub closed : List ℕ
  pub hint : Option ℕ
  pub commands : List Command

abbrev pub handing : List Command → Machine → List Issued → List Message → List ℕ → Option ℕ → Effect
handing commands m issues messages closed hint =
    record { leaves = m; issues = issues; messages = messages; closed = closed; hint = hint; commands = commands }

-- one that hands nothing over
abbrev pub effect : Machine → List Issued → List Message → List ℕ → Option ℕ → Effect
effect m issues messages closed hint = handing [] m issues messages closed hint

abbrev pub only : Machine → Effect
only m = effect m [] [] [] none
