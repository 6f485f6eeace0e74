-- All that a host sees of a call or a reading, and what the machine shows of it.
-- Assumes nothing.
use Rattle.std.specs.Prelude.{ℕ, ◌+◌, ◌^◌, ◌<◌, ◌≡◌, Bool, false, List, [], ◌∷◌, ◌++◌, eqb, ltb, length, drop, get_or, replicate}
use Rattle.std.proofs.Math.Option.{Option, some, none}
use Rattle.number.specs.Signed.{Signed32}
use Rattle.identity.specs.Read.{SixteenBytes}
use Rattle.write_message.specs.Message.{Message}
use Rattle.write_message.specs.Listing.{bytes_of}
use Rattle.sitec.specs.declared.Outcome.{Outcome as HandedOut}
use Rattle.machine.specs.Words.{Bytes, if'◌then◌else◌, maybe, or_else, flat}
use Rattle.machine.specs.State.{Start, Command, Machine, Act, Call, Outcome}
use Rattle.machine.specs.State.Act.{connect, disconnect, packet, alarm_input, status_value, aggregated_value, tick, pump}
use Rattle.machine.specs.State.Outcome.{refused, done}
use Rattle.machine.specs.Step.{step}
use Rattle.machine.specs.Readings.{reading}
use Rattle.machine.specs.Table.{Begins}
use Rattle.machine.specs.Box.{Box, site_of, turned}
use Rattle.machine.specs.Box.Turn.{starts, calls}

-- what a host asks: a call after start, with the bytes of the output that it lends (none where it lends none), or a reading of a link
pub data Ask : Type 0 where
  call : (c : Call) (output : Bytes) → Ask
  held lost phase version : (link : ℕ) → Ask
  record_of : (link rank : ℕ) → Ask

-- what is asked of a box: a start of one of its sites, or an ask of one
pub data Asking : Type 0 where
  start_of : (start : Start) → Asking
  ask_of : (site : ℕ) (ask : Ask) → Asking

-- the machine's start; no primary where it is 4294967295
abbrev pub start_for : ℕ → Bytes → ℕ → ℕ → ℕ → ℕ → ℕ → Start
start_for site table links primary period first time =
    record {
      site = site;
      table = table;
      links = links;
      primary = if' eqb primary 4294967295 then none else some primary;
      period = period;
      first = first;
      time = time;
    }

-- all that the call hands out, the whole output afterwards and the commands handed over; or what is read: a number, the three of a version, whether there
-- is such a record and its bytes
pub data Seen : Type 0 where
  told : (o : HandedOut) (output : Bytes) (commands : List Command) → Seen
  count : ℕ → Seen
  numbers : List ℕ → Seen
  entry : (found : Bool) (bytes : Bytes) → Seen

-- ---- what the machine shows
-- "A done call writes only the counted first bytes of the output": its messages, each with its form feed
abbrev pub written : List Message → Bytes
written ms = flat bytes_of ms

-- a word in which link l is bit l
abbrev pub bits : List ℕ → ℕ
bits [] = 0
bits (l ∷ ls) = 2 ^ l + bits ls

-- a number, and else zeros
abbrev pub numbered : ℕ → HandedOut
numbered n = record { hint = 0; number = n; written = 0; closed = 0; hinted = 0; commands = 0 }

abbrev pub tells : Bytes → Outcome → Seen
tells output (refused n) = told (numbered n) output []
tells output (done ms closed hint commands) =
    told
    (record {
      hint = or_else 0 hint;
      number = 0;
      written = length (written ms);
      closed = bits closed;
      hinted = maybe 0 (λ t. 1) hint;
      commands = length commands;
    })
    (written ms ++ drop (length (written ms)) output) commands

-- zeros where no version is chosen
abbrev pub shown : List ℕ → List ℕ
shown [] = 0 ∷ 0 ∷ 0 ∷ []
shown (x ∷ xs) = x ∷ xs

-- the record than which so many of the link's are older; zeros where there is none
abbrev pub ranked : ℕ → List Bytes → Seen
ranked r records = entry (ltb r (length records)) (get_or records r (replicate 16 0))

abbrev pub shows : Machine → Ask → Seen
shows m (call c output) = tells output (step m c).0
shows m (held l) = count (reading m l).held
shows m (lost l) = count (reading m l).lost
shows m (phase l) = count (reading m l).phase
shows m (version l) = numbers (shown (reading m l).version)
shows m (record_of l r) = ranked r (reading m l).records

-- on memory of another length: number 14, beyond document 01's, and nothing is changed; of a reading zeros
abbrev pub unfit : Ask → Seen
unfit (call c output) = tells output (refused 14)
unfit (held l) = count 0
unfit (lost l) = count 0
unfit (phase l) = count 0
unfit (version l) = numbers (shown [])
unfit (record_of l r) = entry false (replicate 16 0)

-- the machine afterwards: a reading changes nothing
abbrev pub next : Machine → Ask → Machine
next m (call c output) = (step m c).1
next m (held l) = m
next m (lost l) = m
next m (phase l) = m
next m (version l) = m
next m (record_of l r) = m

abbrev pub shows_all : Machine → List Ask → List Seen
shows_all m [] = []
shows_all m (a ∷ more) = shows m a ∷ shows_all (next m a) more

-- ---- what a box shows
-- a start: 11 where no machine begins, else 0
abbrev pub start_shows : Option Machine → Seen
start_shows none = told (numbered 11) [] []
start_shows (some m) = told (numbered 0) [] []

-- a call is a turn of the box; a reading changes nothing
abbrev pub box_after : ℕ → Ask → Box → Box
box_after k (call c output) b = turned (calls k c) b
box_after k (held l) b = b
box_after k (lost l) b = b
box_after k (phase l) b = b
box_after k (version l) b = b
box_after k (record_of l r) b = b

-- what the machines of a box show, ask after ask; a site is asked once it has begun
pub data BoxShows : Box → List Asking → List Seen → Type 0 where
  no_more : {b : Box} → BoxShows b [] []
  start_shows_lem : {b : Box} {s : Start} {o : Option Machine} {more : List Asking} {xs : List Seen} → Begins s o → BoxShows (turned (starts s.site o) b) more xs
      → BoxShows b (start_of s ∷ more) (start_shows o ∷ xs)
  ask_shows : {b : Box} {k : ℕ} {m : Machine} {a : Ask} {more : List Asking} {xs : List Seen} → site_of k b ≡ some m → BoxShows (box_after k a b) more xs
      → BoxShows b (ask_of k a ∷ more) (shows m a ∷ xs)

-- ---- what the types of the arguments say: sixteen random bytes, a packet of bytes, a value of 32 bits, eight booleans
abbrev pub TypedAct : Act → Type 0
TypedAct (connect l) = Unit {0}
TypedAct (disconnect l) = Unit {0}
TypedAct (packet l random received room) = SixteenBytes random × ((k : ℕ) → get_or received k 0 < 256)
TypedAct (alarm_input i active) = Unit {0}
TypedAct (status_value i v) = Signed32 v
TypedAct (aggregated_value v) = v < 256
TypedAct tick = Unit {0}
TypedAct (pump l random room) = SixteenBytes random

abbrev pub Typed : Ask → Type 0
Typed (call c output) = TypedAct c.act
Typed (held l) = Unit {0}
Typed (lost l) = Unit {0}
Typed (phase l) = Unit {0}
Typed (version l) = Unit {0}
Typed (record_of l r) = Unit {0}

abbrev pub AllTyped : List Asking → Type 0
AllTyped [] = Unit {0}
AllTyped (start_of s ∷ more) = AllTyped more
AllTyped (ask_of k a ∷ more) = Typed a × AllTyped more
