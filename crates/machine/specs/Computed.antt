-- What the machine computes: the cases marked M, and a conversation from bytes to bytes. Claims; the proofs are `refl`.
-- Assumes nothing.
use Rattle.std.specs.Prelude.{ℕ, ◌+◌, ◌<◌, ◌≡◌, Bool, true, false, List, [], ◌∷◌, ◌++◌, map, pos, negsuc, take, get_or}
use Prim.Native.String.{String}
use Rattle.std.proofs.Math.Option.{Option, some, none}
use Rattle.basis.specs.Text.{text}
use Rattle.answer.specs.Times.{last_time}
use Rattle.calendar.specs.Text.{time_text}
use Rattle.write_message.specs.Listing.{bytes_of}
use Rattle.machine.specs.Words.{Bytes, or_else, keep, flat}
use Rattle.machine.specs.State.{alarm_of, issued_for, held_as, Pool, pool_of, Command, command_of, Machine, at_end, Call, Outcome}
use Rattle.machine.specs.State.Event.{Issue}
use Rattle.machine.specs.State.Content.{of_alarm, of_status}
use Rattle.machine.specs.State.Act.{connect, disconnect, alarm_input, status_value, aggregated_value, tick, pump}
use Rattle.machine.specs.State.Outcome.{refused, done}
use Rattle.machine.specs.Json.{version_in}
use Rattle.machine.specs.Pool.{is_for, holds, issue_all}
use Rattle.machine.specs.Step.{outcomes, leaves}
use Rattle.machine.specs.Readings.{record_bytes}
use Rattle.machine.specs.Example.{
  noon,
  started,
  records,
  later,
  at_noon,
  random,
  pumped,
  gets,
  asks,
  orders,
  beats,
  greeting,
  greeting_of,
  up,
  up_by,
  up_older,
  suspended,
}

unfoldable pub both_full : Pool
both_full = issue_all (records 64 0 ++ records 64 1) (started 3).pool

abbrev pub counts : Pool → List ℕ
counts p = holds p 0 ∷ holds p 1 ∷ holds p 2 ∷ []

-- the numbers of link 2's held records, oldest first
abbrev pub numbers_of2 : Pool → List ℕ
numbers_of2 p = map (λ h. h.sequence) (keep (is_for 2) p.held)

abbrev pub version_numbers : Bytes → List ℕ
version_numbers s = or_else [] (version_in s)

-- alarm 3, link 0, Issue, unacknowledged, active, not suspended
abbrev pub alarm_bytes : ℕ → ℕ → Bytes
alarm_bytes time sequence = record_bytes 0 (held_as 0 (of_alarm 3 (alarm_of true false false Issue time)) sequence false)

-- ---- the cases that document 01 marks M, as one table: what is computed, and what the document says
pub record Row : Type 0 where
  pub computed : List ℕ
  pub said : List ℕ

abbrev pub row : List ℕ → List ℕ → Row
row computed said = record { computed = computed; said = said }

abbrev pub table : List Row
table =
    row (time_text 951782400000) (text "2000-02-29T00:00:00.000Z")
    ∷ row (time_text 1254398371571) (text "2009-10-01T11:59:31.571Z")
    ∷ row (time_text last_time) (text "9999-12-31T23:59:59.999Z")
    ∷ row (record_bytes 0 (held_as 1 (of_status 5 (some (negsuc 1)) false 1254398371571) 7 false)) (0x28 ∷ 0xB0 ∷ 0x00 ∷ 0x92 ∷ 0x07 ∷ 0xFC ∷ 0x13 ∷ 0x79 ∷ 0xFF ∷ 0xFF ∷ 0xFF ∷ 0xFF ∷ 0x00 ∷ 0x00 ∷ 0x00 ∷ 0x07 ∷ [])
    ∷ row (record_bytes 1 (held_as 1 (of_status 5 (some (negsuc 1)) false 1254398371571) 7 false)) (0xA8 ∷ 0xB0 ∷ 0x00 ∷ 0x92 ∷ 0x07 ∷ 0xFC ∷ 0x13 ∷ 0x79 ∷ 0xFF ∷ 0xFF ∷ 0xFF ∷ 0xFF ∷ 0x00 ∷ 0x00 ∷ 0x00 ∷ 0x07 ∷ [])
    ∷ row (alarm_bytes 1254398371571 7) (0x00 ∷ 0x62 ∷ 0x00 ∷ 0x92 ∷ 0x07 ∷ 0xFC ∷ 0x13 ∷ 0x79 ∷ 0x80 ∷ 0x00 ∷ 0x00 ∷ 0x00 ∷ 0x00 ∷ 0x00 ∷ 0x00 ∷ 0x07 ∷ [])
    ∷ row (counts both_full) (64 ∷ 64 ∷ 0 ∷ [])
    ∷ row (counts (issue_all (records 1 2) both_full)) (63 ∷ 64 ∷ 1 ∷ [])
    ∷ row (counts (issue_all (records 16 2) both_full)) (56 ∷ 56 ∷ 16 ∷ [])
    ∷ row (issue_all (records 16 2) both_full).lost (8 ∷ 8 ∷ 0 ∷ [])
    ∷ row (take 1 (numbers_of2 (issue_all (records 16 2) both_full))) (128 ∷ [])
    ∷ row (counts (issue_all (records 17 2) both_full)) (56 ∷ 56 ∷ 16 ∷ [])
    ∷ row (issue_all (records 17 2) both_full).lost (8 ∷ 8 ∷ 1 ∷ [])
    ∷ row (take 1 (numbers_of2 (issue_all (records 17 2) both_full))) (129 ∷ [])
    ∷ row (version_numbers (text "3.2")) (version_numbers (text "3.2.0"))
    ∷ row (version_numbers (text "3.2.0")) (3 ∷ 2 ∷ 0 ∷ [])
    ∷ []

abbrev pub EachComputes : List Row → Type 0
EachComputes [] = Unit {0}
EachComputes (r ∷ rs) = (r.computed ≡ r.said) × EachComputes rs

pub record Marked : Type 0 where
  pub all : EachComputes table
  -- the alarm's record begins so whatever its time and its number, and the next bit is 0
  pub begins : (time sequence : ℕ) → take 2 (alarm_bytes time sequence) ≡ 0x00 ∷ 0x62 ∷ []
  pub next_bit : (time sequence : ℕ) → get_or (alarm_bytes time sequence) 2 0 < 128

-- ---- what a host hears of a call: the number, the bytes that it writes, the links closed, the hint, the commands handed over
pub record Heard : Type 0 where
  pub number : ℕ
  pub output : Bytes
  pub closed : List ℕ
  pub hint : Option ℕ
  pub commands : List Command

abbrev pub heard : ℕ → Bytes → List ℕ → Option ℕ → List Command → Heard
heard number output closed hint commands = record { number = number; output = output; closed = closed; hint = hint; commands = commands }

abbrev pub hearing : Outcome → Heard
hearing (refused n) = heard n [] [] none []
hearing (done ms closed hint commands) = heard 0 (flat bytes_of ms) closed hint commands

abbrev pub hears : Machine → List Call → List Heard
hears m cs = map hearing (outcomes m cs)

-- a number alone; done, with these bytes
abbrev pub gives : ℕ → Heard
gives n = heard n [] [] none []

abbrev pub writes : Bytes → Heard
writes bs = heard 0 bs [] none []

abbrev pub silent : Heard
silent = writes []

-- ---- its packets, each with its form feed
abbrev pub packet : String → Bytes
packet s = text s ++ (0x0C ∷ [])

abbrev pub acks : Bytes
acks = packet "{\"mType\":\"rSMsg\",\"type\":\"MessageAck\",\"oMId\":\"CD613E30-d8f1-6adf-91b7-584a2265b1f5\"}"

abbrev pub refuses_for : String → Bytes
refuses_for reason =
    text "{\"mType\":\"rSMsg\",\"type\":\"MessageNotAck\",\"oMId\":\"CD613E30-d8f1-6adf-91b7-584a2265b1f5\",\"rea\":\"" ++ text reason ++ packet "\"}"

-- one about a component: its type, its identity and the rest
abbrev pub tells : String → String → Bytes → Bytes
tells type id more =
    text "{\"mType\":\"rSMsg\",\"type\":\"" ++ text type ++ text "\",\"mId\":\"" ++ text id ++ text "\",\"ntsOId\":\"\",\"xNId\":\"\",\"cId\":\"" ++ more

abbrev pub aggregated_as : String → Bytes
aggregated_as id =
    tells "AggregatedStatus" id
    (packet "C0\",\"aSTS\":\"2009-10-01T11:59:31.571Z\",\"fP\":\"\",\"fS\":\"\",\"se\":[false,false,false,false,false,false,false,false]}")

abbrev pub alarm_as : String → String → String → Bytes
alarm_as id sS aTs =
    tells "Alarm" id
    (text "C1\",\"aCId\":\"A1\",\"xACId\":\"\",\"xNACId\":\"\",\"aSp\":\"Issue\",\"ack\":\"notAcknowledged\",\"aS\":\"Active\",\"sS\":\""
    ++ text sS ++ text "\",\"aTs\":\"" ++ text aTs ++ packet "\",\"cat\":\"T\",\"pri\":\"2\",\"rvs\":[]}")

-- an answer, and a reply of random bytes 15
abbrev pub replies : String → String → Bytes
replies type more = acks ++ tells type "0f0f0f0f-0f0f-4f0f-8f0f-0f0f0f0f0f0f" (packet more)

pub record Conversation : Type 0 where
  -- our Version, theirs acknowledged, our Watchdog, theirs acknowledged with its time as a hint
  pub greets : hears (started 2) greeting
      ≡ silent
      ∷ writes (text "{\"mType\":\"rSMsg\",\"type\":\"Version\",\"mId\":\"01010101-0101-4101-8101-010101010101\","
      ++ packet "\"RSMP\":[{\"vers\":\"3.1.4\"},{\"vers\":\"3.1.5\"},{\"vers\":\"3.2\"}],\"siteId\":[{\"sId\":\"BD1\"}],\"SXL\":\"1.0\"}")
      ∷ silent
      ∷ writes acks
      ∷ writes (packet "{\"mType\":\"rSMsg\",\"type\":\"Watchdog\",\"mId\":\"02020202-0202-4202-8202-020202020202\",\"wTs\":\"2009-10-01T11:59:31.571Z\"}")
      ∷ silent
      ∷ heard 0 acks [] (some noon) []
      ∷ []
  pub comes_up : leaves (started 2) greeting ≡ up
  -- request 05: "The clock hint is given only where three or more stood; with fewer the watchdog is acknowledged and no hint given." Of six
  -- the last three are dropped
  pub decimals_told : hears up (at_noon (beats "2009-10-01T11:59:31Z") ∷ at_noon (beats "2009-10-01T11:59:31.57Z") ∷ at_noon (beats "2009-10-01T11:59:31.571999Z") ∷ [])
      ≡ writes acks ∷ writes acks ∷ heard 0 acks [] (some noon) [] ∷ []
  -- an alarm becomes active: the first pass sends the AggregatedStatus, then the alarm with its record, once; either answer settles it
  pub alarm_told : hears up (at_noon (alarm_input 0 true) ∷ pumped 3 ∷ pumped 4 ∷ at_noon tick ∷ pumped 5 ∷ at_noon (gets "MessageAck\",\"oMId\":\"04040404-0404-4404-8404-040404040404\"}") ∷ pumped 5 ∷ [])
      ≡ silent
      ∷ writes (aggregated_as "03030303-0303-4303-8303-030303030303")
      ∷ writes (alarm_as "04040404-0404-4404-8404-040404040404" "notSuspended" "2009-10-01T11:59:31.571Z")
      ∷ silent ∷ gives 7 ∷ silent ∷ gives 7 ∷ []
  pub alarm_settled : (leaves up (at_noon (alarm_input 0 true) ∷ pumped 3 ∷ pumped 4 ∷ at_noon (gets "MessageNotAck\",\"oMId\":\"04040404-0404-4404-8404-040404040404\"}") ∷ [])).pool
      ≡ pool_of 1 [] (0 ∷ 0 ∷ [])
  -- the last of these has an mId in an object of its own alone
  pub numbers : hears up (at_noon (connect 0) ∷ record { time = 0; act = connect 2 } ∷ record { time = 5; act = tick } ∷ record { time = 0; act = alarm_input 1 true } ∷ at_noon (pump 1 (random 1) 4096) ∷ record { time = 0; act = pump 0 (random 1) 4095 } ∷ pumped 2 ∷ at_noon (gets "Alarm\"") ∷ at_noon (gets "Alarm\",\"x\":{\"mId\":\"CD613E30-d8f1-6adf-91b7-584a2265b1f5\"}}") ∷ [])
      ≡ gives 6 ∷ gives 2 ∷ gives 5 ∷ gives 3 ∷ gives 6 ∷ gives 4 ∷ writes (aggregated_as "02020202-0202-4202-8202-020202020202") ∷ gives 1 ∷ gives 1 ∷ []
  -- "the call would take sequence numbers past 2147483647": two records take the last two, the next call that issues is refused, one that issues
  -- none is not
  pub last_numbers : hears (at_end noon (pool_of 2147483646 [] (0 ∷ 0 ∷ [])) up) (at_noon (aggregated_value 1) ∷ at_noon (aggregated_value 2) ∷ at_noon tick ∷ [])
      ≡ silent ∷ gives 10 ∷ silent ∷ []
  -- "Issue events while suspended make no record but are the last event": after Suspend and an input a Request tells the input
  pub suspends : leaves up (later 1 (orders "Suspend") ∷ later 2 (alarm_input 0 true) ∷ []) ≡ suspended
  -- .. and number 9 is of a packet that would get a reply, not of one that is refused
  pub requested : hears suspended (later 3 (orders "Request") ∷ later 4 (orders "Request") ∷ later 5 (asks "StatusRequest" "C0\",\"sS\":[{\"sCI\":\"S1\",\"n\":\"other\"}]}") ∷ [])
      ≡ writes (acks ++ alarm_as "0f0f0f0f-0f0f-4f0f-8f0f-0f0f0f0f0f0f" "Suspended" "2009-10-01T11:59:31.573Z")
      ∷ gives 9 ∷ writes (refuses_for "Unknown status") ∷ []
  -- "Awaited 30,000 ms closes, 29,999 not"; and a tick's time is the last
  pub awaited_long : hears up (pumped 3 ∷ later 29999 tick ∷ later 30000 tick ∷ later 29999 tick ∷ [])
      ≡ writes (aggregated_as "03030303-0303-4303-8303-030303030303") ∷ silent ∷ heard 0 [] (0 ∷ []) none [] ∷ gives 5 ∷ []
  -- statuses: unknown component, unknown status, "Missing element" before "Bad value", 0 with false, a subscription, a first value
  pub statuses_told : hears up (at_noon (asks "StatusRequest" "C9\",\"sS\":[{\"sCI\":\"S1\",\"n\":\"release\"}]}")
      ∷ at_noon (asks "StatusRequest" "C0\",\"sS\":[{\"sCI\":\"S1\",\"n\":\"other\"}]}")
      ∷ at_noon (asks "StatusRequest" "\",\"sS\":[{\"sCI\":\"S1\"}]}")
      ∷ at_noon (asks "StatusSubscribe" "C0\",\"sS\":[{\"sCI\":\"S1\",\"n\":\"release\",\"uRt\":\"0\",\"sOc\":false}]}")
      ∷ at_noon (asks "StatusSubscribe" "C0\",\"sS\":[{\"sCI\":\"S1\",\"n\":\"release\",\"uRt\":\"5\",\"sOc\":true}]}")
      ∷ at_noon (status_value 0 (negsuc 1))
      ∷ later 4999 tick ∷ later 5000 tick
      ∷ [])
      ≡ writes (replies "StatusResponse" "C9\",\"sTs\":\"2009-10-01T11:59:31.571Z\",\"sS\":[{\"sCI\":\"S1\",\"n\":\"release\",\"s\":null,\"q\":\"undefined\"}]}")
      ∷ writes (refuses_for "Unknown status")
      ∷ writes (refuses_for "Missing element")
      ∷ writes (refuses_for "Bad value")
      ∷ writes acks
      ∷ silent ∷ silent ∷ silent ∷ []
  -- request 01: the lowest and the highest value are handed over in the order of the entries and answered; nothing is handed over where an entry
  -- fails, "Bad value" of a range before "Unknown command", or where no component is called so
  pub commands_handed : hears up (at_noon (asks "CommandRequest" "C1\",\"arg\":[{\"cCI\":\"M1\",\"n\":\"boom\",\"cO\":\"x\",\"v\":\"5\"},{\"cCI\":\"M1\",\"n\":\"boom\",\"cO\":\"x\",\"v\":\"-2\"}]}") ∷ [])
      ≡ heard 0 (replies "CommandResponse" "C1\",\"cTS\":\"2009-10-01T11:59:31.571Z\",\"rvs\":[{\"cCI\":\"M1\",\"n\":\"boom\",\"v\":\"5\",\"age\":\"recent\"},{\"cCI\":\"M1\",\"n\":\"boom\",\"v\":\"-2\",\"age\":\"recent\"}]}")
      [] none (command_of 0 (pos 5) ∷ command_of 0 (negsuc 1) ∷ [])
      ∷ []
  pub commands_kept : hears up (at_noon (asks "CommandRequest" "C1\",\"arg\":[{\"cCI\":\"M2\",\"n\":\"boom\",\"cO\":\"x\",\"v\":\"5\"},{\"cCI\":\"M1\",\"n\":\"boom\",\"cO\":\"x\",\"v\":\"6\"}]}")
      ∷ at_noon (asks "CommandRequest" "C1\",\"arg\":[{\"cCI\":\"M1\",\"n\":\"boom\",\"cO\":\"x\",\"v\":\"5\"},{\"cCI\":\"M2\",\"n\":\"boom\",\"cO\":\"x\",\"v\":\"6\"}]}")
      ∷ at_noon (asks "CommandRequest" "C1\",\"arg\":[{\"cCI\":\"M1\",\"n\":\"boom\",\"cO\":\"x\",\"v\":\"05\"}]}")
      ∷ at_noon (asks "CommandRequest" "C9\",\"arg\":[{\"cCI\":\"M1\",\"n\":\"boom\",\"cO\":\"x\",\"v\":\"5\"}]}")
      ∷ [])
      ≡ writes (refuses_for "Bad value")
      ∷ writes (refuses_for "Unknown command")
      ∷ writes (refuses_for "Bad value")
      ∷ writes (replies "CommandResponse" "C9\",\"cTS\":\"2009-10-01T11:59:31.571Z\",\"rvs\":[{\"cCI\":\"M1\",\"n\":\"boom\",\"v\":null,\"age\":\"undefined\"}]}")
      ∷ []
  -- issued while Up, and issued by a tick for a link that it closes: the first stays as it was issued, the second is old
  pub old_issued : (leaves up (at_noon (asks "StatusSubscribe" "C0\",\"sS\":[{\"sCI\":\"S1\",\"n\":\"release\",\"uRt\":\"30\",\"sOc\":true}]}")
      ∷ at_noon (status_value 0 (negsuc 1))
      ∷ pumped 3
      ∷ later 30000 tick
      ∷ [])).pool.held
      ≡ held_as 0 (of_status 0 none false noon) 0 false
      ∷ held_as 0 (of_status 0 (some (negsuc 1)) false noon) 1 false
      ∷ held_as 0 (of_status 0 (some (negsuc 1)) true (noon + 30000)) 2 false
      ∷ []
  -- request 07: the latest common version is chosen, wherever it stands; 3.1.4 where it alone is common
  pub older_chosen : leaves (started 2) (greeting_of 0 "{\"vers\":\"3.1.3\"},{\"vers\":\"3.1.4\"}") ≡ up_older
  pub latest_chosen : leaves (started 2) (greeting_of 0 "{\"vers\":\"3.2\"},{\"vers\":\"3.1.4\"},{\"vers\":\"3.1.5\"}") ≡ up
  -- .. there a subscription has no sOc, and whatever is called so is passed over: 0 is at each change, any other number at intervals alone
  pub older_told : hears up_older (at_noon (asks "StatusSubscribe" "C0\",\"sS\":[{\"sCI\":\"S1\",\"n\":\"release\",\"uRt\":\"0\"}]}")
      ∷ at_noon (asks "StatusSubscribe" "C0\",\"sS\":[{\"sCI\":\"S1\",\"n\":\"release\"}]}")
      ∷ at_noon (asks "StatusSubscribe" "C0\",\"sS\":[{\"sCI\":\"S1\",\"n\":\"release\",\"uRt\":\"2.5\",\"sOc\":true}]}")
      ∷ [])
      ≡ writes acks ∷ writes (refuses_for "Missing element") ∷ writes (refuses_for "Bad value") ∷ []
  pub newer_told : hears up (at_noon (asks "StatusSubscribe" "C0\",\"sS\":[{\"sCI\":\"S1\",\"n\":\"release\",\"uRt\":\"0\"}]}") ∷ [])
      ≡ writes (refuses_for "Missing element") ∷ []
  pub middle_told : hears (up_by (3 ∷ 1 ∷ 5 ∷ [])) (at_noon (asks "StatusSubscribe" "C0\",\"sS\":[{\"sCI\":\"S1\",\"n\":\"release\",\"uRt\":\"0\"}]}") ∷ [])
      ≡ writes (refuses_for "Missing element") ∷ []
  pub older_issued : (leaves up_older (at_noon (asks "StatusSubscribe" "C0\",\"sS\":[{\"sCI\":\"S1\",\"n\":\"release\",\"uRt\":\"0\",\"sOc\":false}]}")
      ∷ at_noon (status_value 0 (negsuc 1))
      ∷ later 1 tick
      ∷ later 1 (asks "StatusSubscribe" "C0\",\"sS\":[{\"sCI\":\"S1\",\"n\":\"release\",\"uRt\":\"5\",\"sOc\":\"x\"}]}")
      ∷ later 2 (status_value 0 (pos 3))
      ∷ later 5000 tick
      ∷ later 5001 tick
      ∷ [])).pool.held
      ≡ held_as 0 (of_status 0 none false noon) 0 false
      ∷ held_as 0 (of_status 0 (some (negsuc 1)) false noon) 1 false
      ∷ held_as 0 (of_status 0 (some (negsuc 1)) false (noon + 1)) 2 false
      ∷ held_as 0 (of_status 0 (some (pos 3)) false (noon + 5001)) 3 false
      ∷ []
  -- "subscriptions kept over a break stay as they were made": at each change, made under 3.1.4 and kept under 3.2; at both, made under 3.2 and kept under 3.1.4
  pub older_kept : (leaves up_older (at_noon (asks "StatusSubscribe" "C0\",\"sS\":[{\"sCI\":\"S1\",\"n\":\"release\",\"uRt\":\"0\"}]}")
      ∷ later 1 (disconnect 0)
      ∷ greeting_of 2 "{\"vers\":\"3.2\"}" ++ (later 3 (status_value 0 (pos 3)) ∷ later 86400000 tick ∷ []))).pool.held
      ≡ held_as 0 (of_status 0 none false noon) 0 false
      ∷ held_as 0 (of_status 0 (some (pos 3)) false (noon + 3)) 1 false
      ∷ []
  pub newer_kept : (leaves up (at_noon (asks "StatusSubscribe" "C0\",\"sS\":[{\"sCI\":\"S1\",\"n\":\"release\",\"uRt\":\"5\",\"sOc\":true}]}")
      ∷ later 1 (disconnect 0)
      ∷ greeting_of 2 "{\"vers\":\"3.1.4\"}" ++ (later 3 (status_value 0 (pos 3)) ∷ later 5000 tick ∷ []))).pool.held
      ≡ held_as 0 (of_status 0 none false noon) 0 false
      ∷ held_as 0 (of_status 0 (some (pos 3)) false (noon + 3)) 1 false
      ∷ held_as 0 (of_status 0 (some (pos 3)) false (noon + 5000)) 2 false
      ∷ []
  -- "else a free place is taken", by a status' record too; "the oldest of the link holding most is lost"
  pub free_place : (issue_all (records 17 0 ++ (issued_for 1 (of_status 0 none false noon) ∷ [])) (started 2).pool).lost ≡ 0 ∷ 0 ∷ []
  pub most_loses : (issue_all (records 40 0 ++ records 48 1 ++ records 40 2 ++ records 1 3) (started 4).pool).lost ≡ 0 ∷ 1 ∷ 0 ∷ 0 ∷ []
