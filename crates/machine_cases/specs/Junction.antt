-- A second site for the cases: four links, link 1 the primary, three alarms, four statuses and five commands on three components.
-- Components, codes and names stand several times, so that only all of them together tell a row.
-- Assumes nothing.
use Rattle.std.specs.Prelude.{ℕ, true, false, List, [], ◌∷◌, ◌++◌, map, eqb, ℤ, pos, negsuc}
use Prim.Native.String.{String}
use Rattle.std.proofs.Math.Option.{some, none}
use Rattle.basis.specs.Text.{text}
use Rattle.identity.specs.Text.{identity_text}
use Rattle.table_whole.specs.Table.{Row, Table}
use Rattle.machine.specs.Words.{Bytes, if'◌then◌else◌, flat, up_to}
use Rattle.machine.specs.State.{
  Alarm,
  alarm_of,
  Held,
  Sent,
  Awaited,
  pool_of,
  exchange,
  Life,
  life_of,
  fresh,
  Start,
  Machine,
  machine,
  with_life,
  with_held,
  at_end,
  life_at,
  Call,
}
use Rattle.machine.specs.State.Event.{Issue}
use Rattle.machine.specs.State.Sent.{no_record}
use Rattle.machine.specs.State.Act.{packet, pump}
use Rattle.machine.specs.Table.{first}
use Rattle.machine.specs.Readings.{phase_of}
use Rattle.machine.specs.Step.{leaves}
use Rattle.machine.specs.Example.{noon, later, random, own}
use Rattle.machine.specs.Computed.{acks, tells}

abbrev pub row : ℕ → String → String → ℤ → ℤ → Row
row component code name lowest highest =
    record { component = component; priority = 0; category = 0; code = text code; name = text name; lowest = lowest; highest = highest }

abbrev pub alarm_line : ℕ → ℕ → ℕ → String → Row
alarm_line component priority category code =
    record { component = component; priority = priority; category = category; code = text code; name = []; lowest = pos 0; highest = pos 0 }

abbrev pub table : Table
table =
    record {
      site = text "J4";
      sxl = text "2.1";
      components = text "K0" ∷ text "K1" ∷ text "K2" ∷ [];
      alarms = alarm_line 1 3 1 "A1" ∷ alarm_line 2 1 0 "A1" ∷ alarm_line 2 2 1 "A2" ∷ [];
      statuses =
          row 0 "S1" "level" (pos 0) (pos 0) ∷ row 1 "S1" "level" (pos 0) (pos 0)
          ∷ row 1 "S1" "flow" (pos 0) (pos 0) ∷ row 1 "S2" "flow" (pos 0) (pos 0) ∷ [];
      commands =
          row 2 "M1" "boom" (negsuc 1) (pos 5) ∷ row 1 "M1" "boom" (pos 0) (pos 9)
          ∷ row 1 "M1" "lamp" (negsuc 8) (negsuc 2) ∷ row 1 "M2" "lamp" (pos 3) (pos 3) ∷ row 0 "M3" "gate" (pos 0) (pos 0) ∷ [];
    }

abbrev pub start : Start
start = record { site = 0; table = []; links = 4; primary = some 1; period = 2; first = 5; time = noon }

abbrev pub begun : Machine
begun = first table start

-- ---- lives: Up since noon, so many messages of the first pass gone out; Beating; Greeting
abbrev pub up_life : ℕ → List Awaited → Life
up_life pass awaited = life_of true (exchange true true true) (exchange true true true) (3 ∷ 2 ∷ 0 ∷ []) noon pass awaited

abbrev pub beating : Life
beating = life_of true (exchange true true true) (exchange false false false) (3 ∷ 2 ∷ 0 ∷ []) 0 0 []

abbrev pub awaits : ℕ → ℕ → Sent → Awaited
awaits k time message = record { identity = own k; time = time; message = message }

-- so many messages without a record on their way since noon, their random bytes 0 upwards
abbrev pub awaited : ℕ → List Awaited
awaited n = map (λ k. awaits k noon no_record) (up_to n)

-- ---- links 0 and 1 Up, their first pass over; link 2 Beating, link 3 Down
abbrev pub calm : Alarm
calm = alarm_of false true false Issue noon

abbrev pub running : Machine
running =
    machine begun.setup noon (calm ∷ calm ∷ calm ∷ []) (none ∷ none ∷ none ∷ none ∷ []) 0 noon []
    (up_life 1 [] ∷ up_life 4 [] ∷ beating ∷ fresh false ∷ [])
    (pool_of 5 [] (0 ∷ 0 ∷ 0 ∷ 0 ∷ []))

-- the same with so many awaited on a link, with records held, with another next number
abbrev pub awaiting_on : ℕ → List Awaited → Machine → Machine
awaiting_on l ids m = with_life l (up_life (life_at m l).pass ids) m

abbrev pub holding : List Held → Machine
holding hs = with_held hs running

abbrev pub numbered_from : ℕ → Machine
numbered_from next = at_end noon (pool_of next [] (0 ∷ 0 ∷ 0 ∷ 0 ∷ [])) running

-- ---- a text with ' for "
abbrev pub json : String → Bytes
json s = map (λ b. if' eqb b 39 then 34 else b) (text s)

-- .. in several parts
abbrev pub jsons : List String → Bytes
jsons parts = flat json parts

-- ---- calls, so many milliseconds after noon
abbrev pub pumped : ℕ → ℕ → ℕ → Call
pumped ms l k = later ms (pump l (random k) 4096)

abbrev pub gets : ℕ → ℕ → String → Call
gets ms l s = later ms (packet l (random 15) (json s) 4096)

-- a packet of a type, with the mId that Computed's answers repeat, and more; the parts of a longer one
abbrev pub typed : String → Bytes → Bytes
typed type more = json "{'mType':'rSMsg','mId':'CD613E30-d8f1-6adf-91b7-584a2265b1f5','type':'" ++ text type ++ json "'" ++ more ++ text "}"

abbrev pub ask : ℕ → ℕ → String → String → Call
ask ms l type more = later ms (packet l (random 15) (typed type (json more)) 4096)

abbrev pub asks : ℕ → ℕ → String → List String → Call
asks ms l type parts = later ms (packet l (random 15) (typed type (jsons parts)) 4096)

-- an answer to the message of random bytes k
abbrev pub answer : ℕ → ℕ → String → ℕ → Call
answer ms l type k =
    later ms (packet l (random 15) (json "{'mType':'rSMsg','type':'" ++ text type ++ json "','oMId':'" ++ identity_text (own k) ++ json "'}") 4096)

abbrev pub order : ℕ → ℕ → String → Call
order ms l aSp = later ms (packet l (random 15) (typed "Alarm" (json ",'cId':'K2','aCId':'A1','aSp':'" ++ text aSp ++ json "'")) 4096)

-- their Version: the entries of RSMP, of siteId, the SXL
abbrev pub greet : ℕ → ℕ → String → String → String → Call
greet ms l versions sites sxl =
    later ms
    (packet l (random 15)
    (typed "Version" (json ",'RSMP':[" ++ json versions ++ json "],'siteId':[" ++ json sites ++ json "],'SXL':'" ++ text sxl ++ json "'")) 4096)

-- ---- what is written: an Alarm from its cId on, a reply behind our MessageAck
abbrev pub alarm_said : String → String → Bytes
alarm_said about states = json about ++ json "','xACId':'','xNACId':'','aSp':'" ++ json states ++ json "','rvs':[]}" ++ (0x0C ∷ [])

abbrev pub replied : String → List String → Bytes
replied type parts = acks ++ tells type "0f0f0f0f-0f0f-4f0f-8f0f-0f0f0f0f0f0f" (jsons parts ++ (0x0C ∷ []))

-- ---- the phase of a link after each of the calls
abbrev pub phases : ℕ → Machine → List Call → List ℕ
phases l m [] = []
phases l m (c ∷ cs) = phase_of (leaves m (c ∷ [])) l ∷ phases l (leaves m (c ∷ [])) cs
