-- A small site and what its two ends say, for the computed examples.
-- Assumes nothing.
use Rattle.std.specs.Prelude.{ℕ, ◌+◌, Bool, true, false, List, [], ◌∷◌, ◌++◌, pos, negsuc, replicate}
use Prim.Native.String.{String}
use Rattle.std.proofs.Math.Option.{Option, some, none}
use Rattle.basis.specs.Text.{text}
use Rattle.table_whole.specs.Table.{Table}
use Rattle.write_message.specs.Message.{Message}
use Rattle.write_message.specs.Message.Message.{alarm}
use Rattle.machine.specs.Words.{Bytes}
use Rattle.machine.specs.State.{
  alarm_of,
  Issued,
  issued_for,
  held_as,
  pool_of,
  exchange,
  life_of,
  fresh,
  Machine,
  machine,
  Act,
  Call,
  Outcome,
}
use Rattle.machine.specs.State.Event.{Issue, Suspend}
use Rattle.machine.specs.State.Content.{of_alarm, of_aggregated}
use Rattle.machine.specs.State.Act.{connect, packet, pump}
use Rattle.machine.specs.State.Outcome.{done}
use Rattle.machine.specs.Table.{first}

abbrev pub table : Table
table =
    record {
      site = text "BD1";
      sxl = text "1.0";
      components = text "C0" ∷ text "C1" ∷ [];
      alarms = record { component = 1; priority = 2; category = 0; code = text "A1"; name = []; lowest = pos 0; highest = pos 0 } ∷ [];
      statuses = record { component = 0; priority = 0; category = 0; code = text "S1"; name = text "release"; lowest = pos 0; highest = pos 0 } ∷ [];
      commands = record { component = 1; priority = 0; category = 0; code = text "M1"; name = text "boom"; lowest = negsuc 1; highest = pos 5 } ∷ [];
    }

abbrev pub noon : ℕ
noon = 1254398371571

abbrev pub started : ℕ → Machine
started links = first table (record { site = 0; table = []; links = links; primary = some 0; period = 60; first = 0; time = noon })

abbrev pub records : ℕ → ℕ → List Issued
records n l = replicate n (issued_for l (of_aggregated 1 noon))

-- ---- calls at noon, and so many milliseconds later
abbrev pub later : ℕ → Act → Call
later ms act = record { time = noon + ms; act = act }

abbrev pub at_noon : Act → Call
at_noon act = later 0 act

-- sixteen random bytes, and the identity that they make: 01010101-0101-4101-8101-010101010101 for 1
abbrev pub random : ℕ → Bytes
random k = replicate 16 k

abbrev pub own : ℕ → Bytes
own k = k ∷ k ∷ k ∷ k ∷ k ∷ k ∷ (0x40 + k) ∷ k ∷ (0x80 + k) ∷ k ∷ k ∷ k ∷ k ∷ k ∷ k ∷ k ∷ []

abbrev pub pumped : ℕ → Call
pumped k = at_noon (pump 0 (random k) 4096)

-- a packet on link 0: {"mType":"rSMsg","type":" and what follows
abbrev pub gets : String → Act
gets s = packet 0 (random 15) (text "{\"mType\":\"rSMsg\",\"type\":\"" ++ text s) 4096

-- a request of that head and this mId
abbrev pub asks : String → String → Act
asks type s =
    packet 0 (random 15)
    (text "{\"mType\":\"rSMsg\",\"mId\":\"CD613E30-d8f1-6adf-91b7-584a2265b1f5\",\"type\":\"" ++ text type ++ text "\",\"cId\":\"" ++ text s) 4096

abbrev pub orders : String → Act
orders aSp = packet 0 (random 15)
    (text "{\"mType\":\"rSMsg\",\"type\":\"Alarm\",\"mId\":\"CD613E30-d8f1-6adf-91b7-584a2265b1f5\",\"cId\":\"C1\",\"aCId\":\"A1\",\"aSp\":\"" ++ text aSp ++ text "\"}") 4096

abbrev pub beats : String → Act
beats wTs = packet 0 (random 15)
    (text "{\"mType\":\"rSMsg\",\"type\":\"Watchdog\",\"mId\":\"CD613E30-d8f1-6adf-91b7-584a2265b1f5\",\"wTs\":\"" ++ text wTs ++ text "\"}") 4096

-- a greeting of a supervisor that offers these, and at noon or so many milliseconds later
abbrev pub greeting_of : ℕ → String → List Call
greeting_of ms versions =
    later ms (connect 0)
    ∷ later ms (pump 0 (random 1) 4096)
    ∷ later ms (gets "MessageAck\",\"oMId\":\"01010101-0101-4101-8101-010101010101\"}")
    ∷ later ms (packet 0 (random 15) (text "{\"mType\":\"rSMsg\",\"type\":\"Version\",\"mId\":\"CD613E30-d8f1-6adf-91b7-584a2265b1f5\",\"RSMP\":[" ++ text versions ++ text "],\"siteId\":[{\"sId\":\"BD1\"}],\"SXL\":\"1.0\"}") 4096)
    ∷ later ms (pump 0 (random 2) 4096)
    ∷ later ms (gets "MessageAck\",\"oMId\":\"02020202-0202-4202-8202-020202020202\"}")
    ∷ later ms (gets "Watchdog\",\"mId\":\"CD613E30-d8f1-6adf-91b7-584a2265b1f5\",\"wTs\":\"2009-10-01T11:59:31.571Z\"}")
    ∷ []

abbrev pub greeting : List Call
greeting =
    at_noon (connect 0)
    ∷ pumped 1
    ∷ at_noon (gets "MessageAck\",\"oMId\":\"01010101-0101-4101-8101-010101010101\"}")
    ∷ at_noon (gets "Version\",\"mId\":\"CD613E30-d8f1-6adf-91b7-584a2265b1f5\",\"RSMP\":[{\"vers\":\"3.1.4\"},{\"vers\":\"3.2.0\"}],\"siteId\":[{\"sId\":\"BD1\"}],\"SXL\":\"1.0\"}")
    ∷ pumped 2
    ∷ at_noon (gets "MessageAck\",\"oMId\":\"02020202-0202-4202-8202-020202020202\"}")
    ∷ at_noon (gets "Watchdog\",\"mId\":\"CD613E30-d8f1-6adf-91b7-584a2265b1f5\",\"wTs\":\"2009-10-01T11:59:31.571Z\"}")
    ∷ []

-- ---- what a call gives
abbrev pub quiet : Outcome
quiet = done [] [] none []

abbrev pub says : List Message → Outcome
says ms = done ms [] none []

-- alarm 0 as an Alarm tells it
abbrev pub alarm_now : ℕ → ℕ → ℕ → Bool → Bool → Bool → Message
alarm_now k event time acknowledged active suspended =
    alarm (own k) (text "C1") (text "A1")
    (record { time = time; event = event; category = 0; priority = 2; acknowledged = acknowledged; active = active; suspended = suspended })

-- ---- the machine, Up on link 0, the primary; and after Suspend and an input: one record, Suspend's
abbrev pub up_by : List ℕ → Machine
up_by version =
    machine (started 2).setup noon
    (alarm_of false true false Issue noon ∷ []) (none ∷ []) 0 noon []
    (life_of true (exchange true true true) (exchange true true true) version noon 0 [] ∷ fresh false ∷ [])
    (pool_of 0 [] (0 ∷ 0 ∷ []))

abbrev pub up : Machine
up = up_by (3 ∷ 2 ∷ 0 ∷ [])

-- .. and where the edition before was chosen
abbrev pub up_older : Machine
up_older = up_by (3 ∷ 1 ∷ 4 ∷ [])

abbrev pub suspended : Machine
suspended =
    machine (started 2).setup (noon + 2)
    (alarm_of true false true Issue (noon + 2) ∷ []) (none ∷ []) 0 noon []
    up.lives
    (pool_of 1 (held_as 0 (of_alarm 0 (alarm_of false true true Suspend (noon + 1))) 0 false ∷ []) (0 ∷ 0 ∷ []))
