-- A greeting with other calls in between, and rounds of pump and answer, for the computed examples.
-- Assumes nothing.
use Rattle.std.specs.Prelude.{ℕ, true, false, List, [], ◌∷◌, ◌++◌, pos}
use Rattle.std.proofs.Math.Option.{some, none}
use Rattle.table_whole.specs.Bytes.{table_bytes}
use Rattle.machine.specs.State.{alarm_of, Held, held_as, pool_of, Start, Machine, machine, Call}
use Rattle.machine.specs.State.Event.{Issue}
use Rattle.machine.specs.State.Content.{of_alarm, of_status, of_aggregated}
use Rattle.machine.specs.State.Act.{connect, alarm_input, status_value, aggregated_value, tick, pump}
use Rattle.machine.specs.Table.{first}
use Rattle.machine.specs.Step.{step}
use Rattle.machine.specs.Run.{Past, past}
use Rattle.machine.specs.Example.{table, noon, started, later, at_noon, random, pumped, gets, asks, greeting, up}

abbrev pub start : Start
start = record { site = 0; table = table_bytes 2 table; links = 2; primary = some 0; period = 60; first = 0; time = noon }

-- the history that calls make of one
abbrev pub pasts : List Past → Machine → List Call → List Past
pasts h m [] = h
pasts h m (c ∷ cs) = pasts (past m c ∷ h) (step m c).1 cs

-- a value before; a second connect, which is refused; a tick when the Version is awaited 29,999 ms; a connect of the other link; a request that is
-- not ready; a Watchdog of theirs more
abbrev pub conversation : List Call
conversation =
    later 0 (status_value 0 (pos 5))
    ∷ later 0 (connect 0)
    ∷ later 0 (connect 0)
    ∷ later 0 (pump 0 (random 1) 4096)
    ∷ later 29999 tick
    ∷ later 29999 (gets "MessageAck\",\"oMId\":\"01010101-0101-4101-8101-010101010101\"}")
    ∷ later 29999 (connect 1)
    ∷ later 29999 (gets "Version\",\"mId\":\"CD613E30-d8f1-6adf-91b7-584a2265b1f5\",\"RSMP\":[{\"vers\":\"3.1.4\"},{\"vers\":\"3.2.0\"}],\"siteId\":[{\"sId\":\"BD1\"}],\"SXL\":\"1.0\"}")
    ∷ later 30000 (gets "Watchdog\",\"mId\":\"CD613E30-d8f1-6adf-91b7-584a2265b1f5\",\"wTs\":\"2009-10-01T11:59:31.571Z\"}")
    ∷ later 30000 (gets "AggregatedStatusRequest\",\"mId\":\"CD613E30-d8f1-6adf-91b7-584a2265b1f5\",\"cId\":\"C0\"}")
    ∷ later 30000 (pump 0 (random 2) 4096)
    ∷ later 30001 (gets "MessageAck\",\"oMId\":\"02020202-0202-4202-8202-020202020202\"}")
    ∷ later 30002 (gets "Watchdog\",\"mId\":\"CD613E30-d8f1-6adf-91b7-584a2265b1f5\",\"wTs\":\"2009-10-01T11:59:31.571Z\"}")
    ∷ []

-- ---- after the greeting at noon: a changed aggregated value, a record for either link, and an alarm, a record for the primary
abbrev pub inputs : List Call
inputs = greeting ++ (at_noon (aggregated_value 1) ∷ at_noon (alarm_input 0 true) ∷ [])

abbrev pub the_aggregated_record : Held
the_aggregated_record = held_as 0 (of_aggregated 1 noon) 0 false

abbrev pub holding : Machine
holding =
    machine (started 2).setup noon
    (alarm_of true false false Issue noon ∷ []) (none ∷ []) 1 noon []
    up.lives
    (pool_of 3 (the_aggregated_record ∷ held_as 1 (of_aggregated 1 noon) 1 false ∷ held_as 0 (of_alarm 0 (alarm_of true false false Issue noon)) 2 false ∷ []) (0 ∷ 0 ∷ []))

-- three rounds: the pass sends the AggregatedStatus and the alarm with its record, then the record of the aggregated value goes out
abbrev pub three_rounds : List Call
three_rounds =
    pumped 3 ∷ at_noon (gets "MessageAck\",\"oMId\":\"03030303-0303-4303-8303-030303030303\"}")
    ∷ pumped 4 ∷ at_noon (gets "MessageNotAck\",\"oMId\":\"04040404-0404-4404-8404-040404040404\"}")
    ∷ pumped 5 ∷ at_noon (gets "MessageAck\",\"oMId\":\"05050505-0505-4505-8505-050505050505\"}")
    ∷ []

-- ---- link 0 as a secondary, and a subscription of it after the greeting: a record of the status, which has no value so far
abbrev pub second_start : Start
second_start = record { site = 0; table = table_bytes 2 table; links = 2; primary = some 1; period = 60; first = 0; time = noon }

abbrev pub second_started : Machine
second_started = first table second_start

abbrev pub subscribes : List Call
subscribes = greeting ++ (at_noon (asks "StatusSubscribe" "C0\",\"sS\":[{\"sCI\":\"S1\",\"n\":\"release\",\"uRt\":\"5\",\"sOc\":true}]}") ∷ [])

abbrev pub the_status_record : Held
the_status_record = held_as 0 (of_status 0 none false noon) 0 false

abbrev pub updating : Machine
updating =
    machine second_started.setup noon second_started.alarms (none ∷ []) 0 noon
    (record { link = 0; status = 0; interval = 5; on_change = true; since = noon } ∷ [])
    up.lives
    (pool_of 1 (the_status_record ∷ []) (0 ∷ 0 ∷ []))

abbrev pub two_rounds : List Call
two_rounds =
    pumped 3 ∷ at_noon (gets "MessageAck\",\"oMId\":\"03030303-0303-4303-8303-030303030303\"}")
    ∷ pumped 4 ∷ at_noon (gets "MessageAck\",\"oMId\":\"04040404-0404-4404-8404-040404040404\"}")
    ∷ []
