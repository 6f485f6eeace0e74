-- Cases of document 01, "Numbers a call can give". Claims; the proofs are `refl`.
-- Assumes nothing.
use Rattle.std.specs.Prelude.{ℕ, ◌+◌, ◌-◌, ◌≡◌, true, List, [], ◌∷◌, ◌++◌, pos, replicate}
use Rattle.std.proofs.Math.Option.{none}
use Rattle.answer.specs.Times.{last_time}
use Rattle.machine.specs.Words.{Bytes}
use Rattle.machine.specs.State.{Subscription, Machine, with_subscriptions, Act, Call}
use Rattle.machine.specs.State.Act.{connect, disconnect, packet, alarm_input, status_value, aggregated_value, tick, pump}
use Rattle.machine.specs.Step.{leaves}
use Rattle.machine.specs.Example.{noon, later, at_noon, random}
use Rattle.machine.specs.Computed.{heard, hears, gives, writes, silent, tells}
use Rattle.machine_cases.specs.Junction.{awaited, running, awaiting_on, numbered_from, json, pumped, ask, order}

-- status 0 subscribed by link 0, since that time
abbrev pub every_second_since : ℕ → Subscription
every_second_since since = record { link = 0; status = 0; interval = 1; on_change = true; since = since }

abbrev pub every_second : Subscription
every_second = every_second_since noon

-- ---- a machine of which every condition that may hold, holds: a record due by interval, no sequence number left
abbrev pub ended : Machine
ended = with_subscriptions (every_second_since 0 ∷ []) (numbered_from 2147483648)

abbrev pub early : Act → Call
early act = record { time = noon - 1; act = act }

-- packets of so many bytes, no JSON
abbrev pub long : ℕ → Bytes
long n = replicate n 0

-- every call that a number can refuse, too early
abbrev pub every_call : ℕ → List Call
every_call l =
    early (connect l) ∷ early (disconnect l) ∷ early (packet l (random 1) (long 9) 4096) ∷ early (pump l (random 1) 4096) ∷ []

abbrev pub inputs : List Call
inputs = early (alarm_input 0 true) ∷ early (status_value 0 (pos 1)) ∷ early (aggregated_value 1) ∷ early tick ∷ []

pub record Numbers : Type 0 where
  -- "2: no such configured link", before 4, 12 and 5
  pub no_link : hears ended (early (connect 4) ∷ early (disconnect 4) ∷ early (packet 4 (random 1) (long 4097) 0) ∷ early (pump 4 (random 1) 0) ∷ [])
      ≡ gives 2 ∷ gives 2 ∷ gives 2 ∷ gives 2 ∷ []
  pub last_link : hears running (at_noon (connect 3) ∷ at_noon (disconnect 3) ∷ []) ≡ silent ∷ heard 0 [] (3 ∷ []) none [] ∷ []
  -- "3: alarm or status number not in the site table", before 5
  pub no_item : hears ended (early (alarm_input 3 true) ∷ early (status_value 4 (pos 1)) ∷ []) ≡ gives 3 ∷ gives 3 ∷ []
  pub last_item : hears running (at_noon (alarm_input 2 true) ∷ at_noon (status_value 3 (pos 1)) ∷ []) ≡ silent ∷ silent ∷ []
  -- "4: output shorter than 4,096", before 12 and 5
  pub short_output : hears running (early (packet 3 (random 1) (long 4097) 4095) ∷ early (pump 3 (random 1) 4095) ∷ []) ≡ gives 4 ∷ gives 4 ∷ []
  -- "12: packet longer than 4,096 bytes", before 5; one of 4,096 is read
  pub long_packet : hears running (early (packet 3 (random 1) (long 4097) 4096) ∷ early (packet 3 (random 1) (long 4096) 4096)
      ∷ at_noon (packet 0 (random 1) (long 4096) 4096) ∷ [])
      ≡ gives 12 ∷ gives 5 ∷ gives 1 ∷ []
  -- "5: time before the last time of a call done", before 6 (connect on an Up link, the others on a Down one), 1, 7 and 10
  pub too_early : hears ended (every_call 0 ++ every_call 3 ++ inputs)
      ≡ gives 5 ∷ gives 5 ∷ gives 5 ∷ gives 5 ∷ gives 5 ∷ gives 5 ∷ gives 5 ∷ gives 5 ∷ gives 5 ∷ gives 5 ∷ gives 5 ∷ gives 5 ∷ []
  -- "or above 253402300799999"
  pub too_late : hears running (record { time = last_time + 1; act = tick } ∷ record { time = 253402300799999; act = tick } ∷ at_noon tick ∷ []) ≡ gives 5
      ∷ silent ∷ gives 5 ∷ []
  -- "6: connect on a link not Down; disconnect, packet or pump on a Down link", before 1 and 7
  pub not_down : hears running (at_noon (connect 0) ∷ at_noon (connect 2) ∷ []) ≡ gives 6 ∷ gives 6 ∷ []
  pub down : hears running (at_noon (disconnect 3) ∷ at_noon (packet 3 (random 1) (long 9) 4096) ∷ pumped 0 3 1 ∷ []) ≡ gives 6 ∷ gives 6 ∷ gives 6 ∷ []
  -- "7: pump, nothing due", before 8; "8: pump, something due, 8 or more identities awaited on the link", before 9
  pub nothing_due : hears (awaiting_on 0 (awaited 8) running) (pumped 0 0 0 ∷ at_noon (aggregated_value 1) ∷ pumped 0 0 0 ∷ []) ≡ gives 7 ∷ silent ∷ gives 8 ∷ []
  pub eight_there : hears (awaiting_on 1 (awaited 8) running) (at_noon (aggregated_value 1) ∷ pumped 0 1 9 ∷ []) ≡ silent ∷ gives 8 ∷ []
  -- "9: the identity to be sent is already awaited on that link": on link 0, not on link 1
  pub awaited_there : hears (awaiting_on 0 (awaited 7) running) (at_noon (aggregated_value 1) ∷ pumped 0 1 6 ∷ pumped 0 0 6 ∷ [])
      ≡ silent
      ∷ writes (tells "AggregatedStatus" "06060606-0606-4606-8606-060606060606"
      (json "K0','aSTS':'2009-10-01T11:59:31.571Z','fP':'','fS':'','se':[false,false,false,false,false,false,false,true]}" ++ (0x0C ∷ [])))
      ∷ gives 9 ∷ []
  -- "10: the call would take sequence numbers past 2147483647": of each call that issues
  pub numbers_end : hears ended (ask 0 0 "StatusSubscribe" ",'cId':'K0','sS':[{'sCI':'S1','n':'level','uRt':'1','sOc':true}]" ∷ at_noon (alarm_input 0 true)
      ∷ at_noon (status_value 0 (pos 1)) ∷ at_noon (aggregated_value 1) ∷ later 1000 tick ∷ order 0 0 "Suspend" ∷ [])
      ≡ gives 10 ∷ gives 10 ∷ gives 10 ∷ gives 10 ∷ gives 10 ∷ gives 10 ∷ []
  pub four_numbers_left : hears (numbered_from 2147483644) (at_noon (aggregated_value 1) ∷ at_noon (alarm_input 0 true) ∷ []) ≡ silent ∷ gives 10 ∷ []
  pub three_numbers_left : hears (numbered_from 2147483645) (at_noon (aggregated_value 1) ∷ []) ≡ gives 10 ∷ []
  -- "All but 0 change nothing"
  pub stays : leaves ended (every_call 0 ++ every_call 4 ++ inputs ++ (at_noon (connect 0) ∷ pumped 0 0 1 ∷ at_noon (aggregated_value 1) ∷ [])) ≡ ended
