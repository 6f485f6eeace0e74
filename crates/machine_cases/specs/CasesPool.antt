-- Cases of document 01, "The pool": what is lost, settled, and a record's bytes and message. Claims; the proofs are `refl`.
-- Assumes nothing.
use Rattle.std.specs.Prelude.{ℕ, ◌≡◌, true, false, List, [], ◌∷◌, ◌++◌, map, pos, negsuc, take}
use Rattle.std.proofs.Math.Option.{some, none}
use Rattle.machine.specs.Words.{Bytes, up_to}
use Rattle.machine.specs.State.{alarm_of, issued_for, Content, Held, held_as, Pool, pool_of, Machine, with_subscriptions, at_end}
use Rattle.machine.specs.State.Event.{Issue, Acknowledge, Suspend}
use Rattle.machine.specs.State.Content.{of_alarm, of_status, of_aggregated}
use Rattle.machine.specs.State.Sent.{no_record, the_record}
use Rattle.machine.specs.State.Act.{tick, disconnect}
use Rattle.machine.specs.Pool.{holds, issue_all}
use Rattle.machine.specs.Step.{leaves}
use Rattle.machine.specs.Readings.{Reading, record_bytes, reading}
use Rattle.machine.specs.Example.{noon, later, records}
use Rattle.machine.specs.Computed.{hears, writes, tells}
use Rattle.machine_cases.specs.Junction.{begun, awaits, running, awaiting_on, holding, json, pumped, ask, answer, alarm_said}
use Rattle.machine_cases.specs.CasesNumbers.{every_second}

abbrev pub sequences : Pool → List ℕ
sequences p = map (λ h. h.sequence) p.held

abbrev pub held_of : Pool → List ℕ
held_of p = map (holds p) (0 ∷ 1 ∷ 2 ∷ 3 ∷ [])

-- records of links 0 to 3 in turn, from an empty pool
abbrev pub pool_with : ℕ → ℕ → ℕ → ℕ → Pool
pool_with a b c d = issue_all (records a 0 ++ records b 1 ++ records c 2 ++ records d 3) begun.pool

abbrev pub adding : ℕ → Pool → Pool
adding l p = issue_all (records 1 l) p

abbrev pub value_in : Content → ℕ
value_in (of_alarm i a) = 0
value_in (of_status i v old t) = 0
value_in (of_aggregated v t) = v

-- a record of link 2 and number 9
abbrev pub told : Content → Bytes
told c = record_bytes 0 (held_as 2 c 9 false)

abbrev pub keeping : Content → Machine
keeping c = holding (held_as 1 c 9 false ∷ [])

abbrev pub aggregated_by : ℕ → ℕ → Held
aggregated_by l n = held_as l (of_aggregated 1 noon) n true

abbrev pub reading_of : ℕ → ℕ → ℕ → List ℕ → List Bytes → Reading
reading_of held lost phase version records = record { held = held; lost = lost; phase = phase; version = version; records = records }

pub record Losing : Type 0 where
  -- "Issuing for link S, under the site's next sequence number": behind those held, not sent
  pub issues : issue_all (issued_for 2 (of_aggregated 3 noon) ∷ issued_for 0 (of_aggregated 4 noon) ∷ []) begun.pool
      ≡ pool_of 7 (held_as 2 (of_aggregated 3 noon) 5 false ∷ held_as 0 (of_aggregated 4 noon) 6 false ∷ []) (0 ∷ 0 ∷ 0 ∷ 0 ∷ [])
  -- "if S holds 64, its oldest is lost", though places are free
  pub sixty_four : (pool_with 0 0 64 0).lost ∷ (pool_with 0 0 65 0).lost ∷ held_of (pool_with 1 0 65 0) ∷ take 2 (sequences (pool_with 1 0 65 0)) ∷ []
      ≡ (0 ∷ 0 ∷ 0 ∷ 0 ∷ []) ∷ (0 ∷ 0 ∷ 1 ∷ 0 ∷ []) ∷ (1 ∷ 0 ∷ 64 ∷ 0 ∷ []) ∷ (5 ∷ 7 ∷ []) ∷ []
  pub sixty_four_of_0 : (pool_with 65 0 0 0).lost ≡ 1 ∷ 0 ∷ 0 ∷ 0 ∷ []
  -- "else a free place is taken": the 128th
  pub last_place : (pool_with 60 60 7 1).lost ∷ held_of (pool_with 60 60 7 1) ∷ [] ≡ (0 ∷ 0 ∷ 0 ∷ 0 ∷ []) ∷ (60 ∷ 60 ∷ 7 ∷ 1 ∷ []) ∷ []
  -- "else, S below 16, the oldest of the link holding most is lost (ties: lowest link)"
  pub fifteen : held_of (adding 3 (pool_with 40 50 23 15)) ∷ (adding 3 (pool_with 40 50 23 15)).lost ∷ [] ≡ (40 ∷ 49 ∷ 23 ∷ 16 ∷ []) ∷ (0 ∷ 1 ∷ 0 ∷ 0 ∷ []) ∷ []
  pub lowest_tie : held_of (adding 3 (pool_with 14 50 50 14)) ∷ (adding 0 (pool_with 14 50 50 14)).lost ∷ [] ≡ (14 ∷ 49 ∷ 50 ∷ 15 ∷ []) ∷ (0 ∷ 1 ∷ 0 ∷ 0 ∷ []) ∷ []
  pub last_link_loses : (adding 0 (pool_with 15 20 33 60)).lost ≡ 0 ∷ 0 ∷ 0 ∷ 1 ∷ []
  -- "else the oldest of S is lost": at 16 and more, of the fewest and of the most
  pub sixteen : held_of (adding 3 (pool_with 40 50 22 16)) ∷ (adding 3 (pool_with 40 50 22 16)).lost ∷ [] ≡ (40 ∷ 50 ∷ 22 ∷ 16 ∷ []) ∷ (0 ∷ 0 ∷ 0 ∷ 1 ∷ []) ∷ []
  pub its_own_oldest : take 3 (sequences (adding 1 (pool_with 2 60 60 6))) ≡ 5 ∷ 6 ∷ 8 ∷ []
  -- "freed places are used again", and closing takes nothing from the pool
  pub freed : held_of (adding 3 (leaves (at_end noon (pool_with 60 60 7 1) (awaiting_on 1 (awaits 1 noon (the_record 65)
      ∷ []) running)) (answer 0 1 "MessageAck" 1 ∷ [])).pool)
      ≡ 60 ∷ 59 ∷ 7 ∷ 2 ∷ []
  pub closing_keeps : held_of (leaves (at_end noon (pool_with 40 40 0 0) running) (later 0 (disconnect 1) ∷ [])).pool ≡ 40 ∷ 40 ∷ 0 ∷ 0 ∷ []

-- eighteen records of link 1, each another, and of link 0 a subscription
abbrev pub eighteen : List Held
eighteen = map (λ v. held_as 1 (of_aggregated v noon) v true) (up_to 18)

abbrev pub others : Machine
others = with_subscriptions (every_second ∷ []) (holding eighteen)

-- the values that the first eighteen records tell
abbrev pub values_of : List Held → List ℕ
values_of hs = map (λ h. value_in h.content) (take 18 hs)

pub record Others : Type 0 where
  -- what is issued for one link leaves the records of another as they are
  pub by_subscribing : values_of (leaves others (ask 0 0 "StatusSubscribe" ",'cId':'K0','sS':[{'sCI':'S1','n':'level','uRt':'1','sOc':true}]" ∷ [])).pool.held
      ≡ up_to 18

pub record OthersInTime : Type 0 where
  pub by_tick : values_of (leaves others (later 1000 tick ∷ [])).pool.held ≡ up_to 18

pub record Settling : Type 0 where
  -- "Either answer settles a record": that one of this link
  pub acknowledged : (leaves (awaiting_on 1 (awaits 1 noon (the_record 6) ∷ []) (holding (aggregated_by 1 5 ∷ aggregated_by 0 6 ∷ aggregated_by 1 6
      ∷ aggregated_by 1 7 ∷ []))) (answer 0 1 "MessageAck" 1 ∷ [])).pool.held
      ≡ aggregated_by 1 5 ∷ aggregated_by 0 6 ∷ aggregated_by 1 7 ∷ []
  pub refused : (leaves (awaiting_on 1 (awaits 1 noon (the_record 6) ∷ []) (holding (aggregated_by 1 5 ∷ aggregated_by 1 6 ∷ []))) (answer 0 1 "MessageNotAck" 1
      ∷ [])).pool.held
      ≡ aggregated_by 1 5 ∷ []
  -- "A late answer for a lost record removes the awaited identity only"
  pub late : leaves (awaiting_on 1 (awaits 1 noon (the_record 4) ∷ awaits 2 noon (the_record 5) ∷ []) (holding (aggregated_by 1 5 ∷ aggregated_by 1 6
      ∷ []))) (answer 0 1 "MessageAck" 1 ∷ [])
      ≡ awaiting_on 1 (awaits 2 noon (the_record 5) ∷ []) (holding (aggregated_by 1 5 ∷ aggregated_by 1 6 ∷ []))
  -- one that carried none settles none
  pub without : (leaves (awaiting_on 1 (awaits 1 noon no_record ∷ []) (holding (aggregated_by 1 5 ∷ []))) (answer 0 1 "MessageAck" 1 ∷ [])).pool.held
      ≡ aggregated_by 1 5 ∷ []

pub record Records : Type 0 where
  -- request 10: link 3, "kind 2 (0 alarm, 1 status, 2 aggregated), item 6, flags 6, time 48, value 32", sequence 31; "Flags of an alarm: aSp 2 (0 Issue, 1
  -- Acknowledge, 2 Suspend), acknowledged, active, suspended, 0". The time is 1254398371571
  pub alarms : map (λ a. take 2 (told (of_alarm 2 a)))
      (alarm_of false false false Issue noon ∷ alarm_of true false false Issue noon ∷ alarm_of false true false Issue noon ∷ alarm_of false false true Issue noon
      ∷ alarm_of false false false Acknowledge noon ∷ alarm_of false false false Suspend noon ∷ [])
      ≡ (0x40 ∷ 0x40 ∷ []) ∷ (0x40 ∷ 0x42 ∷ []) ∷ (0x40 ∷ 0x44 ∷ []) ∷ (0x40 ∷ 0x41 ∷ []) ∷ (0x40 ∷ 0x48 ∷ []) ∷ (0x40 ∷ 0x50 ∷ []) ∷ []
  pub alarm_whole : record_bytes 1 (held_as 3 (of_alarm 31 (alarm_of true true true Suspend noon)) 2147483647 false)
      ≡ 0xE3 ∷ 0xF7 ∷ 0x00 ∷ 0x92 ∷ 0x07 ∷ 0xFC ∷ 0x13 ∷ 0x79 ∷ 0x80 ∷ 0x00 ∷ 0x00 ∷ 0x00 ∷ 0x7F ∷ 0xFF ∷ 0xFF ∷ 0xFF ∷ []
  -- "of a status: known" and (request 02) "that it was issued while its link was not Up"; "two's complement (0 if unknown)"
  pub statuses : map told (of_status 3 none false noon ∷ of_status 3 none true noon ∷ of_status 3 (some (pos 5)) false noon
      ∷ of_status 3 (some (negsuc 2147483647)) true noon ∷ [])
      ≡ (0x48 ∷ 0x60 ∷ 0x00 ∷ 0x92 ∷ 0x07 ∷ 0xFC ∷ 0x13 ∷ 0x79 ∷ 0x80 ∷ 0x00 ∷ 0x00 ∷ 0x00 ∷ 0x00 ∷ 0x00 ∷ 0x00 ∷ 0x09 ∷ [])
      ∷ (0x48 ∷ 0x68 ∷ 0x00 ∷ 0x92 ∷ 0x07 ∷ 0xFC ∷ 0x13 ∷ 0x79 ∷ 0x80 ∷ 0x00 ∷ 0x00 ∷ 0x00 ∷ 0x00 ∷ 0x00 ∷ 0x00 ∷ 0x09 ∷ [])
      ∷ (0x48 ∷ 0x70 ∷ 0x00 ∷ 0x92 ∷ 0x07 ∷ 0xFC ∷ 0x13 ∷ 0x79 ∷ 0x80 ∷ 0x00 ∷ 0x00 ∷ 0x02 ∷ 0x80 ∷ 0x00 ∷ 0x00 ∷ 0x09 ∷ [])
      ∷ (0x48 ∷ 0x78 ∷ 0x00 ∷ 0x92 ∷ 0x07 ∷ 0xFC ∷ 0x13 ∷ 0x79 ∷ 0xC0 ∷ 0x00 ∷ 0x00 ∷ 0x00 ∷ 0x00 ∷ 0x00 ∷ 0x00 ∷ 0x09 ∷ []) ∷ []
  -- "aggregated the eight booleans, first highest, in the low byte"
  pub aggregated : told (of_aggregated 0xA1 noon)
      ≡ 0x50 ∷ 0x00 ∷ 0x00 ∷ 0x92 ∷ 0x07 ∷ 0xFC ∷ 0x13 ∷ 0x79 ∷ 0x80 ∷ 0x00 ∷ 0x00 ∷ 0x50 ∷ 0x80 ∷ 0x00 ∷ 0x00 ∷ 0x09 ∷ []
  -- "three bits (first bit the site)"
  pub links : map (λ l. take 1 (record_bytes 0 (held_as l (of_status 3 none false noon) 9 false))) (0 ∷ 1 ∷ 3 ∷ [])
      ++ map (λ l. take 1 (record_bytes 0 (held_as l (of_aggregated 1 noon) 9 false))) (0 ∷ 1 ∷ 3 ∷ [])
      ≡ (0x08 ∷ []) ∷ (0x28 ∷ []) ∷ (0x68 ∷ []) ∷ (0x10 ∷ []) ∷ (0x30 ∷ []) ∷ (0x70 ∷ []) ∷ []
  pub south_links : map (λ l. take 1 (record_bytes 1 (held_as l (of_status 3 none false noon) 9 false))) (0 ∷ 1 ∷ 3 ∷ [])
      ++ map (λ l. take 1 (record_bytes 1 (held_as l (of_aggregated 1 noon) 9 false))) (0 ∷ 1 ∷ 3 ∷ [])
      ≡ (0x88 ∷ []) ∷ (0xA8 ∷ []) ∷ (0xE8 ∷ []) ∷ (0x90 ∷ []) ∷ (0xB0 ∷ []) ∷ (0xF0 ∷ []) ∷ []
  -- what its message tells: "Messages carry their record's time"; sent nine milliseconds after
  pub alarm_sent : hears (keeping (of_alarm 2 (alarm_of true false false Issue noon))) (pumped 9 1 1 ∷ [])
      ≡ writes (tells "Alarm" "01010101-0101-4101-8101-010101010101" (alarm_said "K2','aCId':'A2"
      "Issue','ack':'notAcknowledged','aS':'Active','sS':'notSuspended','aTs':'2009-10-01T11:59:31.571Z','cat':'D','pri':'2")) ∷ []
  pub recent_sent : hears (keeping (of_status 3 (some (negsuc 6)) false noon)) (pumped 9 1 1 ∷ [])
      ≡ writes (tells "StatusUpdate" "01010101-0101-4101-8101-010101010101" (json
      "K1','sTs':'2009-10-01T11:59:31.571Z','sS':[{'sCI':'S2','n':'flow','s':'-7','q':'recent'}]}" ++ (0x0C ∷ []))) ∷ []
  pub old_sent : hears (keeping (of_status 3 (some (pos 6)) true noon)) (pumped 9 1 1 ∷ [])
      ≡ writes (tells "StatusUpdate" "01010101-0101-4101-8101-010101010101" (json
      "K1','sTs':'2009-10-01T11:59:31.571Z','sS':[{'sCI':'S2','n':'flow','s':'6','q':'old'}]}" ++ (0x0C ∷ []))) ∷ []
  -- "an unknown value stays unknown"
  pub unknown_sent : hears (keeping (of_status 0 none true noon)) (pumped 9 1 1 ∷ [])
      ≡ writes (tells "StatusUpdate" "01010101-0101-4101-8101-010101010101" (json
      "K0','sTs':'2009-10-01T11:59:31.571Z','sS':[{'sCI':'S1','n':'level','s':null,'q':'unknown'}]}" ++ (0x0C ∷ []))) ∷ []
  pub aggregated_sent : hears (keeping (of_aggregated 0x0F noon)) (pumped 9 1 1 ∷ [])
      ≡ writes (tells "AggregatedStatus" "01010101-0101-4101-8101-010101010101" (json
      "K0','aSTS':'2009-10-01T11:59:31.571Z','fP':'','fS':'','se':[false,false,false,false,true,true,true,true]}" ++ (0x0C ∷ []))) ∷ []
  -- what a host reads of each link: held, lost, the phase, the version, the records
  pub readings : map (reading (at_end noon (pool_of 9 (aggregated_by 0 5 ∷ aggregated_by 3 6 ∷ aggregated_by 0 7 ∷ []) (1 ∷ 2 ∷ 3 ∷ 4 ∷ [])) running)) (0 ∷ 1 ∷ 2
      ∷ 3 ∷ [])
      ≡ reading_of 2 1 3 (3 ∷ 2 ∷ 0 ∷ []) (record_bytes 0 (aggregated_by 0 5) ∷ record_bytes 0 (aggregated_by 0 7) ∷ [])
      ∷ reading_of 0 2 3 (3 ∷ 2 ∷ 0 ∷ []) []
      ∷ reading_of 0 3 2 (3 ∷ 2 ∷ 0 ∷ []) []
      ∷ reading_of 1 4 0 [] (record_bytes 0 (aggregated_by 3 6) ∷ []) ∷ []
