-- Cases of document 01, "Life of a link". Claims; the proofs are `refl`.
-- Assumes nothing.
use Rattle.std.specs.Prelude.{ℕ, ◌+◌, ◌≡◌, Bool, true, false, List, [], ◌∷◌, ◌++◌, map}
use Prim.Native.String.{String}
use Rattle.std.proofs.Math.Option.{some, none}
use Rattle.basis.specs.Text.{text}
use Rattle.machine.specs.Words.{Bytes}
use Rattle.machine.specs.State.{
  alarm_of,
  Alarm,
  Held,
  held_as,
  pool_of,
  exchange,
  Exchange,
  Life,
  life_of,
  fresh,
  Machine,
  with_alarm,
  with_aggregated,
  with_life,
  with_held,
  with_subscriptions,
  at_end,
  life_at,
  Awaited,
  Call,
}
use Rattle.machine.specs.State.Event.{Issue, Acknowledge, Suspend}
use Rattle.machine.specs.State.Content.{of_alarm, of_aggregated}
use Rattle.machine.specs.State.Sent.{own_version, own_watchdog, no_record, the_record}
use Rattle.machine.specs.State.Act.{connect, disconnect, tick}
use Rattle.machine.specs.Life.{carried_by}
use Rattle.machine.specs.Step.{leaves}
use Rattle.machine.specs.Example.{noon, later, at_noon, up}
use Rattle.machine.specs.Computed.{Heard, heard, hears, gives, writes, silent, acks, refuses_for, tells}
use Rattle.machine_cases.specs.Junction.{
  begun,
  up_life,
  beating,
  awaits,
  running,
  awaiting_on,
  holding,
  json,
  pumped,
  ask,
  answer,
  greet,
  alarm_said,
  phases,
}
use Rattle.machine_cases.specs.CasesNumbers.{every_second}

-- ---- the greeting of link 3, a call each millisecond
abbrev pub agrees : ℕ → ℕ → Call
agrees ms l = greet ms l "{'vers':'3.1.5'},{'vers':'3.2'}" "{'sId':'J5'},{'sId':'J4'}" "2.1"

abbrev pub beats : ℕ → ℕ → Call
beats ms l = ask ms l "Watchdog" ",'wTs':'2009-10-01T11:59:31.571Z'"

abbrev pub greeting : List Call
greeting =
    later 1 (connect 3) ∷ pumped 2 3 1 ∷ answer 3 3 "MessageAck" 1 ∷ agrees 4 3 ∷ pumped 5 3 2 ∷ answer 6 3 "MessageAck" 2 ∷ beats 7 3 ∷ []

-- a life that Version, acknowledged or not, and theirs, taken or not, has led to; then Watchdogs
abbrev pub versioned : Bool → Bool → List ℕ → List Awaited → Life
versioned acknowledged taken chosen awaited = life_of true (exchange true acknowledged taken) (exchange false false false) chosen 0 0 awaited

abbrev pub beating_with : Exchange → List Awaited → Life
beating_with watchdogs awaited = life_of true (exchange true true true) watchdogs (3 ∷ 2 ∷ 0 ∷ []) noon 0 awaited

-- link 3 in that life, the others as they run
abbrev pub third : Life → Machine
third k = with_life 3 k running

-- our Version is on its way
abbrev pub offering : Machine
offering = third (versioned false false [] (awaits 1 noon own_version ∷ []))

abbrev pub refusal : String → Heard
refusal reason = heard 0 (refuses_for reason) (3 ∷ []) none []

-- what our Version, a Watchdog, an AggregatedStatus and an Alarm look like
abbrev pub version_as : String → Bytes
version_as id =
    json "{'mType':'rSMsg','type':'Version','mId':'" ++ text id
    ++ json "','RSMP':[{'vers':'3.1.4'},{'vers':'3.1.5'},{'vers':'3.2'}],'siteId':[{'sId':'J4'}],'SXL':'2.1'}" ++ (0x0C ∷ [])

abbrev pub watchdog_as : String → String → Bytes
watchdog_as id wTs = json "{'mType':'rSMsg','type':'Watchdog','mId':'" ++ text id ++ json "','wTs':'" ++ text wTs ++ json "'}" ++ (0x0C ∷ [])

abbrev pub aggregated_told : String → String → String → Bytes
aggregated_told id aSTS se =
    tells "AggregatedStatus" id (json "K0','aSTS':'" ++ text aSTS ++ json "','fP':'','fS':'','se':[" ++ text se ++ text "]}" ++ (0x0C ∷ []))

abbrev pub alarm_told : String → String → String → Bytes
alarm_told id about states = tells "Alarm" id (alarm_said about states)

-- ---- records
abbrev pub aggregated_held : ℕ → ℕ → Bool → Held
aggregated_held l n sent = held_as l (of_aggregated 1 noon) n sent

abbrev pub rung : Alarm
rung = alarm_of true false false Issue (noon + 1)

abbrev pub alarm_held : ℕ → ℕ → Alarm → Held
alarm_held i n a = held_as 1 (of_alarm i a) n false

-- alarm 2 as it is, and these records are held
abbrev pub ringing : Alarm → List Held → Machine
ringing a hs = with_held hs (with_alarm 2 a running)

-- .. one of the same alarm, and behind it this one
abbrev pub behind_one : Alarm → Machine
behind_one a = ringing rung (alarm_held 2 6 rung ∷ alarm_held 2 7 a ∷ [])

-- inactive and acknowledged, and inactive and suspended
abbrev pub ceased : Alarm
ceased = alarm_of false true false Acknowledge noon

abbrev pub hushed : Alarm
hushed = alarm_of false false true Suspend noon

pub record Greetings : Type 0 where
  -- "Connect: Greeting. Pump sends our Version." "Ours acknowledged and theirs accepted: Beating; pump sends one Watchdog. Ours acknowledged and
  -- one of theirs taken: Up."
  pub greets : phases 3 begun greeting ≡ 1 ∷ 1 ∷ 1 ∷ 2 ∷ 2 ∷ 2 ∷ 3 ∷ []
  -- .. call by call: our Version, our Watchdog, its answer, theirs
  pub version_sent : life_at (leaves (third (fresh true)) (pumped 2 3 1 ∷ [])) 3 ≡ versioned false false [] (awaits 1 (noon + 2) own_version ∷ [])
  pub version_acknowledged : leaves offering (answer 0 3 "MessageAck" 1 ∷ []) ≡ third (versioned true false [] [])
  pub watchdog_sent : life_at (leaves running (pumped 5 2 2 ∷ [])) 2
      ≡ life_of true (exchange true true true) (exchange true false false) (3 ∷ 2 ∷ 0 ∷ []) (noon + 5) 0 (awaits 2 (noon + 5) own_watchdog ∷ [])
  pub watchdog_acknowledged : leaves (third (beating_with (exchange true false false) (awaits 2 noon own_watchdog ∷ []))) (answer 0 3 "MessageAck" 2 ∷ [])
      ≡ third (beating_with (exchange true true false) [])
  pub comes_up : leaves (third (beating_with (exchange true true false) [])) (beats 0 3 ∷ []) ≡ third (up_life 0 [])

pub record Once : Type 0 where
  -- one message each: pump has nothing else to send meanwhile
  pub one_each : hears begun (later 1 (connect 3) ∷ pumped 2 3 1 ∷ pumped 3 3 2 ∷ answer 3 3 "MessageAck" 1 ∷ pumped 4 3 2 ∷ agrees 4 3 ∷ pumped 5 3 2
      ∷ pumped 6 3 3 ∷ [])
      ≡ silent
      ∷ writes (version_as "01010101-0101-4101-8101-010101010101")
      ∷ gives 7 ∷ silent ∷ gives 7 ∷ writes acks
      ∷ writes (watchdog_as "02020202-0202-4202-8202-020202020202" "2009-10-01T11:59:31.576Z")
      ∷ gives 7 ∷ []
  -- in any order: theirs accepted, and theirs taken, before ours is acknowledged, or goes out
  pub other_order : phases 3 begun (later 1 (connect 3) ∷ pumped 2 3 1 ∷ agrees 3 3 ∷ answer 4 3 "MessageAck" 1 ∷ beats 5 3 ∷ pumped 6 3 2
      ∷ answer 7 3 "MessageAck" 2 ∷ [])
      ≡ 1 ∷ 1 ∷ 1 ∷ 2 ∷ 2 ∷ 2 ∷ 3 ∷ []

pub record Judged : Type 0 where
  -- "Their Version is judged only after ours went out", and once
  pub judged_after : hears (third (fresh true)) (agrees 0 3 ∷ pumped 0 3 1 ∷ agrees 0 3 ∷ agrees 0 3 ∷ [])
      ≡ writes (refuses_for "Unexpected")
      ∷ writes (version_as "01010101-0101-4101-8101-010101010101")
      ∷ writes acks ∷ writes (refuses_for "Unexpected") ∷ []
  -- "the latest common one is chosen"
  pub later_last : leaves offering (agrees 0 3 ∷ []) ≡ third (versioned false true (3 ∷ 2 ∷ 0 ∷ []) (awaits 1 noon own_version ∷ []))
  pub later_first : (life_at (leaves offering (greet 0 3 "{'vers':'3.2.0'},{'vers':'3.1.5'}" "{'sId':'J4'}" "2.1" ∷ [])) 3).version ≡ 3 ∷ 2 ∷ 0 ∷ []
  pub earlier_alone : (life_at (leaves offering (greet 0 3 "{'vers':'3.1.5'},{'vers':'3.3'}" "{'sId':'J4'}" "2.1" ∷ [])) 3).version ≡ 3 ∷ 1 ∷ 5 ∷ []

pub record Checks : Type 0 where
  -- the checks, in this order: "A failure of these three sends MessageNotAck and closes the link"
  pub no_version : hears offering (greet 0 3 "{'vers':'3.1.3'},{'vers':'3.2.255'},{'vers':'3'}" "{'sId':'J5'}" "2.10" ∷ []) ≡ refusal "RSMP version" ∷ []
  pub no_site : hears offering (greet 0 3 "{'vers':'3.2'}" "{'sId':'J5'},{'sId':'J40'}" "2.10" ∷ []) ≡ refusal "Site id" ∷ []
  pub no_sxl : hears offering (greet 0 3 "{'vers':'3.2'}" "{'sId':'J4'}" "2.10" ∷ []) ≡ refusal "SXL version" ∷ []
  pub closed_by_check : leaves offering (greet 0 3 "{'vers':'3.1.3'}" "{'sId':'J4'}" "2.1" ∷ []) ≡ running
  pub closed_by_site : leaves offering (greet 0 3 "{'vers':'3.2'}" "{'sId':'J5'}" "2.1" ∷ []) ≡ running
  pub closed_by_sxl : leaves offering (greet 0 3 "{'vers':'3.2'}" "{'sId':'J4'}" "2" ∷ []) ≡ running
  -- "one to three dotted numbers, each 0 to 255 without leading zeros, else "Bad value"": that closes nothing
  pub not_versions : map (λ v. hears offering (greet 0 3 v "{'sId':'J4'}" "2.1" ∷ []))
      ("{'vers':'3.2.0.0'},{'vers':'3.2'}" ∷ "{'vers':'3.2'},{'vers':'256'}" ∷ "{'vers':'03.2'}" ∷ "{'vers':''}" ∷ "{'vers':'3.2.'}" ∷ "{'vers':'3.x'}" ∷ [])
      ≡ (writes (refuses_for "Bad value") ∷ []) ∷ (writes (refuses_for "Bad value") ∷ []) ∷ (writes (refuses_for "Bad value") ∷ [])
      ∷ (writes (refuses_for "Bad value") ∷ []) ∷ (writes (refuses_for "Bad value") ∷ []) ∷ (writes (refuses_for "Bad value") ∷ []) ∷ []
  pub stays_greeting : leaves offering (greet 0 3 "{'vers':'3.2.0.0'}" "{'sId':'J4'}" "2.1" ∷ []) ≡ offering
  pub versions_of_255 : hears offering (greet 0 3 "{'vers':'255.255.255'},{'vers':'0'},{'vers':'3.2'}" "{'sId':'J4'}" "2.1" ∷ []) ≡ writes acks ∷ []
  -- "A MessageNotAck to our Version, or to our Watchdog while Beating, closes the link", this one alone; in Up it does not, nor to any other message
  pub version_refused : hears offering (answer 0 3 "MessageNotAck" 1 ∷ []) ≡ heard 0 [] (3 ∷ []) none [] ∷ []
  pub closed_by_refusal : leaves offering (answer 0 3 "MessageNotAck" 1 ∷ []) ≡ running
  pub watchdog_refused : hears (third (beating_with (exchange true false true) (awaits 1 noon own_watchdog ∷ []))) (answer 0 3 "MessageNotAck" 1 ∷ [])
      ≡ heard 0 [] (3 ∷ []) none [] ∷ []
  pub refused_in_up : leaves (awaiting_on 1 (awaits 1 noon own_watchdog ∷ awaits 2 noon no_record ∷ awaits 3 noon (the_record 9) ∷ []) running)
      (answer 0 1 "MessageNotAck" 1 ∷ answer 0 1 "MessageNotAck" 2 ∷ answer 0 1 "MessageNotAck" 3 ∷ []) ≡ running
  -- a MessageNotAck is no acknowledgement: an acknowledged one leads to Up, where theirs was taken
  pub acknowledged : leaves (third (beating_with (exchange true false true) (awaits 1 noon own_watchdog ∷ []))) (answer 0 3 "MessageAck" 1 ∷ [])
      ≡ third (up_life 0 [])

pub record Closings : Type 0 where
  -- "Closing (also disconnect) leaves the link Down, nothing awaited, no record of it marked sent; records and subscriptions stay"
  pub disconnects : hears running (at_noon (disconnect 1) ∷ []) ≡ heard 0 [] (1 ∷ []) none [] ∷ []
  pub closes : leaves (with_subscriptions (every_second ∷ []) (awaiting_on 0 (awaits 1 noon (the_record 5) ∷ []) (awaiting_on 1 (awaits 1 noon (the_record 6) ∷ [])
      (holding (aggregated_held 0 5 true ∷ aggregated_held 1 6 true ∷ aggregated_held 1 7 false ∷ aggregated_held 1 8 true ∷ []))))) (at_noon (disconnect 1) ∷ [])
      ≡ with_subscriptions (every_second ∷ []) (awaiting_on 0 (awaits 1 noon (the_record 5) ∷ []) (with_life 1 (fresh false)
      (holding (aggregated_held 0 5 true ∷ aggregated_held 1 6 false ∷ aggregated_held 1 7 false ∷ aggregated_held 1 8 false ∷ []))))
  -- "Each link keeps .. identities .. with the time of sending; an answer removes its one", on its link; "Either answer settles a record"
  pub removes_one : leaves (awaiting_on 0 (awaits 1 noon (the_record 6) ∷ []) (awaiting_on 1 (awaits 2 noon (the_record 5) ∷ awaits 1 noon (the_record 6)
      ∷ awaits 3 noon (the_record 7) ∷ []) (holding (aggregated_held 1 5 true ∷ aggregated_held 1 6 true ∷ aggregated_held 1 7 true ∷ []))))
      (answer 0 1 "MessageAck" 1 ∷ [])
      ≡ awaiting_on 0 (awaits 1 noon (the_record 6) ∷ []) (awaiting_on 1 (awaits 2 noon (the_record 5) ∷ awaits 3 noon (the_record 7)
      ∷ []) (holding (aggregated_held 1 5 true ∷ aggregated_held 1 7 true ∷ [])))
  -- "Tick closes each link with one awaited 30,000 ms or longer": the second of link 0 and that of link 2, not link 1
  pub tick_closes : hears (with_life 2 (beating_with (exchange true false false) (awaits 1 noon own_watchdog ∷ []))
      (awaiting_on 0 (awaits 1 (noon + 1) no_record ∷ awaits 2 noon no_record ∷ []) (awaiting_on 1 (awaits 1 (noon + 1) no_record ∷ []) running)))
      (later 29999 tick ∷ later 30000 tick ∷ []) ≡ silent ∷ heard 0 [] (0 ∷ 2 ∷ []) none [] ∷ []
  pub tick_leaves : leaves (with_life 2 (beating_with (exchange true false false) (awaits 1 noon own_watchdog ∷ []))
      (awaiting_on 0 (awaits 1 noon no_record ∷ []) (awaiting_on 1 (awaits 1 (noon + 1) no_record ∷ []) running))) (later 30000 tick ∷ [])
      ≡ with_life 2 (fresh false) (with_life 0 (fresh false) (awaiting_on 1 (awaits 1 (noon + 1) no_record ∷ []) (at_end (noon + 30000) running.pool running)))

pub record Dues : Type 0 where
  -- "Due in Up, in this order: Watchdog a period or more after the last": before the pass and the records, again a period after it, on link 0
  pub watchdog_due : hears (with_life 0 (up_life 0 []) (holding (aggregated_held 0 5 false ∷ [])))
      (pumped 2000 0 1 ∷ pumped 2001 0 2 ∷ pumped 3999 0 3 ∷ pumped 3999 0 4 ∷ pumped 4000 0 4 ∷ [])
      ≡ writes (watchdog_as "01010101-0101-4101-8101-010101010101" "2009-10-01T11:59:33.571Z")
      ∷ writes (aggregated_told "02020202-0202-4202-8202-020202020202" "2009-10-01T11:59:31.571Z" "false,false,false,false,false,false,false,false")
      ∷ writes (aggregated_told "03030303-0303-4303-8303-030303030303" "2009-10-01T11:59:31.571Z" "false,false,false,false,false,false,false,true")
      ∷ gives 7
      ∷ writes (watchdog_as "04040404-0404-4404-8404-040404040404" "2009-10-01T11:59:35.571Z")
      ∷ []
  pub watchdog_early : hears running (pumped 1999 0 1 ∷ []) ≡ gives 7 ∷ []
  pub watchdog_awaited : leaves running (pumped 2000 0 1 ∷ [])
      ≡ at_end (noon + 2000) running.pool (with_life 0 (life_of true (exchange true true true) (exchange true true true) (3 ∷ 2 ∷ 0
      ∷ []) (noon + 2000) 1 (awaits 1 (noon + 2000) own_watchdog ∷ [])) running)
  -- "once per link life the AggregatedStatus, then on the primary every alarm 0 upwards": each as it stands
  pub first_pass : hears (with_life 1 (up_life 0 []) (with_aggregated 0xA1 (noon + 5) (with_alarm 0 (alarm_of false true true Suspend (noon + 2)) (with_alarm 1
      (alarm_of true true false Acknowledge (noon + 3)) running))))
      (pumped 9 1 1 ∷ pumped 9 1 2 ∷ pumped 9 1 3 ∷ pumped 9 1 4 ∷ pumped 9 1 5 ∷ [])
      ≡ writes (aggregated_told "01010101-0101-4101-8101-010101010101" "2009-10-01T11:59:31.576Z" "true,false,true,false,false,false,false,true")
      ∷ writes (alarm_told "02020202-0202-4202-8202-020202020202" "K1','aCId':'A1"
      "Suspend','ack':'Acknowledged','aS':'inActive','sS':'Suspended','aTs':'2009-10-01T11:59:31.573Z','cat':'D','pri':'3")
      ∷ writes (alarm_told "03030303-0303-4303-8303-030303030303" "K2','aCId':'A1"
      "Acknowledge','ack':'Acknowledged','aS':'Active','sS':'notSuspended','aTs':'2009-10-01T11:59:31.574Z','cat':'T','pri':'1")
      ∷ writes (alarm_told "04040404-0404-4404-8404-040404040404" "K2','aCId':'A2"
      "Issue','ack':'Acknowledged','aS':'inActive','sS':'notSuspended','aTs':'2009-10-01T11:59:31.571Z','cat':'D','pri':'2")
      ∷ gives 7 ∷ []
  pub pass_of_secondary : hears (with_life 0 (up_life 0 []) running) (pumped 0 0 1 ∷ pumped 0 0 2 ∷ [])
      ≡ writes (aggregated_told "01010101-0101-4101-8101-010101010101" "2009-10-01T11:59:31.571Z" "false,false,false,false,false,false,false,false") ∷ gives 7
      ∷ []
  -- "then the oldest held record not sent": of this link, once; an answered one is settled
  pub oldest_unsent_lem : leaves (holding (aggregated_held 0 5 false ∷ aggregated_held 1 6 true ∷ aggregated_held 1 7 false ∷ aggregated_held 1 8 false
      ∷ [])) (pumped 1 1 1 ∷ [])
      ≡ at_end (noon + 1) (pool_of 5 (aggregated_held 0 5 false ∷ aggregated_held 1 6 true ∷ aggregated_held 1 7 true ∷ aggregated_held 1 8 false ∷ []) (0 ∷ 0 ∷ 0
      ∷ 0 ∷ [])) (awaiting_on 1 (awaits 1 (noon + 1) (the_record 7) ∷ []) running)

pub record Carried : Type 0 where
  -- "If the newest held record of an alarm equals that alarm's last event, states and time, the message of this pass carries that record."
  pub carries_newest : carried_by (ringing rung (alarm_held 2 6 rung ∷ alarm_held 2 7 rung ∷ alarm_held 1 8 rung ∷ aggregated_held 1 9 false
      ∷ held_as 0 (of_alarm 2 rung) 10 false
      ∷ held_as 2 (of_alarm 2 rung) 11 false ∷ [])) 1 2 ≡ the_record 7
  pub carries_others : carried_by (ringing ceased (alarm_held 2 6 ceased ∷ [])) 1 2 ∷ carried_by (ringing hushed (alarm_held 2 6 hushed ∷ [])) 1 2 ∷ []
      ≡ the_record 6 ∷ the_record 6 ∷ []
  pub carries_first : carried_by (with_alarm 0 rung (holding (alarm_held 0 6 rung ∷ alarm_held 1 7 rung ∷ alarm_held 2 8 rung ∷ []))) 1 0 ≡ the_record 6
  pub carries_on_link_0 : carried_by (with_held (held_as 0 (of_alarm 0 rung) 6 false ∷ held_as 0 (of_alarm 0 rung) 7 false ∷ []) (with_alarm 0 rung up)) 0 0
      ≡ the_record 7
  pub carries_none : map (λ a. carried_by (behind_one a) 1 2)
      (alarm_of false false false Issue (noon + 1) ∷ alarm_of true true false Issue (noon + 1) ∷ alarm_of true false true Issue (noon + 1)
      ∷ alarm_of true false false Acknowledge (noon + 1) ∷ alarm_of true false false Issue noon ∷ [])
      ≡ no_record ∷ no_record ∷ no_record ∷ no_record ∷ no_record ∷ []
  pub nothing_held : carried_by (ringing rung []) 1 2 ≡ no_record
  pub pass_marks : leaves (with_life 1 (up_life 3 []) (ringing rung (alarm_held 2 6 rung ∷ []))) (pumped 1 1 1 ∷ [])
      ≡ at_end (noon + 1) (pool_of 5 (held_as 1 (of_alarm 2 rung) 6 true ∷ []) (0 ∷ 0 ∷ 0 ∷ 0 ∷ []))
      (with_life 1 (up_life 4 (awaits 1 (noon + 1) (the_record 6) ∷ [])) (with_alarm 2 rung running))
  pub pass_marks_none : leaves (with_life 1 (up_life 2 []) (ringing rung (alarm_held 2 6 rung ∷ []))) (pumped 0 1 1 ∷ [])
      ≡ with_life 1 (up_life 3 (awaits 1 noon no_record ∷ [])) (ringing rung (alarm_held 2 6 rung ∷ []))
  pub pass_begins : leaves (with_life 1 (up_life 0 []) running) (pumped 0 1 1 ∷ []) ≡ with_life 1 (up_life 1 (awaits 1 noon no_record ∷ [])) running
  -- a record sent, cut off, sent again in the new life; "Deleting a record when sent" is an error we have met
  pub sent_again : hears (holding (aggregated_held 0 5 false ∷ [])) (pumped 0 0 1 ∷ pumped 0 0 2 ∷ at_noon (disconnect 0) ∷ at_noon (connect 0) ∷ pumped 0 0 1
      ∷ answer 0 0 "MessageAck" 1 ∷ agrees 0 0 ∷ pumped 0 0 2 ∷ answer 0 0 "MessageAck" 2 ∷ beats 0 0 ∷ pumped 0 0 3 ∷ pumped 0 0 4
      ∷ answer 0 0 "MessageAck" 4 ∷ pumped 0 0 5 ∷ [])
      ≡ writes (aggregated_told "01010101-0101-4101-8101-010101010101" "2009-10-01T11:59:31.571Z" "false,false,false,false,false,false,false,true")
      ∷ gives 7 ∷ heard 0 [] (0 ∷ []) none [] ∷ silent
      ∷ writes (version_as "01010101-0101-4101-8101-010101010101")
      ∷ silent ∷ writes acks ∷ writes (watchdog_as "02020202-0202-4202-8202-020202020202" "2009-10-01T11:59:31.571Z") ∷ silent ∷ writes acks
      ∷ writes (aggregated_told "03030303-0303-4303-8303-030303030303" "2009-10-01T11:59:31.571Z" "false,false,false,false,false,false,false,false")
      ∷ writes (aggregated_told "04040404-0404-4404-8404-040404040404" "2009-10-01T11:59:31.571Z" "false,false,false,false,false,false,false,true")
      ∷ silent ∷ gives 7 ∷ []
  -- "Only the primary's watchdog time is a clock hint", in Up and Beating
  pub hints : hears running (beats 1 0 ∷ beats 1 1 ∷ beats 1 2 ∷ []) ≡ writes acks ∷ heard 0 acks [] (some noon) [] ∷ writes acks ∷ []
  pub hint_beating : hears (with_life 1 beating running) (beats 1 1 ∷ []) ≡ heard 0 acks [] (some noon) [] ∷ []
