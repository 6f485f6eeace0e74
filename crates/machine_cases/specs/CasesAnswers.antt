-- Cases of document 01, "Packets and JSON" and "Which packets are answered". Claims; the proofs are `refl`.
-- Assumes nothing.
use Rattle.std.specs.Prelude.{ℕ, zero, suc, ◌+◌, ◌≡◌, List, [], ◌∷◌, ◌++◌, pos, negsuc, replicate}
use Prim.Native.String.{String}
use Rattle.basis.specs.Text.{text}
use Rattle.machine.specs.Words.{Bytes, flat}
use Rattle.machine.specs.State.{Machine, with_life, with_status, with_aggregated, Call}
use Rattle.machine.specs.State.Sent.{no_record}
use Rattle.machine.specs.State.Act.{packet}
use Rattle.machine.specs.Step.{leaves}
use Rattle.machine.specs.Example.{noon, later, random}
use Rattle.machine.specs.Computed.{Heard, hears, gives, writes, silent, acks, refuses_for}
use Rattle.machine_cases.specs.Junction.{beating, awaits, awaited, running, awaiting_on, json, gets, ask, answer, order, replied}
use Rattle.machine_cases.specs.CasesLife.{offering, beats}

-- ---- what each of some packets comes to by itself, on a link at noon
abbrev pub each : Machine → List Call → List Heard
each m cs = flat (λ c. hears m (c ∷ [])) cs

-- .. all the same: so many times that number, that refusal, our MessageAck alone
abbrev pub ignored : ℕ → List Heard
ignored n = replicate n (gives 1)

abbrev pub refused : ℕ → String → List Heard
refused n reason = replicate n (writes (refuses_for reason))

abbrev pub taken : ℕ → List Heard
taken n = replicate n (writes acks)

-- a packet of a type on link 0, with these elements besides its head
abbrev pub of : String → String → Call
of type more = ask 0 0 type more

abbrev pub raw : String → Call
raw s = gets 0 0 s

-- the same with bytes in between
abbrev pub around : String → Bytes → String → Call
around before bytes behind = later 0 (packet 0 (random 15) (json before ++ bytes ++ json behind) 4096)

-- a Watchdog with one more element, the value of which is so deep
abbrev pub deep : ℕ → Call
deep n =
    around "{'mType':'rSMsg','type':'Watchdog','mId':'CD613E30-d8f1-6adf-91b7-584a2265b1f5','wTs':'2009-10-01T11:59:31.571Z','x':"
    (replicate n 0x5B ++ replicate n 0x5D) "}"

-- .. and with that string in it
abbrev pub within : Bytes → Call
within bytes =
    around "{'mType':'rSMsg','type':'Watchdog','mId':'CD613E30-d8f1-6adf-91b7-584a2265b1f5','wTs':'2009-10-01T11:59:31.571Z','x':'" bytes "'}"

-- a StatusRequest of a component; of so many entries
abbrev pub component_of : Bytes → Call
component_of id = around "{'mType':'rSMsg','type':'StatusRequest','mId':'CD613E30-d8f1-6adf-91b7-584a2265b1f5','sS':[],'cId':'" id "'}"

abbrev pub repeated : ℕ → String → Bytes
repeated zero s = []
repeated (suc n) s = json s ++ repeated n s

abbrev pub many : ℕ → String → String → String → ℕ → Call
many l type entry last n =
    later 0
    (packet l (random 15) (json "{'mType':'rSMsg','mId':'CD613E30-d8f1-6adf-91b7-584a2265b1f5','type':'" ++ json type ++ repeated n entry ++ json last) 4096)

-- a StatusSubscribe of status 0 by that uRt and sOc
abbrev pub every : String → Call
every how = of "StatusSubscribe" how

-- link 3 is Greeting, our Version on its way
abbrev pub to_greeting : String → String → Call
to_greeting type more = ask 0 3 type more

-- link 2 is Beating
abbrev pub to_beating : String → String → Call
to_beating type more = ask 0 2 type more

pub record Ignoring : Type 0 where
  -- "bad JSON": nothing, no object, text behind it, a name twice, no UTF-8, a lone surrogate, nine levels
  pub bad_json : each running (raw "" ∷ raw "[]" ∷ raw "5" ∷ raw "{'mType':'rSMsg'" ∷ raw "{'a':1,}" ∷ raw "{'a':01}" ∷ raw "{} {}" ∷ raw "{'a':1,'a':1}" ∷ [])
      ≡ ignored 8
  pub bad_text : each running (within (0xFF ∷ []) ∷ within (0x0A ∷ []) ∷ within (text "\\ud800") ∷ deep 8 ∷ []) ≡ ignored 4
  -- escapes resolved, pairs of surrogates, UTF-8, eight levels; "Unknown elements are passed over"
  pub good_text : each running (within (0xC3 ∷ 0xA5 ∷ []) ∷ within (text "\\ud83d\\ude00") ∷ deep 7
      ∷ raw "{'m\\u0054ype':'rSMs\\u0067','type':'Watchdog','mId':'CD613E30-d8f1-6adf-91b7-584a2265b1f5','wTs':'2009-10-01T11:59:31.571Z'}" ∷ [])
      ≡ taken 4
  -- "type MessageAck or MessageNotAck whose mType is not rSMsg or whose oMId is not awaited on this link": it is on link 1
  pub answers : each (awaiting_on 1 (awaits 1 noon no_record ∷ []) running)
      (answer 0 0 "MessageAck" 1 ∷ answer 0 1 "MessageAck" 2 ∷ answer 0 1 "MessageNotAck" 2
      ∷ gets 0 1 "{'mType':'rSMs','type':'MessageAck','oMId':'01010101-0101-4101-8101-010101010101'}"
      ∷ gets 0 1 "{'type':'MessageNotAck','oMId':'01010101-0101-4101-8101-010101010101'}"
      ∷ gets 0 1 "{'mType':'rSMsg','type':'MessageAck','oMId':5}"
      ∷ gets 0 1 "{'mType':'rSMsg','type':'MessageAck','mId':'01010101-0101-4101-8101-010101010101'}" ∷ []) ≡ ignored 7
  -- .. in either case
  pub capitals : hears (awaiting_on 1 (awaits 0xA noon no_record ∷ []) running)
      (gets 0 1 "{'mType':'rSMsg','type':'MessageAck','oMId':'0A0a0a0a-0A0a-4a0A-8a0a-0A0A0a0a0a0a'}" ∷ []) ≡ silent ∷ []
  -- "any other packet without a readable mId": lacking, no string, too short, hyphens, a digit past f, past F, below 0, past 9
  pub unreadable : each running
      (raw "{'mType':'rSMsg','type':'Watchdog','wTs':'2009-10-01T11:59:31.571Z'}" ∷ raw "{'type':'Foo','mId':5}"
      ∷ raw "{'mId':'CD613E30-d8f1-6adf-91b7-584a2265b1f'}"
      ∷ raw "{'mId':'CD613E3-0d8f1-6adf-91b7-584a2265b1f5'}" ∷ raw "{'mId':'gD613E30-d8f1-6adf-91b7-584a2265b1f5'}"
      ∷ raw "{'mId':'GD613E30-d8f1-6adf-91b7-584a2265b1f5'}"
      ∷ raw "{'mId':'/D613E30-d8f1-6adf-91b7-584a2265b1f5'}" ∷ raw "{'mId':':D613E30-d8f1-6adf-91b7-584a2265b1f5'}"
      ∷ raw "{'mId':'@D613E30-d8f1-6adf-91b7-584a2265b1f5'}"
      ∷ raw "{'mId':'`D613E30-d8f1-6adf-91b7-584a2265b1f5'}" ∷ raw "{'mId':'CD613E30.d8f1-6adf-91b7-584a2265b1f5'}"
      ∷ raw "{'mId':'CD613E30-d8f1-6adf-91b7-584a2265b1f50'}" ∷ [])
      ≡ ignored 12
  -- every digit is readable, and repeated as it was
  pub readable : hears running (raw "{'mId':'01234567-89ab-cdef-ABCD-EF0000000000'}" ∷ [])
      ≡ writes (json "{'mType':'rSMsg','type':'MessageNotAck','oMId':'01234567-89ab-cdef-ABCD-EF0000000000','rea':'Missing element'}" ++ (0x0C ∷ [])) ∷ []
  -- "in Greeting, all but type Version and the two answers"
  pub greeting : each offering
      (to_greeting "Watchdog" ",'wTs':'2009-10-01T11:59:31.571Z'" ∷ to_greeting "StatusRequest" ",'cId':'K0','sS':[]"
      ∷ to_greeting "StatusSubscribe" ",'cId':'K0','sS':[]"
      ∷ to_greeting "StatusUnsubscribe" ",'cId':'K0','sS':[]" ∷ to_greeting "AggregatedStatusRequest" ",'cId':'K0'"
      ∷ to_greeting "CommandRequest" ",'cId':'K2','arg':[]"
      ∷ to_greeting "Alarm" ",'cId':'K1','aCId':'A1','aSp':'Request'" ∷ to_greeting "Foo" "" ∷ gets 0 3 "{'mId':'CD613E30-d8f1-6adf-91b7-584a2265b1f5'}" ∷ [])
      ≡ ignored 9
  pub version_in_greeting : each offering (to_greeting "Version" "" ∷ gets 0 3 "{'mId':'CD613E30-d8f1-6adf-91b7-584a2265b1f5','type':'Version'}" ∷ [])
      ≡ refused 2 "Missing element"

pub record Passed : Type 0 where
  -- "Unknown elements are passed over": also those that another type needs. No status, command, reply or value is asked for by them
  pub of_statuses : hears running (of "Watchdog"
      ",'wTs':'2009-10-01T11:59:31.571Z','cId':'K0','sS':[{'sCI':'S9','n':'x'}],'arg':[{'cCI':'M9','n':'x','v':'5'}]" ∷ []) ≡ taken 1
  pub of_commands : hears running (of "Watchdog" ",'wTs':'2009-10-01T11:59:31.571Z','cId':'K2','arg':[{'cCI':'M1','n':'boom','v':'9'}]" ∷ []) ≡ taken 1
  pub handed_over : hears running (of "AggregatedStatusRequest" ",'cId':'K0','arg':[{'cCI':'M3','n':'gate','cO':'x','v':'0'}]" ∷ [])
      ≡ writes (replied "AggregatedStatus"
      ("K0','aSTS':'2009-10-01T11:59:31.571Z','fP':'','fS':'','se':[false,false,false,false,false,false,false,false]}" ∷ [])) ∷ []
  pub of_alarms : hears running (ask 0 1 "StatusUnsubscribe" ",'cId':'K0','sS':[],'aSp':'Request'" ∷ []) ≡ taken 1

pub record Reasons : Type 0 where
  -- "mType "Missing element" or "Bad value"", before "Unexpected"
  pub mtype : each running (raw "{'mId':'CD613E30-d8f1-6adf-91b7-584a2265b1f5'}" ∷ raw "{'mId':'CD613E30-d8f1-6adf-91b7-584a2265b1f5','mType':'rSMsgx'}"
      ∷ raw "{'mId':'CD613E30-d8f1-6adf-91b7-584a2265b1f5','mType':5}" ∷ [])
      ≡ refused 1 "Missing element" ++ refused 2 "Bad value"
  -- "type missing, no string or not taken, Version before ours went out or after theirs was accepted", before "Not ready"
  pub unexpected : each running
      (raw "{'mType':'rSMsg','mId':'CD613E30-d8f1-6adf-91b7-584a2265b1f5'}" ∷ raw "{'mType':'rSMsg','mId':'CD613E30-d8f1-6adf-91b7-584a2265b1f5','type':5}"
      ∷ of "watchdog" "" ∷ of "AggregatedStatus" "" ∷ of "StatusResponse" "" ∷ of "StatusUpdate" "" ∷ of "CommandResponse" "" ∷ of "Version" ""
      ∷ to_beating "Foo" "" ∷ to_beating "Version" "" ∷ [])
      ≡ refused 10 "Unexpected"
  -- "Not ready (Beating, not Watchdog)", before "Missing element"
  pub not_ready_lem : each running
      (to_beating "Alarm" "" ∷ to_beating "AggregatedStatusRequest" "" ∷ to_beating "StatusRequest" "" ∷ to_beating "StatusSubscribe" ""
      ∷ to_beating "StatusUnsubscribe" "" ∷ to_beating "CommandRequest" "" ∷ [])
      ≡ refused 6 "Not ready"
  pub ready : each running (to_beating "Watchdog" ",'wTs':'2009-10-01T11:59:31.571Z'" ∷ to_beating "Watchdog" "" ∷ []) ≡ taken 1 ++ refused 1 "Missing element"
  -- "Needed besides mType, type and mId": "Missing element" before "Bad value"
  pub version_lacks : each offering
      (to_greeting "Version" ",'siteId':[],'SXL':5" ∷ to_greeting "Version" ",'RSMP':[],'SXL':5" ∷ to_greeting "Version" ",'RSMP':5,'siteId':[]"
      ∷ to_greeting "Version" ",'RSMP':[{'vers':'3.2'},{}],'siteId':[],'SXL':5" ∷ to_greeting "Version" ",'RSMP':[],'siteId':[{'sId':'J4'},{}],'SXL':5" ∷ [])
      ≡ refused 5 "Missing element"
  pub alarm_lacks : each running
      (of "Alarm" ",'aCId':'A1','aSp':'Issue'" ∷ of "Alarm" ",'cId':'K1','aSp':'Issue'" ∷ of "Alarm" ",'cId':'','aCId':'A1'"
      ∷ of "AggregatedStatusRequest" ",'cid':'K0'" ∷ [])
      ≡ refused 4 "Missing element"
  pub status_lacks : each running
      (of "StatusRequest" ",'sS':[{'sCI':'','n':''}]" ∷ of "StatusRequest" ",'cId':''" ∷ of "StatusRequest" ",'cId':'','sS':[5,{'sCI':'S1'}]"
      ∷ of "StatusRequest" ",'cId':'','sS':[{'n':'level'}]"
      ∷ of "StatusUnsubscribe" ",'sS':[]" ∷ of "StatusUnsubscribe" ",'cId':''" ∷ of "StatusUnsubscribe" ",'cId':'','sS':[{'sCI':'S1'}]"
      ∷ of "StatusUnsubscribe" ",'cId':'','sS':[{'n':'level'}]" ∷ [])
      ≡ refused 8 "Missing element"
  pub subscribe_lacks : each running
      (every ",'sS':[]" ∷ every ",'cId':''" ∷ every ",'cId':'','sS':[{'n':'level','uRt':'1','sOc':true}]"
      ∷ every ",'cId':'','sS':[{'sCI':'S1','uRt':'1','sOc':true}]"
      ∷ every ",'cId':'','sS':[{'sCI':'S1','n':'level','sOc':true}]" ∷ every ",'cId':'','sS':[{'sCI':'S1','n':'level','uRt':'1'}]" ∷ [])
      ≡ refused 6 "Missing element"
  pub command_lacks : each running
      (of "CommandRequest" ",'arg':[]" ∷ of "CommandRequest" ",'cId':''" ∷ of "CommandRequest" ",'cId':'','arg':[{'n':'boom','cO':'x','v':'5'}]"
      ∷ of "CommandRequest" ",'cId':'','arg':[{'cCI':'M1','cO':'x','v':'5'}]" ∷ of "CommandRequest" ",'cId':'','arg':[{'cCI':'M1','n':'boom','v':'5'}]"
      ∷ of "CommandRequest" ",'cId':'','arg':[{'cCI':'M1','n':'boom','cO':'x'}]" ∷ [])
      ≡ refused 6 "Missing element"

pub record BadValues : Type 0 where
  -- "A wrong JSON kind is "Bad value"", and a string that is no such; before the three checks and the unknown ones
  pub version_bad : each offering
      (to_greeting "Version" ",'RSMP':{},'siteId':[],'SXL':'x'" ∷ to_greeting "Version" ",'RSMP':[],'siteId':'J4','SXL':'x'"
      ∷ to_greeting "Version" ",'RSMP':[],'siteId':[],'SXL':5"
      ∷ to_greeting "Version" ",'RSMP':[{'vers':3.2}],'siteId':[],'SXL':'x'" ∷ to_greeting "Version" ",'RSMP':[],'siteId':[{'sId':null}],'SXL':'x'"
      ∷ to_greeting "Version" ",'RSMP':['3.2'],'siteId':[],'SXL':'x'"
      ∷ to_greeting "Version" ",'RSMP':[],'siteId':['J4'],'SXL':'x'" ∷ to_greeting "Version" ",'RSMP':[],'siteId':[{'sId':''}],'SXL':'x'"
      ∷ to_greeting "Version" ",'RSMP':[],'siteId':[],'SXL':''" ∷ [])
      ≡ refused 9 "Bad value"
  pub watchdog_bad : each running
      (of "Watchdog" ",'wTs':5" ∷ of "Watchdog" ",'wTs':'2009-10-01T11:59:31.571'" ∷ of "Watchdog" ",'wTs':'2009-02-29T11:59:31.571Z'"
      ∷ of "Watchdog" ",'wTs':'2009-10-01T24:00:00.000Z'"
      ∷ of "Watchdog" ",'wTs':'1969-12-31T23:59:59.999Z'" ∷ of "Watchdog" ",'wTs':'2009-10-01T11:59:31.5719999Z'" ∷ [])
      ≡ refused 6 "Bad value"
  pub alarm_bad : each running
      (of "Alarm" ",'cId':5,'aCId':'A1','aSp':'Request'" ∷ of "Alarm" ",'cId':'K9','aCId':[],'aSp':'Request'"
      ∷ of "Alarm" ",'cId':'K9','aCId':'A1','aSp':'Issue'" ∷ of "Alarm" ",'cId':'K9','aCId':'A1','aSp':'request'"
      ∷ of "Alarm" ",'cId':'K9','aCId':'','aSp':'Request'" ∷ of "Alarm" ",'cId':'K9','aCId':'A1','aSp':true" ∷ of "AggregatedStatusRequest" ",'cId':''"
      ∷ of "AggregatedStatusRequest" ",'cId':null" ∷ [])
      ≡ refused 8 "Bad value"
  pub status_bad : each running
      (of "StatusRequest" ",'cId':'','sS':[]" ∷ of "StatusRequest" ",'cId':'K9','sS':{}" ∷ of "StatusRequest" ",'cId':'K9','sS':[5]"
      ∷ of "StatusRequest" ",'cId':'K9','sS':[{'sCI':'S1','n':5}]" ∷ of "StatusRequest" ",'cId':'K9','sS':[{'sCI':'','n':'level'}]"
      ∷ of "StatusUnsubscribe" ",'cId':'','sS':[]" ∷ of "StatusUnsubscribe" ",'cId':'K9','sS':'x'"
      ∷ of "StatusUnsubscribe" ",'cId':'K9','sS':[{'sCI':'S1','n':''}]" ∷ [])
      ≡ refused 8 "Bad value"
  -- "uRt is decimal text, seconds 0 to 86400 without leading zeros, sOc a boolean; 0 with false is "Bad value""
  pub subscribe_bad : each running
      (every ",'cId':'K9','sS':[{'sCI':'S1','n':'level','uRt':'86401','sOc':true}]"
      ∷ every ",'cId':'K9','sS':[{'sCI':'S1','n':'level','uRt':'01','sOc':true}]" ∷ every ",'cId':'K9','sS':[{'sCI':'S1','n':'level','uRt':'','sOc':true}]"
      ∷ every ",'cId':'K9','sS':[{'sCI':'S1','n':'level','uRt':1,'sOc':true}]" ∷ every ",'cId':'K9','sS':[{'sCI':'S1','n':'level','uRt':'1','sOc':'true'}]"
      ∷ every ",'cId':'K9','sS':[{'sCI':'S1','n':'level','uRt':'0','sOc':false}]"
      ∷ every ",'cId':'K9','sS':[{'sCI':'','n':'level','uRt':'1','sOc':true}]" ∷ every ",'cId':'K9','sS':[{'sCI':'S1','n':'','uRt':'1','sOc':true}]"
      ∷ every ",'cId':'','sS':[]" ∷ every ",'cId':'K9','sS':[{'sCI':'S1','n':'level','uRt':'x','sOc':true}]" ∷ [])
      ≡ refused 10 "Bad value"
  pub subscribe_good : each running
      (every ",'cId':'K0','sS':[{'sCI':'S1','n':'level','uRt':'86400','sOc':false}]"
      ∷ every ",'cId':'K0','sS':[{'sCI':'S1','n':'level','uRt':'0','sOc':true}]" ∷ every ",'cId':'K0','sS':[{'sCI':'S1','n':'level','uRt':'1','sOc':false}]"
      ∷ [])
      ≡ taken 3
  -- "Used strings other than identities and times: 1 to 32 bytes of the table's alphabet": of 0x20 to 0x7E without " and \
  pub strings : each running
      (component_of (replicate 33 0x41) ∷ component_of [] ∷ component_of (0x7F ∷ []) ∷ component_of (0xC3 ∷ 0xA5 ∷ []) ∷ component_of (text "\\u001f")
      ∷ component_of (text "\\\"") ∷ component_of (text "\\\\") ∷ [])
      ≡ refused 7 "Bad value"
  pub longest_string : hears running (component_of (replicate 31 0x20 ++ (0x7E ∷ [])) ∷ [])
      ≡ writes (replied "StatusResponse"
      ("                               ~','sTs':'2009-10-01T11:59:31.571Z','sS':[]}" ∷ [])) ∷ []
  -- "At most 16 entries in `sS`, 16 in Version's lists"; "`arg` keeps the limits of `sS`": 16 of them pass and the last decides, 17 do not
  pub sixteen : each running
      (many 0 "StatusUnsubscribe','cId':'K0','sS':[" "{'sCI':'S1','n':'level'}," "{'sCI':'S1','n':'level'}]}" 15
      ∷ many 0 "StatusUnsubscribe','cId':'K0','sS':[" "{'sCI':'S1','n':'level'}," "{'sCI':'S1','n':'flow'}]}" 15
      ∷ many 0 "StatusUnsubscribe','cId':'K0','sS':[" "{'sCI':'S1','n':'level'}," "{'sCI':'S1','n':'level'}]}" 16
      ∷ many 0 "CommandRequest','cId':'K2','arg':[" "{'cCI':'M1','n':'boom','cO':'x','v':'5'}," "{'cCI':'M9','n':'boom','cO':'x','v':'5'}]}" 15
      ∷ many 0 "CommandRequest','cId':'K2','arg':[" "{'cCI':'M1','n':'boom','cO':'x','v':'5'}," "{'cCI':'M9','n':'boom','cO':'x','v':'5'}]}" 16 ∷ [])
      ≡ writes acks ∷ writes (refuses_for "Unknown status") ∷ writes (refuses_for "Bad value") ∷ writes (refuses_for "Unknown command")
      ∷ writes (refuses_for "Bad value") ∷ []
  pub sixteen_versions : each offering
      (many 3 "Version','SXL':'2.1','siteId':[{'sId':'J4'}],'RSMP':[" "{'vers':'3.1.3'}," "{'vers':'3.2'}]}" 15
      ∷ many 3 "Version','SXL':'2.1','siteId':[{'sId':'J4'}],'RSMP':[" "{'vers':'3.1.3'}," "{'vers':'3.2'}]}" 16
      ∷ many 3 "Version','SXL':'2.1','RSMP':[{'vers':'3.2'}],'siteId':[" "{'sId':'J5'}," "{'sId':'J4'}]}" 15
      ∷ many 3 "Version','SXL':'2.1','RSMP':[{'vers':'3.2'}],'siteId':[" "{'sId':'J5'}," "{'sId':'J4'}]}" 16 ∷ [])
      ≡ writes acks ∷ writes (refuses_for "Bad value") ∷ writes acks ∷ writes (refuses_for "Bad value") ∷ []

pub record Known : Type 0 where
  -- "Unknown component", before "Unknown alarm"; "in AggregatedStatusRequest every component but 0"
  pub unknown_component_lem : each running
      (of "Alarm" ",'cId':'K9','aCId':'A1','aSp':'Suspend'" ∷ of "Alarm" ",'cId':'K9','aCId':'A9','aSp':'Request'"
      ∷ of "AggregatedStatusRequest" ",'cId':'K1'" ∷ of "AggregatedStatusRequest" ",'cId':'K9'" ∷ [])
      ≡ refused 4 "Unknown component"
  pub unknown_alarm_lem : each running
      (of "Alarm" ",'cId':'K0','aCId':'A1','aSp':'Suspend'" ∷ of "Alarm" ",'cId':'K1','aCId':'A2','aSp':'Request'" ∷ []) ≡ refused 2 "Unknown alarm"
  -- "An unknown component in StatusRequest is answered ..; in the other status types it is "Unknown status""; "all entries pass or none is done"
  pub unknown_status_lem : each running
      (of "StatusRequest" ",'cId':'K0','sS':[{'sCI':'S1','n':'level'},{'sCI':'S1','n':'flow'}]"
      ∷ of "StatusUnsubscribe" ",'cId':'K1','sS':[{'sCI':'S2','n':'level'}]" ∷ of "StatusUnsubscribe" ",'cId':'K9','sS':[]"
      ∷ every ",'cId':'K9','sS':[]" ∷ every ",'cId':'K0','sS':[{'sCI':'S1','n':'level','uRt':'1','sOc':true},{'sCI':'S2','n':'level','uRt':'1','sOc':true}]"
      ∷ [])
      ≡ refused 5 "Unknown status"
  pub none_is_done : leaves running (every ",'cId':'K0','sS':[{'sCI':'S1','n':'level','uRt':'1','sOc':true},{'sCI':'S2','n':'level','uRt':'1','sOc':true}]"
      ∷ []) ≡ running
  -- "Busy (a reply is due and 16 are awaited)", last of all
  pub busy : each (awaiting_on 1 (awaited 16) (awaiting_on 0 (awaited 16) running))
      (of "StatusRequest" ",'cId':'K9','sS':[]" ∷ of "AggregatedStatusRequest" ",'cId':'K0'" ∷ of "CommandRequest" ",'cId':'K2','arg':[]"
      ∷ order 0 1 "Request" ∷ [])
      ≡ refused 4 "Busy"
  pub not_busy : each (awaiting_on 1 (awaited 16) (awaiting_on 0 (awaited 16) running))
      (order 0 0 "Request" ∷ order 0 1 "Suspend" ∷ of "StatusUnsubscribe" ",'cId':'K0','sS':[]" ∷ every ",'cId':'K0','sS':[]" ∷ beats 0 0 ∷ []) ≡ taken 5
  pub before_busy : each (awaiting_on 0 (awaited 16) running)
      (of "StatusRequest" ",'cId':'K0','sS':[{'sCI':'S1','n':'flow'}]" ∷ of "CommandRequest" ",'cId':'K2','arg':[{'cCI':'M9','n':'boom','cO':'x','v':'5'}]"
      ∷ of "AggregatedStatusRequest" ",'cId':'K1'" ∷ [])
      ≡ refused 1 "Unknown status" ++ refused 1 "Unknown command" ++ refused 1 "Unknown component"
  -- .. 15 are not too many; the reply is awaited as any message that carries no record
  pub fifteen : leaves (awaiting_on 0 (awaited 15) running) (of "AggregatedStatusRequest" ",'cId':'K0'" ∷ []) ≡ awaiting_on 0 (awaited 16) running
  -- "9: the identity to be sent is already awaited on that link": of a reply
  pub reply_awaited : each (awaiting_on 0 (awaits 15 noon no_record ∷ []) running)
      (of "AggregatedStatusRequest" ",'cId':'K0'" ∷ of "AggregatedStatusRequest" ",'cId':'K1'" ∷ of "StatusUnsubscribe" ",'cId':'K0','sS':[]" ∷ [])
      ≡ gives 9 ∷ writes (refuses_for "Unknown component") ∷ writes acks ∷ []
  pub reply_to_primary : hears (awaiting_on 1 (awaits 15 noon no_record ∷ []) running) (order 0 1 "Request" ∷ []) ≡ gives 9 ∷ []
  pub reply_to_secondary : hears (with_life 1 beating (awaiting_on 0 (awaits 15 noon no_record ∷ []) running)) (of "AggregatedStatusRequest" ",'cId':'K0'" ∷ [])
      ≡ gives 9 ∷ []
  pub awaited_of_link_1 : leaves running (ask 0 1 "AggregatedStatusRequest" ",'cId':'K0'" ∷ []) ≡ awaiting_on 1 (awaits 15 noon no_record ∷ []) running
  -- .. behind 1
  pub ignored_before : hears (awaiting_on 0 (awaits 15 noon no_record ∷ []) running) (raw "{'mType':'rSMsg','type':'AggregatedStatusRequest','cId':'K0'}" ∷ [])
      ≡ gives 1 ∷ []
  -- "A status without a value so far: `s` null, `q` unknown. Otherwise `s` is the shortest decimal text, `q` recent"; StatusResponse has the call's time
  pub response : hears (with_status 2 (negsuc 2147483647) (with_status 1 (pos 20) running))
      (ask 2 0 "StatusRequest" ",'cId':'K1','sS':[{'sCI':'S1','n':'level'},{'sCI':'S2','n':'flow'},{'sCI':'S1','n':'flow'}]" ∷ [])
      ≡ writes (replied "StatusResponse"
      ("K1','sTs':'2009-10-01T11:59:31.573Z','sS':[" ∷ "{'sCI':'S1','n':'level','s':'20','q':'recent'}," ∷ "{'sCI':'S2','n':'flow','s':null,'q':'unknown'},"
      ∷ "{'sCI':'S1','n':'flow','s':'-2147483648','q':'recent'}]}" ∷ [])) ∷ []
  -- .. and of an unknown component `s` null, `q` undefined
  pub undefined : hears running (of "StatusRequest" ",'cId':'K9','sS':[{'sCI':'S1','n':'level'},{'sCI':'S7','n':'x'}]" ∷ [])
      ≡ writes (replied "StatusResponse"
      ("K9','sTs':'2009-10-01T11:59:31.571Z','sS':[" ∷ "{'sCI':'S1','n':'level','s':null,'q':'undefined'},"
      ∷ "{'sCI':'S7','n':'x','s':null,'q':'undefined'}]}" ∷ [])) ∷ []
  -- AggregatedStatus has the time of the last change
  pub aggregated_reply : hears (with_aggregated 0x42 (noon + 1) running) (ask 2 0 "AggregatedStatusRequest" ",'cId':'K0'" ∷ [])
      ≡ writes (replied "AggregatedStatus"
      ("K0','aSTS':'2009-10-01T11:59:31.572Z','fP':'','fS':'','se':[false,true,false,false,false,false,true,false]}" ∷ [])) ∷ []
