-- Cases of request 04, "Answers that carry their acknowledgement". Claims; the proofs are `refl`.
-- Assumes nothing.
use Prim.Native.String.{String}
use Rattle.std.specs.Prelude.{◌≡◌, true, List, [], ◌∷◌, ◌++◌, pos, negsuc}
use Rattle.std.proofs.Math.Option.{none}
use Rattle.basis.specs.Text.{text}
use Rattle.machine.specs.Words.{Bytes}
use Rattle.machine.specs.State.{exchange, fresh, life_of, with_life, Call}
use Rattle.machine.specs.State.Sent.{no_record}
use Rattle.machine.specs.State.Act.{status_value, tick}
use Rattle.machine.specs.Step.{leaves}
use Rattle.machine.specs.Example.{noon, at_noon, later}
use Rattle.machine.specs.Computed.{heard, hears, gives, writes, silent, refuses_for}
use Rattle.machine_cases.specs.Junction.{awaits, awaited, running, awaiting_on, json, jsons, ask, asks, replied}
use Rattle.machine_cases.specs.CasesAnswers.{each, ignored, refused, of, raw, many}
use Rattle.machine_cases.specs.CasesCommands.{command}

-- what stands in the place of our MessageAck: it repeats the mId, and has none of its own
abbrev pub responded : String → List String → Bytes
responded type parts =
    json "{'mType':'rSMsg','type':'" ++ text type ++ json "','oMId':'CD613E30-d8f1-6adf-91b7-584a2265b1f5','ntsOId':'','xNId':'','cId':'" ++ jsons parts
    ++ (0x0C ∷ [])

-- each type with nothing asked for, and the responses to the new ones
abbrev pub four_ask : List Call
four_ask =
    of "StatusRequest" ",'cId':'K0','sS':[]" ∷ of "StatusRequestAckIncluded" ",'cId':'K0','sS':[]"
    ∷ of "CommandRequest" ",'cId':'K0','arg':[]" ∷ of "CommandRequestAckIncluded" ",'cId':'K0','arg':[]" ∷ []

abbrev pub no_status : Bytes
no_status = responded "StatusResponseAckIncluded" ("K0','sTs':'2009-10-01T11:59:31.571Z','sS':[]}" ∷ [])

abbrev pub no_command : Bytes
no_command = responded "CommandResponseAckIncluded" ("K0','cTS':'2009-10-01T11:59:31.571Z','rvs':[]}" ∷ [])

pub record Responding : Type 0 where
  -- "A good request gets one response with oMId equal to the request's mId and no identity of its own": entries in order, at the call's time, on any link
  pub statuses_told : hears running (at_noon (status_value 2 (negsuc 8))
      ∷ asks 1 1 "StatusRequestAckIncluded" (",'cId':'K1','sS':[" ∷ "{'sCI':'S2','n':'flow'},{'sCI':'S1','n':'flow'}]" ∷ [])
      ∷ asks 2 0 "StatusRequestAckIncluded" (",'cId':'K1','sS':[" ∷ "{'sCI':'S1','n':'flow'}]" ∷ []) ∷ [])
      ≡ silent
      ∷ writes (responded "StatusResponseAckIncluded"
      ("K1','sTs':'2009-10-01T11:59:31.572Z','sS':[" ∷ "{'sCI':'S2','n':'flow','s':null,'q':'unknown'},"
      ∷ "{'sCI':'S1','n':'flow','s':'-9','q':'recent'}]}" ∷ []))
      ∷ writes (responded "StatusResponseAckIncluded"
      ("K1','sTs':'2009-10-01T11:59:31.573Z','sS':[" ∷ "{'sCI':'S1','n':'flow','s':'-9','q':'recent'}]}" ∷ [])) ∷ []
  -- .. and a command is handed over as before
  pub commands_handed : hears running (asks 2 0 "CommandRequestAckIncluded"
      (",'cId':'K1','arg':[" ∷ "{'cCI':'M2','n':'lamp','cO':'x','v':'3'}," ∷ "{'cCI':'M1','n':'boom','cO':'x','v':'9'}]" ∷ []) ∷ [])
      ≡ heard 0 (responded "CommandResponseAckIncluded"
      ("K1','cTS':'2009-10-01T11:59:31.573Z','rvs':[" ∷ "{'cCI':'M2','n':'lamp','v':'3','age':'recent'},"
      ∷ "{'cCI':'M1','n':'boom','v':'9','age':'recent'}]}" ∷ []))
      [] none (command 3 (pos 3) ∷ command 1 (pos 9) ∷ []) ∷ []
  -- an unknown component is a good request; nothing is handed over
  pub undefined : each running
      (of "StatusRequestAckIncluded" ",'cId':'K9','sS':[{'sCI':'S1','n':'level'}]"
      ∷ of "CommandRequestAckIncluded" ",'cId':'K9','arg':[{'cCI':'M1','n':'boom','cO':'x','v':'5'}]" ∷ [])
      ≡ writes (responded "StatusResponseAckIncluded"
      ("K9','sTs':'2009-10-01T11:59:31.571Z','sS':[" ∷ "{'sCI':'S1','n':'level','s':null,'q':'undefined'}]}" ∷ []))
      ∷ writes (responded "CommandResponseAckIncluded"
      ("K9','cTS':'2009-10-01T11:59:31.571Z','rvs':[" ∷ "{'cCI':'M1','n':'boom','v':null,'age':'undefined'}]}" ∷ [])) ∷ []
  -- the mId comes back as it was written, capitals and small letters
  pub unchanged : each running
      (raw "{'mType':'rSMsg','type':'StatusRequestAckIncluded','mId':'abcdefAB-CDEF-abCD-eFaB-cDeFAbCdEf09','cId':'K0','sS':[]}" ∷ [])
      ≡ writes (json "{'mType':'rSMsg','type':'StatusResponseAckIncluded','oMId':'abcdefAB-CDEF-abCD-eFaB-cDeFAbCdEf09','ntsOId':'','xNId':'',"
      ++ json "'cId':'K0','sTs':'2009-10-01T11:59:31.571Z','sS':[]}" ++ (0x0C ∷ [])) ∷ []
  -- whatever version was chosen
  pub older : each (with_life 0 (life_of true (exchange true true true) (exchange true true true) (3 ∷ 1 ∷ 4 ∷ []) noon 1 []) running)
      (of "StatusRequestAckIncluded" ",'cId':'K0','sS':[]" ∷ []) ≡ writes no_status ∷ []

pub record NotResponding : Type 0 where
  -- "A bad request still gets MessageNotAck", and nothing is handed over: elements, limits and reasons are those of the old types
  pub missing : each running
      (of "StatusRequestAckIncluded" ",'cId':'K0'" ∷ of "StatusRequestAckIncluded" ",'sS':[]" ∷ of "StatusRequestAckIncluded" ",'cId':'K0','sS':[{'sCI':'S1'}]"
      ∷ of "CommandRequestAckIncluded" ",'cId':'K2','sS':[]" ∷ of "CommandRequestAckIncluded" ",'cId':'K2','arg':[{'cCI':'M1','n':'boom','v':'5'}]"
      ∷ raw "{'type':'StatusRequestAckIncluded','mId':'CD613E30-d8f1-6adf-91b7-584a2265b1f5','cId':'K0','sS':[]}" ∷ []) ≡ refused 6 "Missing element"
  pub bad : each running
      (of "StatusRequestAckIncluded" ",'cId':'','sS':[]" ∷ of "StatusRequestAckIncluded" ",'cId':'K0','sS':'x'"
      ∷ of "CommandRequestAckIncluded" ",'cId':'K2','arg':[{'cCI':'M1','n':'boom','cO':'x','v':'05'}]"
      ∷ many 0 "StatusRequestAckIncluded','cId':'K0','sS':[" "{'sCI':'S1','n':'level'}," "{'sCI':'S1','n':'level'}]}" 16
      ∷ many 0 "CommandRequestAckIncluded','cId':'K2','arg':[" "{'cCI':'M1','n':'boom','cO':'x','v':'5'}," "{'cCI':'M1','n':'boom','cO':'x','v':'5'}]}" 16 ∷ [])
      ≡ refused 5 "Bad value"
  pub out_of_range : each running
      (of "CommandRequestAckIncluded" ",'cId':'K2','arg':[{'cCI':'M1','n':'boom','cO':'x','v':'6'}]"
      ∷ of "CommandRequestAckIncluded" ",'cId':'K2','arg':[{'cCI':'M9','n':'boom','cO':'x','v':'5'},{'cCI':'M1','n':'boom','cO':'x','v':'-3'}]" ∷ [])
      ≡ refused 2 "Bad value"
  pub unknown_status_lem : each running
      (of "StatusRequestAckIncluded" ",'cId':'K0','sS':[{'sCI':'S1','n':'level'},{'sCI':'S1','n':'flow'}]" ∷ []) ≡ refused 1 "Unknown status"
  pub unknown_command_lem : each running
      (of "CommandRequestAckIncluded" ",'cId':'K2','arg':[{'cCI':'M1','n':'boom','cO':'x','v':'5'},{'cCI':'M9','n':'boom','cO':'x','v':'5'}]" ∷ [])
      ≡ refused 1 "Unknown command"
  -- the four types alone are named so, and two of them are ours to write
  pub unexpected : each running
      (of "StatusResponseAckIncluded" ",'cId':'K0','sS':[]" ∷ of "CommandResponseAckIncluded" ",'cId':'K0','arg':[]" ∷ of "AckIncluded" ",'cId':'K0','sS':[]"
      ∷ of "AggregatedStatusRequestAckIncluded" ",'cId':'K0'" ∷ of "StatusSubscribeAckIncluded" ",'cId':'K0','sS':[]"
      ∷ of "StatusRequestackIncluded" ",'cId':'K0','sS':[]" ∷ of "StatusRequestAckIncluded2" ",'cId':'K0','sS':[]" ∷ []) ≡ refused 7 "Unexpected"
  -- as every request: without a readable mId, or in Greeting, ignored; in Beating "Not ready"
  pub unready : each (with_life 1 (fresh true) running)
      (raw "{'mType':'rSMsg','type':'StatusRequestAckIncluded','cId':'K0','sS':[]}" ∷ ask 0 1 "StatusRequestAckIncluded" ",'cId':'K0','sS':[]"
      ∷ ask 0 1 "CommandRequestAckIncluded" ",'cId':'K0','arg':[]" ∷ ask 0 2 "StatusRequestAckIncluded" ",'cId':'K0','sS':[]"
      ∷ ask 0 2 "CommandRequestAckIncluded" ",'cId':'K0','arg':[]" ∷ [])
      ≡ ignored 3 ++ refused 2 "Not ready"

pub record Unawaited : Type 0 where
  -- "nobody acknowledges it, so it takes no awaited place and is never "Busy""
  pub status_leaves : leaves running (of "StatusRequestAckIncluded" ",'cId':'K0','sS':[{'sCI':'S1','n':'level'}]" ∷ []) ≡ running
  pub command_leaves : leaves running (of "CommandRequestAckIncluded" ",'cId':'K2','arg':[{'cCI':'M1','n':'boom','cO':'x','v':'5'}]" ∷ []) ≡ running
  pub never_busy : each (awaiting_on 0 (awaited 16) running) four_ask
      ≡ writes (refuses_for "Busy") ∷ writes no_status ∷ writes (refuses_for "Busy") ∷ writes no_command ∷ []
  -- no number 9: the call's random bytes make no identity
  pub never_nine : each (awaiting_on 0 (awaits 15 noon no_record ∷ []) running) four_ask ≡ gives 9 ∷ writes no_status ∷ gives 9 ∷ writes no_command ∷ []
  -- both kinds mix on a link: what the old one awaits is still awaited, and closes the link; the response alone does not
  pub mixed : hears running (of "StatusRequestAckIncluded" ",'cId':'K0','sS':[]" ∷ of "StatusRequest" ",'cId':'K0','sS':[]"
      ∷ of "StatusRequestAckIncluded" ",'cId':'K0','sS':[]" ∷ later 30000 tick ∷ [])
      ≡ writes no_status ∷ writes (replied "StatusResponse" ("K0','sTs':'2009-10-01T11:59:31.571Z','sS':[]}" ∷ [])) ∷ writes no_status
      ∷ heard 0 [] (0 ∷ []) none [] ∷ []
  pub no_closing : hears running (of "StatusRequestAckIncluded" ",'cId':'K0','sS':[]" ∷ later 29999 tick ∷ later 30000 tick ∷ [])
      ≡ writes no_status ∷ silent ∷ silent ∷ []
  -- an acknowledgement of it answers nothing
  pub unasked : hears running (of "StatusRequestAckIncluded" ",'cId':'K0','sS':[]"
      ∷ raw "{'mType':'rSMsg','type':'MessageAck','oMId':'CD613E30-d8f1-6adf-91b7-584a2265b1f5'}" ∷ [])
      ≡ writes no_status ∷ gives 1 ∷ []
