-- Cases of request 01, "Commands from the supervisors". Claims; the proofs are `refl`.
-- Assumes nothing.
use Rattle.std.specs.Prelude.{ℕ, ◌≡◌, [], ◌∷◌, ◌++◌, ℤ, pos, negsuc}
use Prim.Native.String.{String}
use Rattle.std.proofs.Math.Option.{none}
use Rattle.basis.specs.Text.{text}
use Rattle.machine.specs.State.{Command, Call}
use Rattle.machine.specs.State.Act.{packet}
use Rattle.machine.specs.Example.{later, random}
use Rattle.machine.specs.Computed.{heard, hears, writes}
use Rattle.machine_cases.specs.Junction.{running, json, typed, ask, asks, replied}
use Rattle.machine_cases.specs.CasesAnswers.{each, refused}

abbrev pub command : ℕ → ℤ → Command
command number value = record { number = number; value = value }

-- one entry of component K2, or of another, with a value
abbrev pub boom_of : String → String → Call
boom_of component v =
    later 0 (packet 0 (random 15) (typed "CommandRequest" (json ",'cId':'" ++ text component ++ json "','arg':[{'cCI':'M1','n':'boom','cO':'x','v':"
    ++ json v ++ json "}]")) 4096)

abbrev pub boom : String → Call
boom v = boom_of "K2" v

pub record Commanding : Type 0 where
  -- "A value in its range is handed to the host and answered with age recent": its number in the table, entries in order, on any link
  pub handed : hears running (asks 2 0 "CommandRequest"
      (",'cId':'K1','arg':[" ∷ "{'cCI':'M2','n':'lamp','cO':'x','v':'3'}," ∷ "{'cCI':'M1','n':'lamp','cO':'x','v':'-9'},"
      ∷ "{'cCI':'M1','n':'boom','cO':'x','v':'9'}," ∷ "{'cCI':'M1','n':'lamp','cO':'x','v':'-3'}]" ∷ []) ∷ [])
      ≡ heard 0 (replied "CommandResponse"
      ("K1','cTS':'2009-10-01T11:59:31.573Z','rvs':[" ∷ "{'cCI':'M2','n':'lamp','v':'3','age':'recent'},"
      ∷ "{'cCI':'M1','n':'lamp','v':'-9','age':'recent'}," ∷ "{'cCI':'M1','n':'boom','v':'9','age':'recent'},"
      ∷ "{'cCI':'M1','n':'lamp','v':'-3','age':'recent'}]}" ∷ []))
      [] none (command 3 (pos 3) ∷ command 2 (negsuc 8) ∷ command 1 (pos 9) ∷ command 2 (negsuc 2) ∷ []) ∷ []
  -- "a value outside its range is "Bad value"", by one, below and above
  pub below_and_above : each running
      (boom "'-3'" ∷ boom "'6'" ∷ boom_of "K1" "'-1'" ∷ boom_of "K1" "'10'"
      ∷ ask 0 0 "CommandRequest" ",'cId':'K1','arg':[{'cCI':'M2','n':'lamp','cO':'x','v':'2'}]"
      ∷ ask 0 0 "CommandRequest" ",'cId':'K1','arg':[{'cCI':'M2','n':'lamp','cO':'x','v':'4'}]" ∷ [])
      ≡ refused 6 "Bad value"
  -- "v, shortest decimal text": of a signed 32-bit number. "an unknown component is answered with age undefined and v null", nothing handed over
  pub not_decimal : each running
      (boom_of "K9" "'05'" ∷ boom_of "K9" "'+5'" ∷ boom_of "K9" "'-0'" ∷ boom_of "K9" "''" ∷ boom_of "K9" "'-'" ∷ boom_of "K9" "5" ∷ boom_of "K9" "'2147483648'"
      ∷ boom_of "K9" "'-2147483649'" ∷ boom_of "K9" "'5 '" ∷ boom_of "K9" "'-05'" ∷ [])
      ≡ refused 10 "Bad value"
  pub undefined : each running (boom_of "K9" "'2147483647'" ∷ boom_of "K9" "'-2147483648'" ∷ boom_of "K9" "'0'" ∷ [])
      ≡ writes (replied "CommandResponse"
      ("K9','cTS':'2009-10-01T11:59:31.571Z','rvs':[" ∷ "{'cCI':'M1','n':'boom','v':null,'age':'undefined'}]}" ∷ []))
      ∷ writes (replied "CommandResponse"
      ("K9','cTS':'2009-10-01T11:59:31.571Z','rvs':[" ∷ "{'cCI':'M1','n':'boom','v':null,'age':'undefined'}]}" ∷ []))
      ∷ writes (replied "CommandResponse"
      ("K9','cTS':'2009-10-01T11:59:31.571Z','rvs':[" ∷ "{'cCI':'M1','n':'boom','v':null,'age':'undefined'}]}" ∷ [])) ∷ []
  pub two_undefined : hears running (ask 0 0 "CommandRequest"
      ",'cId':'K9','arg':[{'cCI':'M1','n':'boom','cO':'x','v':'5'},{'cCI':'M2','n':'lamp','cO':'x','v':'3'}]" ∷ [])
      ≡ writes (replied "CommandResponse"
      ("K9','cTS':'2009-10-01T11:59:31.571Z','rvs':[" ∷ "{'cCI':'M1','n':'boom','v':null,'age':'undefined'},"
      ∷ "{'cCI':'M2','n':'lamp','v':null,'age':'undefined'}]}" ∷ [])) ∷ []
  -- cCI, n and cO are used strings
  pub not_strings : each running
      (ask 0 0 "CommandRequest" ",'cId':'K2','arg':[{'cCI':'','n':'boom','cO':'x','v':'5'}]"
      ∷ ask 0 0 "CommandRequest" ",'cId':'K2','arg':[{'cCI':'M1','n':5,'cO':'x','v':'5'}]"
      ∷ ask 0 0 "CommandRequest" ",'cId':'K2','arg':[{'cCI':'M1','n':'boom','cO':'','v':'5'}]" ∷ ask 0 0 "CommandRequest" ",'cId':'','arg':[]"
      ∷ ask 0 0 "CommandRequest" ",'cId':'K2','arg':'x'" ∷ ask 0 0 "CommandRequest" ",'cId':'K2','arg':[5]" ∷ [])
      ≡ refused 6 "Bad value"
  -- "Unknown command", of its component, code and name; after a range; nothing is handed over of the others
  pub unknown : each running
      (ask 0 0 "CommandRequest" ",'cId':'K0','arg':[{'cCI':'M1','n':'boom','cO':'x','v':'5'}]"
      ∷ ask 0 0 "CommandRequest" ",'cId':'K2','arg':[{'cCI':'M1','n':'boom','cO':'x','v':'5'},{'cCI':'M1','n':'lamp','cO':'x','v':'-5'}]"
      ∷ ask 0 0 "CommandRequest" ",'cId':'K1','arg':[{'cCI':'M2','n':'boom','cO':'x','v':'3'}]" ∷ [])
      ≡ refused 3 "Unknown command"
  pub range_first : each running (ask 0 0 "CommandRequest"
      ",'cId':'K2','arg':[{'cCI':'M9','n':'boom','cO':'x','v':'5'},{'cCI':'M1','n':'boom','cO':'x','v':'6'}]" ∷ []) ≡ refused 1 "Bad value"
