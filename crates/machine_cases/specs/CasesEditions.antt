-- Cases of request 07, supervisors of the edition before, beside those of the machine's own Computed. Claims; the proofs are `refl`.
-- Assumes nothing.
use Rattle.std.specs.Prelude.{ℕ, ◌+◌, ◌≡◌, true, false, List, [], ◌∷◌, ◌++◌, pos}
use Prim.Native.String.{String}
use Rattle.std.proofs.Math.Option.{some, none}
use Rattle.machine.specs.State.{Subscription, exchange, life_of, fresh, Machine, with_life, with_subscriptions, life_at, Call}
use Rattle.machine.specs.State.Act.{connect, disconnect, status_value, tick}
use Rattle.machine.specs.Step.{leaves}
use Rattle.machine.specs.Example.{noon, later}
use Rattle.machine.specs.Computed.{hears, writes, acks, refuses_for}
use Rattle.machine_cases.specs.Junction.{running, pumped, ask, asks, answer, greet, replied}
use Rattle.machine_cases.specs.CasesLife.{offering, refusal, beats}
use Rattle.machine_cases.specs.CasesSubscriptions.{subscription, recent, four}

-- a link that is Up by that version
abbrev pub chosen_on : ℕ → List ℕ → Machine
chosen_on l version = with_life l (life_of true (exchange true true true) (exchange true true true) version noon (life_at running l).pass []) running

abbrev pub older : Machine
older = chosen_on 0 (3 ∷ 1 ∷ 4 ∷ [])

abbrev pub middle : Machine
middle = chosen_on 0 (3 ∷ 1 ∷ 5 ∷ [])

-- the third link's version after an offer
abbrev pub chosen_by : String → List ℕ
chosen_by versions = (life_at (leaves offering (greet 0 3 versions "{'sId':'J4'}" "2.1" ∷ [])) 3).version

-- a subscription to status 1, its entry going on so
abbrev pub subscribes : ℕ → ℕ → String → Call
subscribes ms l more = asks ms l "StatusSubscribe" (",'cId':'K1','sS':[{'sCI':'S1','n':'level'" ∷ more ∷ "}]" ∷ [])

abbrev pub keeps : Machine → List Call → List Subscription
keeps m cs = (leaves m cs).subscriptions

-- link 0 is closed and greets again, by that version
abbrev pub breaks : ℕ → String → List Call
breaks ms versions =
    later ms (disconnect 0) ∷ later ms (connect 0) ∷ pumped ms 0 1 ∷ answer ms 0 "MessageAck" 1 ∷ greet ms 0 versions "{'sId':'J4'}" "2.1"
    ∷ pumped ms 0 2 ∷ answer ms 0 "MessageAck" 2 ∷ beats ms 0 ∷ []

pub record Choices : Type 0 where
  -- "the latest common one is chosen", in any order and repeated; 3.1.4 is that number and no other
  pub middle_last : chosen_by "{'vers':'3.1.4'},{'vers':'3.1.5'}" ≡ 3 ∷ 1 ∷ 5 ∷ []
  pub middle_first : chosen_by "{'vers':'3.1.5'},{'vers':'3.1.4'},{'vers':'3.1.5'}" ≡ 3 ∷ 1 ∷ 5 ∷ []
  pub older_alone : chosen_by "{'vers':'3.1.4'},{'vers':'3.3'},{'vers':'3.1.4'}" ≡ 3 ∷ 1 ∷ 4 ∷ []
  pub nearly : hears offering (greet 0 3 "{'vers':'3.1.3'},{'vers':'3.1.40'},{'vers':'3.1'},{'vers':'3.2.4'}" "{'sId':'J4'}" "2.1" ∷ [])
      ≡ refusal "RSMP version" ∷ []

pub record OlderEntries : Type 0 where
  -- "a subscription has no sOc": an element of that name is passed over, whatever its kind; uRt as ever, and needed
  pub taken : hears older (subscribes 1 0 ",'uRt':'0','sOc':false" ∷ subscribes 1 0 ",'sOc':true,'uRt':'5'" ∷ subscribes 1 0 ",'uRt':'86400','sOc':{}" ∷ [])
      ≡ writes acks ∷ writes acks ∷ writes acks ∷ []
  pub refused : hears older (subscribes 1 0 ",'uRt':'86401'" ∷ subscribes 1 0 ",'uRt':'00'" ∷ subscribes 1 0 ",'uRt':5,'sOc':true"
      ∷ subscribes 1 0 ",'sOc':true" ∷ ask 1 0 "StatusSubscribe" ",'cId':'K1','sS':[{'n':'level','uRt':'5'}]"
      ∷ ask 1 0 "StatusSubscribe" ",'cId':'K1','sS':[{'sCI':'S1','uRt':'x'}]" ∷ [])
      ≡ writes (refuses_for "Bad value") ∷ writes (refuses_for "Bad value") ∷ writes (refuses_for "Bad value")
      ∷ writes (refuses_for "Missing element") ∷ writes (refuses_for "Missing element") ∷ writes (refuses_for "Missing element") ∷ []
  -- "uRt 0 means send on change and any other number means by interval only", entry by entry
  pub kept : keeps older (ask 1 0 "StatusSubscribe"
      ",'cId':'K1','sS':[{'sCI':'S2','n':'flow','uRt':'7','sOc':true},{'sCI':'S1','n':'level','uRt':'0','sOc':false},{'sCI':'S1','n':'flow','uRt':'1'}]" ∷ [])
      ≡ subscription 0 3 7 false (noon + 1) ∷ subscription 0 1 0 true (noon + 1) ∷ subscription 0 2 1 false (noon + 1) ∷ []
  pub replaced : keeps older (subscribes 1 0 ",'uRt':'0'" ∷ subscribes 2 0 ",'uRt':'5'" ∷ []) ≡ subscription 0 1 5 false (noon + 2) ∷ []
  pub by_interval : (leaves older (subscribes 1 0 ",'uRt':'5','sOc':true" ∷ later 2 (status_value 1 (pos 8)) ∷ later 5000 tick ∷ later 5001 tick ∷ [])).pool.held
      ≡ recent 5 0 1 none 1 ∷ recent 6 0 1 (some (pos 8)) 5001 ∷ []
  pub at_change : (leaves older (subscribes 1 0 ",'uRt':'0','sOc':false" ∷ later 86400001 tick ∷ later 86400002 (status_value 1 (pos 8))
      ∷ later 86400003 (status_value 1 (pos 8)) ∷ [])).pool.held
      ≡ recent 5 0 1 none 1 ∷ recent 6 0 1 (some (pos 8)) 86400002 ∷ []
  -- the other two types as they were
  pub ended : keeps (with_subscriptions (subscription 0 1 0 true noon ∷ []) older) (ask 1 0 "StatusUnsubscribe" ",'cId':'K1','sS':[{'sCI':'S1','n':'level'}]"
      ∷ []) ≡ []
  pub asked : hears older (ask 0 0 "StatusRequest" ",'cId':'K1','sS':[{'sCI':'S1','n':'level'}]"
      ∷ ask 0 0 "StatusUnsubscribe" ",'cId':'K1','sS':[{'sCI':'S1','n':'level','uRt':5}]" ∷ [])
      ≡ writes (replied "StatusResponse" ("K1','sTs':'2009-10-01T11:59:31.571Z','sS':[{'sCI':'S1','n':'level','s':null,'q':'unknown'}]}" ∷ []))
      ∷ writes acks ∷ []

pub record NewerEntries : Type 0 where
  -- 3.1.5 as 3.2: sOc is needed, a boolean, and decides
  pub needed : hears middle (subscribes 1 0 ",'uRt':'5'" ∷ subscribes 1 0 ",'uRt':'0','sOc':false" ∷ subscribes 1 0 ",'uRt':'5','sOc':'x'"
      ∷ subscribes 1 0 ",'uRt':'0','sOc':true" ∷ [])
      ≡ writes (refuses_for "Missing element") ∷ writes (refuses_for "Bad value") ∷ writes (refuses_for "Bad value") ∷ writes acks ∷ []
  pub decides : keeps middle (subscribes 1 0 ",'uRt':'5','sOc':true" ∷ []) ≡ subscription 0 1 5 true (noon + 1) ∷ []

pub record OnItsLink : Type 0 where
  -- the version is the link's that asks, not another's
  pub link_0_older : hears older (subscribes 1 1 ",'uRt':'5'" ∷ subscribes 1 0 ",'uRt':'5'" ∷ []) ≡ writes (refuses_for "Missing element") ∷ writes acks ∷ []
  pub link_1_older : hears (chosen_on 1 (3 ∷ 1 ∷ 4 ∷ [])) (subscribes 1 1 ",'uRt':'5'" ∷ subscribes 1 0 ",'uRt':'5'" ∷ [])
      ≡ writes acks ∷ writes (refuses_for "Missing element") ∷ []
  pub by_link_0 : keeps older (subscribes 1 1 ",'uRt':'5','sOc':true" ∷ subscribes 2 0 ",'uRt':'5','sOc':true" ∷ [])
      ≡ subscription 1 1 5 true (noon + 1) ∷ subscription 0 1 5 false (noon + 2) ∷ []
  pub by_link_1 : keeps (chosen_on 1 (3 ∷ 1 ∷ 4 ∷ [])) (subscribes 1 1 ",'uRt':'5','sOc':true" ∷ subscribes 2 0 ",'uRt':'5','sOc':true" ∷ [])
      ≡ subscription 1 1 5 false (noon + 1) ∷ subscription 0 1 5 true (noon + 2) ∷ []

pub record OverBreaks : Type 0 where
  -- "subscriptions kept over a break stay as they were made": from 3.1.4 to 3.2 and back, and from 3.2
  pub there_and_back : keeps older (subscribes 0 0 ",'uRt':'0'" ∷ breaks 1 "{'vers':'3.2'}" ++ breaks 2 "{'vers':'3.1.4'}") ≡ subscription 0 1 0 true noon ∷ []
  pub from_newer : keeps running (subscribes 0 0 ",'uRt':'5','sOc':true" ∷ breaks 1 "{'vers':'3.1.4'}" ++ breaks 2 "{'vers':'3.2'}")
      ≡ subscription 0 1 5 true noon ∷ []
  -- accepting their Version leaves every link's
  pub accepting : keeps (with_subscriptions four offering) (greet 0 3 "{'vers':'3.1.4'}" "{'sId':'J4'}" "2.1" ∷ []) ≡ four
  -- the version goes when the link closes; what comes in the next life is read by that life's
  pub gone : life_at (leaves older (later 1 (disconnect 0) ∷ later 1 (connect 0) ∷ [])) 0 ≡ fresh true
  pub read_anew : hears (leaves older (breaks 1 "{'vers':'3.2'}")) (subscribes 2 0 ",'uRt':'0'" ∷ []) ≡ writes (refuses_for "Missing element") ∷ []
  pub read_as_older : hears (leaves running (breaks 1 "{'vers':'3.1.4'}")) (subscribes 2 0 ",'uRt':'0'" ∷ []) ≡ writes acks ∷ []
