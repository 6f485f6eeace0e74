-- Cases of document 01, "Alarms and subscriptions": statuses, subscriptions, the aggregated value; request 02. Claims; the proofs are `refl`.
-- Assumes nothing.
use Rattle.std.specs.Prelude.{ℕ, ◌+◌, ◌≡◌, Bool, true, false, List, [], ◌∷◌, ℤ, pos, negsuc}
use Rattle.std.proofs.Math.Option.{Option, some, none}
use Rattle.machine.specs.State.{alarm_of, Subscription, Held, held_as, pool_of, Life, fresh, Machine, machine, with_status, with_subscriptions}
use Rattle.machine.specs.State.Event.{Issue}
use Rattle.machine.specs.State.Content.{of_status, of_aggregated}
use Rattle.machine.specs.State.Act.{status_value, aggregated_value, tick, disconnect}
use Rattle.machine.specs.Step.{leaves}
use Rattle.machine.specs.Example.{noon, later}
use Rattle.machine.specs.Computed.{hears, writes, acks}
use Rattle.machine_cases.specs.Junction.{up_life, beating, calm, running, ask}

abbrev pub subscription : ℕ → ℕ → ℕ → Bool → ℕ → Subscription
subscription link status interval on_change since =
    record { link = link; status = status; interval = interval; on_change = on_change; since = since }

abbrev pub subscribed_by : List Subscription → Machine
subscribed_by ss = with_subscriptions ss running

-- a status' record of a link, Up, and of one that is not
abbrev pub recent : ℕ → ℕ → ℕ → Option ℤ → ℕ → Held
recent n l i v ms = held_as l (of_status i v false (noon + ms)) n false

abbrev pub old : ℕ → ℕ → ℕ → Option ℤ → ℕ → Held
old n l i v ms = held_as l (of_status i v true (noon + ms)) n false

-- four subscriptions, the higher links and statuses first: by link 3, Down; by link 1 of two statuses; by link 0
abbrev pub four : List Subscription
four = subscription 3 1 5 true noon ∷ subscription 1 2 5 true noon ∷ subscription 1 1 5 false noon ∷ subscription 0 1 7 true noon ∷ []

pub record Subscribing : Type 0 where
  -- "A subscription issues a record at once": for its link, of each entry in order, with the value so far
  pub at_once : (leaves (with_status 3 (pos 4) running) (ask 1 0 "StatusSubscribe"
      ",'cId':'K1','sS':[{'sCI':'S2','n':'flow','uRt':'7','sOc':false},{'sCI':'S1','n':'level','uRt':'0','sOc':true}]" ∷ [])).pool.held
      ≡ recent 5 0 3 (some (pos 4)) 1 ∷ recent 6 0 1 none 1 ∷ []
  pub kept : (leaves running (ask 1 0 "StatusSubscribe"
      ",'cId':'K1','sS':[{'sCI':'S2','n':'flow','uRt':'7','sOc':false},{'sCI':'S1','n':'level','uRt':'0','sOc':true}]" ∷ [])).subscriptions
      ≡ subscription 0 3 7 false (noon + 1) ∷ subscription 0 1 0 true (noon + 1) ∷ []
  pub a_day : (leaves running (ask 1 0 "StatusSubscribe" ",'cId':'K0','sS':[{'sCI':'S1','n':'level','uRt':'86400','sOc':false}]" ∷ [])).subscriptions
      ≡ subscription 0 0 86400 false (noon + 1) ∷ []
  -- "A link has one subscription per status; a new one replaces it": not another link's, nor of another status
  pub replaced : (leaves (subscribed_by (subscription 0 1 5 true noon ∷ subscription 1 1 5 true noon ∷ subscription 0 3 5 true noon
      ∷ [])) (ask 1 0 "StatusSubscribe" ",'cId':'K1','sS':[{'sCI':'S1','n':'level','uRt':'9','sOc':false}]" ∷ [])).subscriptions
      ≡ subscription 1 1 5 true noon ∷ subscription 0 3 5 true noon ∷ subscription 0 1 9 false (noon + 1) ∷ []
  pub by_link_1 : (leaves (subscribed_by (subscription 1 2 5 true noon ∷ subscription 0 2 5 true noon ∷ [])) (ask 1 1 "StatusSubscribe"
      ",'cId':'K1','sS':[{'sCI':'S1','n':'level','uRt':'3','sOc':false},{'sCI':'S1','n':'flow','uRt':'9','sOc':false}]" ∷ [])).subscriptions
      ≡ subscription 0 2 5 true noon ∷ subscription 1 1 3 false (noon + 1) ∷ subscription 1 2 9 false (noon + 1) ∷ []
  pub told_link_1 : (leaves running (ask 1 1 "StatusSubscribe" ",'cId':'K1','sS':[{'sCI':'S1','n':'flow','uRt':'9','sOc':false}]" ∷ [])).pool.held
      ≡ recent 5 1 2 none 1 ∷ []
  -- ending one, of this link and status alone; "Ending one that isn't there is acknowledged only"
  pub ended : (leaves (subscribed_by four) (ask 1 1 "StatusUnsubscribe" ",'cId':'K1','sS':[{'sCI':'S1','n':'level'}]" ∷ [])).subscriptions
      ≡ subscription 3 1 5 true noon ∷ subscription 1 2 5 true noon ∷ subscription 0 1 7 true noon ∷ []
  pub two_ended : (leaves (subscribed_by four) (ask 1 1 "StatusUnsubscribe" ",'cId':'K1','sS':[{'sCI':'S1','n':'level'},{'sCI':'S1','n':'flow'}]"
      ∷ [])).subscriptions
      ≡ subscription 3 1 5 true noon ∷ subscription 0 1 7 true noon ∷ []
  pub two_of_link_0 : (leaves (subscribed_by (subscription 1 1 5 true noon ∷ subscription 0 1 5 true noon ∷ subscription 1 2 5 true noon
      ∷ subscription 0 2 5 true noon ∷ []))
      (ask 1 0 "StatusUnsubscribe" ",'cId':'K1','sS':[{'sCI':'S1','n':'level'},{'sCI':'S1','n':'flow'}]" ∷ [])).subscriptions
      ≡ subscription 1 1 5 true noon ∷ subscription 1 2 5 true noon ∷ []
  pub not_there : (leaves (subscribed_by four) (ask 1 0 "StatusUnsubscribe" ",'cId':'K1','sS':[{'sCI':'S1','n':'flow'}]" ∷ [])).subscriptions ≡ four
  pub answers : hears (subscribed_by four) (ask 1 1 "StatusUnsubscribe" ",'cId':'K1','sS':[{'sCI':'S1','n':'level'}]"
      ∷ ask 1 1 "StatusUnsubscribe" ",'cId':'K1','sS':[{'sCI':'S1','n':'level'}]" ∷ [])
      ≡ writes acks ∷ writes acks ∷ []
  pub ends_without_record : (leaves (subscribed_by four) (ask 1 1 "StatusUnsubscribe" ",'cId':'K1','sS':[{'sCI':'S1','n':'level'}]" ∷ [])).pool ≡ running.pool

pub record Values : Type 0 where
  -- "with sOc at a first or changed value": links upwards; a Down link's is old (request 02); that of link 1 has no sOc
  pub first_value : (leaves (subscribed_by four) (later 1 (status_value 1 (pos 8)) ∷ [])).pool.held ≡ recent 5 0 1 (some (pos 8)) 1
      ∷ old 6 3 1 (some (pos 8)) 1 ∷ []
  pub changed_value : (leaves (with_status 1 (pos 7) (subscribed_by four)) (later 1 (status_value 1 (negsuc 7)) ∷ [])).pool.held
      ≡ recent 5 0 1 (some (negsuc 7)) 1 ∷ old 6 3 1 (some (negsuc 7)) 1 ∷ []
  pub from_negative : (leaves (with_status 1 (negsuc 7) (subscribed_by four)) (later 1 (status_value 1 (pos 7)) ∷ [])).pool.held
      ≡ recent 5 0 1 (some (pos 7)) 1 ∷ old 6 3 1 (some (pos 7)) 1 ∷ []
  pub both_negative : (leaves (with_status 1 (negsuc 7) (subscribed_by four)) (later 1 (status_value 1 (negsuc 8)) ∷ [])).pool.held
      ≡ recent 5 0 1 (some (negsuc 8)) 1 ∷ old 6 3 1 (some (negsuc 8)) 1 ∷ []
  pub same_value : (leaves (with_status 1 (pos 7) (subscribed_by four)) (later 1 (status_value 1 (pos 7)) ∷ [])).pool.held ≡ []
  pub same_as_another : (leaves (with_status 2 (pos 6) (with_status 1 (pos 7) (subscribed_by four))) (later 1 (status_value 2 (pos 7)) ∷ [])).pool.held
      ≡ recent 5 1 2 (some (pos 7)) 1 ∷ []
  pub same_negative : (leaves (with_status 1 (negsuc 7) (subscribed_by four)) (later 1 (status_value 1 (negsuc 7)) ∷ [])).pool.held ≡ []
  -- the value is kept, of this status, subscribed or not
  pub value_kept : (leaves running (later 1 (status_value 1 (pos 7)) ∷ later 2 (status_value 3 (negsuc 0)) ∷ later 3 (status_value 1 (pos 8))
      ∷ later 4 (status_value 1 (pos 8)) ∷ [])).statuses
      ≡ none ∷ some (pos 8) ∷ none ∷ some (negsuc 0) ∷ []
  pub unsubscribed : (leaves running (later 1 (status_value 1 (pos 7)) ∷ [])).pool ≡ running.pool

pub record Intervals : Type 0 where
  -- "with uRt above 0 at a tick uRt or more after the subscribing call or the last tick that did so"; links upwards, statuses upwards
  pub too_soon : (leaves (subscribed_by four) (later 4999 tick ∷ [])).pool.held ≡ []
  pub in_time : (leaves (with_status 1 (pos 8) (subscribed_by four)) (later 5000 tick ∷ [])).pool.held
      ≡ recent 5 1 1 (some (pos 8)) 5000 ∷ recent 6 1 2 none 5000 ∷ old 7 3 1 (some (pos 8)) 5000 ∷ []
  pub renewed : (leaves (subscribed_by four) (later 5001 tick ∷ [])).subscriptions
      ≡ subscription 3 1 5 true (noon + 5001) ∷ subscription 1 2 5 true (noon + 5001) ∷ subscription 1 1 5 false (noon + 5001) ∷ subscription 0 1 7 true noon
      ∷ []
  pub last_status : (leaves (subscribed_by (subscription 3 3 1 true noon ∷ [])) (later 1 (status_value 3 (pos 8)) ∷ later 1000 tick ∷ [])).pool.held
      ≡ old 5 3 3 (some (pos 8)) 1 ∷ old 6 3 3 (some (pos 8)) 1000 ∷ []
  -- again by interval, from the tick that did so
  pub again : (leaves (subscribed_by (subscription 0 1 5 false noon ∷ [])) (later 6000 tick ∷ later 10999 tick ∷ later 11000 tick ∷ [])).pool.held
      ≡ recent 5 0 1 none 6000 ∷ recent 6 0 1 none 11000 ∷ []
  pub never_by_interval : (leaves (subscribed_by (subscription 0 1 0 true noon ∷ [])) (later 86400000 tick ∷ [])).pool.held ≡ []
  -- a record by sOc leaves the interval as it is
  pub not_by_value : (leaves (subscribed_by (subscription 0 1 5 true noon ∷ [])) (later 4000 (status_value 1 (pos 7)) ∷ [])).subscriptions
      ≡ subscription 0 1 5 true noon ∷ []
  -- subscriptions stay over a break; what is issued meanwhile is old, and stays so (request 02)
  pub over_a_break : (leaves (subscribed_by (subscription 0 1 5 true noon ∷ [])) (later 1 (disconnect 0) ∷ later 2 (status_value 1 (pos 7)) ∷ [])).pool.held
      ≡ old 5 0 1 (some (pos 7)) 2 ∷ []
  -- Beating is not Up
  pub while_beating : (leaves (subscribed_by (subscription 2 1 5 true noon ∷ [])) (later 2 (status_value 1 (pos 7)) ∷ [])).pool.held
      ≡ old 5 2 1 (some (pos 7)) 2 ∷ []

-- a machine of which no two parts are alike
abbrev pub distinct : Machine
distinct =
    machine running.setup (noon + 3) (calm ∷ alarm_of true false false Issue (noon + 1) ∷ calm ∷ []) (some (pos 1) ∷ none ∷ some (pos 3) ∷ none
    ∷ []) 6 (noon + 2)
    (subscription 3 1 5 false noon ∷ []) running.lives (pool_of 9 (held_as 1 (of_aggregated 6 (noon + 2)) 8 true ∷ []) (1 ∷ 2 ∷ 3 ∷ 4 ∷ []))

abbrev pub distinct_with : List (Option ℤ) → ℕ → ℕ → List Subscription → List Life → Machine
distinct_with statuses aggregated time subscriptions lives =
    machine running.setup (noon + 4) (calm ∷ alarm_of true false false Issue (noon + 1) ∷ calm ∷ []) statuses aggregated time subscriptions lives
    (pool_of 9 (held_as 1 (of_aggregated 6 (noon + 2)) 8 true ∷ []) (1 ∷ 2 ∷ 3 ∷ 4 ∷ []))

pub record Apart : Type 0 where
  -- a call changes what is its own and nothing else
  pub by_value : leaves distinct (later 4 (status_value 1 (pos 2)) ∷ [])
      ≡ distinct_with (some (pos 1) ∷ some (pos 2) ∷ some (pos 3) ∷ none ∷ []) 6 (noon + 2) (subscription 3 1 5 false noon ∷ []) running.lives
  pub by_ending : leaves distinct (ask 4 0 "StatusUnsubscribe" ",'cId':'K0','sS':[]" ∷ [])
      ≡ distinct_with (some (pos 1) ∷ none ∷ some (pos 3) ∷ none ∷ []) 6 (noon + 2) (subscription 3 1 5 false noon ∷ []) running.lives
  pub by_closing : leaves distinct (later 4 (disconnect 0) ∷ [])
      ≡ distinct_with (some (pos 1) ∷ none ∷ some (pos 3) ∷ none ∷ []) 6 (noon + 2) (subscription 3 1 5 false noon ∷ []) (fresh false ∷ up_life 4 [] ∷ beating
      ∷ fresh false ∷ [])
  pub by_order : leaves distinct (ask 4 0 "Alarm" ",'cId':'K2','aCId':'A2','aSp':'Resume'" ∷ [])
      ≡ distinct_with (some (pos 1) ∷ none ∷ some (pos 3) ∷ none ∷ []) 6 (noon + 2) (subscription 3 1 5 false noon ∷ []) running.lives
  pub by_aggregated : (leaves distinct (later 4 (aggregated_value 7) ∷ [])).statuses ≡ some (pos 1) ∷ none ∷ some (pos 3) ∷ none ∷ []
  pub by_tick : leaves distinct (later 4 tick ∷ [])
      ≡ distinct_with (some (pos 1) ∷ none ∷ some (pos 3) ∷ none ∷ []) 6 (noon + 2) (subscription 3 1 5 false noon ∷ []) running.lives

pub record Aggregates : Type 0 where
  -- "a changed one issues a record for every link", upwards, and is kept with its time
  pub every_link : (leaves running (later 1 (aggregated_value 0x81) ∷ [])).pool.held
      ≡ held_as 0 (of_aggregated 0x81 (noon + 1)) 5 false ∷ held_as 1 (of_aggregated 0x81 (noon + 1)) 6 false ∷ held_as 2 (of_aggregated 0x81 (noon + 1)) 7 false
      ∷ held_as 3 (of_aggregated 0x81 (noon + 1)) 8 false ∷ []
  pub value : (leaves running (later 1 (aggregated_value 0x81) ∷ later 2 (aggregated_value 0x81) ∷ [])).aggregated ≡ 0x81
  pub time : (leaves running (later 1 (aggregated_value 0x81) ∷ later 2 (aggregated_value 0x81) ∷ [])).aggregated_time ≡ noon + 1
  pub unchanged : (leaves running (later 1 (aggregated_value 0) ∷ [])).pool ≡ running.pool
