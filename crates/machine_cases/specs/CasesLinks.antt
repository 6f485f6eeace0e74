-- Cases of document 01 on every link, since a rule holds of each of them. Claims; the proofs are `refl`.
-- Assumes nothing.
use Rattle.std.specs.Prelude.{ℕ, ◌+◌, ◌≡◌, Bool, true, false, List, [], ◌∷◌, map}
use Rattle.std.proofs.Math.Option.{some, none}
use Rattle.machine.specs.State.{alarm_of, Subscription, Held, held_as, fresh, Machine, with_alarm, with_life, with_held, with_subscriptions, life_at, Call}
use Rattle.machine.specs.State.Event.{Issue}
use Rattle.machine.specs.State.Content.{of_alarm, of_aggregated}
use Rattle.machine.specs.State.Sent.{own_version, the_record}
use Rattle.machine.specs.State.Act.{connect, disconnect, alarm_input}
use Rattle.machine.specs.Life.{carried_by}
use Rattle.machine.specs.Step.{leaves}
use Rattle.machine.specs.Readings.{phase_of}
use Rattle.machine.specs.Example.{noon, later, at_noon, started}
use Rattle.machine.specs.Computed.{Heard, heard, hears, gives, writes, acks, refuses_for}
use Rattle.machine_cases.specs.Junction.{up_life, awaits, awaited, running, awaiting_on, pumped, ask, answer, order, replied}
use Rattle.machine_cases.specs.CasesLife.{versioned, agrees, beats, rung, alarm_held, aggregated_told}
use Rattle.machine_cases.specs.CasesAlarms.{led_by}
use Rattle.machine_cases.specs.CasesSubscriptions.{subscription}

-- every link Up; a record of each, number 5 upwards
abbrev pub every_up : Machine
every_up = with_life 2 (up_life 1 []) (with_life 3 (up_life 1 []) running)

abbrev pub one : Bool → ℕ → Held
one sent l = held_as l (of_aggregated 1 noon) (5 + l) sent

abbrev pub holding_each : Bool → Machine
holding_each sent = with_held (map (one sent) (0 ∷ 1 ∷ 2 ∷ 3 ∷ [])) every_up

-- what the links 2 and 3 hear of one call each
abbrev pub both : Machine → (ℕ → Call) → List (List Heard)
both m call = map (λ l. hears m (call l ∷ [])) (2 ∷ 3 ∷ [])

abbrev pub same : Heard → List (List Heard)
same h = (h ∷ []) ∷ (h ∷ []) ∷ []

-- the links of the records that are held, and which of them are sent
abbrev pub held_for : Machine → List ℕ
held_for m = map (λ h. h.link) m.pool.held

abbrev pub sent_of : Machine → List Bool
sent_of m = map (λ h. h.sent) m.pool.held

-- links 2 and 3 subscribe to statuses 0 and 1
abbrev pub subscribed : List Subscription
subscribed = subscription 2 0 5 true noon ∷ subscription 3 0 5 true noon ∷ subscription 2 1 5 true noon ∷ subscription 3 1 5 true noon ∷ []

pub record Links : Type 0 where
  -- 2, at each count of links
  pub no_such_link : map (λ n. hears (started n) (at_noon (connect n) ∷ [])) (1 ∷ 2 ∷ 3 ∷ []) ≡ (gives 2 ∷ []) ∷ (gives 2 ∷ []) ∷ (gives 2 ∷ []) ∷ []
  pub down : hears (with_life 2 (fresh false) running) (pumped 0 2 1 ∷ []) ≡ gives 6 ∷ []
  pub eight : both (awaiting_on 2 (awaited 8) (awaiting_on 3 (awaited 8) (holding_each false))) (λ l. pumped 0 l 9) ≡ same (gives 8)
  pub nine : both (awaiting_on 2 (awaited 7) (awaiting_on 3 (awaited 7) (holding_each false))) (λ l. pumped 0 l 6) ≡ same (gives 9)
  pub nine_replied : both (awaiting_on 2 (awaits 15 noon own_version ∷ []) (awaiting_on 3 (awaits 15 noon own_version
      ∷ []) every_up)) (λ l. ask 0 l "AggregatedStatusRequest" ",'cId':'K0'")
      ≡ same (gives 9)
  pub not_replied : both (awaiting_on 2 (awaits 15 noon own_version ∷ []) (awaiting_on 3 (awaits 15 noon own_version
      ∷ []) every_up)) (λ l. ask 0 l "AggregatedStatusRequest" ",'cId':'K1'")
      ≡ same (writes (refuses_for "Unknown component"))
  pub sends : both (holding_each false) (λ l. pumped 0 l 1)
      ≡ same (writes (aggregated_told "01010101-0101-4101-8101-010101010101" "2009-10-01T11:59:31.571Z" "false,false,false,false,false,false,false,true"))
  pub settles : map (λ l. held_for (leaves (awaiting_on l (awaits 1 noon (the_record (5 + l)) ∷ []) (holding_each true)) (answer 0 l "MessageAck" 1 ∷ []))) (0
      ∷ 2 ∷ 3 ∷ [])
      ≡ (1 ∷ 2 ∷ 3 ∷ []) ∷ (0 ∷ 1 ∷ 3 ∷ []) ∷ (0 ∷ 1 ∷ 2 ∷ []) ∷ []
  pub closes : map (λ l. sent_of (leaves (holding_each true) (at_noon (disconnect l) ∷ []))) (2 ∷ 3 ∷ []) ≡ (true ∷ true ∷ false ∷ true ∷ []) ∷ (true ∷ true
      ∷ true ∷ false ∷ []) ∷ []
  pub replies : both every_up (λ l. ask 0 l "AggregatedStatusRequest" ",'cId':'K0'")
      ≡ same (writes (replied "AggregatedStatus" ("K0','aSTS':'2009-10-01T11:59:31.571Z','fP':'','fS':'',"
      ∷ "'se':[false,false,false,false,false,false,false,false]}" ∷ [])))
  -- no secondary is told an alarm or gives a hint; nor the link that is not the primary where none is
  pub not_told : both every_up (λ l. order 0 l "Request") ≡ same (writes acks)
  pub no_hint : both every_up (λ l. beats 0 l) ≡ same (writes acks)
  pub none_told : hears (led_by none running) (order 0 1 "Request" ∷ beats 0 1 ∷ []) ≡ writes acks ∷ writes acks ∷ []
  -- .. but whichever link is the primary
  pub primaries : map (λ p. hears (led_by (some p) every_up) (beats 0 p ∷ [])) (0 ∷ 2 ∷ 3 ∷ [])
      ≡ (heard 0 acks [] (some noon) [] ∷ []) ∷ (heard 0 acks [] (some noon) [] ∷ []) ∷ (heard 0 acks [] (some noon) [] ∷ []) ∷ []

pub record LinkLives : Type 0 where
  pub connects : map (λ l. phase_of (leaves (with_life l (fresh false) running) (at_noon (connect l) ∷ [])) l) (0 ∷ 1 ∷ 2 ∷ []) ≡ 1 ∷ 1 ∷ 1 ∷ []
  pub disconnects : map (λ l. phase_of (leaves every_up (at_noon (disconnect l) ∷ [])) l) (0 ∷ 1 ∷ 2 ∷ 3 ∷ []) ≡ 0 ∷ 0 ∷ 0 ∷ 0 ∷ []
  pub accepts : map (λ l. phase_of (leaves (with_life l (versioned true false [] []) running) (agrees 0 l ∷ [])) l) (0 ∷ 1 ∷ 2 ∷ []) ≡ 2 ∷ 2 ∷ 2 ∷ []
  pub acknowledged : map (λ l. phase_of (leaves (with_life l (versioned false true [] (awaits 1 noon own_version ∷ [])) running) (answer 0 l "MessageAck" 1
      ∷ [])) l) (0 ∷ 1 ∷ 2 ∷ [])
      ≡ 2 ∷ 2 ∷ 2 ∷ []
  pub beaten : (life_at (leaves running (beats 0 2 ∷ [])) 2).watchdogs.taken ≡ true
  -- subscriptions of links 2 and 3, of statuses 0 and 1
  pub subscribes : map (λ l. (leaves every_up (ask 1 l "StatusSubscribe" ",'cId':'K0','sS':[{'sCI':'S1','n':'level','uRt':'9','sOc':false}]"
      ∷ [])).subscriptions) (2 ∷ 3 ∷ [])
      ≡ (subscription 2 0 9 false (noon + 1) ∷ []) ∷ (subscription 3 0 9 false (noon + 1) ∷ []) ∷ []
  pub replaced : map (λ l. (leaves (with_subscriptions subscribed every_up) (ask 1 l "StatusSubscribe"
      ",'cId':'K0','sS':[{'sCI':'S1','n':'level','uRt':'9','sOc':false}]" ∷ [])).subscriptions) (2 ∷ 3 ∷ [])
      ≡ (subscription 3 0 5 true noon ∷ subscription 2 1 5 true noon ∷ subscription 3 1 5 true noon ∷ subscription 2 0 9 false (noon + 1) ∷ [])
      ∷ (subscription 2 0 5 true noon ∷ subscription 2 1 5 true noon ∷ subscription 3 1 5 true noon ∷ subscription 3 0 9 false (noon + 1) ∷ []) ∷ []
  pub ended : map (λ l. (leaves (with_subscriptions (subscription 2 3 5 true noon
      ∷ subscribed) every_up) (ask 1 l "StatusUnsubscribe" ",'cId':'K1','sS':[{'sCI':'S1','n':'level'},{'sCI':'S2','n':'flow'}]" ∷ [])).subscriptions) (2 ∷ 3
      ∷ [])
      ≡ (subscription 2 0 5 true noon ∷ subscription 3 0 5 true noon ∷ subscription 3 1 5 true noon ∷ [])
      ∷ (subscription 2 3 5 true noon ∷ subscription 2 0 5 true noon ∷ subscription 3 0 5 true noon ∷ subscription 2 1 5 true noon ∷ []) ∷ []
  -- every alarm: its record, and the message of the pass that carries it
  pub alarms : map (λ i. (leaves running (later 1 (alarm_input i true) ∷ [])).pool.held) (0 ∷ 2 ∷ [])
      ≡ (held_as 1 (of_alarm 0 (alarm_of true false false Issue (noon + 1))) 5 false ∷ [])
      ∷ (held_as 1 (of_alarm 2 (alarm_of true false false Issue (noon + 1))) 5 false ∷ []) ∷ []
  pub carried : carried_by (with_held (alarm_held 1 6 rung ∷ alarm_held 2 7 rung ∷ []) (with_alarm 1 rung running)) 1 1 ≡ the_record 6
  pub carried_on : map (λ l. carried_by (with_held (held_as l (of_alarm 1 rung) 6 false ∷ held_as l (of_alarm 1 rung) 7 false
      ∷ []) (with_alarm 1 rung running)) l 1) (0 ∷ 2 ∷ 3 ∷ [])
      ≡ the_record 7 ∷ the_record 7 ∷ the_record 7 ∷ []
