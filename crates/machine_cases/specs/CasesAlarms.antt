-- Cases of document 01, "Alarms and subscriptions": alarms. Claims; the proofs are `refl`.
-- Assumes nothing.
use Rattle.std.specs.Prelude.{ℕ, ◌+◌, ◌≡◌, Bool, true, false, List, [], ◌∷◌, ◌++◌}
use Prim.Native.String.{String}
use Rattle.std.proofs.Math.Option.{Option, none}
use Rattle.machine.specs.Words.{Bytes}
use Rattle.machine.specs.State.{Alarm, alarm_of, held_as, pool_of, Machine, machine, with_alarm, at_end, Call}
use Rattle.machine.specs.State.Event.{Issue, Acknowledge, Suspend}
use Rattle.machine.specs.State.Content.{of_alarm}
use Rattle.machine.specs.State.Act.{alarm_input}
use Rattle.machine.specs.Step.{leaves}
use Rattle.machine.specs.Example.{noon, later}
use Rattle.machine.specs.Computed.{hears, writes, acks, tells}
use Rattle.machine_cases.specs.Junction.{running, ask, order, alarm_said}

-- alarm 1, that of component K2 and code A1, as it is and at its last event's time
abbrev pub with1 : Alarm → Machine
with1 a = with_alarm 1 a running

abbrev pub rung : Alarm
rung = alarm_of true false false Issue noon

abbrev pub acknowledged : Alarm
acknowledged = alarm_of true true false Acknowledge noon

abbrev pub suspended : Alarm
suspended = alarm_of true false true Suspend noon

-- what a millisecond later is left: the alarm so, without a record; and with one for the primary, of the alarm as it then is
abbrev pub unrecorded : Alarm → Machine
unrecorded a = at_end (noon + 1) running.pool (with1 a)

abbrev pub recorded : Alarm → Machine
recorded a = at_end (noon + 1) (pool_of 6 (held_as 1 (of_alarm 1 a) 5 false ∷ []) (0 ∷ 0 ∷ 0 ∷ 0 ∷ [])) (with1 a)

abbrev pub given : Bool → List Call
given active = later 1 (alarm_input 1 active) ∷ []

abbrev pub from : ℕ → String → List Call
from l aSp = order 1 l aSp ∷ []

abbrev pub told : String → String → Bytes
told about states = acks ++ tells "Alarm" "0f0f0f0f-0f0f-4f0f-8f0f-0f0f0f0f0f0f" (alarm_said about states)

-- another link, or none, is the primary
abbrev pub led_by : Option ℕ → Machine → Machine
led_by primary m =
    machine (record { table = m.setup.table; links = 4; primary = primary; period = 2 })
    m.last m.alarms m.statuses m.aggregated m.aggregated_time m.subscriptions m.lives m.pool

pub record Inputs : Type 0 where
  -- "An input equal to the state does nothing. Becoming active clears the acknowledgement." "alarm records are issued for the primary alone"
  pub same_active : leaves (with1 acknowledged) (given true) ≡ unrecorded acknowledged
  pub same_inactive : leaves running (given false) ≡ at_end (noon + 1) running.pool running
  pub becomes_active : leaves running (given true) ≡ recorded (alarm_of true false false Issue (noon + 1))
  -- ceasing leaves the acknowledgement as it is
  pub ceases : leaves (with1 rung) (given false) ≡ recorded (alarm_of false false false Issue (noon + 1))
  pub ceases_acknowledged : leaves (with1 acknowledged) (given false) ≡ recorded (alarm_of false true false Issue (noon + 1))
  -- "Issue events while suspended make no record but are the last event"
  pub ceases_suspended : leaves (with1 suspended) (given false) ≡ unrecorded (alarm_of false false true Issue (noon + 1))
  pub active_suspended : leaves (with1 (alarm_of false true true Suspend noon)) (given true) ≡ unrecorded (alarm_of true false true Issue (noon + 1))
  pub no_primary : leaves (led_by none running) (given true) ≡ led_by none (unrecorded (alarm_of true false false Issue (noon + 1)))
  -- each alarm by itself
  pub others : (leaves running (later 1 (alarm_input 2 true) ∷ later 2 (alarm_input 0 true) ∷ [])).alarms
      ≡ alarm_of true false false Issue (noon + 2) ∷ alarm_of false true false Issue noon ∷ alarm_of true false false Issue (noon + 1) ∷ []

pub record Orders : Type 0 where
  -- "Acknowledge, Suspend and Resume that change nothing are acknowledged only; a change makes one event (aSp Acknowledge or Suspend)"
  pub acknowledge : leaves (with1 rung) (from 1 "Acknowledge") ≡ recorded (alarm_of true true false Acknowledge (noon + 1))
  pub acknowledge_again : leaves (with1 acknowledged) (from 1 "Acknowledge") ≡ unrecorded acknowledged
  pub acknowledge_ceased : leaves (with1 (alarm_of false false false Issue noon)) (from 1 "Acknowledge")
      ≡ recorded (alarm_of false true false Acknowledge (noon + 1))
  -- suspended, it is recorded all the same: it is no Issue
  pub acknowledge_suspended : leaves (with1 suspended) (from 1 "Acknowledge") ≡ recorded (alarm_of true true true Acknowledge (noon + 1))
  pub suspend : leaves (with1 rung) (from 1 "Suspend") ≡ recorded (alarm_of true false true Suspend (noon + 1))
  pub suspend_inactive : leaves running (from 1 "Suspend") ≡ recorded (alarm_of false true true Suspend (noon + 1))
  pub suspend_again : leaves (with1 suspended) (from 1 "Suspend") ≡ unrecorded suspended
  pub resume : leaves (with1 suspended) (from 1 "Resume") ≡ recorded (alarm_of true false false Suspend (noon + 1))
  pub resume_inactive : leaves (with1 (alarm_of false true true Issue noon)) (from 1 "Resume") ≡ recorded (alarm_of false true false Suspend (noon + 1))
  pub resume_again : leaves (with1 rung) (from 1 "Resume") ≡ unrecorded rung
  -- "A secondary's other alarm orders are carried out; alarm records are issued for the primary alone": link 0 is a secondary
  pub secondary_acknowledges : leaves (with1 rung) (from 0 "Acknowledge") ≡ recorded (alarm_of true true false Acknowledge (noon + 1))
  pub secondary_suspends : leaves (with1 rung) (from 0 "Suspend") ≡ recorded (alarm_of true false true Suspend (noon + 1))
  pub secondary_resumes : leaves (with1 suspended) (from 0 "Resume") ≡ recorded (alarm_of true false false Suspend (noon + 1))
  -- each gets our MessageAck alone, with an effect and without
  pub answers : hears (with1 rung) (from 0 "Acknowledge" ++ from 1 "Acknowledge" ++ from 0 "Suspend" ++ from 1 "Suspend" ++ from 0 "Resume" ++ from 1 "Resume")
      ≡ writes acks ∷ writes acks ∷ writes acks ∷ writes acks ∷ writes acks ∷ writes acks ∷ []
  -- an order is of the alarm that it names
  pub other_code : (leaves running (ask 1 0 "Alarm" ",'cId':'K2','aCId':'A2','aSp':'Suspend'" ∷ ask 1 0 "Alarm" ",'cId':'K1','aCId':'A1','aSp':'Suspend'"
      ∷ [])).alarms
      ≡ alarm_of false true true Suspend (noon + 1) ∷ alarm_of false true false Issue noon ∷ alarm_of false true true Suspend (noon + 1) ∷ []
  pub other_state : (leaves (with_alarm 2 rung running) (ask 1 0 "Alarm" ",'cId':'K2','aCId':'A2','aSp':'Acknowledge'" ∷ [])).alarms
      ≡ alarm_of false true false Issue noon ∷ alarm_of false true false Issue noon ∷ alarm_of true true false Acknowledge (noon + 1) ∷ []

pub record Requests : Type 0 where
  -- "Request from the primary is answered, suspended or not, with states, last event and its time, carrying no record; from a secondary it is
  -- acknowledged only"
  pub primary : hears (with1 rung) (from 1 "Request")
      ≡ writes (told "K2','aCId':'A1" "Issue','ack':'notAcknowledged','aS':'Active','sS':'notSuspended','aTs':'2009-10-01T11:59:31.571Z','cat':'T','pri':'1")
      ∷ []
  pub of_suspended : hears (with1 (alarm_of false true true Suspend noon)) (from 1 "Request")
      ≡ writes (told "K2','aCId':'A1" "Suspend','ack':'Acknowledged','aS':'inActive','sS':'Suspended','aTs':'2009-10-01T11:59:31.571Z','cat':'T','pri':'1") ∷ []
  pub of_acknowledged : hears (with1 acknowledged) (from 1 "Request")
      ≡ writes (told "K2','aCId':'A1"
      "Acknowledge','ack':'Acknowledged','aS':'Active','sS':'notSuspended','aTs':'2009-10-01T11:59:31.571Z','cat':'T','pri':'1") ∷ []
  pub of_another : hears (with1 rung) (ask 1 1 "Alarm" ",'cId':'K1','aCId':'A1','aSp':'Request'" ∷ [])
      ≡ writes (told "K1','aCId':'A1" "Issue','ack':'Acknowledged','aS':'inActive','sS':'notSuspended','aTs':'2009-10-01T11:59:31.571Z','cat':'D','pri':'3")
      ∷ []
  pub secondary : hears (with1 rung) (from 0 "Request") ≡ writes acks ∷ []
  pub changes_nothing : leaves (with1 rung) (from 0 "Request") ≡ unrecorded rung
