-- The calls after start, and what each does: one definition for all of them.
-- Assumes nothing.
use Rattle.std.specs.Prelude.{ℕ, Bool, List, [], ℤ, length}
use Rattle.answer.specs.declared.Refusal.{Refusal}
use Rattle.identity.specs.declared.Identity.{Identity}
use Rattle.identity.specs.Version.{identity_of}
use Rattle.site.specs.declared.Site.{Site}
use Rattle.site.specs.declared.Step.{Step}
use Rattle.site.specs.Call.{Plan, step_of, written_to, out_after}
use Rattle.call_link.specs.Connect.{connect_refuses, connect_plan, disconnect_refuses, disconnect_plan}
use Rattle.call_input.specs.Inputs.{alarm_refuses, alarm_plan, status_refuses, status_plan, aggregated_refuses, aggregated_plan}
use Rattle.call_tick.specs.Tick.{tick_refuses, tick_plan}
use Rattle.call_pump.specs.Pump.{pump_refuses, pump_plan}
use Rattle.call_packet.specs.Packet.{packet_refuses, packet_taken}

-- `random` are the sixteen random bytes, `out` the bytes of the lent output before the call
pub data Call : Type 0 where
  connect : (link time : ℕ) → Call
  disconnect : (link time : ℕ) → Call
  packet : (link time : ℕ) (random : Identity) (received out : List ℕ) → Call
  alarm : (number : ℕ) (active : Bool) (time : ℕ) → Call
  status : (number : ℕ) (value : ℤ) (time : ℕ) → Call
  aggregated : (value time : ℕ) → Call
  tick : (time : ℕ) → Call
  pump : (link time : ℕ) (random : Identity) (out : List ℕ) → Call

abbrev pub time_of : Call → ℕ
time_of (connect l t) = t
time_of (disconnect l t) = t
time_of (packet l t random p out) = t
time_of (alarm k active t) = t
time_of (status k value t) = t
time_of (aggregated value t) = t
time_of (tick t) = t
time_of (pump l t random out) = t

-- a call without an output has an empty one
abbrev pub output_of : Call → List ℕ
output_of (connect l t) = []
output_of (disconnect l t) = []
output_of (packet l t random p out) = out
output_of (alarm k active t) = []
output_of (status k value t) = []
output_of (aggregated value t) = []
output_of (tick t) = []
output_of (pump l t random out) = out

-- what refuses the call, number 10 apart
abbrev pub refuses : Site → Call → Refusal → Bool
refuses s (connect l t) = connect_refuses s l t
refuses s (disconnect l t) = disconnect_refuses s l t
refuses s (packet l t random p out) = packet_refuses s l t (identity_of random) (length out) p
refuses s (alarm k active t) = alarm_refuses s k t
refuses s (status k value t) = status_refuses s k t
refuses s (aggregated value t) = aggregated_refuses s t
refuses s (tick t) = tick_refuses s t
refuses s (pump l t random out) = pump_refuses s l t (identity_of random) (length out)

-- what it lays down where nothing refuses it
abbrev pub plan_of : Site → Call → Plan
plan_of s (connect l t) = connect_plan s l
plan_of s (disconnect l t) = disconnect_plan s l
plan_of s (packet l t random p out) = (packet_taken s l t (identity_of random) p).plan
plan_of s (alarm k active t) = alarm_plan s k active t
plan_of s (status k value t) = status_plan s k value t
plan_of s (aggregated value t) = aggregated_plan s value t
plan_of s (tick t) = tick_plan s t
plan_of s (pump l t random out) = pump_plan s l t (identity_of random)

-- where its messages end in the output
abbrev pub end_of : Site → Call → ℕ
end_of s c = (written_to (output_of c) (plan_of s c).messages).end

abbrev pub step_by : Site → Call → Step
step_by s c = step_of s (time_of c) (refuses s c) (plan_of s c) (end_of s c)

-- the output after the call
abbrev pub out_by : Site → Call → List ℕ
out_by s c = out_after (output_of c) (plan_of s c).messages (step_by s c).answer
