-- The plan of every call is sound.
-- Assumes nothing.
use Rattle.basis.proofs.Std.{length, leb-false}
use Rattle.identity.specs.Version.{identity_of}
use Rattle.call_laws.specs.Calls.Call.{connect, disconnect, packet, alarm, status, aggregated, tick, pump}
use Rattle.call_laws.specs.SoundCalls.{Planned}
use Rattle.call_laws.proofs.SoundKept.{an_item, in_time, at_time}
use Rattle.call_laws.proofs.Inputs.{connect_plan_lem, disconnect_plan_lem, alarm_plan_lem, status_plan_lem, aggregated_plan_lem}
use Rattle.call_laws.proofs.Ticks.{tick_plan_lem}
use Rattle.call_laws.proofs.Sends.{pump_plan_lem}
use Rattle.call_laws.proofs.PacketsKept.{packet_plan}

pub planned : Planned
planned s h (connect l time) t n = connect_plan_lem s time (at_time s time h (in_time n)) l
planned s h (disconnect l time) t n = disconnect_plan_lem s time (at_time s time h (in_time n)) l
planned s h (alarm k active time) t n = alarm_plan_lem s time (at_time s time h (in_time n)) k active (leb-false s.table.alarmcount k (an_item n))
planned s h (status k value time) t n = status_plan_lem s time (at_time s time h (in_time n)) k value t (leb-false s.table.statuscount k (an_item n))
planned s h (aggregated value time) t n = aggregated_plan_lem s time (at_time s time h (in_time n)) value t
planned s h (tick time) t n = tick_plan_lem s time (at_time s time h (in_time n))
planned s h (pump l time random out) t n = pump_plan_lem s time (at_time s time h (in_time n)) l (identity_of random)
planned s h (packet l time random received out) t n = packet_plan s h l time (identity_of random) received (length out) n
