-- What they order of an alarm, and their request for the aggregated status, come to what they come to in the machine. proofs/ proves it.
-- Assumes nothing.
use Rattle.std.specs.Prelude.{◌≡◌, true}
use Rattle.read_head.specs.Small.{alarm_at, aggregated_at}
use Rattle.packet_alarm.specs.Orders.{alarm_taken, aggregated_taken}
use Rattle.machine.specs.State.{Life}
use Rattle.machine.specs.Life.{is_up}
use Rattle.refine_packet.specs.Taken.{SameAsked}

-- else it is ignored or "Not ready"
abbrev pub IsUp : Life → Type 0
IsUp k = is_up k ≡ true

abbrev pub SameAlarm : Type 0
SameAlarm = SameAsked "Alarm" IsUp (λ s q p. alarm_taken s q (alarm_at p))

abbrev pub SameAggregated : Type 0
SameAggregated = SameAsked "AggregatedStatusRequest" IsUp (λ s q p. aggregated_taken s q (aggregated_at p))
