-- Every call is the machine's, and so is what a host sees.
-- Assumes nothing.
use Rattle.call_laws.specs.Calls.Call.{connect, disconnect, packet, alarm, status, aggregated, tick, pump}
use Rattle.refine_calls.specs.Links.OfLink.{connects, disconnects}
use Rattle.refine_calls.proofs.Links.{link_calls}
use Rattle.refine_calls.specs.Inputs.OfInput.{of_alarm, of_status, of_aggregated}
use Rattle.refine_calls.proofs.Inputs.{input_calls}
use Rattle.refine_calls.specs.Tick.OfTick.{of_tick}
use Rattle.refine_calls.proofs.Tick.{tick_calls}
use Rattle.refine_calls.specs.Pump.OfPump.{pumps}
use Rattle.refine_calls.proofs.Pump.{pump_calls}
use Rattle.refine_packet.specs.Packet.OfPacket.{packets}
use Rattle.refine_packet.proofs.Packet.{packet_calls}
use Rattle.equation.specs.Equation.{Equation}
use Rattle.equation.proofs.Boxed.{AllCalls}
use Rattle.equation.proofs.Equation.{from_calls}

all_calls : AllCalls
all_calls x s m h (connect l t) b u = link_calls x s m h (connect l t) (connects l t) u
all_calls x s m h (disconnect l t) b u = link_calls x s m h (disconnect l t) (disconnects l t) u
all_calls x s m h (packet l t random received out) b u = packet_calls x s m h (packet l t random received out) (packets l t random received out) u
all_calls x s m h (alarm i active t) b u = input_calls x s m h (alarm i active t) (of_alarm i active t) u
all_calls x s m h (status i v t) b u = input_calls x s m h (status i v t) (of_status i v t) u
all_calls x s m h (aggregated v t) b u = input_calls x s m h (aggregated v t) (of_aggregated v t) u
all_calls x s m h (tick t) b u = tick_calls x s m h (tick t) (of_tick t) u
all_calls x s m h (pump l t random out) b u = pump_calls x s m h (pump l t random out) (pumps l t random out) u

pub equation : Equation
equation = from_calls all_calls
