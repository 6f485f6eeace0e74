-- What the types of a call's arguments say.
-- Assumes nothing.
use Rattle.std.specs.Prelude.{◌<◌}
use Rattle.number.specs.Signed.{Signed32}
use Rattle.identity.specs.Read.{SixteenBytes}
use Rattle.call_laws.specs.Calls.{Call}
use Rattle.call_laws.specs.Calls.Call.{connect, disconnect, packet, alarm, status, aggregated, tick, pump}

abbrev pub Typed : Call → Type 0
Typed (connect l time) = Unit {0}
Typed (disconnect l time) = Unit {0}
Typed (packet l time random received out) = SixteenBytes random.bytes
Typed (alarm k active time) = Unit {0}
Typed (status k value time) = Signed32 value
Typed (aggregated value time) = value < 256
Typed (tick time) = Unit {0}
Typed (pump l time random out) = SixteenBytes random.bytes
