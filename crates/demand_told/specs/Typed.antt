-- What the types of a call's arguments say: sixteen random bytes, a signed 32-bit value, eight booleans.
-- Assumes nothing.
use Rattle.std.specs.Prelude.{ℕ, ◌<◌, List, [], ◌∷◌}
use Rattle.number.specs.Signed.{Signed32}
use Rattle.identity.specs.Read.{SixteenBytes}
use Rattle.machine.specs.State.{Act}
use Rattle.machine.specs.State.Act.{connect, disconnect, packet, alarm_input, status_value, aggregated_value, tick, pump}
use Rattle.machine.specs.Run.{Past}

abbrev pub Typed : Act → Type 0
Typed (connect l) = Unit {0}
Typed (disconnect l) = Unit {0}
Typed (packet l random bytes room) = SixteenBytes random
Typed (alarm_input i active) = Unit {0}
Typed (status_value i v) = Signed32 v
Typed (aggregated_value v) = v < 256
Typed tick = Unit {0}
Typed (pump l random room) = SixteenBytes random

pub data EachTyped : List Past → Type 0 where
  none_yet : EachTyped []
  one_more : {p : Past} {h : List Past} → Typed p.call.act → EachTyped h → EachTyped (p ∷ h)
