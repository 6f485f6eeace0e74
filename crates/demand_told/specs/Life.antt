-- The life of a link in a history, which is LATEST FIRST: the calls since the done connect that began it, that one included.
-- Assumes nothing.
use Rattle.std.specs.Prelude.{ℕ, Bool, true, false, List, [], ◌∷◌, eqb}
use Rattle.std.proofs.Math.Option.{Option, some, none}
use Rattle.machine.specs.Words.{if'◌then◌else◌, ◌and◌, is_number, any}
use Rattle.machine.specs.State.{Act, Outcome}
use Rattle.machine.specs.State.Act.{connect, disconnect, packet, alarm_input, status_value, aggregated_value, tick, pump}
use Rattle.machine.specs.State.Outcome.{refused, done}
use Rattle.machine.specs.Run.{Past}

abbrev pub is_done : Outcome → Bool
is_done (refused n) = false
is_done (done messages closed hint commands) = true

abbrev pub closed_by : Outcome → List ℕ
closed_by (refused n) = []
closed_by (done messages closed hint commands) = closed

abbrev pub connected_by : Act → Option ℕ
connected_by (connect l) = some l
connected_by (disconnect l) = none
connected_by (packet l random bytes room) = none
connected_by (alarm_input i active) = none
connected_by (status_value i v) = none
connected_by (aggregated_value v) = none
connected_by tick = none
connected_by (pump l random room) = none

-- "Connect: Greeting."
abbrev pub opens : ℕ → Past → Bool
opens l p = is_done p.gave and is_number l (connected_by p.call.act)

-- "Closing (also disconnect) leaves the link Down": a done call says "the links closed"
abbrev pub ends : ℕ → Past → Bool
ends l p = any (eqb l) (closed_by p.gave)

-- a life goes on; there is none to go on where the link is Down
abbrev pub going_on : Past → List Past → List Past
going_on p [] = []
going_on p (q ∷ life) = p ∷ q ∷ life

abbrev pub lived : ℕ → Past → List Past → List Past
lived l p life = if' opens l p then p ∷ [] else if' ends l p then [] else going_on p life

abbrev pub this_life : ℕ → List Past → List Past
this_life l [] = []
this_life l (p ∷ h) = lived l p (this_life l h)
