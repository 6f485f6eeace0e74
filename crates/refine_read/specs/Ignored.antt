-- Which packets are ignored, and what is awaited, by the bytes of the identity that the code reads instead of its text.
-- Assumes nothing.
use Rattle.std.specs.Prelude.{Bool, true, false, not, List, [], ◌∷◌}
use Rattle.std.proofs.Math.Option.{Option, none}
use Rattle.basis.specs.Lists.{same_bytes}
use Rattle.identity.specs.Read.{SixteenBytes, read_identity}
use Rattle.read_head.specs.declared.Kind.{Kind}
use Rattle.read_head.specs.declared.Kind.TheVariants.{Version, Watchdog, Alarm, AggregatedStatusRequest, StatusRequest, StatusSubscribe, StatusUnsubscribe, CommandRequest, Unexpected}
use Rattle.read_head.specs.declared.Class.{Class}
use Rattle.read_head.specs.declared.Class.TheVariants.{Ignored, Acked, NotAcked, Asked}
use Rattle.read_head.specs.declared.Head.{Head}
use Rattle.machine.specs.Words.{Bytes, if'◌then◌else◌, ◌and◌, first_that, but_first}
use Rattle.machine.specs.State.{Awaited, Life}
use Rattle.machine.specs.Json.{is_identity}
use Rattle.machine.specs.Life.{is_greeting, is_awaited}

-- "sixteen awaited identities of sixteen bytes"
abbrev pub AllSixteen : List Awaited → Type 0
AllSixteen [] = Unit {0}
AllSixteen (a ∷ xs) = SixteenBytes a.identity × AllSixteen xs

-- the awaited one of these bytes
abbrev pub is_of : Bytes → Awaited → Bool
is_of id a = same_bytes a.identity id

abbrev pub found_by : Life → Bytes → Option Awaited
found_by k s = if' is_identity s then first_that (is_of (read_identity s).id.bytes) k.awaited else none

abbrev pub left_by : Life → Bytes → List Awaited
left_by k s = if' is_identity s then but_first (is_of (read_identity s).id.bytes) k.awaited else k.awaited

abbrev pub is_version : Kind → Bool
is_version Version = true
is_version Watchdog = false
is_version Alarm = false
is_version AggregatedStatusRequest = false
is_version StatusRequest = false
is_version StatusSubscribe = false
is_version StatusUnsubscribe = false
is_version CommandRequest = false
is_version Unexpected = false

-- "whose oMId is not awaited on this link"; "in Greeting, all but type Version and the two answers"
abbrev pub ignored_as : Life → Bytes → Class → Bool
ignored_as k id Ignored = true
ignored_as k id Acked = not (is_awaited k id)
ignored_as k id NotAcked = not (is_awaited k id)
ignored_as k id (Asked v kind) = is_greeting k and not (is_version kind)

abbrev pub ignored_by : Life → Head → Bool
ignored_by k h = ignored_as k h.identity.bytes h.class
