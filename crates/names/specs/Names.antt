-- The fixed names, and which of them a text is. Readers and writers cite the same ones.
-- Assumes nothing.
use Rattle.std.specs.Prelude.{List, [], ◌∷◌, ◌++◌, ℕ, zero, suc, ◌+◌, T, leb, ltb, length, get_or}
use Rattle.basis.specs.Pick.{pick, both}
use Rattle.basis.specs.Lists.{same_bytes}
use Rattle.basis.specs.Text.{text}
use Rattle.names.specs.declared.Found.{Found}
use Rattle.names.specs.declared.Found.TheVariants.{At, Nothing}

-- the eighteen types of messages: the fourteen of 000, and the four that carry their acknowledgement (004)
abbrev pub type_names : List (List ℕ)
type_names =
    text "Version" ∷ text "Watchdog" ∷ text "MessageAck" ∷ text "MessageNotAck" ∷ text "Alarm"
    ∷ text "AggregatedStatus" ∷ text "AggregatedStatusRequest" ∷ text "StatusRequest" ∷ text "StatusResponse"
    ∷ text "StatusSubscribe" ∷ text "StatusUnsubscribe" ∷ text "StatusUpdate" ∷ text "CommandRequest"
    ∷ text "CommandResponse" ∷ text "StatusRequestAckIncluded" ∷ text "StatusResponseAckIncluded"
    ∷ text "CommandRequestAckIncluded" ∷ text "CommandResponseAckIncluded" ∷ []

-- the twelve reasons of a MessageNotAck
abbrev pub reasons : List (List ℕ)
reasons =
    text "Missing element" ∷ text "Bad value" ∷ text "Unexpected" ∷ text "Not ready" ∷ text "RSMP version"
    ∷ text "Site id" ∷ text "SXL version" ∷ text "Unknown component" ∷ text "Unknown alarm"
    ∷ text "Unknown status" ∷ text "Unknown command" ∷ text "Busy" ∷ []

-- all of them: types, reasons
abbrev pub names : List (List ℕ)
names = type_names ++ reasons

-- name i; past the last one the empty text
abbrev pub name_of : ℕ → List ℕ
name_of i = get_or names i []

-- the first of the n names from i on that s is
abbrev pub find_in : List ℕ → ℕ → ℕ → Found
find_in s i zero = Nothing
find_in s i (suc n) = pick (same_bytes s (name_of i)) (At i) (find_in s (suc i) n)

-- the type that s names
abbrev pub find_type : List ℕ → Found
find_type s = find_in s 0 (length type_names)

abbrev pub number_of : Found → ℕ
number_of (At i) = i
number_of Nothing = length names

-- i is the number of a reason
abbrev pub IsReason : ℕ → Type 0
IsReason i = T (both (leb (length type_names) i) (ltb i (length type_names + length reasons)))

-- the number of the name s; of any other text, past the last name
abbrev pub index_of : List ℕ → ℕ
index_of s = number_of (find_in s 0 (length names))
