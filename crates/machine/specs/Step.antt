-- Document 01, "Numbers a call can give", and the step.
-- Assumes nothing.
use Rattle.std.specs.Prelude.{ℕ, suc, ◌+◌, Bool, true, false, not, List, [], ◌∷◌, ltb, leb, length}
use Rattle.std.proofs.Math.Option.{Option, some, none}
use Rattle.answer.specs.Times.{last_time}
use Rattle.json_value.specs.Grammar.{Json}
use Rattle.machine.specs.Words.{Bytes, if'◌then◌else◌, ◌and◌, ◌or◌, maybe, is_some, Case, ◌when◌, first_of}
use Rattle.machine.specs.State.{Machine, at_end, life_at, Act, Call, Outcome, Effect}
use Rattle.machine.specs.State.Act.{connect, disconnect, packet, alarm_input, status_value, aggregated_value, tick, pump}
use Rattle.machine.specs.State.Outcome.{refused, done}
use Rattle.machine.specs.Json.{read_packet}
use Rattle.machine.specs.Table.{last_sequence}
use Rattle.machine.specs.Life.{is_down, is_awaited, due}
use Rattle.machine.specs.Answers.{is_answer, is_ignored, wants_reply, reason_of}
use Rattle.machine.specs.Pool.{issue_all}
use Rattle.machine.specs.Effects.{own_identity, effect_of}

-- 2 no such configured link
abbrev pub no_such_link : Machine → ℕ → Bool
no_such_link m l = leb m.setup.links l

-- 5 time before the last time of a call done, or above 253402300799999
abbrev pub bad_time : Machine → ℕ → Bool
bad_time m t = ltb t m.last or ltb last_time t

-- 6 connect on a link not Down; disconnect, packet or pump on a Down link
abbrev pub is_down_at : Machine → ℕ → Bool
is_down_at m l = is_down (life_at m l)

-- 8 pump, something due, 8 or more identities awaited on the link
abbrev pub many_awaited : Machine → ℕ → Bool
many_awaited m l = leb 8 (length (life_at m l).awaited)

-- 9 the identity to be sent is already awaited on that link: a pump's, or that of a reply, for no answer, where no reason applies
abbrev pub identity_awaited : Machine → ℕ → Bytes → Bool
identity_awaited m l random = is_awaited (life_at m l) (own_identity random)

abbrev pub is_replied : Machine → ℕ → Json → Bool
is_replied m l j = not (is_answer j) and not (is_some (reason_of m l j)) and wants_reply m l j

-- 10 the call would take sequence numbers past 2147483647
abbrev pub sequence_ends : Machine → Effect → Bool
sequence_ends m e = ltb (suc last_sequence) (m.pool.next + length e.issues)

-- "Given exactly when", "Checked in the order 2, 3, 4, 12, 5, 6, 1, 7, 8, 9, 10, .., each where it applies." The last of document 01's numbers
-- has no place here: its condition holds before no record that a call issues (demand_held `never_crowded`).
unfoldable pub conditions : Machine → ℕ → Act → List (Case ℕ)
conditions m t (connect l) = 2 when no_such_link m l ∷ 5 when bad_time m t ∷ 6 when not (is_down_at m l) ∷ []
conditions m t (disconnect l) = 2 when no_such_link m l ∷ 5 when bad_time m t ∷ 6 when is_down_at m l ∷ []
conditions m t (packet l random s room) =
    2 when no_such_link m l
    ∷ 4 when ltb room 4096
    ∷ 12 when ltb 4096 (length s)
    ∷ 5 when bad_time m t
    ∷ 6 when is_down_at m l
    ∷ 1 when is_ignored (life_at m l) (read_packet s)
    ∷ 9 when (maybe false (is_replied m l) (read_packet s) and identity_awaited m l random)
    ∷ 10 when sequence_ends m (effect_of m t (packet l random s room))
    ∷ []
conditions m t (alarm_input i active) =
    3 when leb (length m.setup.table.alarms) i
    ∷ 5 when bad_time m t
    ∷ 10 when sequence_ends m (effect_of m t (alarm_input i active))
    ∷ []
conditions m t (status_value i v) =
    3 when leb (length m.setup.table.statuses) i
    ∷ 5 when bad_time m t
    ∷ 10 when sequence_ends m (effect_of m t (status_value i v))
    ∷ []
conditions m t (aggregated_value v) =
    5 when bad_time m t
    ∷ 10 when sequence_ends m (effect_of m t (aggregated_value v))
    ∷ []
conditions m t tick =
    5 when bad_time m t
    ∷ 10 when sequence_ends m (effect_of m t tick)
    ∷ []
conditions m t (pump l random room) =
    2 when no_such_link m l
    ∷ 4 when ltb room 4096
    ∷ 5 when bad_time m t
    ∷ 6 when is_down_at m l
    ∷ 7 when not (is_some (due m l t))
    ∷ 8 when many_awaited m l
    ∷ 9 when identity_awaited m l random
    ∷ []

-- the number that refuses a call, if one does
abbrev pub number_of : Machine → Call → Option ℕ
number_of m c = first_of (conditions m c.time c.act)

-- what a done call leaves: the records issued one by one, and its time
abbrev pub after : ℕ → Effect → Machine
after t e = at_end t (issue_all e.issues e.leaves.pool) e.leaves

abbrev pub outcome : Effect → Outcome
outcome e = done e.messages e.closed e.hint e.commands

-- "All but 0 change nothing: state, last time and lent bytes stay."
unfoldable pub step : Machine → Call → Outcome × Machine
step m c =
    maybe (outcome (effect_of m c.time c.act), after c.time (effect_of m c.time c.act))
    (λ n. (refused n, m))
    (number_of m c)

-- "A sequence of calls is one done start, then the other calls, each on the state left by the one before."
abbrev pub outcomes : Machine → List Call → List Outcome
outcomes m [] = []
outcomes m (c ∷ cs) = (step m c).0 ∷ outcomes (step m c).1 cs

abbrev pub leaves : Machine → List Call → Machine
leaves m [] = m
leaves m (c ∷ cs) = leaves (step m c).1 cs
