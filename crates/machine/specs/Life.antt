-- Document 01, "Life of a link".
-- Assumes nothing.
use Rattle.std.specs.Prelude.{ℕ, suc, ◌+◌, ◌-◌, ◌*◌, Bool, true, false, not, List, [], ◌∷◌, ◌++◌, map, eqb, ltb, leb, length}
use Rattle.std.proofs.Math.Option.{Option, some, none}
use Rattle.basis.specs.Lists.{same_bytes}
use Rattle.json_value.specs.Grammar.{Json}
use Rattle.machine.specs.Words.{Bytes, if'◌then◌else◌, ◌and◌, ◌or◌, alike, maybe, is_some, is_number, any, first_that, but_first}
use Rattle.machine.specs.State.{
  event_number,
  Alarm,
  Content,
  Held,
  held_as,
  Sent,
  Awaited,
  Exchange,
  exchange,
  Life,
  life_of,
  fresh,
  Machine,
  with_life,
  with_held,
  life_at,
  alarm_at,
}
use Rattle.machine.specs.State.Content.{of_alarm, of_status, of_aggregated}
use Rattle.machine.specs.State.Sent.{no_record, the_record}
use Rattle.machine.specs.Json.{is_identity_of, string_of, entries_of, version_in}

-- ---- "A link is Down, Greeting, Beating or Up." "Ours acknowledged and theirs accepted: Beating."
-- "Ours acknowledged and one of theirs taken: Up."
abbrev pub is_over : Exchange → Bool
is_over x = x.acknowledged and x.taken

abbrev pub is_down : Life → Bool
is_down k = not k.connected

abbrev pub is_greeting : Life → Bool
is_greeting k = k.connected and not (is_over k.versions)

abbrev pub is_beating : Life → Bool
is_beating k = k.connected and is_over k.versions and not (is_over k.watchdogs)

abbrev pub is_up : Life → Bool
is_up k = k.connected and is_over k.versions and is_over k.watchdogs

abbrev pub is_primary : Machine → ℕ → Bool
is_primary m l = is_number l m.setup.primary

-- a step of an exchange: ours went out, ours was acknowledged, theirs was taken
abbrev pub now_sent : Exchange → Exchange
now_sent x = exchange true x.acknowledged x.taken

abbrev pub now_acknowledged : Exchange → Exchange
now_acknowledged x = exchange x.sent true x.taken

abbrev pub now_taken : Exchange → Exchange
now_taken x = exchange x.sent x.acknowledged true

abbrev pub with_versions : Exchange → Life → Life
with_versions x k = life_of k.connected x k.watchdogs k.version k.beat k.pass k.awaited

abbrev pub with_watchdogs : Exchange → Life → Life
with_watchdogs x k = life_of k.connected k.versions x k.version k.beat k.pass k.awaited

-- ---- "Closing (also disconnect) leaves the link Down, nothing awaited, no record of it marked sent; records and subscriptions stay."
abbrev pub unsent : ℕ → Held → Held
unsent l h = held_as h.link h.content h.sequence (if' eqb h.link l then false else h.sent)

unfoldable pub close : ℕ → Machine → Machine
close l m = with_held (map (unsent l) m.pool.held) (with_life l (fresh false) m)

abbrev pub close_all : List ℕ → Machine → Machine
close_all [] m = m
close_all (l ∷ ls) m = close_all ls (close l m)

-- ---- the three checks of their Version
-- "a common RSMP version [of 3.1.4, 3.1.5 and 3.2]; the latest common one is chosen": ours, latest first
abbrev pub ours : List (List ℕ)
ours = (3 ∷ 2 ∷ 0 ∷ []) ∷ (3 ∷ 1 ∷ 5 ∷ []) ∷ (3 ∷ 1 ∷ 4 ∷ []) ∷ []

abbrev pub offers : Json → List ℕ → Bool
offers j v = any (λ e. maybe false (same_bytes v) (version_in (string_of "vers" e))) (entries_of "RSMP" j)

-- of any list that is latest first
abbrev pub chosen_of : List (List ℕ) → Json → Option (List ℕ)
chosen_of mine j = first_that (offers j) mine

abbrev pub common : Json → Option (List ℕ)
common j = chosen_of ours j

-- request 07: "On a link where [3.1.4] is chosen"
abbrev pub is_older : Life → Bool
is_older k = same_bytes k.version (3 ∷ 1 ∷ 4 ∷ [])

-- "our site id in their list, equal SXL bytes"
abbrev pub names_site : Machine → Json → Bool
names_site m j = any (λ e. same_bytes (string_of "sId" e) m.setup.table.site) (entries_of "siteId" j)

abbrev pub equal_sxl : Machine → Json → Bool
equal_sxl m j = same_bytes (string_of "SXL" j) m.setup.table.sxl

-- ---- "Each link keeps sixteen awaited identities of sixteen bytes with the time of sending; an answer removes its one."
abbrev pub is_awaited : Life → Bytes → Bool
is_awaited k id = any (λ a. same_bytes a.identity id) k.awaited

-- the awaited one whose identity a text is
abbrev pub awaited_by : Life → Bytes → Option Awaited
awaited_by k s = first_that (λ a. is_identity_of a.identity s) k.awaited

abbrev pub with_awaited : List Awaited → Life → Life
with_awaited ids k = life_of k.connected k.versions k.watchdogs k.version k.beat k.pass ids

abbrev pub awaiting : Bytes → ℕ → Sent → Life → Life
awaiting id t message k = with_awaited (k.awaited ++ (record { identity = id; time = t; message = message } ∷ [])) k

abbrev pub answered_to : Bytes → Life → Life
answered_to s k = with_awaited (but_first (λ a. is_identity_of a.identity s) k.awaited) k

-- "Tick closes each link with one awaited 30,000 ms or longer."
abbrev pub is_late : ℕ → Life → Bool
is_late t k = any (λ a. leb (a.time + 30000) t) k.awaited

-- ---- what is due
pub data Due : Type 0 where
  the_version the_watchdog the_aggregated : Due
  the_alarm : (number : ℕ) → Due
  the_held : (held : Held) → Due

abbrev pub same_alarm : Alarm → Alarm → Bool
same_alarm a b =
    alike a.active b.active and alike a.acknowledged b.acknowledged and alike a.suspended b.suspended
    and eqb (event_number a.event) (event_number b.event) and eqb a.time b.time

-- "If the newest held record of an alarm equals that alarm's last event, states and time, the message of this pass carries that record."
abbrev pub alarm_in : ℕ → Content → Option Alarm
alarm_in i (of_alarm n a) = if' eqb n i then some a else none
alarm_in i (of_status n v old t) = none
alarm_in i (of_aggregated v t) = none

abbrev pub newest : ℕ → ℕ → Option Held → List Held → Option Held
newest l i found [] = found
newest l i found (h ∷ hs) = newest l i (if' eqb h.link l and is_some (alarm_in i h.content) then some h else found) hs

abbrev pub carries : Alarm → ℕ → Held → Sent
carries a i h = if' maybe false (same_alarm a) (alarm_in i h.content) then the_record h.sequence else no_record

unfoldable pub carried_by : Machine → ℕ → ℕ → Sent
carried_by m l i = maybe no_record (carries (alarm_at m i) i) (newest l i none m.pool.held)

-- "once per link life the AggregatedStatus, then on the primary every alarm 0 upwards"
abbrev pub pass_length : Machine → ℕ → ℕ
pass_length m l = if' is_primary m l then suc (length m.alarms) else 1

-- "then the oldest held record not sent"
abbrev pub oldest_unsent : Machine → ℕ → Option Held
oldest_unsent m l = first_that (λ h. eqb h.link l and not h.sent) m.pool.held

-- "Due in Up, in this order: Watchdog a period or more after the last; [the pass]; then the oldest held record not sent."
unfoldable pub due_up : Machine → ℕ → ℕ → Life → Option Due
due_up m l t k =
    if' leb (k.beat + 1000 * m.setup.period) t then some the_watchdog
    else if' eqb k.pass 0 then some the_aggregated
    else if' ltb k.pass (pass_length m l) then some (the_alarm (k.pass - 1))
    else maybe none (λ h. some (the_held h)) (oldest_unsent m l)

-- "Pump sends our Version." "Beating; pump sends one Watchdog."
unfoldable pub due : Machine → ℕ → ℕ → Option Due
due m l t =
    let k = life_at m l in
    if' is_greeting k and not k.versions.sent then some the_version
    else if' is_beating k and not k.watchdogs.sent then some the_watchdog
    else if' is_up k then due_up m l t k
    else none
