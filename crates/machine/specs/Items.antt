-- Document 01, "Alarms and subscriptions": the events and the records that are issued.
-- Assumes nothing.
use Rattle.std.specs.Prelude.{ℕ, ◌+◌, ◌*◌, Bool, true, false, not, List, [], ◌∷◌, ◌++◌, map, eqb, ltb, leb, ℤ, pos, negsuc, length}
use Rattle.std.proofs.Math.Option.{Option, some, none}
use Rattle.json_value.specs.Grammar.{Json}
use Rattle.machine.specs.Words.{if'◌then◌else◌, ◌and◌, alike, maybe, is_some, or_else, keep, flat, up_to}
use Rattle.machine.specs.State.{
  Event,
  Alarm,
  alarm_of,
  Subscription,
  Content,
  Issued,
  issued_for,
  Machine,
  with_alarm,
  with_status,
  with_aggregated,
  with_subscriptions,
  life_at,
  value_at,
  Command,
  command_of,
  Effect,
  handing,
  effect,
  only,
}
use Rattle.machine.specs.State.Event.{Issue, Acknowledge, Suspend}
use Rattle.machine.specs.State.Content.{of_alarm, of_status, of_aggregated}
use Rattle.machine.specs.Json.{entries_of, element_is}
use Rattle.machine.specs.Life.{is_up, is_older}
use Rattle.machine.specs.Answers.{interval, asks_change, component_asked, status_asked, command_asked, value_asked}

-- ---- alarms
-- "An input equal to the state does nothing. Becoming active clears the acknowledgement."
abbrev pub with_input : Bool → ℕ → Alarm → Option Alarm
with_input active t a =
    if' alike active a.active then none
    else some (alarm_of active (if' active then false else a.acknowledged) a.suspended Issue t)

-- "Acknowledge, Suspend and Resume that change nothing are acknowledged only; a change makes one event (aSp Acknowledge or Suspend)."
abbrev pub acknowledged_at : ℕ → Alarm → Option Alarm
acknowledged_at t a = if' a.acknowledged then none else some (alarm_of a.active true a.suspended Acknowledge t)

abbrev pub suspended_at : ℕ → Alarm → Option Alarm
suspended_at t a = if' a.suspended then none else some (alarm_of a.active a.acknowledged true Suspend t)

abbrev pub resumed_at : ℕ → Alarm → Option Alarm
resumed_at t a = if' a.suspended then some (alarm_of a.active a.acknowledged false Suspend t) else none

abbrev pub ordered : ℕ → Json → Alarm → Option Alarm
ordered t j a =
    if' element_is "aSp" "Acknowledge" j then acknowledged_at t a
    else if' element_is "aSp" "Suspend" j then suspended_at t a
    else if' element_is "aSp" "Resume" j then resumed_at t a
    else none

-- "Issue events while suspended make no record but are the last event."
abbrev pub is_silent : Event → Bool → Bool
is_silent Issue suspended = suspended
is_silent Acknowledge suspended = false
is_silent Suspend suspended = false

-- "Alarm records are issued for the primary alone."
abbrev pub told : Machine → ℕ → Alarm → List Issued
told m i a = if' is_silent a.event a.suspended then [] else maybe [] (λ p. issued_for p (of_alarm i a) ∷ []) m.setup.primary

-- an event of alarm i, or none
unfoldable pub happens : Machine → ℕ → Option Alarm → Effect
happens m i none = only m
happens m i (some a) = effect (with_alarm i a m) (told m i a) [] [] none

-- ---- subscriptions
abbrev pub is_of : ℕ → ℕ → Subscription → Bool
is_of l i s = eqb s.link l and eqb s.status i

-- "the second flag of a status record says that it was issued while its link was not Up": as m has the link
abbrev pub status_for : Machine → ℕ → ℕ → Option ℤ → ℕ → Issued
status_for m t l v i = issued_for l (of_status i v (not (is_up (life_at m l))) t)

-- the record that a subscription issues: the status' value, or that it has none
abbrev pub update : Machine → ℕ → ℕ → ℕ → Issued
update m t l i = status_for m t l (value_at m i) i

-- the status numbers that the entries of a packet ask for, in order
abbrev pub number_asked : Machine → Json → Json → ℕ
number_asked m j e = or_else 0 (status_asked m j e)

-- "A link has one subscription per status; a new one replaces it."
abbrev pub without : ℕ → ℕ → List Subscription → List Subscription
without l i subs = keep (λ s. not (is_of l i s)) subs

abbrev pub subscribing : Bool → ℕ → ℕ → ℕ → Json → List Subscription → List Subscription
subscribing older t l i e subs =
    without l i subs ++ (record { link = l; status = i; interval = or_else 0 (interval e); on_change = asks_change older e; since = t } ∷ [])

abbrev pub subscribe_all : Machine → ℕ → ℕ → Json → List Json → List Subscription → List Subscription
subscribe_all m t l j [] subs = subs
subscribe_all m t l j (e ∷ es) subs = subscribe_all m t l j es (subscribing (is_older (life_at m l)) t l (number_asked m j e) e subs)

-- "A subscription issues a record at once."
unfoldable pub subscribe : Machine → ℕ → ℕ → Json → Effect
subscribe m t l j =
    effect (with_subscriptions (subscribe_all m t l j (entries_of "sS" j) m.subscriptions) m)
    (map (λ e. update m t l (number_asked m j e)) (entries_of "sS" j))
    [] [] none

-- "Ending one that isn't there is acknowledged only."
abbrev pub end_all : Machine → ℕ → Json → List Json → List Subscription → List Subscription
end_all m l j [] subs = subs
end_all m l j (e ∷ es) subs = end_all m l j es (without l (number_asked m j e) subs)

unfoldable pub unsubscribe : Machine → ℕ → Json → Effect
unsubscribe m l j = only (with_subscriptions (end_all m l j (entries_of "sS" j) m.subscriptions) m)

-- "Several records in a call: links upwards, statuses upwards": the subscriptions that pass, in this order
abbrev pub upwards : Machine → (Subscription → Bool) → List Subscription
upwards m f =
    flat (λ l. flat (λ i. keep (λ s. is_of l i s and f s) m.subscriptions) (up_to (length m.statuses))) (up_to m.setup.links)

-- "with uRt above 0 at a tick uRt or more after the subscribing call or the last tick that did so"
abbrev pub is_time : ℕ → Subscription → Bool
is_time t s = ltb 0 s.interval and leb (s.since + 1000 * s.interval) t

abbrev pub anew : ℕ → Subscription → Subscription
anew t s =
    record { link = s.link; status = s.status; interval = s.interval; on_change = s.on_change; since = if' is_time t s then t else s.since }

unfoldable pub intervals : ℕ → Machine → Effect
intervals t m =
    effect (with_subscriptions (map (anew t) m.subscriptions) m) (map (λ s. update m t s.link s.status) (upwards m (is_time t))) [] [] none

-- "with sOc at a first or changed value"
abbrev pub same_value : ℤ → ℤ → Bool
same_value (pos a) (pos b) = eqb a b
same_value (pos a) (negsuc b) = false
same_value (negsuc a) (pos b) = false
same_value (negsuc a) (negsuc b) = eqb a b

abbrev pub is_new : ℤ → Option ℤ → Bool
is_new v w = maybe true (λ x. not (same_value v x)) w

unfoldable pub becomes : Machine → ℕ → ℤ → ℕ → Effect
becomes m i v t =
    if' is_new v (value_at m i) then
    effect (with_status i v m) (map (λ s. status_for m t s.link (some v) i) (upwards m (λ s. eqb s.status i and s.on_change))) [] [] none
    else only m

-- ---- request 01: "A value in its range is handed to the host": the entries of a packet in order; of an unknown component nothing
abbrev pub command_of_entry : Machine → Json → Json → Command
command_of_entry m j e = command_of (or_else 0 (command_asked m j e)) (value_asked e)

abbrev pub commands_asked : Machine → Json → List Command
commands_asked m j = if' is_some (component_asked m j) then map (command_of_entry m j) (entries_of "arg" j) else []

unfoldable pub commands : Machine → Json → Effect
commands m j = handing (commands_asked m j) m [] [] [] none

-- ---- "The aggregated value starts all false at the start time; a changed one issues a record for every link."
unfoldable pub aggregates : Machine → ℕ → ℕ → Effect
aggregates m v t =
    if' eqb v m.aggregated then only m
    else effect (with_aggregated v t m) (map (λ l. issued_for l (of_aggregated v t)) (up_to m.setup.links)) [] [] none
