-- What each call lays down.
-- Assumes nothing.
use Rattle.std.specs.Prelude.{ℕ, suc, Bool, true, false, not, List, [], ◌∷◌, map}
use Prim.Native.String.{String}
use Rattle.std.proofs.Math.Option.{Option, some, none}
use Rattle.basis.specs.Text.{text}
use Rattle.identity.specs.Version.{version4_of}
use Rattle.json_value.specs.Grammar.{Json}
use Rattle.write_message.specs.Message.{Message}
use Rattle.write_message.specs.Message.Message.{version, watchdog, ack, not_ack}
use Rattle.machine.specs.Words.{Bytes, if'◌then◌else◌, ◌and◌, maybe, or_else, keep, up_to}
use Rattle.machine.specs.State.{
  Sent,
  Awaited,
  Life,
  life_of,
  fresh,
  Machine,
  with_life,
  with_held,
  life_at,
  alarm_at,
  Act,
  Effect,
  handing,
  effect,
  only,
}
use Rattle.machine.specs.State.Sent.{own_version, own_watchdog, no_record, the_record}
use Rattle.machine.specs.State.Act.{connect, disconnect, packet, alarm_input, status_value, aggregated_value, tick, pump}
use Rattle.machine.specs.Json.{read_packet, string_of, is_type, asks_for, hint_in}
use Rattle.machine.specs.Life.{
  is_beating,
  is_primary,
  now_sent,
  now_acknowledged,
  now_taken,
  with_versions,
  with_watchdogs,
  close,
  close_all,
  common,
  awaited_by,
  awaiting,
  answered_to,
  is_late,
  Due,
  carried_by,
  due,
}
use Rattle.machine.specs.Life.Due.{the_version, the_watchdog, the_aggregated, the_alarm, the_held}
use Rattle.machine.specs.Answers.{is_answer, alarm_asked, wants_reply, replies_at_once, reason_of, fails_check}
use Rattle.machine.specs.Items.{with_input, ordered, happens, subscribe, unsubscribe, intervals, becomes, commands, aggregates}
use Rattle.machine.specs.Messages.{alarm_message, aggregated_message, record_message, response_message, command_message, included_message}
use Rattle.machine.specs.Pool.{settled, marked}

-- ---- connect, disconnect, tick
-- "Connect: Greeting."
unfoldable pub connects : ℕ → Machine → Effect
connects l m = only (with_life l (fresh true) m)

unfoldable pub closes : ℕ → List Message → Machine → Effect
closes l messages m = effect (close l m) [] messages (l ∷ []) none

-- "Tick closes each link with one awaited 30,000 ms or longer", and issues what subscriptions ask for at intervals
abbrev pub late : ℕ → Machine → List ℕ
late t m = keep (λ l. is_late t (life_at m l)) (up_to m.setup.links)

unfoldable pub ticks : ℕ → Machine → Effect
ticks t m = effect (intervals t (close_all (late t m) m)).leaves (intervals t (close_all (late t m) m)).issues [] (late t m) none

-- ---- pump
-- "ours are lower case, version 4"
abbrev pub own_identity : Bytes → Bytes
own_identity random = version4_of random

abbrev pub due_message : Machine → ℕ → Bytes → Due → Message
due_message m t id the_version = version id m.setup.table.site m.setup.table.sxl
due_message m t id the_watchdog = watchdog id t
due_message m t id the_aggregated = aggregated_message m.setup.table id m.aggregated m.aggregated_time
due_message m t id (the_alarm i) = alarm_message m.setup.table id i (alarm_at m i)
due_message m t id (the_held h) = record_message m.setup.table id h.content

abbrev pub sent_as : Machine → ℕ → Due → Sent
sent_as m l the_version = own_version
sent_as m l the_watchdog = own_watchdog
sent_as m l the_aggregated = no_record
sent_as m l (the_alarm i) = carried_by m l i
sent_as m l (the_held h) = the_record h.sequence

-- the number of the record that a message carried
abbrev pub carried : Sent → Option ℕ
carried own_version = none
carried own_watchdog = none
carried no_record = none
carried (the_record n) = some n

abbrev pub passed : Life → Life
passed k = life_of k.connected k.versions k.watchdogs k.version k.beat (suc k.pass) k.awaited

abbrev pub beaten : ℕ → Life → Life
beaten t k = life_of k.connected k.versions (now_sent k.watchdogs) k.version t k.pass k.awaited

abbrev pub after_sending : ℕ → Due → Life → Life
after_sending t the_version k = with_versions (now_sent k.versions) k
after_sending t the_watchdog k = beaten t k
after_sending t the_aggregated k = passed k
after_sending t (the_alarm i) k = passed k
after_sending t (the_held h) k = k

abbrev pub mark_sent : Sent → Machine → Machine
mark_sent message m = maybe m (λ n. with_held (map (marked n) m.pool.held) m) (carried message)

unfoldable pub sends : ℕ → ℕ → Bytes → Machine → Due → Effect
sends l t id m d =
    effect (with_life l (awaiting id t (sent_as m l d) (after_sending t d (life_at m l))) (mark_sent (sent_as m l d) m))
    [] (due_message m t id d ∷ []) [] none

-- ---- packet: an answer
-- "A MessageNotAck to our Version, or to our Watchdog while Beating, closes the link."
abbrev pub answer_closes : Life → Bool → Sent → Bool
answer_closes k is_ack own_version = not is_ack
answer_closes k is_ack own_watchdog = not is_ack and is_beating k
answer_closes k is_ack no_record = false
answer_closes k is_ack (the_record n) = false

abbrev pub acknowledges : Bool → Sent → Life → Life
acknowledges is_ack own_version k = if' is_ack then with_versions (now_acknowledged k.versions) k else k
acknowledges is_ack own_watchdog k = if' is_ack then with_watchdogs (now_acknowledged k.watchdogs) k else k
acknowledges is_ack no_record k = k
acknowledges is_ack (the_record n) k = k

abbrev pub settle : ℕ → Sent → Machine → Machine
settle l message m = maybe m (λ n. with_held (settled l n m.pool.held) m) (carried message)

unfoldable pub answers : ℕ → Bytes → Bool → Machine → Awaited → Effect
answers l s is_ack m a =
    if' answer_closes (life_at m l) is_ack a.message then closes l [] m
    else only (with_life l (answered_to s (acknowledges is_ack a.message (life_at m l))) (settle l a.message m))

unfoldable pub answered : ℕ → Json → Machine → Effect
answered l j m =
    maybe (only m) (answers l (string_of "oMId" j) (is_type "MessageAck" j) m) (awaited_by (life_at m l) (string_of "oMId" j))

-- ---- packet: any other, "If the call is done, any other packet except an answer gets one answer."
-- "An answer's oMId repeats the received mId unchanged."
abbrev pub refusal : Json → String → Message
refusal j reason = not_ack (string_of "mId" j) (text reason)

-- "A failure of these three sends MessageNotAck and closes the link."
unfoldable pub refuses : ℕ → Json → Machine → String → Effect
refuses l j m reason = if' fails_check reason then closes l (refusal j reason ∷ []) m else effect m [] (refusal j reason ∷ []) [] none

abbrev pub agreed : List ℕ → Life → Life
agreed chosen k = life_of k.connected (now_taken k.versions) k.watchdogs chosen k.beat k.pass k.awaited

abbrev pub version_accepted : ℕ → Json → Machine → Effect
version_accepted l j m = only (with_life l (agreed (or_else [] (common j)) (life_at m l)) m)

-- "Only the primary's watchdog time is a clock hint." Request 05: "with fewer [decimals] the watchdog is acknowledged and no hint given."
abbrev pub watchdog_taken : ℕ → Json → Machine → Effect
watchdog_taken l j m =
    effect (with_life l (with_watchdogs (now_taken (life_at m l).watchdogs) (life_at m l)) m)
    [] [] []
    (if' is_primary m l then hint_in (string_of "wTs" j) else none)

abbrev pub alarm_ordered : ℕ → Json → Machine → ℕ → Effect
alarm_ordered t j m i = happens m i (ordered t j (alarm_at m i))

-- what a packet that no reason refuses does besides its answer and its reply
unfoldable pub carried_out : ℕ → ℕ → Json → Machine → Effect
carried_out l t j m =
    if' is_type "Version" j then version_accepted l j m
    else if' is_type "Watchdog" j then watchdog_taken l j m
    else if' is_type "Alarm" j then alarm_ordered t j m (or_else 0 (alarm_asked m j))
    else if' is_type "StatusSubscribe" j then subscribe m t l j
    else if' is_type "StatusUnsubscribe" j then unsubscribe m l j
    else if' asks_for "CommandRequest" j then commands m j
    else only m

-- "Request from the primary is answered, suspended or not, with states, last event and its time, carrying no record"
abbrev pub reply_message : Machine → ℕ → Bytes → Json → Message
reply_message m t id j =
    if' is_type "Alarm" j then alarm_message m.setup.table id (or_else 0 (alarm_asked m j)) (alarm_at m (or_else 0 (alarm_asked m j)))
    else if' is_type "AggregatedStatusRequest" j then aggregated_message m.setup.table id m.aggregated m.aggregated_time
    else if' is_type "CommandRequest" j then command_message m t id j
    else response_message m t id j

-- "the answer first, behind the one before": MessageAck, and the reply where one is due
unfoldable pub replying : ℕ → ℕ → Bytes → Json → Effect → Effect
replying l t id j e =
    if' replies_at_once j then handing e.commands e.leaves e.issues (included_message e.leaves t j ∷ []) e.closed e.hint
    else if' wants_reply e.leaves l j then
    handing e.commands (with_life l (awaiting id t no_record (life_at e.leaves l)) e.leaves) e.issues
    (ack (string_of "mId" j) ∷ reply_message e.leaves t id j ∷ []) e.closed e.hint
    else handing e.commands e.leaves e.issues (ack (string_of "mId" j) ∷ []) e.closed e.hint

unfoldable pub receives : ℕ → ℕ → Bytes → Machine → Json → Effect
receives l t id m j =
    if' is_answer j then answered l j m
    else maybe (replying l t id j (carried_out l t j m)) (refuses l j m) (reason_of m l j)

-- ---- every call
unfoldable pub effect_of : Machine → ℕ → Act → Effect
effect_of m t (connect l) = connects l m
effect_of m t (disconnect l) = closes l [] m
effect_of m t (packet l random s room) = maybe (only m) (receives l t (own_identity random) m) (read_packet s)
effect_of m t (alarm_input i active) = happens m i (with_input active t (alarm_at m i))
effect_of m t (status_value i v) = becomes m i v t
effect_of m t (aggregated_value v) = aggregates m v t
effect_of m t tick = ticks t m
effect_of m t (pump l random room) = maybe (only m) (sends l t (own_identity random) m) (due m l t)
