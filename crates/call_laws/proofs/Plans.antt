-- The messages of every call that writes are well-formed and have room in 4,096 bytes.
-- Assumes nothing.
use Rattle.basis.proofs.Std.{ℕ, ◌+◌, ◌%◌, ◌≤◌, ◌<◌, ◌≡◌, refl, sym, ◌∙◌, ap, subst, Bool, true, List, [], ◌∷◌, ◌++◌, ◌⊎◌, inl, inr, arith, eqb, ltb, lit≤, length, get_or, set, length-set, length-append, count, eqb-true, get_or-eq_default, picked, lt_or_ge, both_first, both_second}
use Rattle.identity.specs.declared.Identity.{Identity}
use Rattle.identity.specs.Read.{SixteenBytes}
use Rattle.identity.specs.Version.{version4_of}
use Rattle.label.specs.Label.{text_of}
use Rattle.entry.specs.declared.Entry.{Entry}
use Rattle.names.specs.Names.{name_of, IsReason}
use Rattle.pool.specs.declared.Place.{Place}
use Rattle.pool.specs.declared.Pool.{Pool}
use Rattle.pool.specs.declared.Wanted.TheVariants.{Unsent}
use Rattle.pool.specs.declared.Spot.{Spot}
use Rattle.pool.specs.declared.Sought.{Sought as Searched}
use Rattle.pool.specs.declared.Sought.TheVariants.{Found as FoundEntry, Nothing as NoEntry}
use Rattle.pool.specs.Places.{of, fits, sought_at}
use Rattle.pool.specs.Pool.{oldest_unsent}
use Rattle.pool_laws.proofs.Inv.{of_used}
use Rattle.pool_laws.proofs.Oldest.{Oldest, the_oldest, no_oldest}
use Rattle.link.specs.declared.Due.{Due}
use Rattle.link.specs.declared.Due.TheVariants.{Nothing, Version, Watchdog, Aggregated, Alarm, Entry as DueEntry}
use Rattle.link.specs.declared.Role.{Role}
use Rattle.link.specs.declared.Role.TheVariants.{Primary, Secondary}
use Rattle.link.specs.Fields.{closed_link}
use Rattle.link.specs.Phase.{phase_of}
use Rattle.link.specs.Due.{due_of}
use Rattle.link.specs.Steps.{full_of, closes_of}
use Rattle.write_message.specs.declared.Told.{Told}
use Rattle.write_message.specs.declared.Told.TheVariants.{Response, Command as CommandResponse}
use Rattle.write_message.specs.Message.{Message, Status}
use Rattle.write_message.specs.Message.Message.{ack, not_ack, statuses}
use Rattle.write_message.specs.Listing.{bytes_of}
use Rattle.write_laws.specs.Formed.{Label, Received, FormedStatuses, Answering, Formed}
use Rattle.write_laws.specs.Formed.Answering.{a_status, a_command}
use Rattle.write_laws.specs.Formed.Formed.{formed_watchdog, formed_ack, formed_not_ack, formed_statuses, formed_included}
use Rattle.write_laws.specs.Size.{most, entries_in}
use Rattle.write_laws.proofs.Kept.{kept as lawful}
use Rattle.read_head.specs.declared.Verdict.{Verdict}
use Rattle.read_head.specs.declared.Verdict.TheVariants.{Good, Missing, Bad}
use Rattle.read_head.specs.declared.Order.{Order}
use Rattle.read_head.specs.declared.Order.TheVariants.{Request, Acknowledge, Suspend, Resume}
use Rattle.read_head.specs.declared.AlarmFields.{AlarmFields}
use Rattle.read_head.specs.declared.GotLabel.{GotLabel}
use Rattle.read_head.specs.declared.GotTime.{GotTime}
use Rattle.read_lists.specs.declared.VersionFields.{VersionFields}
use Rattle.read_lists.specs.declared.StatusFields.{StatusFields}
use Rattle.read_lists.specs.declared.Asking.TheVariants.{Plain}
use Rattle.read_lists.specs.Status.{status_at}
use Rattle.read_commands.specs.declared.CommandFields.{CommandFields}
use Rattle.read_commands.specs.Command.{command_at}
use Rattle.read_versions.specs.declared.Judged.{Judged}
use Rattle.read_versions.specs.declared.Judged.TheVariants.{Chosen, RsmpVersion, SiteId, SxlVersion}
use Rattle.read_versions.specs.Judge.{judge}
use Rattle.packet_lookup.specs.declared.Sought.{Sought}
use Rattle.packet_lookup.specs.declared.Sought.TheVariants.{Is, Nothing as NoSuch}
use Rattle.packet_lookup.specs.declared.SoughtAlarm.{SoughtAlarm}
use Rattle.packet_lookup.specs.declared.SoughtAlarm.TheVariants.{Alarm as AnAlarm, NoComponent, NoAlarm}
use Rattle.packet_lookup.specs.Sought.{component_sought, alarm_sought, all_statuses}
use Rattle.send_message.specs.Sending.{alarm_message, aggregated_message, entry_message}
use Rattle.site.specs.declared.Site.{Site}
use Rattle.site.specs.Site.{role_of, link_at, owner_of, owned_by}
use Rattle.site.specs.Call.{Command, Plan}
use Rattle.call_pump.specs.Pump.{is_held, Below, due_at, entry_plan, plan_for, pump_plan}
use Rattle.call_pump.proofs.Laws.{due_below}
use Rattle.packet_answer.specs.declared.Question.{Question}
use Rattle.packet_answer.specs.Taken.{Taken, not_acked, handing, replied, by_verdict, unless_busy, answering, missing_element, bad_value, rsmp_version, site_id, sxl_version, busy, unknown_component, unknown_alarm, unknown_status, unknown_command}
use Rattle.packet_greet.specs.Answered.{answered_plan}
use Rattle.packet_greet.specs.Version.{own, version_judged, version_taken}
use Rattle.packet_greet.specs.Watchdog.{beat, watchdog_taken}
use Rattle.packet_subscribe.specs.Subscribing.{changed, judged, asked, subscribing_taken}
use Rattle.packet_alarm.specs.Orders.{change_taken, is_zero, request_by, request_taken, ordered, ordered_of, found_taken, alarm_taken, aggregated_of, aggregated_taken}
use Rattle.packet_status.specs.StatusReply.{passes, told, requested_of, status_taken}
use Rattle.packet_command.specs.Commanding.{keeps_ranges, commands_of, ordered_of as commanded_of, command_taken, passes as all_there, told as told_commands}
use Rattle.call_laws.specs.Sound.{EachHeld, EntryOf, HeldOf, SoundAt}
use Rattle.call_laws.proofs.Held.{held_at, held_so}
use Rattle.call_laws.proofs.Owners.{owns}
use Rattle.call_laws.proofs.Parts.{each_set}
use Rattle.call_laws.proofs.Found.{AlarmBelow, alarm_below}
use Rattle.call_laws.specs.Formedness.{Sendable, Plans}
use Rattle.call_laws.proofs.Tells.{version_formed, alarm_formed, aggregated_formed, entry_formed}
use Rattle.call_laws.proofs.Entries.{GoodFields, fields_good, told_to_lem, told_length}
use Rattle.call_laws.proofs.Commands.{GoodCommands, commands_good, told_commands_lem, commands_length}

-- ---- how much room messages take
append-nil : (d : List ℕ) → d ++ [] ≡ d
append-nil [] = refl
append-nil (x ∷ d) = ap (λ (r : List ℕ). x ∷ r) (append-nil d)

pub no_message : Sendable []
no_message = record { formed = tt; room = omega arith }

one_message : (m : Message) → Formed m → most m ≤ 4096 → Sendable (m ∷ [])
one_message m f h = record { formed = (f, tt); room = omega (arith, lawful.long m f, h, ap length (append-nil (bytes_of m))) }

an_ack : (received : List ℕ) → Received received → Sendable (ack received ∷ [])
an_ack received r = one_message (ack received) (formed_ack r) (lit≤ tt)

a_reason : (received : List ℕ) → Received received → (reason : ℕ) → IsReason reason → Sendable (not_ack received (name_of reason) ∷ [])
a_reason received r reason t = one_message (not_ack received (name_of reason)) (formed_not_ack r reason t) (lit≤ tt)

and_reply : (received : List ℕ) → Received received → (m : Message) → Formed m → entries_in m ≤ 16 → Sendable (ack received ∷ m ∷ [])
and_reply received r m f h =
    record {
      formed = (formed_ack r, (f, tt));
      room = omega (arith, lawful.room received m r f h, ap (λ (z : List ℕ). length (bytes_of (ack received) ++ z)) (append-nil (bytes_of m)));
    }

-- a response that is the answer
at_once : (received : List ℕ) → Received received → (m : Message) → Formed m → entries_in m ≤ 16 → Sendable (m ∷ [])
at_once received r m f h =
    record {
      formed = (f, tt);
      room = omega (arith, lawful.room received m r f h, length-append (bytes_of (ack received)) (bytes_of m), ap length (append-nil (bytes_of m)));
    }

-- ---- identities
sixteen_still : (bs : List ℕ) → SixteenBytes bs → SixteenBytes (version4_of bs)
sixteen_still bs h =
    let first = set bs 6 (0x40 + get_or bs 6 0 % 16) in
    record {
      sixteen = length-set first 8 (0x80 + get_or bs 8 0 % 64) ∙ length-set bs 6 (0x40 + get_or bs 6 0 % 16) ∙ h.sixteen;
      bytes =
          each_set (λ (b : ℕ). b < 256) 0 first 8 (0x80 + get_or bs 8 0 % 64) (omega arith)
          (each_set (λ (b : ℕ). b < 256) 0 bs 6 (0x40 + get_or bs 6 0 % 16) (omega arith) h.bytes);
    }

-- ---- pump
abbrev Holds : (Entry → Type 0) → Searched → Type 0
Holds P (FoundEntry x) = P x.entry
Holds P NoEntry = Unit {0}

-- what is found among the held records is one of them, and of the owner asked for
found_held : (P : Entry → Type 0) (p : Pool) (l : ℕ) → EachHeld (λ (e : Entry). e.link ≡ l → P e) p.places → Holds P (oldest_unsent p l)
found_held P p l a = go (lt_or_ge 0 (count (fits (Unsent l)) p.places))
  where
    go : (0 < count (fits (Unsent l)) p.places) ⊎ (count (fits (Unsent l)) p.places ≤ 0) → Holds P (oldest_unsent p l)
    go (inl h) =
        let o : Oldest (fits (Unsent l)) p.places = the_oldest (fits (Unsent l)) p.places h in
        subst (λ (b : Spot). Holds P (sought_at b)) (sym o.is)
        (subst (λ (x : Place). ltb 0 x.mark ≡ true → x.entry.link ≡ l → P x.entry) o.stands (held_at (λ (e : Entry). e.link ≡ l → P e) p.places o.at a)
        (of_used l o.what (both_first (of l o.what) _ o.passes))
        (eqb-true o.what.entry.link l (both_second (ltb 0 o.what.mark) _ (both_first (of l o.what) _ o.passes))))
    go (inr h) = subst (λ (b : Spot). Holds P (sought_at b)) (sym (no_oldest (fits (Unsent l)) p.places (omega arith))) tt

entry_small : (s : Site) (id : List ℕ) (e : Entry) → most (entry_message s id e) ≤ 4096
entry_small s id e =
    picked (λ (m : Message). most m ≤ 4096) (eqb e.kind 0) _ _ (λ t. lit≤ tt)
    (λ t. picked (λ (m : Message). most m ≤ 4096) (eqb e.kind 1) _ _ (λ u. lit≤ tt) (λ u. lit≤ tt))

module _ (time : ℕ) (s : Site) (h : SoundAt time s) (l : ℕ) (id : Identity) (sixteen : SixteenBytes id.bytes) where
  entry_sends : (x : Searched) → Holds (EntryOf s time) x → Sendable (entry_plan x s l time id).messages
  entry_sends NoEntry g = no_message
  entry_sends (FoundEntry x) g = one_message (entry_message s id.bytes x.entry) (entry_formed time s h id.bytes sixteen x.entry g) (entry_small s id.bytes x.entry)

  held_here : l < 4 → EachHeld (λ (e : Entry). e.link ≡ owner_of s l → EntryOf s time e) s.pool.places
  held_here g = held_so (HeldOf s time) (λ (e : Entry). e.link ≡ owner_of s l → EntryOf s time e) (λ e f o. f (ap (owned_by s) o ∙ owns s l g)) s.pool.places h.held

  due_sends : l < 4 → (d : Due) → Below s.table.alarmcount d → Sendable (plan_for d s l time id).messages
  due_sends g Nothing b = no_message
  due_sends g Version b = one_message _ (version_formed time s h id.bytes sixteen) (lit≤ tt)
  due_sends g Watchdog b = one_message _ (formed_watchdog sixteen h.last) (lit≤ tt)
  due_sends g Aggregated b = one_message _ (aggregated_formed time s h id.bytes sixteen) (lit≤ tt)
  due_sends g (Alarm k) b = one_message _ (alarm_formed time s h id.bytes sixteen k b) (lit≤ tt)
  due_sends g DueEntry b = entry_sends (oldest_unsent s.pool (owner_of s l)) (found_held (EntryOf s time) s.pool (owner_of s l) (held_here g))

  -- on a link above 3 nothing is due
  no_link : 4 ≤ l → due_at s l time ≡ Nothing
  unfolding due_of phase_of
  no_link g = rw (get_or-eq_default s.links closed_link {n = l} (omega (arith, g, h.links))) refl

  pump_sends : Sendable (pump_plan s l time id).messages
  pump_sends = by (lt_or_ge l 4)
    where
      by : (l < 4) ⊎ (4 ≤ l) → Sendable (pump_plan s l time id).messages
      by (inl g) =
          due_sends g (due_at s l time)
          (due_below (link_at s l) time s.period (role_of s l) s.table.alarmcount (is_held (oldest_unsent s.pool (owner_of s l))) s.table.alarmcount (omega arith))
      by (inr g) = subst (λ (d : Due). Sendable (plan_for d s l time id).messages) (sym (no_link g)) no_message

answered_none : (s : Site) (l : ℕ) (id : Identity) (acknowledged : Bool) → (answered_plan s l id acknowledged).messages ≡ []
answered_none s l id acknowledged = picked (λ (p : Plan). p.messages ≡ []) (closes_of (link_at s l) id acknowledged) _ _ (λ e. refl) (λ e. refl)

-- ---- packets
abbrev Sends : Taken → Type 0
Sends t = Sendable t.plan.messages

module _ (s : Site) (q : Question) (r : Received q.received.bytes) where
  by_verdict_lem : (v : Verdict) (t : Taken) → (v ≡ Good → Sends t) → Sends (by_verdict v s q t)
  by_verdict_lem Good t g = g refl
  by_verdict_lem Missing t g = a_reason q.received.bytes r missing_element tt
  by_verdict_lem Bad t g = a_reason q.received.bytes r bad_value tt

  unless_busy_lem : (t : Taken) → Sends t → Sends (unless_busy s q t)
  unless_busy_lem t g = picked Sends (full_of (link_at s q.link)) (not_acked s q busy) t (λ e. a_reason q.received.bytes r busy tt) (λ e. g)

  judged_sends : (j : Judged) → Sends (version_judged s q j)
  judged_sends (Chosen v) = an_ack q.received.bytes r
  judged_sends RsmpVersion = a_reason q.received.bytes r rsmp_version tt
  judged_sends SiteId = a_reason q.received.bytes r site_id tt
  judged_sends SxlVersion = a_reason q.received.bytes r sxl_version tt

  version_sends : (f : VersionFields) → Sends (version_taken s q f)
  version_sends f = by_verdict_lem f.verdict (version_judged s q (judge (own s) f.offer)) (λ e. judged_sends (judge (own s) f.offer))

  watchdog_sends : (f : GotTime) → Sends (watchdog_taken s q f)
  watchdog_sends f = by_verdict_lem f.verdict (beat s q f) (λ e. an_ack q.received.bytes r)

  module _ (subscribing : Bool) (f : StatusFields) where
    change_sends : (c : ℕ) → Sends (judged subscribing s q f c)
    unfolding judged changed
    change_sends c =
        picked Sends (all_statuses s.table c f.entries f.count) _ (not_acked s q unknown_status)
        (λ e. an_ack q.received.bytes r) (λ e. a_reason q.received.bytes r unknown_status tt)

    asked_sends : (x : Sought) → Sends (asked subscribing s q f x)
    asked_sends (Is c) = change_sends c
    asked_sends NoSuch = a_reason q.received.bytes r unknown_status tt

    subscribing_sends : Sends (subscribing_taken subscribing s q f)
    unfolding subscribing_taken
    subscribing_sends =
        by_verdict_lem f.verdict (asked subscribing s q f (component_sought s.table f.component)) (λ e. asked_sends (component_sought s.table f.component))

  module _ (h : SoundAt q.time s) (sixteen : SixteenBytes q.identity.bytes) where
    handing_sends : (m : Message) (commands : List Command) → Formed m → entries_in m ≤ 16 → Sends (unless_busy s q (handing s q m commands))
    handing_sends m commands f e = unless_busy_lem (handing s q m commands) (and_reply q.received.bytes r m f e)

    replied_sends : (m : Message) → Formed m → entries_in m ≤ 16 → Sends (unless_busy s q (replied s q m))
    replied_sends m f e = handing_sends m [] f e

    answering_sends : (kind : Told) → Answering kind → (component : List ℕ) → Label component → (entries : List Status) → FormedStatuses entries → length entries ≤ 16
        → (commands : List Command) → Sends (answering s q kind component entries commands)
    answering_sends kind a component c entries f e commands =
        picked Sends q.included _ _ (λ t. at_once q.received.bytes r _ (formed_included a r c h.last f) e)
        (λ t. handing_sends (statuses kind q.identity.bytes component q.time entries) commands (formed_statuses sixteen c h.last f) e)

    request_sends : (k : ℕ) → k < s.table.alarmcount → (w : Role) → Sends (request_by s q k w)
    request_sends k i Primary = replied_sends (alarm_message s q.identity.bytes k) (alarm_formed q.time s h q.identity.bytes sixteen k i) (lit≤ tt)
    request_sends k i Secondary = an_ack q.received.bytes r

    ordered_sends : (k : ℕ) → k < s.table.alarmcount → (o : Order) → Sends (ordered s q k o)
    unfolding request_taken change_taken
    ordered_sends k i Request = request_sends k i (role_of s q.link)
    ordered_sends k i Acknowledge = an_ack q.received.bytes r
    ordered_sends k i Suspend = an_ack q.received.bytes r
    ordered_sends k i Resume = an_ack q.received.bytes r

    order_sends : (o : Order) (x : SoughtAlarm) → AlarmBelow s.table.alarmcount x → Sends (ordered_of s q o x)
    order_sends o (AnAlarm k) i = ordered_sends k i o
    order_sends o NoComponent i = a_reason q.received.bytes r unknown_component tt
    order_sends o NoAlarm i = a_reason q.received.bytes r unknown_alarm tt

    alarm_sends : (f : AlarmFields) → Sends (alarm_taken s q f)
    unfolding alarm_taken found_taken
    alarm_sends f =
        let x = alarm_sought s.table f.component f.code in
        by_verdict_lem f.verdict (ordered_of s q f.order x)
        (λ e. order_sends f.order x (alarm_below s.linkcount s.primary s.period s.table h.start f.component f.code))

    aggregated_sends : (f : GotLabel) → Sends (aggregated_taken s q f)
    unfolding aggregated_taken
    aggregated_sends f =
        let x = component_sought s.table f.label in
        let m = aggregated_message s q.identity.bytes in
        by_verdict_lem f.verdict (aggregated_of s q x)
        (λ e. picked Sends (is_zero x) (unless_busy s q (replied s q m)) (not_acked s q unknown_component)
        (λ t. replied_sends m (aggregated_formed q.time s h q.identity.bytes sixteen) (lit≤ tt)) (λ t. a_reason q.received.bytes r unknown_component tt))

    fields_send : (f : StatusFields) → GoodFields f → Sends (status_taken s q f)
    unfolding status_taken told
    fields_send f g =
        let x = component_sought s.table f.component in
        let most = g.few in
        by_verdict_lem f.verdict (requested_of s q f x)
        (λ e. picked Sends (passes s f x) _ (not_acked s q unknown_status)
        (λ t. answering_sends Response a_status (text_of f.component) (g.component e) (told s x f) (told_to_lem q.time s h x f.entries f.count (g.entries e))
        (omega (arith, told_length q.time s h x f.entries f.count, most)) [])
        (λ t. a_reason q.received.bytes r unknown_status tt))

    status_sends : (packet : List ℕ) → Sends (status_taken s q (status_at Plain packet))
    status_sends packet = fields_send (status_at Plain packet) (fields_good Plain packet)

    commands_send : (f : CommandFields) → GoodCommands f → Sends (command_taken s q f)
    unfolding command_taken told_commands
    commands_send f g =
        let x = component_sought s.table f.component in
        let most = g.few in
        by_verdict_lem f.verdict (commanded_of s q f x)
        (λ e. picked Sends (keeps_ranges s.table f x) _ (not_acked s q bad_value)
        (λ i. picked Sends (all_there s.table f x) _ (not_acked s q unknown_command)
        (λ j. answering_sends CommandResponse a_command (text_of f.component) (g.component e) (told_commands x f) (told_commands_lem x f.entries f.count (g.entries e))
        (omega (arith, commands_length x f.entries f.count, most)) (commands_of s.table f x))
        (λ j. a_reason q.received.bytes r unknown_command tt))
        (λ i. a_reason q.received.bytes r bad_value tt))

    command_sends : (packet : List ℕ) → Sends (command_taken s q (command_at packet))
    command_sends packet = commands_send (command_at packet) (commands_good packet)

pub plans : Plans
plans =
    record {
      identity = sixteen_still;
      pump = pump_sends;
      answered = answered_none;
      refused = λ s q r reason t. a_reason q.received.bytes r reason t;
      version = version_sends;
      watchdog = watchdog_sends;
      subscribing = λ subscribing s q r f. subscribing_sends s q r subscribing f;
      alarm = λ s q h sixteen r f. alarm_sends s q r h sixteen f;
      aggregated = λ s q h sixteen r f. aggregated_sends s q r h sixteen f;
      status = λ s q h sixteen r packet. status_sends s q r h sixteen packet;
      command = λ s q h sixteen r packet. command_sends s q r h sixteen packet;
    }
