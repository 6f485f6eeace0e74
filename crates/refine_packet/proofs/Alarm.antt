-- What they order of an alarm is the machine's.
-- Assumes nothing.
use Rattle.basis.proofs.Std.{ℕ, ◌<◌, String, arith, ◌≡◌, refl, sym, ap, subst, ◌∙◌, Bool, true, false, [], Option, some, none, length, pick, both, text}
use Rattle.answer.specs.Given.Hint.{none as no_hint}
use Rattle.identity.specs.declared.Identity.{Identity}
use Rattle.identity.specs.Read.{SixteenBytes}
use Rattle.label.specs.declared.Label.{Label}
use Rattle.label.specs.Label.{label_of}
use Rattle.table_whole.specs.declared.SiteTable.{SiteTable}
use Rattle.table_whole.specs.Memory.{memory_of}
use Rattle.json_value.specs.Grammar.{Json}
use Rattle.alarm.specs.declared.Order.TheVariants.{Acknowledge as Acknowledging, Suspend as Suspending, Resume as Resuming}
use Rattle.link.specs.declared.Role.{Role}
use Rattle.link.specs.declared.Role.TheVariants.{Primary, Secondary}
use Rattle.read_head.specs.declared.Verdict.{Verdict}
use Rattle.read_head.specs.declared.Verdict.TheVariants.{Good}
use Rattle.read_head.specs.declared.Order.{Order}
use Rattle.read_head.specs.declared.Order.TheVariants.{Request, Acknowledge, Suspend, Resume}
use Rattle.read_head.specs.declared.AlarmFields.{AlarmFields}
use Rattle.read_head.specs.Small.{alarm_at as alarm_read}
use Rattle.packet_lookup.specs.declared.SoughtAlarm.{SoughtAlarm}
use Rattle.packet_lookup.specs.declared.SoughtAlarm.TheVariants.{Alarm as Found, NoComponent, NoAlarm}
use Rattle.packet_lookup.specs.Sought.{alarm_sought}
use Rattle.send_message.specs.Sending.{alarm_message}
use Rattle.site.specs.declared.Site.{Site}
use Rattle.packet_alarm.specs.Orders.{request_by, request_taken, ordered, ordered_of, found_taken, alarm_taken}
use Rattle.machine.specs.Words.{Bytes, maybe, is_some, or_else}
use Rattle.machine.specs.State.{Alarm, Machine, life_at, alarm_at, only}
use Rattle.machine.specs.Json.{read_packet, string_at, string_of, element_is, is_type}
use Rattle.machine.specs.Life.{is_older, is_primary}
use Rattle.machine.specs.Table.{alarm_number}
use Rattle.machine.specs.Messages.{alarm_message as alarm_told}
use Rattle.machine.specs.Answers.{component_asked, alarm_asked, wants_reply}
use Rattle.machine.specs.Items.{acknowledged_at, suspended_at, resumed_at, happens, ordered as ordered_in}
use Rattle.machine.specs.Effects.{alarm_ordered, carried_out, reply_message}
use Rattle.refine_read.specs.Verdicts.{verdict_in}
use Rattle.refine_read.specs.Reasons.{by_verdict as reason_by, further_reason, busy_if}
use Rattle.refine_read.specs.Fields.{order_word}
use Rattle.refine_read.proofs.Kept as Reads
use Rattle.refine_parts.specs.Same.{Beside}
use Rattle.refine_parts.proofs.ItemActs.{item_acts}
use Rattle.refine_calls.specs.Abstracts.{Abstracts}
use Rattle.refine_calls.proofs.Messages.{messages}
use Rattle.refine_packet.proofs.Lookups.{same_lookups}
use Rattle.refine_packet.proofs.Plans.{left}
use Rattle.refine_packet.specs.Taken.{SameTaken, question_on}
use Rattle.refine_packet.proofs.Refused.{reasons, by_verdict_lem}
use Rattle.refine_packet.proofs.Acked.{same_role, only_acked}
use Rattle.refine_packet.specs.Ordered.{IsUp, SameAlarm}
use Rattle.refine_packet.proofs.Replied.{reply}
use Rattle.refine_packet.proofs.Changed.{changed}

abbrev order_by : Order → ℕ → Alarm → Option Alarm
order_by Request t a = none
order_by Acknowledge t a = acknowledged_at t a
order_by Suspend t a = suspended_at t a
order_by Resume t a = resumed_at t a

abbrev is_request : Order → Bool
is_request Request = true
is_request Acknowledge = false
is_request Suspend = false
is_request Resume = false

module _ (j : Json) (ty : string_at "type" j ≡ some (text "Alarm")) where
  is_alarm : is_type "Alarm" j ≡ true
  is_alarm = rw ty

  replies_so : (m : Machine) (l : ℕ) → wants_reply m l j ≡ pick (both (element_is "aSp" "Request" j) (is_primary m l)) true false
  replies_so m l = rw ty

  told_so : (m : Machine) (t : ℕ) (id : Bytes) → reply_message m t id j ≡ alarm_told m.setup.table id (or_else 0 (alarm_asked m j)) (alarm_at m (or_else 0 (alarm_asked m j)))
  told_so m t id = rw ty

  done_so : (l t : ℕ) (m : Machine) → carried_out l t j m ≡ alarm_ordered t j m (or_else 0 (alarm_asked m j))
  unfolding carried_out
  done_so l t m = rw ty

  order_so : (o : Order) → string_at "aSp" j ≡ some (text (order_word o)) → (t : ℕ) (a : Alarm) → ordered_in t j a ≡ order_by o t a
  order_so Request e t a = rw e
  order_so Acknowledge e t a = rw e
  order_so Suspend e t a = rw e
  order_so Resume e t a = rw e

  request_so : (o : Order) → string_at "aSp" j ≡ some (text (order_word o)) → element_is "aSp" "Request" j ≡ is_request o
  request_so Request e = rw e
  request_so Acknowledge e = rw e
  request_so Suspend e = rw e
  request_so Resume e = rw e

same_pick : (c : Bool) → pick c true false ≡ c
same_pick true = refl
same_pick false = refl

nothing_happens : (m : Machine) (k : ℕ) → happens m k none ≡ only m
unfolding happens
nothing_happens m k = refl

module _ {beside : Beside} (s : Site) (m : Machine) (h : Abstracts beside s m) (l : ℕ) (b : l < m.setup.links) (up : IsUp (life_at m l)) (t : ℕ) (id : Identity) (v : SixteenBytes id.bytes) (j : Json) (ty : string_at "type" j ≡ some (text "Alarm")) where
  module _ (k : ℕ) (there : k < length m.alarms) (asked : alarm_asked m j ≡ some k) where
    happens_so : (o : Order) → string_at "aSp" j ≡ some (text (order_word o)) → carried_out l t j m ≡ happens m k (order_by o t (alarm_at m k))
    happens_so o e =
        done_so j ty l t m ∙ ap (λ (q : Option ℕ). alarm_ordered t j m (or_else 0 q)) asked ∙ ap (happens m k) (order_so j ty o e t (alarm_at m k))

    wants_so : (o : Order) → string_at "aSp" j ≡ some (text (order_word o)) → wants_reply m l j ≡ both (is_request o) (is_primary m l)
    wants_so o e =
        replies_so j ty m l ∙ same_pick (both (element_is "aSp" "Request" j) (is_primary m l)) ∙ ap (λ (c : Bool). both c (is_primary m l)) (request_so j ty o e)

    by_role : string_at "aSp" j ≡ some (text "Request") → (c : Bool) → is_primary m l ≡ c
        → SameTaken beside s m l t id j (request_by s (question_on l t id j) k (pick c Primary Secondary)) (busy_if m l c)
    by_role e true q =
        reply s m h l b up t id v j (alarm_message s id.bytes k) (happens_so Request e ∙ nothing_happens m k) (rw ty) (wants_so Request e ∙ q)
        ((messages.messages s m h.items id.bytes).alarm k there
        ∙ sym (told_so j ty m t id.bytes ∙ ap (λ (x : Option ℕ). alarm_told m.setup.table id.bytes (or_else 0 x) (alarm_at m (or_else 0 x))) asked))
    by_role e false q =
        only_acked s m l t id j s [] no_hint (only m) (happens_so Request e ∙ nothing_happens m k) (rw ty) (wants_so Request e ∙ q) (wants_so Request e ∙ q) refl refl
        (left s m h _)

    by_order : (o : Order) → string_at "aSp" j ≡ some (text (order_word o))
        → SameTaken beside s m l t id j (ordered s (question_on l t id j) k o) (busy_if m l (both (is_request o) (is_primary m l)))
    unfolding request_taken
    by_order Request e =
        subst (λ (r : Role). SameTaken beside s m l t id j (request_by s (question_on l t id j) k r) (busy_if m l (is_primary m l))) (sym (same_role s m h l b))
        (by_role e (is_primary m l) refl)
    by_order Acknowledge e =
        changed s m h l t id j k Acknowledging (acknowledged_at t (alarm_at m k)) (happens_so Acknowledge e) (rw ty) (wants_so Acknowledge e)
        ((item_acts.acts s m h.items).orders k (question_on l t id j) there).acknowledge
    by_order Suspend e =
        changed s m h l t id j k Suspending (suspended_at t (alarm_at m k)) (happens_so Suspend e) (rw ty) (wants_so Suspend e)
        ((item_acts.acts s m h.items).orders k (question_on l t id j) there).suspend
    by_order Resume e =
        changed s m h l t id j k Resuming (resumed_at t (alarm_at m k)) (happens_so Resume e) (rw ty) (wants_so Resume e)
        ((item_acts.acts s m h.items).orders k (question_on l t id j) there).resume

  module _ (p : Bytes) (read : read_packet p ≡ some j) where
    abbrev f : AlarmFields
    f = alarm_read p

    abbrev found_in : Option ℕ → Option ℕ
    found_in o = maybe none (λ (c : ℕ). alarm_number m.setup.table c (string_of "aCId" j)) o

    abbrev sought_in : Option ℕ → SoughtAlarm
    sought_in o = maybe NoComponent (λ (c : ℕ). maybe NoAlarm Found (alarm_number m.setup.table c (string_of "aCId" j))) o

    abbrev asks : Bool
    asks = both (element_is "aSp" "Request" j) (is_primary m l)

    sought : f.verdict ≡ Good → alarm_sought s.table f.component f.code ≡ sought_in (component_asked m j)
    sought g =
        ap (λ (x : SiteTable). alarm_sought x f.component f.code) h.items.setup.table
        ∙ ap (λ (x : Label). alarm_sought (memory_of m.setup.table) x f.code) (((Reads.kept).alarm p j read).component g)
        ∙ ap (alarm_sought (memory_of m.setup.table) (label_of (string_of "cId" j))) (((Reads.kept).alarm p j read).code g)
        ∙ (same_lookups h.items.setup.edition m.setup.table h.items.setup.allowed).alarm (string_of "cId" j) (string_of "aCId" j)

    by_alarm : f.verdict ≡ Good → (c : ℕ) → component_asked m j ≡ some c → (o : Option ℕ) → alarm_number m.setup.table c (string_of "aCId" j) ≡ o
        → SameTaken beside s m l t id j (ordered_of s (question_on l t id j) f.order (maybe NoAlarm Found o)) (pick (is_some o) (busy_if m l asks) (some "Unknown alarm"))
    by_alarm g c e none q = (reasons s m h l b t id j).unknown_alarm_lem
    by_alarm g c e (some k) q =
        subst (λ (x : Bool). SameTaken beside s m l t id j (ordered s (question_on l t id j) k f.order) (busy_if m l (both x (is_primary m l))))
        (sym (request_so j ty f.order (((Reads.kept).alarm p j read).order g)))
        (by_order k
        (omega (arith, (same_lookups h.items.setup.edition m.setup.table h.items.setup.allowed).alarm_there c (string_of "aCId" j) k q, h.items.alarm_count))
        (ap found_in e ∙ q) f.order (((Reads.kept).alarm p j read).order g))

    by_component : f.verdict ≡ Good → (o : Option ℕ) → component_asked m j ≡ o
        → SameTaken beside s m l t id j (ordered_of s (question_on l t id j) f.order (sought_in o))
        (pick (is_some o) (pick (is_some (found_in o)) (busy_if m l asks) (some "Unknown alarm")) (some "Unknown component"))
    by_component g none e = (reasons s m h l b t id j).unknown_component_lem
    by_component g (some c) e = by_alarm g c e (alarm_number m.setup.table c (string_of "aCId" j)) refl

    abbrev reason : Option String
    reason = pick (is_some (component_asked m j)) (pick (is_some (alarm_asked m j)) (busy_if m l asks) (some "Unknown alarm")) (some "Unknown component")

    good : f.verdict ≡ Good → SameTaken beside s m l t id j (found_taken s (question_on l t id j) f) reason
    unfolding found_taken
    good g =
        subst (λ (x : SoughtAlarm). SameTaken beside s m l t id j (ordered_of s (question_on l t id j) f.order x) reason) (sym (sought g))
        (by_component g (component_asked m j) refl)

    taken : SameTaken beside s m l t id j (alarm_taken s (question_on l t id j) f) (reason_by (verdict_in (is_older (life_at m l)) j) (further_reason m l j))
    unfolding alarm_taken
    taken =
        subst (λ (x : Verdict). SameTaken beside s m l t id j (alarm_taken s (question_on l t id j) f) (reason_by x (further_reason m l j)))
        (((Reads.kept).alarm p j read).verdict (is_older (life_at m l)) (is_alarm j ty))
        (subst (λ (r : Option String). SameTaken beside s m l t id j (alarm_taken s (question_on l t id j) f) (reason_by f.verdict r))
        (sym (((Reads.kept).further m l j).alarm (is_alarm j ty)))
        (by_verdict_lem s m h l b t id j f.verdict (found_taken s (question_on l t id j) f) reason good))

pub same_alarm_lem : SameAlarm
same_alarm_lem beside s m h l b up t id v p j read ty = taken s m h l b up t id v j ty p read
