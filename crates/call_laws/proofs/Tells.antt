-- The messages that tell a part of a sound site are well-formed.
-- Assumes nothing.
use Rattle.basis.proofs.Std.{ℕ, ◌^◌, ◌≤◌, ◌<◌, ◌≡◌, sym, subst, Bool, true, false, List, arith, mod-lt, eqb, lit<, length, get_or, pick, picked}
use Rattle.label.specs.Label.{text_of}
use Rattle.table_item.specs.declared.Item.{Item}
use Rattle.number.proofs.RoundTrip.{signed_range}
use Rattle.identity.specs.Read.{SixteenBytes}
use Rattle.entry.specs.declared.Entry.{Entry}
use Rattle.entry.specs.Flags.{event_of, is_known, is_old}
use Rattle.entry.specs.Valid.{OfKind, Alarm as AnAlarm, Status as AStatus}
use Rattle.entry.specs.Valid.OfKind.{an_alarm, a_status, an_aggregated}
use Rattle.entry.proofs.ValidLaws.{alarm_flags_lem}
use Rattle.status.specs.declared.Status.{Status}
use Rattle.table_whole.specs.Table.{Row, no_row}
use Rattle.table_whole.specs.Allowed.{IsAlarm, IsStatus}
use Rattle.table_whole.specs.Memory.{item_of}
use Rattle.write_message.specs.declared.AlarmState.{AlarmState}
use Rattle.write_message.specs.declared.Value.{Value}
use Rattle.write_message.specs.declared.Value.TheVariants.{Unknown}
use Rattle.write_message.specs.Message.Message.{version}
use Rattle.write_laws.specs.Formed.{Label, FormedState, FormedValue, Formed}
use Rattle.write_laws.specs.Formed.FormedValue.{recent, old, unknown}
use Rattle.write_laws.specs.Formed.FormedStatuses.{none, more}
use Rattle.write_laws.specs.Formed.Formed.{formed_version, formed_alarm, formed_aggregated, formed_statuses}
use Rattle.site.specs.declared.Site.{Site}
use Rattle.site.specs.Parts.{alarm_at, alarm_row_at, status_row_at}
use Rattle.send_message.specs.Sending.{component_text, state_of, held_state, alarm_told, alarm_message, aggregated_told, aggregated_message, known_value, status_value, held_value, status_told, entry_message}
use Rattle.call_laws.specs.Sound.{SoundStatus, items_of, EntryOf, SoundAt}
use Rattle.call_laws.specs.Formedness.{Messages}
use Rattle.call_laws.proofs.Rows.{label_text, component_label, site_label, sxl_label, alarm_row, alarm_allowed, status_row, status_allowed}

pub known_formed : (b : Bool) (w : ℕ) → w < 2 ^ 32 → FormedValue (known_value b w)
known_formed true w h = old (signed_range w h)
known_formed false w h = recent (signed_range w h)

pub value_formed : (x : Status) → SoundStatus x → FormedValue (status_value x)
value_formed x h = picked FormedValue (eqb x.known 1) (known_value false x.value) Unknown (λ e. known_formed false x.value h.value) (λ e. unknown)

module _ (now : ℕ) (s : Site) (h : SoundAt now s) (id : List ℕ) (sixteen : SixteenBytes id) where
  component_formed : (c : ℕ) → c < length h.start.read.components → Label (component_text s c)
  component_formed c i = component_label s.linkcount s.primary s.period s.table h.start c i

  pub version_formed : Formed (version id (text_of s.table.site) (text_of s.table.sxl))
  version_formed =
      formed_version sixteen (site_label s.linkcount s.primary s.period s.table h.start) (sxl_label s.linkcount s.primary s.period s.table h.start)

  -- ---- alarms
  told_row : (r : Row) → IsAlarm (length h.start.read.components) r → (x : AlarmState) → FormedState x → Formed (alarm_told s id (item_of r) x)
  told_row r a x f = formed_alarm sixteen (component_formed r.component a.component) (label_text r.code a.code) f

  told_at : (k : ℕ) → k < s.table.alarmcount → (f : Item → AlarmState)
      → ((r : Row) → IsAlarm (length h.start.read.components) r → FormedState (f (item_of r))) → Formed (alarm_told s id (alarm_row_at s k) (f (alarm_row_at s k)))
  told_at k i f g =
      let a = alarm_allowed s.linkcount s.primary s.period s.table h.start k i in
      subst (λ (row : Item). Formed (alarm_told s id row (f row))) (alarm_row s.linkcount s.primary s.period s.table h.start k i)
      (told_row (get_or h.start.read.alarms k no_row) a (f (item_of (get_or h.start.read.alarms k no_row))) (g _ a))

  pub alarm_formed : (k : ℕ) → k < s.table.alarmcount → Formed (alarm_message s id k)
  alarm_formed k i =
      let a = h.alarms.each k in
      let before = a.time in
      let end = h.last in
      told_at k i (state_of (alarm_at s k))
      (λ r q. record { time = omega (arith, before, end); event = a.event; category = q.category; lowest = q.lowest; highest = q.highest })

  event_below : (e : Entry) → AnAlarm e → event_of e.flags ≤ 2
  event_below e a = omega (arith, (alarm_flags_lem a).0)

  held_alarm : (e : Entry) → AnAlarm e → e.time ≤ now → e.item < s.table.alarmcount → Formed (alarm_told s id (alarm_row_at s e.item) (held_state e (alarm_row_at s e.item)))
  held_alarm e a t i =
      let end = h.last in
      told_at e.item i (held_state e)
      (λ r q. record { time = omega (arith, t, end); event = event_below e a; category = q.category; lowest = q.lowest; highest = q.highest })

  -- ---- the aggregated status
  aggregated_told_lem : (time value : ℕ) → time ≤ now → Formed (aggregated_told s id time value)
  aggregated_told_lem time value t =
      let end = h.last in
      formed_aggregated {time = time} sixteen (component_formed 0 h.start.allowed.fewest_components) (omega (arith, t, end)) (mod-lt value (lit< tt))

  pub aggregated_formed : Formed (aggregated_message s id)
  aggregated_formed = aggregated_told_lem s.aggregated.time s.aggregated.value h.aggregated.time

  -- ---- statuses
  status_told_lem : (r : Row) → IsStatus (length h.start.read.components) r → (time : ℕ) → time ≤ now → (v : Value) → FormedValue v → Formed (status_told s id (item_of r) time v)
  status_told_lem r a time t v f =
      let end = h.last in
      formed_statuses {time = time} sixteen (component_formed r.component a.component) (omega (arith, t, end))
      (more (record { code = label_text r.code a.code; name = label_text r.name a.name; value = f }) none)

  held_status : (e : Entry) → AStatus e → e.time ≤ now → e.item < s.table.statuscount → Formed (status_told s id (status_row_at s e.item) e.time (held_value e))
  held_status e a t i =
      subst (λ (row : Item). Formed (status_told s id row e.time (held_value e))) (status_row s.linkcount s.primary s.period s.table h.start e.item i)
      (status_told_lem (get_or h.start.read.statuses e.item no_row) (status_allowed s.linkcount s.primary s.period s.table h.start e.item i) e.time t (held_value e)
      (picked FormedValue (is_known e.flags) (known_value (is_old e.flags) e.value) Unknown (λ k. known_formed (is_old e.flags) e.value a.value) (λ k. unknown)))

  -- ---- records, by kind
  module _ (e : Entry) (g : EntryOf s now e) where
    abbrev OfKind-formed : ℕ → Type 0
    OfKind-formed kind =
        Formed (pick (eqb kind 0) (alarm_told s id (alarm_row_at s e.item) (held_state e (alarm_row_at s e.item)))
        (pick (eqb kind 1) (status_told s id (status_row_at s e.item) e.time (held_value e)) (aggregated_told s id e.time e.value)))

    item_of_lem : (kind : ℕ) → e.kind ≡ kind → e.item < items_of s.table kind
    item_of_lem kind k = subst (λ (n : ℕ). e.item < items_of s.table n) k g.item

    by_kind : OfKind e → OfKind-formed e.kind
    by_kind (an_alarm a) = subst OfKind-formed (sym a.kind) (held_alarm e a g.time (item_of_lem 0 a.kind))
    by_kind (a_status a) = subst OfKind-formed (sym a.kind) (held_status e a g.time (item_of_lem 1 a.kind))
    by_kind (an_aggregated a) = subst OfKind-formed (sym a.kind) (aggregated_told_lem e.time e.value g.time)

    pub entry_formed : Formed (entry_message s id e)
    entry_formed = by_kind g.valid.of_kind

pub messages : Messages
messages = record { version = version_formed; alarm = alarm_formed; aggregated = aggregated_formed; entry = entry_formed }
