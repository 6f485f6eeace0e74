-- The messages that tell a part of the site are the machine's.
-- Assumes nothing.
use Rattle.basis.proofs.Std.{ℕ, ◌%◌, ◌≡◌, refl, ap, ap₂, ◌∙◌, Bool, true, false, List, [], ◌∷◌, Option, some, none, eqb, ℤ, mod-eq_of_lt, bit}
use Rattle.entry.proofs.FlagLaws.{event_back, acknowledged_back, active_back, suspended_back, known_back, old_back}
use Rattle.table_item.specs.declared.Item.{Item}
use Rattle.table_whole.specs.Table.{Row}
use Rattle.table_whole.specs.Memory.{item_of}
use Rattle.table_whole.proofs.Kept.{text_label}
use Rattle.aggregated.specs.declared.Aggregated.{Aggregated}
use Rattle.write_message.specs.declared.AlarmState.{AlarmState}
use Rattle.write_message.specs.declared.Value.{Value}
use Rattle.write_message.specs.declared.Told.TheVariants.{Update}
use Rattle.write_message.specs.Message.{status}
use Rattle.write_message.specs.Message.Message.{alarm, statuses}
use Rattle.site.specs.declared.Site.{Site}
use Rattle.send_message.specs.Sending.{state_of, held_state, alarm_told, aggregated_told, status_told, held_value, entry_message}
use Rattle.machine.specs.State.{Event, event_number, Alarm, Content, Machine, alarm_at}
use Rattle.machine.specs.State.Event.{Issue, Acknowledge, Suspend}
use Rattle.machine.specs.State.Content.{of_alarm, of_status, of_aggregated}
use Rattle.machine.specs.Table.{component_text, alarm_row, status_row}
use Rattle.machine.specs.Messages.{state_of as state_in, value_of, record_message}
use Rattle.machine.specs.Readings.{entry_for}
use Rattle.refine_parts.specs.Record.{IsTold}
use Rattle.refine_parts.proofs.Entries.{contents}
use Rattle.refine_parts.specs.Items.{alarm_for, SameItems}
use Rattle.refine_calls.specs.Messages.{SameTexts, SameMessages, Messages}
use Rattle.refine_calls.proofs.Texts.{same_texts}

one_bit : (b : Bool) → eqb (bit b) 1 ≡ b
one_bit true = refl
one_bit false = refl

-- an alarm's state, as it is and out of a record
state_same : (r : Row) (a : Alarm) → state_of (alarm_for a) (item_of r) ≡ state_in r a
state_same r a = rw (one_bit a.acknowledged, one_bit a.active, one_bit a.suspended)

small_event : (e : Event) → event_number e % 4 ≡ event_number e
small_event Issue = refl
small_event Acknowledge = refl
small_event Suspend = refl

held_state_same : (l n i : ℕ) (r : Row) (a : Alarm) → held_state (entry_for l n (of_alarm i a)) (item_of r) ≡ state_in r a
held_state_same l n i r a =
    rw (
      event_back (event_number a.event) a.acknowledged a.active a.suspended,
      acknowledged_back (event_number a.event) a.acknowledged a.active a.suspended,
      active_back (event_number a.event) a.acknowledged a.active a.suspended,
      suspended_back (event_number a.event) a.acknowledged a.active a.suspended,
      small_event a.event,
    )

-- a status' value out of a record
value_same : (l n i : ℕ) (v : Option ℤ) (old : Bool) (t : ℕ) → IsTold (of_status i v old t) → held_value (entry_for l n (of_status i v old t)) ≡ value_of old v
value_same l n i none old t h = rw (known_back false old)
value_same l n i (some v) old t h = rw (known_back true old, old_back true old, contents.value_read i v old t h)

module _ (s : Site) (m : Machine) (h : SameItems s m) (id : List ℕ) where
  texts : SameTexts s m.setup
  texts = same_texts s m.setup h.setup

  -- by the row of the table
  alarm_by : (r : Row) (row : Item) (x y : AlarmState) → row ≡ item_of r → x ≡ y
      → alarm_told s id row x ≡ alarm id (component_text m.setup.table r.component) r.code y
  alarm_by r row x y e f = rw (e, f, texts.component r.component, text_label r.code)

  status_by : (r : Row) (row : Item) (t : ℕ) (x y : Value) → row ≡ item_of r → x ≡ y
      → status_told s id row t x ≡ statuses Update id (component_text m.setup.table r.component) t (status r.code r.name y ∷ [])
  status_by r row t x y e f = rw (e, f, texts.component r.component, text_label r.code, text_label r.name)

  aggregated_by : (v t : ℕ) → v % 256 ≡ v → aggregated_told s id t v ≡ record_message m.setup.table id (of_aggregated v t)
  aggregated_by v t e = rw (e, texts.component 0)

  held_same : (l n : ℕ) (c : Content) → IsTold c → entry_message s id (entry_for l n c) ≡ record_message m.setup.table id c
  held_same l n (of_alarm i a) k = alarm_by (alarm_row m.setup.table i) _ _ _ (texts.alarm i) (ap (held_state (entry_for l n (of_alarm i a))) (texts.alarm i) ∙ held_state_same l n i (alarm_row m.setup.table i) a)
  held_same l n (of_status i none old t) k = status_by (status_row m.setup.table i) _ t _ _ (texts.status i) (value_same l n i none old t k)
  held_same l n (of_status i (some v) old t) k = status_by (status_row m.setup.table i) _ t _ _ (texts.status i) (value_same l n i (some v) old t k)
  held_same l n (of_aggregated v t) k = aggregated_by v t (contents.aggregated_read v t k)

  same_messages : SameMessages s m id
  same_messages =
      record {
        alarm = λ i b.
            alarm_by (alarm_row m.setup.table i) _ _ _ (texts.alarm i)
            (ap₂ state_of (h.alarms i b) (texts.alarm i) ∙ state_same (alarm_row m.setup.table i) (alarm_at m i));
        aggregated =
            ap (λ (g : Aggregated). aggregated_told s id g.time g.value) h.aggregated
            ∙ aggregated_by m.aggregated m.aggregated_time (mod-eq_of_lt h.byte);
        held = held_same;
      }

pub messages : Messages
messages = record { texts = same_texts; messages = same_messages }
