-- The message of a record is the message of its sixteen bytes.
-- Assumes nothing.
use Rattle.basis.proofs.Std.{ℕ, ◌^◌, ◌≤◌, ◌<◌, ◌≡◌, refl, sym, ◌∙◌, ap, Bool, true, false, List, [], ◌∷◌, Option, some, none, leb, ℤ, length, arith, leb-true, both_true, Among}
use Rattle.number.specs.Signed.{Signed32}
use Rattle.number.proofs.RoundTrip.{signed_word, word_lt}
use Rattle.entry.specs.declared.Entry.{Entry}
use Rattle.entry.specs.declared.Unpacked.TheVariants.{Accepted}
use Rattle.entry.specs.Flags.{alarm_flags, event_of}
use Rattle.entry.specs.Reading.{Reads}
use Rattle.entry.specs.Valid.{Valid}
use Rattle.entry.specs.Valid.OfKind.{an_alarm, a_status, an_aggregated}
use Rattle.entry.proofs.FlagLaws.{event_back, acknowledged_back, active_back, suspended_back, known_back, old_back}
use Rattle.entry.proofs.RoundTrip.{round_trip}
use Rattle.table_whole.specs.Table.{Table}
use Rattle.write_message.specs.declared.Value.{Value}
use Rattle.write_message.specs.declared.Value.TheVariants.{Recent}
use Rattle.write_message.specs.declared.Told.TheVariants.{Update}
use Rattle.write_message.specs.Message.{status}
use Rattle.write_message.specs.Message.Message.{statuses}
use Rattle.write_laws.specs.Formed.{FormedValue}
use Rattle.write_laws.specs.Formed.FormedValue.{recent}
use Rattle.machine.specs.Words.{Bytes, keep}
use Rattle.machine.specs.State.{Event, event_number, Alarm, Content, issued_for, Held, Start, Machine}
use Rattle.machine.specs.State.Event.{Issue, Acknowledge, Suspend}
use Rattle.machine.specs.State.Content.{of_alarm, of_status, of_aggregated}
use Rattle.machine.specs.Table.{component_text, status_row}
use Rattle.machine.specs.Pool.{is_for, owner_of}
use Rattle.machine.specs.Messages.{value_of, record_message}
use Rattle.machine.specs.Readings.{entry_for, status_entry, record_bytes, reading}
use Rattle.machine.specs.Table.Begins.{begins}
use Rattle.machine.specs.Run.{Past, Run}
use Rattle.machine.specs.Run.Run.{begun, begun_beside, next, other_starts, other_calls}
use Rattle.demand_held.specs.Held.{IsHeld}
use Rattle.demand_held.specs.Held.IsHeld.{held}
use Rattle.demand_held.proofs.Lists.{MapOf, among_mapped, among_kept}
use Rattle.demand_held.proofs.Issue.{held_below}
use Rattle.demand_held.proofs.Demand.{run_sound}
use Rattle.demand_told.specs.Typed.{EachTyped}
use Rattle.demand_told.specs.Typed.EachTyped.{one_more as typed_too}
use Rattle.demand_told.proofs.Sane.{Tells, Tellable}
use Rattle.demand_told.proofs.ReadDemand.{run_sane}
use Rattle.demand_told.proofs.GreetedDemand.{same_setup}
use Rattle.demand_told.proofs.Limits.{run_limit}
use Rattle.demand_carried.specs.Carried.{Unanswered}
use Rattle.demand_carried.specs.Carried.Unanswered.{at_once, and_then}
use Rattle.demand_carried.proofs.Lists.{each_among}
use Rattle.demand_carried.proofs.Marks.{one_number}
use Rattle.demand_issued.specs.Tells.{value_in, message_of, DemandTells}

event_small : (e : Event) → event_number e < 3
event_small Issue = omega arith
event_small Acknowledge = omega arith
event_small Suspend = omega arith

signed_of_lem : {v : ℤ} → FormedValue (Recent v) → Signed32 v
signed_of_lem (recent h) = h

accepted_same : {a b : Entry} → Accepted a ≡ Accepted b → a ≡ b
accepted_same e = cc

-- "link count [1 to 4]"
run_links : {s : Start} {h : List Past} {m : Machine} → Run s h m → m.setup.links ≤ 4
run_links {s} (begun (begins x e g)) = leb-true s.links 4 (both_true (leb s.links 4) _ (both_true (leb 1 s.links) _ g).1).0
run_links {s} (begun_beside (begins x e g) o two) = leb-true s.links 4 (both_true (leb s.links 4) _ (both_true (leb 1 s.links) _ g).1).0
run_links (other_starts r b two) = run_links r
run_links (other_calls r q n c) = run_links r
run_links (next c r) = rw (same_setup r c) (run_links r)

-- ---- a held record's entry is valid
module _ (t : Table) (link sequence : ℕ) (linked : link < 8) (numbered : sequence < 2 ^ 31) (alarms : length t.alarms ≤ 32) (rows : length t.statuses ≤ 32) where
  status_valid : (i time : ℕ) (old : Bool) (o : Option ℤ) → Tellable t (of_status i o old time) → Valid (status_entry link i old time sequence o)
  status_valid i time old none h =
      record {
        link = linked;
        time = h.1.1;
        sequence = numbered;
        of_kind = a_status (record { kind = refl; item = omega (arith, h.0); known = false; old = old; flags = refl; value = omega arith; unknown = λ e. refl });
      }
  status_valid i time old (some v) h =
      record {
        link = linked;
        time = h.1.1;
        sequence = numbered;
        of_kind =
            a_status (record {
              kind = refl;
              item = omega (arith, h.0);
              known = true;
              old = old;
              flags = refl;
              value = word_lt v (signed_of_lem (h.1.0 false));
              unknown = λ e. absurd (let z : ◌≡◌ {A = ℕ} 0 1 = cc in omega arith);
            });
      }

  entry_valid : (x : Content) → Tellable t x → Valid (entry_for link sequence x)
  entry_valid (of_alarm i a) h =
      record {
        link = linked;
        time = h.1;
        sequence = numbered;
        of_kind =
            an_alarm (record {
              kind = refl;
              item = omega (arith, h.0);
              event = event_number a.event;
              acknowledged = a.acknowledged;
              active = a.active;
              suspended = a.suspended;
              event_is = event_small a.event;
              flags = refl;
              value = refl;
            });
      }
  entry_valid (of_status i v old time) h = status_valid i time old v h
  entry_valid (of_aggregated v time) h =
      record { link = linked; time = h.1; sequence = numbered; of_kind = an_aggregated (record { kind = refl; item = refl; flags = refl; value = h.0 }) }

  -- ---- and says the record's message
  event_same : (a : Alarm) → event_of (alarm_flags (event_number a.event) a.acknowledged a.active a.suspended) ≡ event_number a.event
  event_same a = event_back (event_number a.event) a.acknowledged a.active a.suspended ∙ omega (arith, event_small a.event)

  status_said : (i time : ℕ) (old : Bool) (o : Option ℤ) → Tells o → value_in (status_entry link i old time sequence o) ≡ value_of old o
  status_said i time old none h = rw (known_back false old)
  status_said i time old (some v) h = rw (known_back true old, old_back true old, signed_word v (signed_of_lem (h false)))

  status_message : (id : Bytes) (i time : ℕ) (old : Bool) (o : Option ℤ) → Tells o
      → message_of t id (status_entry link i old time sequence o) ≡ record_message t id (of_status i o old time)
  status_message id i time old none h =
      ap (λ (v : Value). statuses Update id (component_text t (status_row t i).component) time (status (status_row t i).code (status_row t i).name v ∷ [])) (status_said i time old none h)
  status_message id i time old (some v) h =
      ap (λ (v : Value). statuses Update id (component_text t (status_row t i).component) time (status (status_row t i).code (status_row t i).name v ∷ [])) (status_said i time old (some v) h)

  entry_message : (id : Bytes) (x : Content) → Tellable t x → message_of t id (entry_for link sequence x) ≡ record_message t id x
  entry_message id (of_alarm i a) h =
      rw (
        event_same a,
        acknowledged_back (event_number a.event) a.acknowledged a.active a.suspended,
        active_back (event_number a.event) a.acknowledged a.active a.suspended,
        suspended_back (event_number a.event) a.acknowledged a.active a.suspended,
      )
  entry_message id (of_status i v old time) h = status_message id i time old v h.1.0
  entry_message id (of_aggregated v time) h = refl

-- ---- of a run
module _ {s : Start} {h : List Past} {m : Machine} (run : Run s h m) (typed : EachTyped h) (id : Bytes) where
  abbrev table : Table
  table = m.setup.table

  -- a held record's entry is valid and says its message
  module _ (x : Held) (a : Among x m.pool.held) where
    abbrev owner : ℕ
    owner = owner_of m.pool.site x.link

    abbrev entry : Entry
    entry = entry_for owner x.sequence x.content

    told : Tellable table x.content
    told = each_among (run_sane run typed).held a

    linked : owner < 8
    linked = omega (arith, each_among (run_sound run).good.own.links a, (run_sound run).counts, run_links run, (run_sound run).good.site)

    numbered : x.sequence < 2 ^ 31
    numbered = omega (arith, held_below m.pool (run_sound run).good (issued_for x.link x.content) x.sequence (held a refl refl refl), run_limit run)

    pub held_entry : Valid entry × (message_of table id entry ≡ record_message table id x.content)
    held_entry =
        let alarms : length table.alarms ≤ 32 = (run_sane run typed).table.most_alarms in
        let rows : length table.statuses ≤ 32 = (run_sane run typed).table.most_statuses in
        (entry_valid table owner x.sequence linked numbered alarms rows x.content told, entry_message table owner x.sequence linked numbered alarms rows id x.content told)

    of_held : (e : Entry) → Reads (record_bytes m.pool.site x) (Accepted e) → (e.sequence ≡ x.sequence) × (message_of table id e ≡ record_message table id x.content)
    of_held e r = (ap (λ (y : Entry). y.sequence) same ∙ sequence_of x.content, ap (message_of table id) same ∙ held_entry.1)
      where
        same : e ≡ entry
        same = accepted_same (round_trip held_entry.0 r)

        status_sequence : (i time : ℕ) (old : Bool) (o : Option ℤ) → (status_entry owner i old time x.sequence o).sequence ≡ x.sequence
        status_sequence i time old none = refl
        status_sequence i time old (some v) = refl

        sequence_of : (y : Content) → (entry_for owner x.sequence y).sequence ≡ x.sequence
        sequence_of (of_alarm i b) = refl
        sequence_of (of_status i v old time) = status_sequence i time old v
        sequence_of (of_aggregated v time) = refl

  shown : (l n : ℕ) (content : Content) (bytes : Bytes) (e : Entry) → IsHeld (issued_for l content) n m.pool.held → Among bytes (reading m l).records → Reads bytes (Accepted e) → e.sequence ≡ n
      → record_message table id content ≡ message_of table id e
  unfolding reading
  shown l n content bytes e (held {h = y} i own same number) a r f = go (among_mapped (record_bytes m.pool.site) (keep (is_for l) m.pool.held) a)
    where
      go : MapOf (record_bytes m.pool.site) bytes (keep (is_for l) m.pool.held) → record_message table id content ≡ message_of table id e
      go x =
          let from : Among x.of m.pool.held = among_kept (is_for l) m.pool.held x.among in
          let both : (e.sequence ≡ x.of.sequence) × (message_of table id e ≡ record_message table id x.of.content) = of_held x.of from e (rw x.is r) in
          let one : x.of ≡ y = one_number (run_sound run).good.own.rising from i (sym both.0 ∙ f ∙ sym number) in
          sym (both.1 ∙ ap (λ (z : Held). record_message table id z.content) one ∙ ap (record_message table id) same)

earlier : {l : ℕ} {id : Bytes} {from h : List Past} → Unanswered l id from h → EachTyped h → EachTyped from
earlier at_once typed = typed
earlier (and_then o e n u) (typed_too x typed) = earlier u typed

before_typed : {p : Past} {h : List Past} → EachTyped (p ∷ h) → EachTyped h
before_typed (typed_too x typed) = typed

pub demand_tells : DemandTells
demand_tells =
    record {
      tells = λ s h m run typed l n id sent bytes e a r f.
          sent.sent ∙ rw (shown sent.run (before_typed (earlier sent.since typed)) id l n sent.content bytes e sent.held a r f);
    }
