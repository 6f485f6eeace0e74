-- The length of a text, counted on its JSON, and of a well-formed message's bytes.
-- Assumes nothing.
use Rattle.basis.proofs.Std.{ℕ, suc, ◌+◌, ◌/◌, ◌%◌, ◌≤◌, min, arith, ◌≡◌, sym, ap, ◌∙◌, Bool, true, false, List, [], ◌∷◌, ◌++◌, leb, leb→le, eqb, ℤ, pos, negsuc, length, length-append, length-map, leb-true, pick, text, picked, both_true}
use Rattle.calendar.specs.Text.{last_time}
use Rattle.calendar.proofs.Reading.{time_length}
use Rattle.identity.specs.Hex.{lower_hex}
use Rattle.identity.proofs.Text.{text_length}
use Rattle.names.specs.Names.{name_of, IsReason}
use Rattle.names.proofs.Search.{at_reasons}
use Rattle.number.specs.Decimal.{decimal_of}
use Rattle.number.specs.Signed.{Signed32}
use Rattle.number.proofs.Digits.{digits_length}
use Rattle.json_value.specs.Grammar.{Json, Jsons, Members}
use Rattle.json_value.specs.Grammar.Json.{null, bool, num, str, arr, obj}
use Rattle.json_value.specs.Grammar.Jsons.{jnil, jcons}
use Rattle.json_value.specs.Grammar.Members.{mnil, mcons}
use Rattle.json_write.specs.Text.{quoted, text_onto, elements_onto, members_onto, text_of}
use Rattle.write_member.specs.Member.{moment_text}
use Rattle.write_message.specs.declared.Value.{Value}
use Rattle.write_message.specs.declared.Value.TheVariants.{Recent, Old, Unknown, Undefined}
use Rattle.write_message.specs.declared.Told.{Told}
use Rattle.write_message.specs.declared.Told.TheVariants.{Response, Update, Command}
use Rattle.write_message.specs.Message.{Message, Status}
use Rattle.write_message.specs.Message.Message.{version, watchdog, ack, not_ack, alarm, aggregated, statuses, included}
use Rattle.write_message.specs.Listing.{json_of, bytes_of, flag, flags_of, event_text, value_json, quality_text, status_json, statuses_json}
use Rattle.write_laws.specs.Formed.{Label, Received, Formed, FormedValue, FormedStatus, FormedStatuses}
use Rattle.write_laws.specs.Formed.Formed.{formed_version, formed_watchdog, formed_ack, formed_not_ack, formed_alarm, formed_aggregated, formed_statuses, formed_included}
use Rattle.write_laws.specs.Formed.Answering.{a_status, a_command}
use Rattle.write_laws.specs.Formed.FormedValue.{recent, old, unknown, undefined}
use Rattle.write_laws.specs.Formed.FormedStatuses.{none as no_more, more as one_more}
use Rattle.write_laws.specs.Size.{most, most_entry, most_entries, entries_in}

abbrev mutual
  size : Json → ℕ
  size null = 4
  size (bool true) = 4
  size (bool false) = 5
  size (num d) = length d
  size (str d) = length d + 2
  size (arr js) = elements_size js + 2
  size (obj ms) = members_size ms + 2

  elements_size : Jsons → ℕ
  elements_size jnil = 0
  elements_size (jcons j jnil) = size j
  elements_size (jcons j (jcons k js)) = size j + 1 + elements_size (jcons k js)

  members_size : Members → ℕ
  members_size mnil = 0
  members_size (mcons d j mnil) = length d + 3 + size j
  members_size (mcons d j (mcons e k ms)) = length d + 4 + size j + members_size (mcons e k ms)

quoted_size : (d r : List ℕ) → length (quoted d r) ≡ length d + 2 + length r
quoted_size d r = omega (arith, length-append d (0x22 ∷ r))

mutual
  size_is : (j : Json) (r : List ℕ) → length (text_onto j r) ≡ size j + length r
  size_is null r = omega arith
  size_is (bool true) r = omega arith
  size_is (bool false) r = omega arith
  size_is (num d) r = length-append d r
  size_is (str d) r = quoted_size d r
  size_is (arr js) r = omega (arith, elements_size_lem js (0x5d ∷ r))
  size_is (obj ms) r = omega (arith, members_size_lem ms (0x7d ∷ r))

  elements_size_lem : (js : Jsons) (r : List ℕ) → length (elements_onto js r) ≡ elements_size js + length r
  elements_size_lem jnil r = omega arith
  elements_size_lem (jcons j jnil) r = size_is j r
  elements_size_lem (jcons j (jcons k js)) r = omega (arith, size_is j (0x2c ∷ elements_onto (jcons k js) r), elements_size_lem (jcons k js) r)

  members_size_lem : (ms : Members) (r : List ℕ) → length (members_onto ms r) ≡ members_size ms + length r
  members_size_lem mnil r = omega arith
  members_size_lem (mcons d j mnil) r = omega (arith, quoted_size d (0x3a ∷ text_onto j r), size_is j r)
  members_size_lem (mcons d j (mcons e k ms)) r =
      let x : List ℕ = 0x2c ∷ members_onto (mcons e k ms) r in
      omega (arith, quoted_size d (0x3a ∷ text_onto j x), size_is j x, members_size_lem (mcons e k ms) r)

-- the longest of each field
label_size : {s : List ℕ} → Label s → length s ≤ 32
label_size {s} h = leb-true (length s) 32 (both_true (leb (length s) 32) _ (both_true (leb 1 (length s)) _ h.label).1).0

received_size : {s : List ℕ} → Received s → length s ≡ 36
received_size {s} h = sym (length-map s lower_hex) ∙ ap length h.says.said ∙ text_length h.bytes

moment_size : (ms : ℕ) → length (moment_text ms) ≡ 24
moment_size ms = time_length (min ms last_time)

decimal_size : (v : ℤ) → Signed32 v → length (decimal_of v) ≤ 11
unfolding decimal_of
decimal_size (pos n) h = omega (arith, digits_length 9 n (omega arith))
decimal_size (negsuc n) h = omega (arith, digits_length 9 (suc n) (omega arith))

reason_size : (r : ℕ) → IsReason r → length (name_of r) ≤ 17
reason_size r t = leb→le (length (name_of r)) 17 (at_reasons (λ (n : ℕ). leb (length (name_of n)) 17) tt r t)

choice_size : (b : Bool) (x y : List ℕ) (n : ℕ) → length x ≤ n → length y ≤ n → length (pick b x y) ≤ n
choice_size b x y n p q = picked (λ (s : List ℕ). length s ≤ n) b x y (λ e. p) (λ e. q)

event_size : (e : ℕ) → length (event_text e) ≤ 11
event_size e = choice_size (eqb e 0) (text "Issue") _ 11 (omega arith) (choice_size (eqb e 1) (text "Acknowledge") (text "Suspend") 11 (omega arith) (omega arith))

bool_size : (b : Bool) → size (bool b) ≤ 5
bool_size true = omega arith
bool_size false = omega arith

flag_size : (v p : ℕ) → size (flag v p) ≤ 5
flag_size v p = bool_size (eqb (v / p % 2) 1)

flags_size : (v : ℕ) → elements_size (flags_of v) ≤ 47
flags_size v = omega (arith, flag_size v 128, flag_size v 64, flag_size v 32, flag_size v 16, flag_size v 8, flag_size v 4, flag_size v 2, flag_size v 1)

value_size : (v : Value) → FormedValue v → size (value_json v) + length (quality_text v) ≤ 19
value_size (Recent v) (recent h) = omega (arith, decimal_size v h)
value_size (Old v) (old h) = omega (arith, decimal_size v h)
value_size Unknown unknown = omega arith
value_size Undefined undefined = omega arith

status_size : (kind : Told) {s : Status} → FormedStatus s → size (status_json kind s) ≤ most_entry kind
status_size Response {s} f = omega (arith, label_size f.code, label_size f.name, value_size s.value f.value)
status_size Update {s} f = omega (arith, label_size f.code, label_size f.name, value_size s.value f.value)
status_size Command {s} f = omega (arith, label_size f.code, label_size f.name, value_size s.value f.value)

some_size : (kind : Told) {s : Status} {ss : List Status} → FormedStatus s → FormedStatuses ss
    → elements_size (jcons (status_json kind s) (statuses_json kind ss)) ≤ most_entries kind (s ∷ ss)
some_size kind f no_more = omega (arith, status_size kind f)
some_size kind f (one_more g gs) = omega (arith, status_size kind f, some_size kind g gs)

statuses_size : (kind : Told) {ss : List Status} → FormedStatuses ss → elements_size (statuses_json kind ss) ≤ most_entries kind ss
statuses_size kind no_more = omega arith
statuses_size kind (one_more f fs) = some_size kind f fs

sized : (m : Message) → Formed m → size (json_of m) + 1 ≤ most m
sized (version id site sxl) (formed_version i s x) = omega (arith, text_length id, label_size s, label_size x)
sized (watchdog id time) (formed_watchdog i t) = omega (arith, text_length id, moment_size time)
sized (ack received) (formed_ack r) = omega (arith, received_size r)
sized (not_ack received _) (formed_not_ack r reason t) = omega (arith, received_size r, reason_size reason t)
sized (alarm id component code s) (formed_alarm i c k f) =
    omega (
      arith,
      text_length id,
      label_size c,
      label_size k,
      moment_size s.time,
      event_size s.event,
      choice_size s.acknowledged (text "Acknowledged") (text "notAcknowledged") 15 (omega arith) (omega arith),
      choice_size s.active (text "Active") (text "inActive") 8 (omega arith) (omega arith),
      choice_size s.suspended (text "Suspended") (text "notSuspended") 12 (omega arith) (omega arith),
      choice_size (eqb s.category 0) (text "T") (text "D") 1 (omega arith) (omega arith),
      digits_length 0 s.priority (omega (arith, f.highest)),
    )
sized (aggregated id component time value) (formed_aggregated i c t v) = omega (arith, text_length id, label_size c, moment_size time, flags_size value)
sized (statuses Response id component time entries) (formed_statuses i c t f) =
    omega (arith, text_length id, label_size c, moment_size time, statuses_size Response f)
sized (statuses Update id component time entries) (formed_statuses i c t f) =
    omega (arith, text_length id, label_size c, moment_size time, statuses_size Update f)
sized (statuses Command id component time entries) (formed_statuses i c t f) =
    omega (arith, text_length id, label_size c, moment_size time, statuses_size Command f)
sized (included _ received component time entries) (formed_included a_status r c t f) =
    omega (arith, received_size r, label_size c, moment_size time, statuses_size Response f)
sized (included _ received component time entries) (formed_included a_command r c t f) =
    omega (arith, received_size r, label_size c, moment_size time, statuses_size Command f)

pub long : (m : Message) → Formed m → length (bytes_of m) ≤ most m
long m f = omega (arith, length-append (text_of (json_of m)) (0x0c ∷ []), size_is (json_of m) [], sized m f)

most_sixteen : (m : Message) → entries_in m ≤ 16 → most m ≤ 2044
most_sixteen (version id site sxl) h = omega arith
most_sixteen (watchdog id time) h = omega arith
most_sixteen (ack received) h = omega arith
most_sixteen (not_ack received reason) h = omega arith
most_sixteen (alarm id component code s) h = omega arith
most_sixteen (aggregated id component time value) h = omega arith
most_sixteen (statuses Response id component time []) h = omega arith
most_sixteen (statuses Response id component time (e ∷ es)) h = omega arith
most_sixteen (statuses Update id component time []) h = omega arith
most_sixteen (statuses Update id component time (e ∷ es)) h = omega arith
most_sixteen (statuses Command id component time []) h = omega arith
most_sixteen (statuses Command id component time (e ∷ es)) h = omega arith
most_sixteen (included Response received component time []) h = omega arith
most_sixteen (included Response received component time (e ∷ es)) h = omega arith
most_sixteen (included Update received component time []) h = omega arith
most_sixteen (included Update received component time (e ∷ es)) h = omega arith
most_sixteen (included Command received component time []) h = omega arith
most_sixteen (included Command received component time (e ∷ es)) h = omega arith

pub room : (received : List ℕ) (m : Message) → Received received → Formed m → entries_in m ≤ 16 → length (bytes_of (ack received) ++ bytes_of m) ≤ 4096
room received m r f h =
    omega (arith, length-append (bytes_of (ack received)) (bytes_of m), long (ack received) (formed_ack r), long m f, most_sixteen m h)
