-- The fields of a well-formed message are read back from its listing.
-- Assumes nothing.
use Rattle.basis.proofs.Std.{ℕ, zero, suc, ◌-◌, ◌≤◌, ◌<◌, min, arith, ◌≡◌, refl, ap, ap₂, ◌∙◌, Bool, true, false, List, [], ◌∷◌, eqb, eqb→eq, ℤ, pos, negsuc, get_or, replicate, ne_eqb, pick, text, same_bytes}
use Rattle.basis.proofs.Table.{at}
use Rattle.calendar.specs.Text.{last_time, time_text}
use Rattle.calendar.specs.Read.{read_time}
use Rattle.calendar.proofs.Reading as Times
use Rattle.identity.specs.Read.{SixteenBytes, read_identity}
use Rattle.identity.specs.Text.{identity_text}
use Rattle.identity.proofs.Read as Identities
use Rattle.number.specs.Decimal.{digits, decimal_of}
use Rattle.number.specs.Reading.{says}
use Rattle.number.proofs.Digits.{says_digits, begins}
use Rattle.write_member.specs.Member.{moment_text}
use Rattle.json_value.specs.Grammar.{Json}
use Rattle.json_value.specs.Grammar.Json.{obj}
use Rattle.json_value.specs.Grammar.Members.{mnil}
use Rattle.write_message.specs.declared.AlarmState.{AlarmState}
use Rattle.write_message.specs.declared.Value.{Value}
use Rattle.write_message.specs.declared.Value.TheVariants.{Recent, Old, Unknown, Undefined}
use Rattle.write_message.specs.declared.Told.{Told}
use Rattle.write_message.specs.declared.Told.TheVariants.{Response, Update, Command}
use Rattle.write_message.specs.Message.{Message, Status}
use Rattle.write_message.specs.Message.Message.{version, watchdog, ack, not_ack, alarm, aggregated, statuses, included}
use Rattle.write_message.specs.Listing.{json_of, said, states_of, flags_of, event_text, category_text, value_json, quality_text, status_json, statuses_json}
use Rattle.write_laws.specs.Formed.{Formed, FormedState}
use Rattle.write_laws.specs.Formed.Formed.{formed_version, formed_watchdog, formed_ack, formed_not_ack, formed_alarm, formed_aggregated, formed_statuses, formed_included}
use Rattle.write_laws.specs.Formed.Answering.{a_status, a_command}
use Rattle.write_laws.specs.Fields.{state_in, flags_in, time_of, event_of, category_of, integer_of, value_in, status_in, statuses_in, fields_of}

id_back : (bs : List ℕ) → SixteenBytes bs → (read_identity (identity_text bs)).id.bytes ≡ bs
id_back bs v = ap (λ r. r.id.bytes) (Identities.read_written bs v)

time_back : (ms : ℕ) → ms ≤ last_time → time_of (read_time (moment_text ms)) ≡ ms
time_back ms h =
    let e : min ms last_time ≡ ms = omega arith in
    ap (λ (n : ℕ). time_of (read_time (time_text n))) e ∙ ap time_of (Times.read_written ms h)

choice_back : (b : Bool) (x y : List ℕ) → same_bytes x x ≡ true → same_bytes y x ≡ false → same_bytes (pick b x y) x ≡ b
choice_back true x y p q = p
choice_back false x y p q = q

event_back : (e : ℕ) → e ≤ 2 → event_of (event_text e) ≡ e
event_back zero h = refl
event_back (suc zero) h = refl
event_back (suc (suc zero)) h = refl
event_back (suc (suc (suc e))) h = absurd (omega arith)

category_back : (c : ℕ) → c ≤ 1 → category_of (category_text c) ≡ c
category_back zero h = refl
category_back (suc zero) h = refl
category_back (suc (suc c)) h = absurd (omega arith)

integer_back : (v : ℤ) → integer_of (decimal_of v) ≡ v
unfolding decimal_of
integer_back (pos n) =
    let b = begins n in
    let g : get_or (digits n) 0 0 ≡ b.first = ap (λ (l : List ℕ). get_or l 0 0) b.whole in
    rw (ne_eqb (get_or (digits n) 0 0) 45 (λ e. omega (arith, b.low))) (ap pos (says_digits n))
integer_back (negsuc n) =
    let e : says 0 (digits (suc n)) - 1 ≡ n = omega (arith, says_digits (suc n)) in
    ap negsuc e

value_back : (v : Value) → value_in (quality_text v) (value_json v) ≡ v
value_back (Recent v) = ap Recent (integer_back v)
value_back (Old v) = ap Old (integer_back v)
value_back Unknown = refl
value_back Undefined = refl

with_value : Status → Value → Status
with_value s v = record { code = s.code; name = s.name; value = v }

-- of the names that the reader gives them
status_back : (s : Status) → (status_in "sCI" "s" "q" (status_json Response s) ≡ s) × (status_in "sCI" "s" "q" (status_json Update s) ≡ s) × (status_in "cCI" "v" "age" (status_json Command s) ≡ s)
unfolding with_value
status_back s = let v = ap (with_value s) (value_back s.value) in (v, v, v)

statuses_back : (kind : Told) (read : Json → Status) → ((s : Status) → read (status_json kind s) ≡ s) → (ss : List Status) → statuses_in read (statuses_json kind ss) ≡ ss
statuses_back kind read h [] = refl
statuses_back kind read h (s ∷ ss) = ap₂ (λ (x : Status) (l : List Status). x ∷ l) (h s) (statuses_back kind read h ss)

responses_back : (ss : List Status) → statuses_in (status_in "sCI" "s" "q") (statuses_json Response ss) ≡ ss
responses_back ss = statuses_back Response (status_in "sCI" "s" "q") (λ s. (status_back s).0) ss

commands_back : (ss : List Status) → statuses_in (status_in "cCI" "v" "age") (statuses_json Command ss) ≡ ss
commands_back ss = statuses_back Command (status_in "cCI" "v" "age") (λ s. (status_back s).2) ss

right_value : ℕ → ℕ → Bool
right_value v x = eqb (flags_in 0 (flags_of v)) v

flags_back : (v : ℕ) → v < 256 → flags_in 0 (flags_of v) ≡ v
unfolding right_value
flags_back v h = eqb→eq _ _ (at right_value (replicate 256 0) tt v h)

state_back : (s : AlarmState) → FormedState s → state_in (obj (states_of s (said "aTs" (moment_text s.time) (said "cat" (category_text s.category) (said "pri" (digits s.priority) mnil))))) ≡ s
state_back s f =
    let t = time_back s.time f.time in
    let e = event_back s.event f.event in
    let c = category_back s.category f.category in
    let p = says_digits s.priority in
    let a = choice_back s.acknowledged (text "Acknowledged") (text "notAcknowledged") refl refl in
    let b = choice_back s.active (text "Active") (text "inActive") refl refl in
    let d = choice_back s.suspended (text "Suspended") (text "notSuspended") refl refl in
    λ i. record { time = t i; event = e i; category = c i; priority = p i; acknowledged = a i; active = b i; suspended = d i }

pub back : (m : Message) → Formed m → fields_of (json_of m) ≡ m
back (version id site sxl) (formed_version i s x) = ap (λ (b : List ℕ). version b site sxl) (id_back id i)
back (watchdog id time) (formed_watchdog i t) = ap₂ watchdog (id_back id i) (time_back time t)
back (ack received) (formed_ack r) = refl
back (not_ack received _) (formed_not_ack r reason t) = refl
back (alarm id component code s) (formed_alarm i c k f) = ap₂ (λ (b : List ℕ) (a : AlarmState). alarm b component code a) (id_back id i) (state_back s f)
back (aggregated id component time value) (formed_aggregated i c t v) =
    ap₂ (λ (b : List ℕ) (n : ℕ). aggregated b component n (flags_in 0 (flags_of value))) (id_back id i) (time_back time t)
    ∙ ap (aggregated id component time) (flags_back value v)
back (statuses Response id component time entries) (formed_statuses i c t f) =
    ap₂ (λ (b : List ℕ) (n : ℕ). statuses Response b component n (statuses_in (status_in "sCI" "s" "q") (statuses_json Response entries))) (id_back id i) (time_back time t)
    ∙ ap (statuses Response id component time) (responses_back entries)
back (statuses Update id component time entries) (formed_statuses i c t f) =
    ap₂ (λ (b : List ℕ) (n : ℕ). statuses Update b component n (statuses_in (status_in "sCI" "s" "q") (statuses_json Update entries))) (id_back id i) (time_back time t)
    ∙ ap (statuses Update id component time) (statuses_back Update (status_in "sCI" "s" "q") (λ s. (status_back s).1) entries)
back (statuses Command id component time entries) (formed_statuses i c t f) =
    ap₂ (λ (b : List ℕ) (n : ℕ). statuses Command b component n (statuses_in (status_in "cCI" "v" "age") (statuses_json Command entries))) (id_back id i) (time_back time t)
    ∙ ap (statuses Command id component time) (commands_back entries)
back (included _ received component time entries) (formed_included a_status r c t f) =
    ap₂ (included Response received component) (time_back time t) (responses_back entries)
back (included _ received component time entries) (formed_included a_command r c t f) =
    ap₂ (included Command received component) (time_back time t) (commands_back entries)
