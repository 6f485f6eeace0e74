-- The listing of a well-formed message is plain: no numbers, strings that stand for themselves, few levels.
-- Assumes nothing.
use Rattle.basis.proofs.Std.{ℕ, suc, String, ◌≡◌, refl, Bool, true, List, eqb, pick, text, picked}
use Rattle.number.specs.Alphabet.{all_in_alphabet}
use Rattle.json_value.specs.Grammar.{Json}
use Rattle.json_value.specs.Grammar.Jsons.{jcons}
use Rattle.json_write.specs.Plain.{PlainText, Plain, PlainElements, PlainMembers}
use Rattle.json_write.specs.Plain.PlainText.{none}
use Rattle.json_write.specs.Plain.Plain.{pnull, pbool, pstr, parr₀, parr, pobj}
use Rattle.json_write.specs.Plain.PlainElements.{last_element, element}
use Rattle.json_write.specs.Plain.PlainMembers.{last_member, member}
use Rattle.write_message.specs.declared.Value.{Value}
use Rattle.write_message.specs.declared.Value.TheVariants.{Recent, Old, Unknown, Undefined}
use Rattle.write_message.specs.declared.Told.{Told}
use Rattle.write_message.specs.declared.Told.TheVariants.{Response, Update, Command}
use Rattle.write_message.specs.Message.{Message, Status}
use Rattle.write_message.specs.Message.Message.{version, watchdog, ack, not_ack, alarm, aggregated, statuses, included}
use Rattle.write_message.specs.Listing.{json_of, event_text, type_text, included_text, time_name, list_name, code_name, value_name, quality_name, value_json, quality_text, status_json, statuses_json, told_of}
use Rattle.write_laws.specs.Formed.{Label, Formed, FormedStatus, FormedStatuses}
use Rattle.write_laws.specs.Formed.Formed.{formed_version, formed_watchdog, formed_ack, formed_not_ack, formed_alarm, formed_aggregated, formed_statuses, formed_included}
use Rattle.write_laws.specs.Formed.FormedStatuses.{none as no_more, more as one_more}
use Rattle.write_laws.proofs.Plainness.{plain, plain_append, plain_label, plain_digits, plain_decimal, plain_name, plain_moment, plain_identity, plain_received}

word : (s : String) → all_in_alphabet (text s) ≡ true → PlainText (text s)
word s e = plain (text s) e

choice : (b : Bool) (x y : String) → all_in_alphabet (text x) ≡ true → all_in_alphabet (text y) ≡ true → PlainText (pick b (text x) (text y))
choice b x y p q = picked PlainText b (text x) (text y) (λ e. word x p) (λ e. word y q)

event : (e : ℕ) → PlainText (event_text e)
event e = picked PlainText (eqb e 0) (text "Issue") _ (λ h. word "Issue" refl) (λ h. choice (eqb e 1) "Acknowledge" "Suspend" refl refl)

of_kind : (name : Told → String) → all_in_alphabet (text (name Response)) ≡ true → all_in_alphabet (text (name Update)) ≡ true → all_in_alphabet (text (name Command)) ≡ true
    → (kind : Told) → PlainText (text (name kind))
of_kind name r u c Response = word (name Response) r
of_kind name r u c Update = word (name Update) u
of_kind name r u c Command = word (name Command) c

type_word : (kind : Told) → PlainText (type_text kind)
type_word Response = word "StatusResponse" refl
type_word Update = word "StatusUpdate" refl
type_word Command = word "CommandResponse" refl

included_word : (kind : Told) → PlainText (included_text kind)
included_word kind = plain_append (type_word kind) (word "AckIncluded" refl)

value : {l : ℕ} (v : Value) → Plain l (value_json v)
value (Recent v) = pstr (plain_decimal v)
value (Old v) = pstr (plain_decimal v)
value Unknown = pnull
value Undefined = pnull

quality : (v : Value) → PlainText (quality_text v)
quality (Recent v) = word "recent" refl
quality (Old v) = word "old" refl
quality Unknown = word "unknown" refl
quality Undefined = word "undefined" refl

status : {l : ℕ} (kind : Told) {s : Status} → FormedStatus s → Plain (suc l) (status_json kind s)
status kind {s} f =
    pobj (member (of_kind code_name refl refl refl kind) (pstr (plain_label f.code))
    (member (word "n" refl) (pstr (plain_label f.name))
    (member (of_kind value_name refl refl refl kind) (value s.value)
    (last_member (of_kind quality_name refl refl refl kind) (pstr (quality s.value))))))

some_statuses : {l : ℕ} (kind : Told) {s : Status} {ss : List Status} → FormedStatus s → FormedStatuses ss
    → PlainElements (suc l) (jcons (status_json kind s) (statuses_json kind ss))
some_statuses kind f no_more = last_element (status kind f)
some_statuses kind f (one_more g gs) = element (status kind f) (some_statuses kind g gs)

all_statuses : {l : ℕ} (kind : Told) {ss : List Status} → FormedStatuses ss → Plain (suc (suc l)) (Json.arr (statuses_json kind ss))
all_statuses kind no_more = parr₀
all_statuses kind (one_more f fs) = parr (some_statuses kind f fs)

told : {l : ℕ} (kind : Told) {component : List ℕ} (time : ℕ) {ss : List Status} → Label component → FormedStatuses ss → PlainMembers (suc (suc l)) (told_of kind component time ss)
told kind time c f =
    member (word "ntsOId" refl) (pstr none)
    (member (word "xNId" refl) (pstr none)
    (member (word "cId" refl) (pstr (plain_label c))
    (member (of_kind time_name refl refl refl kind) (pstr (plain_moment time))
    (last_member (of_kind list_name refl refl refl kind) (all_statuses kind f)))))

pub plain_message : (m : Message) → Formed m → Plain 8 (json_of m)
plain_message (version id site sxl) (formed_version i s x) =
    pobj (member (word "mType" refl) (pstr (word "rSMsg" refl))
    (member (word "type" refl) (pstr (word "Version" refl))
    (member (word "mId" refl) (pstr (plain_identity i))
    (member (word "RSMP" refl) (parr (element (pobj (last_member (word "vers" refl) (pstr (word "3.1.4" refl)))) (element (pobj (last_member (word "vers" refl) (pstr (word "3.1.5" refl)))) (last_element (pobj (last_member (word "vers" refl) (pstr (word "3.2" refl))))))))
    (member (word "siteId" refl) (parr (last_element (pobj (last_member (word "sId" refl) (pstr (plain_label s))))))
    (last_member (word "SXL" refl) (pstr (plain_label x))))))))
plain_message (watchdog id time) (formed_watchdog i t) =
    pobj (member (word "mType" refl) (pstr (word "rSMsg" refl))
    (member (word "type" refl) (pstr (word "Watchdog" refl))
    (member (word "mId" refl) (pstr (plain_identity i))
    (last_member (word "wTs" refl) (pstr (plain_moment time))))))
plain_message (ack received) (formed_ack r) =
    pobj (member (word "mType" refl) (pstr (word "rSMsg" refl))
    (member (word "type" refl) (pstr (word "MessageAck" refl))
    (last_member (word "oMId" refl) (pstr (plain_received r)))))
plain_message (not_ack received _) (formed_not_ack r reason t) =
    pobj (member (word "mType" refl) (pstr (word "rSMsg" refl))
    (member (word "type" refl) (pstr (word "MessageNotAck" refl))
    (member (word "oMId" refl) (pstr (plain_received r))
    (last_member (word "rea" refl) (pstr (plain_name reason))))))
plain_message (alarm id component code s) (formed_alarm i c k f) =
    pobj (member (word "mType" refl) (pstr (word "rSMsg" refl))
    (member (word "type" refl) (pstr (word "Alarm" refl))
    (member (word "mId" refl) (pstr (plain_identity i))
    (member (word "ntsOId" refl) (pstr none)
    (member (word "xNId" refl) (pstr none)
    (member (word "cId" refl) (pstr (plain_label c))
    (member (word "aCId" refl) (pstr (plain_label k))
    (member (word "xACId" refl) (pstr none)
    (member (word "xNACId" refl) (pstr none)
    (member (word "aSp" refl) (pstr (event s.event))
    (member (word "ack" refl) (pstr (choice s.acknowledged "Acknowledged" "notAcknowledged" refl refl))
    (member (word "aS" refl) (pstr (choice s.active "Active" "inActive" refl refl))
    (member (word "sS" refl) (pstr (choice s.suspended "Suspended" "notSuspended" refl refl))
    (member (word "aTs" refl) (pstr (plain_moment s.time))
    (member (word "cat" refl) (pstr (choice (eqb s.category 0) "T" "D" refl refl))
    (member (word "pri" refl) (pstr (plain_digits s.priority))
    (last_member (word "rvs" refl) parr₀)))))))))))))))))
plain_message (aggregated id component time value) (formed_aggregated i c t v) =
    pobj (member (word "mType" refl) (pstr (word "rSMsg" refl))
    (member (word "type" refl) (pstr (word "AggregatedStatus" refl))
    (member (word "mId" refl) (pstr (plain_identity i))
    (member (word "ntsOId" refl) (pstr none)
    (member (word "xNId" refl) (pstr none)
    (member (word "cId" refl) (pstr (plain_label c))
    (member (word "aSTS" refl) (pstr (plain_moment time))
    (member (word "fP" refl) (pstr none)
    (member (word "fS" refl) (pstr none)
    (last_member (word "se" refl) (parr (element pbool (element pbool (element pbool (element pbool (element pbool (element pbool (element pbool (last_element pbool)))))))))))))))))))
plain_message (statuses kind id component time entries) (formed_statuses i c t f) =
    pobj (member (word "mType" refl) (pstr (word "rSMsg" refl))
    (member (word "type" refl) (pstr (type_word kind))
    (member (word "mId" refl) (pstr (plain_identity i)) (told kind time c f))))
plain_message (included kind received component time entries) (formed_included a r c t f) =
    pobj (member (word "mType" refl) (pstr (word "rSMsg" refl))
    (member (word "type" refl) (pstr (included_word kind))
    (member (word "oMId" refl) (pstr (plain_received r)) (told kind time c f))))
