-- What the type of a packet makes of the machine's tests.
-- Assumes nothing.
use Rattle.basis.proofs.Std.{String, ◌≡◌, ap, Bool, true, false, ◌++◌, Option, some, none, same_bytes, text, bool_cases, untrue, same_true}
use Rattle.json_value.specs.Grammar.{Json}
use Rattle.machine.specs.Words.{Bytes, maybe}
use Rattle.machine.specs.Json.{string_at, is_type, asks_for}
use Rattle.refine_read.specs.Head.{kind_of, type_name, Typed, version, watchdog, alarm, aggregated_request, status_request, status_subscribe, status_unsubscribe, command_request, not_taken}

says : (o : Option Bytes) (t : Bytes) → maybe false (λ d. same_bytes d t) o ≡ true → o ≡ some t
says none t e = untrue e
says (some d) t e = ap some (same_true d t e)

pub type_is : (j : Json) (n : String) → is_type n j ≡ true → string_at "type" j ≡ some (text n)
type_is j n e = says (string_at "type" j) (text n) e

-- it asks by the old type, or by the one whose answer carries the acknowledgement
pub asked_as : {A : Type 0} (j : Json) (n : String) → asks_for n j ≡ true → ((included : Bool) → string_at "type" j ≡ some (type_name n included) → A) → A
asked_as j n e f =
    bool_cases (is_type n j) (λ t. f false (type_is j n t)) (λ t. f true (says (string_at "type" j) (text n ++ text "AckIncluded") (rw t at e)))

pub typed : (j : Json) → Typed j (kind_of j)
typed j = bool_cases (is_type "Version" j) (λ t. rw t (version (type_is j "Version" t))) (λ a.
    bool_cases (is_type "Watchdog" j) (λ t. rw (a, t) (watchdog (type_is j "Watchdog" t))) (λ b.
    bool_cases (is_type "Alarm" j) (λ t. rw (a, b, t) (alarm (type_is j "Alarm" t))) (λ c.
    bool_cases (is_type "AggregatedStatusRequest" j) (λ t. rw (a, b, c, t) (aggregated_request (type_is j "AggregatedStatusRequest" t))) (λ d.
    bool_cases (asks_for "StatusRequest" j) (λ t. rw (a, b, c, d, t) (asked_as j "StatusRequest" t status_request)) (λ e.
    bool_cases (is_type "StatusSubscribe" j) (λ t. rw (a, b, c, d, e, t) (status_subscribe (type_is j "StatusSubscribe" t))) (λ f.
    bool_cases (is_type "StatusUnsubscribe" j) (λ t. rw (a, b, c, d, e, f, t) (status_unsubscribe (type_is j "StatusUnsubscribe" t))) (λ g.
    bool_cases (asks_for "CommandRequest" j) (λ t. rw (a, b, c, d, e, f, g, t) (asked_as j "CommandRequest" t command_request)) (λ h.
    rw (a, b, c, d, e, f, g, h) (not_taken (rw (a, b, c, d, e, f, g, h)))))))))))
