-- The first reason that applies, by the verdicts.
-- Assumes nothing.
use Rattle.basis.proofs.Std.{ℕ, String, ◌≡◌, refl, sym, ap, ◌∙◌, Bool, true, false, not, List, [], ◌∷◌, Option, some, none, leb, length, pick, both, untrue}
use Rattle.json_value.specs.Grammar.{Json}
use Rattle.machine.specs.Words.{◌and◌, maybe, is_some, is_number, any}
use Rattle.machine.specs.State.{Machine, life_at}
use Rattle.machine.specs.Json.{element, string_at, string_of, entries_of, element_is, is_type}
use Rattle.machine.specs.Table.{command_number, command_row}
use Rattle.machine.specs.Life.{is_beating, is_primary, is_older}
use Rattle.machine.specs.Answers.{component_asked, alarm_asked, value_asked, in_range, needs, is_missing, is_bad, is_unexpected, reasons, reason_of}
use Rattle.refine_read.specs.Verdicts.{verdict}
use Rattle.refine_read.specs.Head.{type_name}
use Rattle.refine_read.specs.Reasons.{by_verdict, further_reason, reason_by, busy_if, any_unknown, any_unknown_command, any_out_of_range, FurtherReasons}
use Rattle.refine_read.proofs.Types.{type_is}

two : (missing bad : Bool) (further : Option String)
    → pick missing (some "Missing element") (pick bad (some "Bad value") further) ≡ by_verdict (verdict missing bad) further
two true bad further = refl
two false true further = refl
two false false further = refl

pub reason_is : (m : Machine) (l : ℕ) (j : Json) → reason_of m l j ≡ reason_by m l j
unfolding reasons
reason_is m l j =
    ap (λ (r : Option String). pick (not (is_some (element "mType" j))) (some "Missing element") (pick (not (element_is "mType" "rSMsg" j)) (some "Bad value")
    (pick (is_unexpected (life_at m l) j) (some "Unexpected") (pick (is_beating (life_at m l) and not (is_type "Watchdog" j)) (some "Not ready") r))))
    (two (any (is_missing j) (needs (is_older (life_at m l)) j)) (any (is_bad j) (needs (is_older (life_at m l)) j)) (further_reason m l j))
    ∙ two (not (is_some (element "mType" j))) (not (element_is "mType" "rSMsg" j)) _

-- ---- behind the needs, by the type
module _ {A : Type 0} (no_component no_alarm no_status busy done : A) where
  alarm_further : (component alarm replies full : Bool)
      → pick (pick (not component) true false) no_component (pick (not alarm) no_alarm (pick (pick component false false) no_status (pick (both (pick replies true false) full) busy done)))
      ≡ pick component (pick alarm (pick (both replies full) busy done) no_alarm) no_component
  alarm_further false alarm replies full = refl
  alarm_further true false replies full = refl
  alarm_further true true true full = refl
  alarm_further true true false full = refl

  aggregated_further : (first component full : Bool)
      → pick (not first) no_component (pick (pick component false false) no_status (pick full busy done)) ≡ pick first (pick full busy done) no_component
  aggregated_further false component full = refl
  aggregated_further true true full = refl
  aggregated_further true false full = refl

  subscribe_further : (component unknown : Bool) → pick (pick component unknown true) no_status done ≡ pick (both component (not unknown)) done no_status
  subscribe_further true true = refl
  subscribe_further true false = refl
  subscribe_further false unknown = refl

  nothing_further : (component : Bool) → pick (pick component false false) no_status done ≡ done
  nothing_further true = refl
  nothing_further false = refl

-- an unknown component has no command, so no range
no_range : (c : Option ℕ) (command : Json → ℕ → Option ℕ) (out : Json → ℕ → Bool) (xs : List Json) → is_some c ≡ false → any (λ e. maybe false (out e) (maybe none (command e) c)) xs ≡ false
no_range (some n) command out xs e = untrue (sym e)
no_range none command out [] e = refl
no_range none command out (x ∷ xs) e = no_range none command out xs e

out_of_none : (m : Machine) (j : Json) → is_some (component_asked m j) ≡ false → any_out_of_range m j ≡ false
out_of_none m j =
    no_range (component_asked m j) (λ x c. command_number m.setup.table c (string_of "cCI" x) (string_of "n" x)) (λ x i. not (in_range (command_row m.setup.table i) (value_asked x))) (entries_of "arg" j)

-- rest: "Busy" or nothing
request_further : {A : Type 0} (no_status rest : A) (component unknown : Bool) → pick (pick component unknown false) no_status rest ≡ pick (both component unknown) no_status rest
request_further no_status rest true unknown = refl
request_further no_status rest false unknown = refl

command_further : {A : Type 0} (bad no_status no_command rest : A) (component out unknown : Bool) → (component ≡ false → out ≡ false)
    → pick out bad (pick (pick component false false) no_status (pick (both component unknown) no_command rest)) ≡ pick component (pick out bad (pick unknown no_command rest)) rest
command_further bad no_status no_command rest true out unknown h = refl
command_further bad no_status no_command rest false out unknown h = rw (h refl)

module _ (m : Machine) (l : ℕ) (j : Json) where
  statuses_further : (included : Bool) → string_at "type" j ≡ some (type_name "StatusRequest" included)
      → further_reason m l j ≡ pick (both (is_some (component_asked m j)) (any_unknown m j)) (some "Unknown status") (busy_if m l (not included))
  unfolding reasons
  statuses_further false e = rw e (request_further (some "Unknown status") _ (is_some (component_asked m j)) (any_unknown m j))
  statuses_further true e = rw e (request_further (some "Unknown status") _ (is_some (component_asked m j)) (any_unknown m j))

  commands_further : (included : Bool) → string_at "type" j ≡ some (type_name "CommandRequest" included)
      → further_reason m l j
      ≡ pick (is_some (component_asked m j)) (pick (any_out_of_range m j) (some "Bad value") (pick (any_unknown_command m j) (some "Unknown command") (busy_if m l (not included))))
      (busy_if m l (not included))
  unfolding reasons
  commands_further false e = rw e (command_further (some "Bad value") (some "Unknown status") (some "Unknown command") _ (is_some (component_asked m j)) (any_out_of_range m j) (any_unknown_command m j) (out_of_none m j))
  commands_further true e = rw e (command_further (some "Bad value") (some "Unknown status") (some "Unknown command") _ (is_some (component_asked m j)) (any_out_of_range m j) (any_unknown_command m j) (out_of_none m j))

pub further_is : (m : Machine) (l : ℕ) (j : Json) → FurtherReasons m l j
unfolding reasons
further_is m l j =
    record {
      watchdog = λ e. rw (type_is j "Watchdog" e) (nothing_further (some "Unknown component") (some "Unknown alarm") (some "Unknown status") (some "Busy") none (is_some (component_asked m j)));
      alarm = λ e.
          rw (type_is j "Alarm" e)
          (alarm_further (some "Unknown component") (some "Unknown alarm") (some "Unknown status") (some "Busy") none (is_some (component_asked m j)) (is_some (alarm_asked m j)) (element_is "aSp" "Request" j and is_primary m l) (leb 16 (length (life_at m l).awaited)));
      aggregated = λ e.
          rw (type_is j "AggregatedStatusRequest" e)
          (aggregated_further (some "Unknown component") (some "Unknown alarm") (some "Unknown status") (some "Busy") none (is_number 0 (component_asked m j)) (is_some (component_asked m j)) (leb 16 (length (life_at m l).awaited)));
      status_request = statuses_further m l j;
      status_subscribe = λ e. rw (type_is j "StatusSubscribe" e) (subscribe_further (some "Unknown component") (some "Unknown alarm") (some "Unknown status") (some "Busy") none (is_some (component_asked m j)) (any_unknown m j));
      status_unsubscribe = λ e. rw (type_is j "StatusUnsubscribe" e) (subscribe_further (some "Unknown component") (some "Unknown alarm") (some "Unknown status") (some "Busy") none (is_some (component_asked m j)) (any_unknown m j));
      command_request = commands_further m l j;
    }
