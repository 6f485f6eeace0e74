-- Each reason is answered as the machine answers it.
-- Assumes nothing.
use Rattle.basis.proofs.Std.{ℕ, ◌<◌, String, ◌≡◌, refl, sym, ap, subst, Bool, true, false, List, [], ◌∷◌, Option, some, none, pick, text}
use Rattle.answer.specs.Given.Hint.{none as no_hint}
use Rattle.identity.specs.declared.Identity.{Identity}
use Rattle.names.specs.Names.{name_of}
use Rattle.json_value.specs.Grammar.{Json}
use Rattle.write_message.specs.Message.Message.{not_ack}
use Rattle.read_head.specs.declared.Verdict.{Verdict}
use Rattle.read_head.specs.declared.Verdict.TheVariants.{Good, Missing, Bad}
use Rattle.site.specs.declared.Site.{Site}
use Rattle.site.specs.Site.{close_at, mask_of}
use Rattle.packet_answer.specs.Taken.{Taken, not_acked, closing, by_verdict, missing_element, bad_value, unexpected, not_ready, rsmp_version, site_id, sxl_version, unknown_component, unknown_alarm, unknown_status, unknown_command, busy}
use Rattle.machine.specs.State.{Machine, effect}
use Rattle.machine.specs.Json.{string_of}
use Rattle.machine.specs.Answers.{fails_check}
use Rattle.machine.specs.Effects.{closes, refusal, refuses}
use Rattle.refine_parts.specs.Same.{Beside}
use Rattle.refine_read.specs.Reasons.{by_verdict as reason_by}
use Rattle.refine_calls.specs.Abstracts.{Abstracts}
use Rattle.refine_calls.specs.Calls.{SamePlan}
use Rattle.refine_packet.proofs.Plans.{left, shut}
use Rattle.refine_packet.specs.Taken.{SameTaken, question_on}
use Rattle.refine_packet.specs.Refused.{SameReasons}

stays : (l : ℕ) (j : Json) (m : Machine) (r : String) → fails_check r ≡ false → refuses l j m r ≡ effect m [] (refusal j r ∷ []) [] none
unfolding refuses
stays l j m r f = ap (λ (b : Bool). pick b (closes l (refusal j r ∷ []) m) (effect m [] (refusal j r ∷ []) [] none)) f

goes : (l : ℕ) (j : Json) (m : Machine) (r : String) → fails_check r ≡ true → refuses l j m r ≡ closes l (refusal j r ∷ []) m
unfolding refuses
goes l j m r f = ap (λ (b : Bool). pick b (closes l (refusal j r ∷ []) m) (effect m [] (refusal j r ∷ []) [] none)) f

module _ {beside : Beside} (s : Site) (m : Machine) (h : Abstracts beside s m) (l : ℕ) (b : l < m.setup.links) (t : ℕ) (id : Identity) (j : Json) where
  noted : (n : ℕ) (r : String) → name_of n ≡ text r → fails_check r ≡ false → SameTaken beside s m l t id j (not_acked s (question_on l t id j) n) (some r)
  noted n r e f =
      record {
        replies = refl;
        next = refl;
        site = refl;
        plan = λ u.
            subst (λ (bs : List ℕ). SamePlan beside (record { site = s; issued = []; messages = not_ack (string_of "mId" j) bs ∷ []; closed = 0; hint = no_hint; commands = [] }) (refuses l j m r)) (sym e)
            (subst (SamePlan beside (record { site = s; issued = []; messages = refusal j r ∷ []; closed = 0; hint = no_hint; commands = [] })) (sym (stays l j m r f)) (left s m h (refusal j r ∷ [])));
      }

  closed_for : (n : ℕ) (r : String) → name_of n ≡ text r → fails_check r ≡ true → SameTaken beside s m l t id j (closing s (question_on l t id j) n) (some r)
  closed_for n r e f =
      record {
        replies = refl;
        next = refl;
        site = refl;
        plan = λ u.
            subst (λ (bs : List ℕ). SamePlan beside (record { site = close_at s l; issued = []; messages = not_ack (string_of "mId" j) bs ∷ []; closed = mask_of l; hint = no_hint; commands = [] }) (refuses l j m r)) (sym e)
            (subst (SamePlan beside (record { site = close_at s l; issued = []; messages = refusal j r ∷ []; closed = mask_of l; hint = no_hint; commands = [] })) (sym (goes l j m r f)) (shut s m h l b (refusal j r ∷ [])));
      }

  pub reasons : SameReasons beside s m l t id j
  reasons =
      record {
        missing_element_lem = noted missing_element "Missing element" refl refl;
        bad_value_lem = noted bad_value "Bad value" refl refl;
        is_unexpected_lem = noted unexpected "Unexpected" refl refl;
        not_ready_lem = noted not_ready "Not ready" refl refl;
        rsmp_version_lem = closed_for rsmp_version "RSMP version" refl refl;
        site_id_lem = closed_for site_id "Site id" refl refl;
        sxl_version_lem = closed_for sxl_version "SXL version" refl refl;
        unknown_component_lem = noted unknown_component "Unknown component" refl refl;
        unknown_alarm_lem = noted unknown_alarm "Unknown alarm" refl refl;
        unknown_status_lem = noted unknown_status "Unknown status" refl refl;
        unknown_command_lem = noted unknown_command "Unknown command" refl refl;
        is_busy = noted busy "Busy" refl refl;
      }

  -- "Missing element", "Bad value", then what comes behind them
  pub by_verdict_lem : (v : Verdict) (x : Taken) (r : Option String) → (v ≡ Good → SameTaken beside s m l t id j x r)
      → SameTaken beside s m l t id j (by_verdict v s (question_on l t id j) x) (reason_by v r)
  by_verdict_lem Good x r f = f refl
  by_verdict_lem Missing x r f = reasons.missing_element_lem
  by_verdict_lem Bad x r f = reasons.bad_value_lem
