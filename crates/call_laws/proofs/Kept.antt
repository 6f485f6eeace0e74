-- Every call, by what holds of all of them at once.
-- Assumes nothing.
use Rattle.basis.proofs.Std.{ℕ, ◌≡◌, refl, sym, ap, ◌∙◌, Bool, List}
use Rattle.answer.specs.declared.Refusal.{Refusal}
use Rattle.site.specs.declared.Site.{Site}
use Rattle.site.specs.declared.Step.{Step}
use Rattle.site.specs.Call.{Plan, step_of, written_to, out_after, Gives}
use Rattle.call_laws.specs.Numbers.{Numbers}
use Rattle.call_laws.specs.Steps.{Steps, Written}
use Rattle.call_laws.proofs.Given.{numbers}
use Rattle.call_laws.proofs.Stepped.{steps, written}
use Rattle.call_laws.specs.Calls.{Call, time_of, output_of, refuses, plan_of, end_of, step_by}
use Rattle.call_laws.specs.Claims.{Own, Numbered, Claims}

given : {s : Site} {time : ℕ} {no : Refusal → Bool} {p : Plan} {xs ys : List ℕ} {r : Step} → Gives s time no p xs ys r
    → (r ≡ step_of s time no p (written_to xs p.messages).end) × (ys ≡ out_after xs p.messages (step_of s time no p (written_to xs p.messages).end).answer)
given {p = p} {xs = xs} g = (g.step, g.out ∙ ap (λ (q : Step). out_after xs p.messages q.answer) g.step)

own : (s : Site) → Own s
own s =
    record {
      connects = λ l t. refl;
      disconnects = λ l t. refl;
      alarms = λ k active t. refl;
      statuses = λ k value t. refl;
      aggregates = λ value t. refl;
      ticks = λ t. refl;
      pumps = λ l t random xs ys r g. given g;
      packets = λ l t random p xs ys r g. given g;
    }

module _ (s : Site) (c : Call) where
  by_number : Numbers (refuses s c) (plan_of s c) (end_of s c)
  by_number = numbers (refuses s c) (plan_of s c) (end_of s c)

  by_step : Steps s (time_of c) (refuses s c) (plan_of s c) (end_of s c)
  by_step = steps s (time_of c) (refuses s c) (plan_of s c) (end_of s c)

  by_writing : Written (output_of c) (plan_of s c).messages
  by_writing = written (output_of c) (plan_of s c).messages

  each : Numbered s c
  each =
      record {
        given = λ r f. by_step.answer ∙ by_number.given r f;
        only_so = λ r e. by_number.only_so r (sym by_step.answer ∙ e);
        done = λ n. by_step.answer ∙ by_number.done n;
        done_only_so = λ d e. by_number.done_only_so d (sym by_step.answer ∙ e);
        same_site = by_step.same_site;
        same_bytes_lem = λ r e. by_step.same_bytes_lem r e (output_of c);
        next_site = by_step.next_site;
        numbers = by_number;
        written = by_writing;
        same_length = by_writing.same_length (step_by s c).answer;
      }

pub kept : Claims
kept = record { own = own; numbered = each }
