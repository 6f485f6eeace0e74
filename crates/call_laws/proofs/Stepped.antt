-- The next site of a call and its output, proved for every call at once.
-- Assumes nothing.
use Rattle.basis.proofs.Std.{ℕ, ◌≡◌, refl, sym, ap, ◌∙◌, Bool, List, arith, length}
use Rattle.answer.specs.declared.Refusal.{Refusal}
use Rattle.answer.specs.declared.Report.{Report}
use Rattle.answer.specs.declared.Answer.{Answer}
use Rattle.answer.specs.declared.Answer.TheVariants.{Done, Refused}
use Rattle.output.specs.Put.{Wrote}
use Rattle.output.proofs.Laws as laws
use Rattle.write_message.specs.Message.{Message}
use Rattle.site.specs.declared.Site.{Site}
use Rattle.site.specs.Site.{with_issued}
use Rattle.site.specs.Call.{Plan, batch_of, answer_of, stepped, step_of, pieces_of, written_to, out_after}
use Rattle.call_laws.specs.Steps.{Steps, Written}

module _ (s after : Site) where
  stepped_answer : (a : Answer) → (stepped s after a).answer ≡ a
  stepped_answer (Done d) = refl
  stepped_answer (Refused r) = refl

  refused_site : (a : Answer) (r : Refusal) → a ≡ Refused r → (stepped s after a).site ≡ s
  refused_site a r e = rw e refl

  done_site : (a : Answer) (d : Report) → a ≡ Done d → (stepped s after a).site ≡ after
  done_site a d e = rw e refl

module _ (s : Site) (time : ℕ) (refuses : Refusal → Bool) (p : Plan) (end : ℕ) where
  abbrev after : Site
  after = with_issued p.site (batch_of p) time

  answered : (step_of s time refuses p end).answer ≡ answer_of refuses p end
  answered = stepped_answer s after (answer_of refuses p end)

  pub steps : Steps s time refuses p end
  steps =
      record {
        answer = answered;
        same_site = λ r e. refused_site s after (answer_of refuses p end) r (sym answered ∙ e);
        same_bytes_lem = λ r e xs. ap (out_after xs p.messages) e;
        next_site = λ d e. done_site s after (answer_of refuses p end) d (sym answered ∙ e);
      }

module _ (xs : List ℕ) (ms : List Message) where
  wrote : Wrote xs 0 (pieces_of ms) (written_to xs ms).bytes (written_to xs ms).end
  wrote = record { all = refl }

  long : (a : Answer) → length (out_after xs ms a) ≡ length xs
  long (Done d) = laws.same_length wrote
  long (Refused r) = refl

  pub written : Written xs ms
  written =
      record {
        first = λ h. laws.sent wrote (omega (arith, h, laws.same_length wrote));
        others = laws.behind wrote;
        same_length = long;
      }
