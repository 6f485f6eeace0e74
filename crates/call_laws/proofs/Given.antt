-- Which number a call gives, proved for every call at once.
-- Assumes nothing.
use Rattle.basis.proofs.Std.{ℕ, ◌≡◌, refl, sym, ◌∙◌, Bool, true, false, true≢false, List, [], ◌∷◌, eqb, arith, eq-eqb, ne_eqb, pick, bool_cases}
use Rattle.answer.specs.declared.Refusal.{Refusal}
use Rattle.answer.specs.declared.Refusal.TheVariants.{NotAccepted}
use Rattle.answer.specs.declared.Report.{Report}
use Rattle.answer.specs.declared.Answer.TheVariants.{Done}
use Rattle.answer.specs.Number.{refusal_number}
use Rattle.answer.specs.Order.{in_order, First, here, later}
use Rattle.answer.proofs.Checks.{first_refuses, refused_first, none_refuses, done_none}
use Rattle.pool_laws.proofs.BatchKept.{kept}
use Rattle.site.specs.Call.{Plan, report_of, answer_of}
use Rattle.call_laws.specs.Numbers.{conditions, Numbers}

-- a refusal is among those of a list, by its number
among : ℕ → List Refusal → Bool
among n [] = false
among n (q ∷ qs) = pick (eqb (refusal_number q) n) true (among n qs)

first_among : {applies : Refusal → Bool} {r : Refusal} {rs : List Refusal} → First applies r rs → among (refusal_number r) rs ≡ true
unfolding among
first_among {r = r} (here e) = rw (eq-eqb (refusal_number r) (refusal_number r) refl)
first_among {r = r} (later {s = s} e f) = bool_cases (eqb (refusal_number s) (refusal_number r)) (λ t. rw t) (λ t. rw t (first_among f))

module _ (refuses : Refusal → Bool) (p : Plan) (end : ℕ) where
  eleven : First (conditions refuses p) NotAccepted in_order → ⊥
  unfolding among
  eleven f = true≢false (sym (first_among f))

  report : (d : Report) → answer_of refuses p end ≡ Done d → d ≡ report_of p end
  report d e = let k : Done d ≡ Done (report_of p end) = sym e ∙ none_refuses (Done (report_of p end)) (done_none (conditions refuses p) in_order (report_of p end) d e) in cc

  pub numbers : Numbers refuses p end
  numbers =
      record {
        given = λ r f. first_refuses (Done (report_of p end)) f;
        only_so = λ r e. refused_first (conditions refuses p) in_order (report_of p end) r e;
        done = λ n. none_refuses (Done (report_of p end)) n;
        done_only_so = λ d e. (done_none (conditions refuses p) in_order (report_of p end) d e, report d e);
        ten = (kept 8 (omega arith)).spent p.site.pool p.site.next p.issued;
        others = λ r h. rw (ne_eqb (refusal_number r) 10 h) refl;
        no_eleven = λ e. eleven (refused_first (conditions refuses p) in_order (report_of p end) NotAccepted e);
      }
