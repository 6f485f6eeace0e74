-- The number that a call gives, for every call at once: `refuses` are the conditions of its definition, `p` is what it lays down,
-- and its messages end at `end`. Statements only: their proof is `numbers`.
-- Assumes nothing.
use Rattle.std.specs.Prelude.{ℕ, ◌+◌, ◌≡◌, Bool, ltb, length}
use Rattle.basis.specs.Pick.{both}
use Rattle.answer.specs.declared.Refusal.{Refusal}
use Rattle.answer.specs.declared.Refusal.TheVariants.{SequenceSpent, NotAccepted}
use Rattle.answer.specs.declared.Report.{Report}
use Rattle.answer.specs.declared.Answer.TheVariants.{Done, Refused}
use Rattle.answer.specs.Number.{refusal_number}
use Rattle.answer.specs.Order.{in_order, First, None}
use Rattle.site.specs.Call.{Plan, batch_of, issuing, report_of, answer_of}

-- the conditions of a call: those of its definition, and number 10 of the records that it issues
abbrev pub conditions : (Refusal → Bool) → Plan → Refusal → Bool
conditions refuses p = issuing (batch_of p) refuses

-- inOrder is 2, 3, 4, 12, 5, 6, 1, 7, 8, 9, 10: `order` of crate answer
pub record Numbers (refuses : Refusal → Bool) (p : Plan) (end : ℕ) : Type 0 where
  -- a number is given exactly when its condition applies and none before it in the order does
  pub given : (r : Refusal) → First (conditions refuses p) r in_order → answer_of refuses p end ≡ Refused r
  pub only_so : (r : Refusal) → answer_of refuses p end ≡ Refused r → First (conditions refuses p) r in_order
  -- 0 is given exactly when none applies, with the report of the plan
  pub done : None (conditions refuses p) in_order → answer_of refuses p end ≡ Done (report_of p end)
  pub done_only_so : (d : Report) → answer_of refuses p end ≡ Done d → None (conditions refuses p) in_order × (d ≡ report_of p end)
  -- 10: the call issues, and the last number that it takes is past 2147483647
  pub ten : conditions refuses p SequenceSpent ≡ both (ltb 0 (length p.issued)) (ltb 2147483648 (p.site.next + length p.issued))
  -- every other number has the condition of the call's definition
  pub others : (r : Refusal) → (refusal_number r ≡ 10 → ⊥) → conditions refuses p r ≡ refuses r
  -- 11 is given by start alone
  pub no_eleven : answer_of refuses p end ≡ Refused NotAccepted → ⊥
