-- The next site of a call and its output, for every call at once. Statements only: their proofs are `steps` and `written`.
-- Assumes nothing.
use Rattle.std.specs.Prelude.{ℕ, ◌≤◌, ◌≡◌, Bool, List, length, take, drop}
use Rattle.answer.specs.declared.Refusal.{Refusal}
use Rattle.answer.specs.declared.Report.{Report}
use Rattle.answer.specs.declared.Answer.{Answer}
use Rattle.answer.specs.declared.Answer.TheVariants.{Done, Refused}
use Rattle.output.specs.Put.{concat}
use Rattle.write_message.specs.Message.{Message}
use Rattle.site.specs.declared.Site.{Site}
use Rattle.site.specs.Site.{with_issued}
use Rattle.site.specs.Call.{Plan, batch_of, answer_of, step_of, pieces_of, written_to, out_after}

pub record Steps (s : Site) (time : ℕ) (refuses : Refusal → Bool) (p : Plan) (end : ℕ) : Type 0 where
  pub answer : (step_of s time refuses p end).answer ≡ answer_of refuses p end
  -- "All but 0 change nothing": the site, its last time with it, and the lent bytes
  pub same_site : (r : Refusal) → (step_of s time refuses p end).answer ≡ Refused r → (step_of s time refuses p end).site ≡ s
  pub same_bytes_lem : (r : Refusal) → (step_of s time refuses p end).answer ≡ Refused r → (xs : List ℕ)
      → out_after xs p.messages (step_of s time refuses p end).answer ≡ xs
  -- a done call: the planned site with the records issued, and its time the last
  pub next_site : (d : Report) → (step_of s time refuses p end).answer ≡ Done d → (step_of s time refuses p end).site ≡ with_issued p.site (batch_of p) time

-- "A done call writes only the counted first bytes of the output": the output xs, and after it these messages
pub record Written (xs : List ℕ) (ms : List Message) : Type 0 where
  pub first : (written_to xs ms).end ≤ length xs → take (written_to xs ms).end (written_to xs ms).bytes ≡ concat (pieces_of ms)
  pub others : drop (written_to xs ms).end (written_to xs ms).bytes ≡ drop (written_to xs ms).end xs
  pub same_length : (a : Answer) → length (out_after xs ms a) ≡ length xs
