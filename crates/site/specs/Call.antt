-- What a call gives, from what it lays down and what refuses it. Every call's definition is made of these.
-- Assumes nothing.
use Rattle.std.specs.Prelude.{ℕ, ◌%◌, ◌≡◌, Bool, false, List, [], ◌∷◌, ◌++◌, eqb, ℤ, length}
use Rattle.basis.specs.Pick.{pick}
use Rattle.answer.specs.declared.Refusal.{Refusal}
use Rattle.answer.specs.declared.Refusal.TheVariants.{SequenceSpent}
use Rattle.answer.specs.declared.Report.{Report}
use Rattle.answer.specs.declared.Answer.{Answer}
use Rattle.answer.specs.declared.Answer.TheVariants.{Done, Refused}
use Rattle.answer.specs.Number.{refusal_number}
use Rattle.answer.specs.Order.{in_order, judged}
use Rattle.answer.specs.Given.{Hint}
use Rattle.answer.specs.Given.Hint.{none, clock}
use Rattle.entry.specs.declared.Entry.{Entry}
use Rattle.pool_laws.specs.declared.Batch.{Batch}
use Rattle.pool_laws.specs.Batch.{issued_all}
use Rattle.output.specs.Put.{Out, output, put_all}
use Rattle.write_message.specs.Message.{Message}
use Rattle.write_message.specs.Pieces.{pieces}
use Rattle.site.specs.declared.Site.{Site}
use Rattle.site.specs.declared.Step.{Step}
use Rattle.site.specs.Site.{with_issued}

-- A command that is handed to the host: its number in the site table, and the value asked for.
pub record Command : Type 0 where
  pub number : ℕ
  pub value : ℤ

-- What a call lays down where nothing refuses it: the next site but for its records and its time, the records it issues, the messages
-- it writes, the links it closes (link 0 is bit 0), the clock hint, and the commands that it hands over, in their order.
pub record Plan : Type 0 where
  pub site : Site
  pub issued : List Entry
  pub messages : List Message
  pub closed : ℕ
  pub hint : Hint
  pub commands : List Command

-- a plan that writes nothing, closes nothing, gives no hint and hands nothing over; one that does not issue either
abbrev pub issues : Site → List Entry → Plan
issues s es = record { site = s; issued = es; messages = []; closed = 0; hint = none; commands = [] }

abbrev pub only : Site → Plan
only s = issues s []

abbrev pub batch_of : Plan → Batch
batch_of p = issued_all 8 p.site.pool p.site.next p.issued

-- the conditions of a call, one by one: `q` applies where b; of the others, `rest` says
abbrev pub never : Refusal → Bool
never r = false

abbrev pub when : Refusal → Bool → (Refusal → Bool) → Refusal → Bool
when q b rest r = pick (eqb (refusal_number r) (refusal_number q)) b (rest r)

-- number 10 applies to every call that issues
abbrev pub issuing : Batch → (Refusal → Bool) → Refusal → Bool
issuing b rest = when SequenceSpent b.spent rest

abbrev pub hint_time : Hint → ℕ
hint_time none = 0
hint_time (clock t) = t

abbrev pub hint_bit : Hint → ℕ
hint_bit none = 0
hint_bit (clock t) = 1

-- where the written messages end is counted in 32 bits; a site that start made writes 4,096 bytes at most; of the commands their number
abbrev pub report_of : Plan → ℕ → Report
report_of p end =
    record { hint = hint_time p.hint; written = end % 4294967296; closed = p.closed; hinted = hint_bit p.hint; commands = length p.commands }

-- "All but 0 change nothing"
abbrev pub stepped : Site → Site → Answer → Step
stepped s after (Done r) = record { site = after; answer = Done r }
stepped s after (Refused x) = record { site = s; answer = Refused x }

abbrev pub refused : Site → Refusal → Step
refused s x = record { site = s; answer = Refused x }

abbrev pub answer_of : (Refusal → Bool) → Plan → ℕ → Answer
answer_of refuses p end = judged (issuing (batch_of p) refuses) in_order (Done (report_of p end))

-- the answer and the next site of a call made at `time`, its messages ending at `end` of the output
abbrev pub step_of : Site → ℕ → (Refusal → Bool) → Plan → ℕ → Step
step_of s time refuses p end = stepped s (with_issued p.site (batch_of p) time) (answer_of refuses p end)

-- the end of every call, where none of its other conditions applies
abbrev pub concluded : Site → Site → Batch → ℕ → Report → Step
concluded s after b time r =
    pick b.spent (refused s SequenceSpent) (record { site = with_issued after b time; answer = Done r })

abbrev pub nothing_of : Report
nothing_of = record { hint = 0; written = 0; closed = 0; hinted = 0; commands = 0 }

-- messages go into the output one behind the other, from its beginning
abbrev pub pieces_of : List Message → List (List ℕ)
pieces_of [] = []
pieces_of (m ∷ ms) = pieces m ++ pieces_of ms

abbrev pub written_to : List ℕ → List Message → Out
written_to xs ms = put_all (output xs 0) (pieces_of ms)

-- the output after a call: a refused one leaves it as it was
abbrev pub out_after : List ℕ → List Message → Answer → List ℕ
out_after xs ms (Done r) = (written_to xs ms).bytes
out_after xs ms (Refused x) = xs

-- what a call with a lent output gives: its step, and the output afterwards
pub record Gives (s : Site) (time : ℕ) (refuses : Refusal → Bool) (p : Plan) (xs ys : List ℕ) (r : Step) : Type 0 where
  pub step : r ≡ step_of s time refuses p (written_to xs p.messages).end
  pub out : ys ≡ out_after xs p.messages r.answer
