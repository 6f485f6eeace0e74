-- What is handed out of a call: the answer's number and what a done call reports.
-- Assumes nothing.
use Rattle.std.specs.Prelude.{ℕ, Bool, false, ltb}
use Rattle.answer.specs.declared.Report.{Report}
use Rattle.answer.specs.declared.Answer.{Answer}
use Rattle.answer.specs.declared.Answer.TheVariants.{Done, Refused}
use Rattle.answer.specs.Number.{number_of}
use Rattle.site.specs.Call.{nothing_of}
use Rattle.sitec.specs.declared.Outcome.{Outcome}

-- a refused call reports nothing
abbrev pub report_in : Answer → Report
report_in (Done r) = r
report_in (Refused x) = nothing_of

-- whether a done call hands commands over
abbrev pub hands_of : Answer → Bool
hands_of (Done r) = ltb 0 r.commands
hands_of (Refused x) = false

abbrev pub outcome : ℕ → Report → Outcome
outcome number r = record { hint = r.hint; number = number; written = r.written; closed = r.closed; hinted = r.hinted; commands = r.commands }

abbrev pub outcome_of : Answer → Outcome
outcome_of a = outcome (number_of a) (report_in a)

-- number 14, beyond those of document 01: the memory that was lent has not the length of a site or of its table
abbrev pub misfit : Outcome
misfit = outcome 14 nothing_of
