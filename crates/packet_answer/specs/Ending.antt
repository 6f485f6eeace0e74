-- How a call that answers ends: what its step is, once its messages are written up to an end. They need not be believed: the contracts of
-- the calls are those of Taken.
-- Assumes nothing.
use Rattle.std.specs.Prelude.{ℕ, ◌%◌, ◌≡◌, List, [], ◌∷◌}
use Rattle.basis.specs.Pick.{pick}
use Rattle.answer.specs.declared.Report.{Report}
use Rattle.answer.specs.declared.Answer.TheVariants.{Done}
use Rattle.awaited.specs.declared.Purpose.TheVariants.{Other}
use Rattle.pool_laws.specs.declared.Batch.{Batch}
use Rattle.link.specs.Steps.{message_out_of}
use Rattle.write_message.specs.declared.Told.{Told}
use Rattle.write_message.specs.Message.{Message, Status}
use Rattle.write_message.specs.Message.Message.{ack, statuses, included}
use Rattle.write_message.specs.Pieces.{status_head, included_head}
use Rattle.site.specs.declared.Site.{Site}
use Rattle.site.specs.declared.Step.{Step}
use Rattle.site.specs.Site.{link_at, with_link, with_issued}
use Rattle.site.specs.Call.{only, batch_of, concluded, written_to, out_after}
use Rattle.packet_answer.specs.declared.Question.{Question}

abbrev pub report : ℕ → ℕ → ℕ → ℕ → Report
report hint hinted end closed = record { hint = hint; written = end % 4294967296; closed = closed; hinted = hinted; commands = 0 }

-- of a call that hands over so many commands
abbrev pub handed : ℕ → ℕ → Report
handed end commands = record { hint = 0; written = end % 4294967296; closed = 0; hinted = 0; commands = commands }

-- the end of a call that issues nothing and gives no hint
abbrev pub done_at : Site → ℕ → ℕ → ℕ → Step
done_at after time end closed = record { site = with_issued after (batch_of (only after)) time; answer = Done (report 0 0 end closed) }

-- the end of a call that wrote a reply
abbrev pub replied_at : Site → Question → ℕ → Step
replied_at s q end = done_at (with_link s q.link (message_out_of (link_at s q.link) q.identity q.time Other)) q.time end 0

-- the end of a call that issues the records of a batch and acknowledges; where the batch is refused nothing is written
pub record Acks (s after : Site) (b : Batch) (time hint hinted : ℕ) (received xs ys : List ℕ) (r : Step) : Type 0 where
  pub step : r ≡ concluded s after b time (report hint hinted (written_to xs (ack received ∷ [])).end 0)
  pub out : ys ≡ out_after xs (ack received ∷ []) r.answer

-- the message that tells it, and how that begins
abbrev pub response_of : Question → Told → List ℕ → List Status → Message
response_of q kind component entries =
    pick q.included (included kind q.received.bytes component q.time entries) (statuses kind q.identity.bytes component q.time entries)

abbrev pub response_head : Question → Told → List ℕ → List (List ℕ)
response_head q kind component =
    pick q.included (included_head kind q.received.bytes component q.time) (status_head kind q.identity.bytes component q.time)
