-- What a packet that is not ignored comes to.
-- Assumes nothing.
use Rattle.std.specs.Prelude.{ℕ, Bool, true, false, List, [], ◌∷◌}
use Rattle.basis.specs.Pick.{pick, both}
use Rattle.basis.specs.Text.{text}
use Rattle.answer.specs.declared.Refusal.{Refusal}
use Rattle.answer.specs.declared.Refusal.TheVariants.{IdentityAwaited}
use Rattle.answer.specs.Given.{Hint}
use Rattle.answer.specs.Given.Hint.{none}
use Rattle.names.specs.Names.{name_of, index_of}
use Rattle.entry.specs.declared.Entry.{Entry}
use Rattle.awaited.specs.declared.Purpose.TheVariants.{Other}
use Rattle.awaited.specs.Awaited.{find_of, is_awaited}
use Rattle.link.specs.Steps.{message_out_of, full_of}
use Rattle.write_message.specs.declared.Told.{Told}
use Rattle.write_message.specs.Message.{Message, Status}
use Rattle.write_message.specs.Message.Message.{ack, not_ack, statuses, included}
use Rattle.read_head.specs.declared.Verdict.{Verdict}
use Rattle.read_head.specs.declared.Verdict.TheVariants.{Good, Missing, Bad}
use Rattle.site.specs.declared.Site.{Site}
use Rattle.site.specs.Site.{link_at, with_link, close_at, mask_of}
use Rattle.site.specs.Call.{Command, Plan, never, when}
use Rattle.packet_answer.specs.declared.Question.{Question}

-- a plan, and whether a reply goes out under the identity of the call
pub record Taken : Type 0 where
  pub plan : Plan
  pub replies : Bool

-- number 9: the identity to be sent is already awaited on that link
abbrev pub taken_refuses : Site → Question → Taken → Refusal → Bool
taken_refuses s q t = when IdentityAwaited (both t.replies (is_awaited (find_of (link_at s q.link).awaited q.identity))) never

-- answered with a reason, and nothing is done
abbrev pub not_acked : Site → Question → ℕ → Taken
not_acked s q reason =
    record { plan = record { site = s; issued = []; messages = not_ack q.received.bytes (name_of reason) ∷ []; closed = 0; hint = none; commands = [] }; replies = false }

-- answered with a reason, and the link is closed
abbrev pub closing : Site → Question → ℕ → Taken
closing s q reason =
    record { plan = record { site = close_at s q.link; issued = []; messages = not_ack q.received.bytes (name_of reason) ∷ []; closed = mask_of q.link; hint = none; commands = [] }; replies = false }

-- acknowledged: the next site, the records it issues, a clock hint
abbrev pub acked : Site → List Entry → Question → Hint → Taken
acked after entries q hint =
    record { plan = record { site = after; issued = entries; messages = ack q.received.bytes ∷ []; closed = 0; hint = hint; commands = [] }; replies = false }

-- acknowledged, and a reply behind it, which is awaited and carries no record; with commands that are handed over, and without
abbrev pub handing : Site → Question → Message → List Command → Taken
handing s q m commands =
    record {
      plan = record {
        site = with_link s q.link (message_out_of (link_at s q.link) q.identity q.time Other);
        issued = [];
        messages = ack q.received.bytes ∷ m ∷ [];
        closed = 0;
        hint = none;
        commands = commands;
      };
      replies = true;
    }

abbrev pub replied : Site → Question → Message → Taken
replied s q m = handing s q m []

-- request 04: one message, which carries the acknowledgement and is not awaited, with commands that are handed over
abbrev pub responded : Site → Message → List Command → Taken
responded s m commands =
    record { plan = record { site = s; issued = []; messages = m ∷ []; closed = 0; hint = none; commands = commands }; replies = false }

-- The reasons by their numbers in the table of names.
abbrev pub missing_element : ℕ
missing_element = index_of (text "Missing element")

abbrev pub bad_value : ℕ
bad_value = index_of (text "Bad value")

abbrev pub unexpected : ℕ
unexpected = index_of (text "Unexpected")

abbrev pub not_ready : ℕ
not_ready = index_of (text "Not ready")

abbrev pub rsmp_version : ℕ
rsmp_version = index_of (text "RSMP version")

abbrev pub site_id : ℕ
site_id = index_of (text "Site id")

abbrev pub sxl_version : ℕ
sxl_version = index_of (text "SXL version")

abbrev pub unknown_component : ℕ
unknown_component = index_of (text "Unknown component")

abbrev pub unknown_alarm : ℕ
unknown_alarm = index_of (text "Unknown alarm")

abbrev pub unknown_status : ℕ
unknown_status = index_of (text "Unknown status")

abbrev pub unknown_command : ℕ
unknown_command = index_of (text "Unknown command")

abbrev pub busy : ℕ
busy = index_of (text "Busy")

-- "Missing element", then "Bad value", then what the packet asks for
abbrev pub by_verdict : Verdict → Site → Question → Taken → Taken
by_verdict Good s q t = t
by_verdict Missing s q t = not_acked s q missing_element
by_verdict Bad s q t = not_acked s q bad_value

-- "Busy" (a reply is due and 16 are awaited)
abbrev pub unless_busy : Site → Question → Taken → Taken
unless_busy s q t = pick (full_of (link_at s q.link)) (not_acked s q busy) t

-- what is told of a component in answer to a request: with its acknowledgement in it, or behind it
abbrev pub answering : Site → Question → Told → List ℕ → List Status → List Command → Taken
answering s q kind component entries commands =
    pick q.included (responded s (included kind q.received.bytes component q.time entries) commands)
    (unless_busy s q (handing s q (statuses kind q.identity.bytes component q.time entries) commands))
