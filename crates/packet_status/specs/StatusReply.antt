-- What a StatusRequest comes to, and one whose response carries the acknowledgement.
-- Assumes nothing.
use Rattle.std.specs.Prelude.{ℕ, zero, suc, Bool, true, List, [], ◌∷◌, ◌++◌}
use Rattle.basis.specs.Pick.{pick}
use Rattle.label.specs.Label.{text_of}
use Rattle.write_message.specs.declared.Value.{Value}
use Rattle.write_message.specs.declared.Value.TheVariants.{Undefined}
use Rattle.write_message.specs.declared.Told.TheVariants.{Response}
use Rattle.write_message.specs.Message.{Status, status}
use Rattle.read_lists.specs.declared.StatusEntry.{StatusEntry}
use Rattle.read_lists.specs.declared.StatusFields.{StatusFields}
use Rattle.packet_lookup.specs.declared.Sought.{Sought}
use Rattle.packet_lookup.specs.declared.Sought.TheVariants.{Is, Nothing}
use Rattle.packet_lookup.specs.Sought.{component_sought, status_sought, entry_at, all_statuses}
use Rattle.send_message.specs.Sending.{status_value}
use Rattle.site.specs.declared.Site.{Site}
use Rattle.site.specs.Parts.{status_at}
use Rattle.packet_answer.specs.declared.Question.{Question}
use Rattle.packet_answer.specs.Taken.{Taken, not_acked, answering, by_verdict, unknown_status}

-- "A status without a value so far: `s` null, `q` unknown. Otherwise `s` is the shortest decimal text, `q` recent"
abbrev pub value_of : Site → Sought → Value
value_of s (Is k) = status_value (status_at s k)
value_of s Nothing = Undefined

-- "An unknown component in StatusRequest is answered with `s` null, `q` undefined"
abbrev pub value_in : Site → Sought → StatusEntry → Value
value_in s (Is component) e = value_of s (status_sought s.table component e)
value_in s Nothing e = Undefined

unfoldable pub told_of : Site → Sought → StatusEntry → Status
told_of s component e = status (text_of e.code) (text_of e.name) (value_in s component e)

-- the first n entries, in order
abbrev pub told_to : Site → Sought → List StatusEntry → ℕ → List Status
told_to s component entries zero = []
told_to s component entries (suc n) = told_to s component entries n ++ (told_of s component (entry_at entries n) ∷ [])

unfoldable pub told : Site → Sought → StatusFields → List Status
told s component f = told_to s component f.entries f.count

-- "all entries pass or none is done": of a known component each entry is a status
abbrev pub passes : Site → StatusFields → Sought → Bool
passes s f (Is component) = all_statuses s.table component f.entries f.count
passes s f Nothing = true

-- of one packet
module _ (s : Site) (q : Question) where
  abbrev pub requested_of : StatusFields → Sought → Taken
  requested_of f component =
      pick (passes s f component) (answering s q Response (text_of f.component) (told s component f) []) (not_acked s q unknown_status)

  unfoldable pub status_taken : StatusFields → Taken
  status_taken f = by_verdict f.verdict s q (requested_of f (component_sought s.table f.component))
