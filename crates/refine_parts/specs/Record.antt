-- What stands for what: a place of the code's pool for a held record of the machine, an entry for a record that is issued. Which fields a
-- content has says the machine (`entry_for`); `content_of` reads them back.
-- Assumes nothing.
use Rattle.std.specs.Prelude.{ℕ, ◌%◌, ◌≡◌, Bool, List, eqb, ltb, length, get_or, replicate}
use Rattle.std.proofs.Math.Option.{Option, some, none}
use Rattle.basis.specs.Pick.{pick, both}
use Rattle.number.specs.Signed.{signed_of}
use Rattle.entry.specs.declared.Entry.{Entry}
use Rattle.entry.specs.Flags.{alarm_flags, event_of, is_acknowledged, is_active, is_suspended, is_known, is_old}
use Rattle.pool.specs.declared.Place.{Place}
use Rattle.pool.specs.declared.Reading.{Reading}
use Rattle.pool.specs.declared.Sought.{Sought}
use Rattle.pool.specs.declared.Sought.TheVariants.{Found, Nothing}
use Rattle.site.specs.Site.{owner}
use Rattle.machine.specs.Words.{Bytes, maybe}
use Rattle.machine.specs.State.{Event, event_number, Alarm, alarm_of, Content, Issued, Held, Sent}
use Rattle.machine.specs.State.Event.{Issue, Acknowledge, Suspend}
use Rattle.machine.specs.State.Content.{of_alarm, of_status, of_aggregated}
use Rattle.machine.specs.State.Sent.{no_record, the_record}
use Rattle.machine.specs.Readings.{entry_for}

-- a held record as it stands in a place: mark 2 it is sent, 1 it is not
abbrev pub mark_for : Bool → ℕ
mark_for sent = pick sent 2 1

-- one of owner o
abbrev pub place_for : ℕ → Held → Place
place_for o h = record { entry = entry_for o h.sequence h.content; mark = mark_for h.sent }

abbrev pub found : ℕ → Option Held → Sought
found o h = maybe Nothing (λ x. Found (place_for o x)) h

-- a record of a site to be issued: the pool gives the sequence number
abbrev pub unnumbered : ℕ → Issued → Entry
unnumbered site i = entry_for (owner site i.link) 0 i.content

-- ---- what an entry tells
abbrev pub event_in : ℕ → Event
event_in event = pick (eqb event 0) Issue (pick (eqb event 1) Acknowledge Suspend)

abbrev pub alarm_in : Entry → Content
alarm_in e =
    of_alarm e.item
    (alarm_of (is_active e.flags) (is_acknowledged e.flags) (is_suspended e.flags) (event_in (event_of e.flags)) e.time)

abbrev pub status_in : Entry → Content
status_in e = of_status e.item (pick (is_known e.flags) (some (signed_of e.value)) none) (is_old e.flags) e.time

-- "the eight booleans, first highest, in the low byte"
abbrev pub content_of : Entry → Content
content_of e = pick (eqb e.kind 0) (alarm_in e) (pick (eqb e.kind 1) (status_in e) (of_aggregated (e.value % 256) e.time))

-- a content that its entry tells: every alarm's, a status' without a value or with a signed one of 32 bits, recent or old, eight booleans
abbrev pub IsTold : Content → Type 0
IsTold c = (link sequence : ℕ) → content_of (entry_for link sequence c) ≡ c

-- an alarm's event and states
abbrev pub flags_for : Alarm → ℕ
flags_for a = alarm_flags (event_number a.event) a.acknowledged a.active a.suspended

-- what the message of the first pass carries: the record that was found, where its time and flags are the alarm's
abbrev pub carried_like : Alarm → Sought → Sent
carried_like a Nothing = no_record
carried_like a (Found x) =
    pick (both (eqb x.entry.time a.time) (eqb x.entry.flags (flags_for a))) (the_record x.entry.sequence) no_record

-- ---- the reading of the record than which r are older, of a link's records
abbrev pub reading_at : ℕ → List Bytes → Reading
reading_at r records = record { found = ltb r (length records); bytes = get_or records r (replicate 16 0) }
