-- StatusSubscribe and StatusUnsubscribe: the Bool says that it is StatusSubscribe. Entry i of a packet is a status of component c.
-- Assumes nothing.
use Rattle.std.specs.Prelude.{ℕ, zero, suc, ◌+◌, ◌*◌, Bool, List, [], ◌∷◌, ◌++◌, eqb}
use Rattle.basis.specs.Pick.{pick, both}
use Rattle.answer.specs.Given.Hint.{none as no_hint}
use Rattle.entry.specs.declared.Entry.{Entry}
use Rattle.subscription.specs.declared.Subscription.{Subscription}
use Rattle.subscription.specs.Subscription.{none, subscribed}
use Rattle.link.specs.declared.Link.{Link}
use Rattle.read_lists.specs.declared.Asking.{Asking}
use Rattle.read_lists.specs.declared.Asking.TheVariants.{Full, Older}
use Rattle.read_lists.specs.declared.StatusEntry.{StatusEntry}
use Rattle.read_lists.specs.declared.StatusFields.{StatusFields}
use Rattle.packet_lookup.specs.declared.Sought.{Sought}
use Rattle.packet_lookup.specs.declared.Sought.TheVariants.{Is, Nothing}
use Rattle.packet_lookup.specs.Sought.{component_sought, status_sought, entry_at, all_statuses}
use Rattle.site.specs.declared.Site.{Site}
use Rattle.site.specs.Site.{link_at, owner_of}
use Rattle.site.specs.Parts.{status_at, with_subscription}
use Rattle.site.specs.Records.{status_record}
use Rattle.packet_answer.specs.declared.Question.{Question}
use Rattle.packet_answer.specs.Taken.{Taken, not_acked, acked, by_verdict, unknown_status}

-- request 07: "On a link where [3.1.4] is chosen, a subscription has no sOc"
abbrev pub asking_by : ℕ → ℕ → ℕ → Asking
asking_by major minor patch = pick (both (eqb major 3) (both (eqb minor 1) (eqb patch 4))) Older Full

abbrev pub asking_on : Link → Asking
asking_on k = asking_by k.major k.minor k.patch

-- what an entry asks for, or no subscription
abbrev pub wanted : Bool → StatusEntry → ℕ → Subscription
wanted subscribing e time = pick subscribing (subscribed e.seconds e.onchange time) none

-- "A link has one subscription per status; a new one replaces it"
abbrev pub replaced_at : Site → ℕ → Subscription → Sought → Site
replaced_at s l x (Is k) = with_subscription s (l * 32 + k) x
replaced_at s l x Nothing = s

-- after the first n entries, in order
abbrev pub replaced : Bool → Site → ℕ → ℕ → ℕ → List StatusEntry → ℕ → Site
replaced subscribing s l time c es zero = s
replaced subscribing s l time c es (suc n) =
    replaced_at (replaced subscribing s l time c es n) l (wanted subscribing (entry_at es n) time) (status_sought s.table c (entry_at es n))

-- "A subscription issues a record at once": the status' value now, for the link's owner
abbrev pub record_of : Site → ℕ → ℕ → Sought → List Entry
record_of s l time (Is k) = status_record (link_at s l) (status_at s k) (owner_of s l) k time ∷ []
record_of s l time Nothing = []

-- of the first n entries, "entries in order"
abbrev pub records : Site → ℕ → ℕ → ℕ → List StatusEntry → ℕ → List Entry
records s l time c es zero = []
records s l time c es (suc n) = records s l time c es n ++ record_of s l time (status_sought s.table c (entry_at es n))

-- every entry is done, and acknowledged
unfoldable pub changed : Bool → Site → Question → StatusFields → ℕ → Taken
changed subscribing s q f c =
    acked (replaced subscribing s q.link q.time c f.entries f.count) (pick subscribing (records s q.link q.time c f.entries f.count) []) q no_hint

-- all entries pass or none is done
unfoldable pub judged : Bool → Site → Question → StatusFields → ℕ → Taken
judged subscribing s q f c =
    pick (all_statuses s.table c f.entries f.count) (changed subscribing s q f c) (not_acked s q unknown_status)

-- "in the other status types it is "Unknown status"": a component that is not known
abbrev pub asked : Bool → Site → Question → StatusFields → Sought → Taken
asked subscribing s q f (Is c) = judged subscribing s q f c
asked subscribing s q f Nothing = not_acked s q unknown_status

unfoldable pub subscribing_taken : Bool → Site → Question → StatusFields → Taken
subscribing_taken subscribing s q f =
    by_verdict f.verdict s q (asked subscribing s q f (component_sought s.table f.component))
