-- An answer to an awaited identity of ours.
-- Assumes nothing.
use Rattle.std.specs.Prelude.{ℕ, Bool, []}
use Rattle.basis.specs.Pick.{pick}
use Rattle.answer.specs.Given.Hint.{none}
use Rattle.identity.specs.declared.Identity.{Identity}
use Rattle.awaited.specs.declared.Purpose.{Purpose}
use Rattle.awaited.specs.declared.Purpose.TheVariants.{Version, Watchdog, Entry, Other}
use Rattle.awaited.specs.declared.Found.{Found}
use Rattle.awaited.specs.declared.Found.TheVariants.{For, Nothing}
use Rattle.awaited.specs.Awaited.{find_of}
use Rattle.pool.specs.Pool.{settle_of}
use Rattle.link.specs.Steps.{closes_of, answered_of}
use Rattle.site.specs.declared.Site.{Site}
use Rattle.site.specs.Site.{with_pool, link_at, with_link, owner_of, close_at, mask_of}
use Rattle.site.specs.Call.{Plan, only}

-- "Either answer settles a record": the one that the message carried, if it is still held
abbrev pub settled_for : Site → ℕ → Purpose → Site
settled_for s l Version = s
settled_for s l Watchdog = s
settled_for s l (Entry q) = with_pool s (settle_of s.pool (owner_of s l) q)
settled_for s l Other = s

abbrev pub settled : Site → ℕ → Found → Site
settled s l Nothing = s
settled s l (For p) = settled_for s l p

-- the link is closed, or what the message carried is settled and the link goes on; the Bool says that it is a MessageAck
abbrev pub answered_plan : Site → ℕ → Identity → Bool → Plan
answered_plan s l id acknowledged =
    pick (closes_of (link_at s l) id acknowledged)
    (record { site = close_at s l; issued = []; messages = []; closed = mask_of l; hint = none; commands = [] })
    (only (with_link (settled s l (find_of (link_at s l).awaited id)) l (answered_of (link_at s l) id acknowledged)))
