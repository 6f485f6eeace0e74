-- Connect and disconnect.
-- Assumes nothing.
use Rattle.std.specs.Prelude.{ℕ, Bool, true, false, []}
use Rattle.basis.specs.Pick.{pick}
use Rattle.answer.specs.declared.Refusal.{Refusal}
use Rattle.answer.specs.declared.Refusal.TheVariants.{NoSuchLink, BadTime, WrongPhase}
use Rattle.answer.specs.Given.Hint.{none}
use Rattle.link.specs.Steps.{connect_of}
use Rattle.site.specs.declared.Site.{Site}
use Rattle.site.specs.declared.Step.{Step}
use Rattle.site.specs.Site.{no_link_at, bad_time_at, link_at, with_link, down_at, close_at, mask_of}
use Rattle.site.specs.Call.{Plan, only, never, when, step_of}

-- number 6: connect on a link not Down
abbrev pub connect_refuses : Site → ℕ → ℕ → Refusal → Bool
connect_refuses s l time = when NoSuchLink (no_link_at s l) (when BadTime (bad_time_at s time) (when WrongPhase (pick (down_at s l) false true) never))

abbrev pub connect_plan : Site → ℕ → Plan
connect_plan s l = only (with_link s l (connect_of (link_at s l)))

abbrev pub connect_step : Site → ℕ → ℕ → Step
connect_step s l time = step_of s time (connect_refuses s l time) (connect_plan s l) 0

-- number 6: disconnect on a Down link
abbrev pub disconnect_refuses : Site → ℕ → ℕ → Refusal → Bool
disconnect_refuses s l time = when NoSuchLink (no_link_at s l) (when BadTime (bad_time_at s time) (when WrongPhase (down_at s l) never))

abbrev pub disconnect_plan : Site → ℕ → Plan
disconnect_plan s l = record { site = close_at s l; issued = []; messages = []; closed = mask_of l; hint = none; commands = [] }

abbrev pub disconnect_step : Site → ℕ → ℕ → Step
disconnect_step s l time = step_of s time (disconnect_refuses s l time) (disconnect_plan s l) 0
