-- One subscription's rules: document 01, "Alarms and subscriptions", second paragraph.
-- Assumes nothing.
use Rattle.std.specs.Prelude.{ℕ, ◌+◌, ◌*◌, Bool, true, false, eqb, leb, ltb}
use Rattle.basis.specs.Pick.{pick, both}
use Rattle.subscription.specs.declared.Subscription.{Subscription}
use Rattle.subscription.specs.declared.Ticked.{Ticked}

abbrev pub none : Subscription
none = record { since = 0; seconds = 0; state = 0 }

-- made by a call at this time, with uRt in seconds and sOc
abbrev pub subscribed : ℕ → Bool → ℕ → Subscription
subscribed seconds soc time = record { since = time; seconds = seconds; state = pick soc 2 1 }

abbrev pub exists_of : Subscription → Bool
exists_of s = ltb 0 s.state

-- with sOc it issues a record at a first or changed value
abbrev pub issues_on : Subscription → Bool → Bool
issues_on s changed = both changed (eqb s.state 2)

-- with uRt above 0 it issues one at a tick uRt or more after the subscribing call or the last tick that did so
unfoldable pub due_at : Subscription → ℕ → Bool
due_at s time = both (exists_of s) (both (ltb 0 s.seconds) (leb (s.since + 1000 * s.seconds) time))

unfoldable pub tick_of : Subscription → ℕ → Ticked
tick_of s time =
    pick (due_at s time)
    (record { subscription = record { since = time; seconds = s.seconds; state = s.state }; issues = true })
    (record { subscription = s; issues = false })
