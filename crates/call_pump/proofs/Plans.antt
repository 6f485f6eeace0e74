-- The plan by what is due.
-- Assumes nothing.
use Rattle.basis.proofs.Std.{ℕ, ◌+◌, ◌*◌, ◌≤◌, ◌≡◌, refl, ap, subst, ◌∙◌, Bool, true, [], ◌∷◌, arith, ltb, leb, length, eq-eqb, eqb-true, pick, bool_cases, picked, both_true}
use Rattle.answer.specs.Given.Hint.{none}
use Rattle.identity.specs.declared.Identity.{Identity}
use Rattle.pool.specs.declared.Place.{Place}
use Rattle.pool.specs.declared.Sought.{Sought}
use Rattle.pool.specs.declared.Sought.TheVariants.{Found, Nothing as NoEntry}
use Rattle.pool.specs.Pool.{oldest_unsent, newest_alarm}
use Rattle.pool_laws.specs.Acts.Act.{Mark}
use Rattle.pool_laws.specs.Promises.{Reached}
use Rattle.pool_laws.specs.Promises.Reached.{after}
use Rattle.pool_laws.specs.Leaves.{Held as HeldIn}
use Rattle.pool_laws.proofs.Kept.{kept}
use Rattle.link.specs.declared.Link.{Link}
use Rattle.link.specs.declared.Role.{Role}
use Rattle.link.specs.declared.Phase.{Phase}
use Rattle.link.specs.declared.Phase.TheVariants.{Down, Greeting, Beating, Up}
use Rattle.link.specs.declared.Due.{Due}
use Rattle.link.specs.declared.Due.TheVariants.{Nothing, Version, Watchdog, Aggregated, Alarm, Entry}
use Rattle.link.specs.Phase.{phase_of}
use Rattle.link.specs.Due.{alarms_for, due_up, due_in, due_of}
use Rattle.write_message.specs.Message.{Message}
use Rattle.site.specs.declared.Site.{Site}
use Rattle.site.specs.Site.{link_at, role_of, owner_of}
use Rattle.send_after.specs.declared.Carried.{Carried}
use Rattle.send_after.specs.declared.Carried.TheVariants.{Held, NoRecord}
use Rattle.send_after.specs.Outgoing.{marked, same_event, carried_of, carried_at}
use Rattle.alarm.specs.Issued.{issued_of}
use Rattle.site.specs.Parts.{alarm_at}
use Rattle.call_pump.specs.Pump.{is_held, due_at, entry_plan, plan_for}
use Rattle.call_pump.specs.Claims.{SameEvent}

-- an Entry is due only where a record is not sent
abbrev IfUnsent : Bool → Due → Type 0
IfUnsent u Nothing = Unit {0}
IfUnsent u Version = Unit {0}
IfUnsent u Watchdog = Unit {0}
IfUnsent u Aggregated = Unit {0}
IfUnsent u (Alarm k) = Unit {0}
IfUnsent u Entry = u ≡ true

up_unsent : (l : Link) (time period : ℕ) (role : Role) (n : ℕ) (u : Bool) → IfUnsent u (due_up l time period role n u)
unfolding due_up
up_unsent l time period role n u =
    picked (IfUnsent u) (leb (l.beat + period * 1000) time) _ _ (λ e. tt)
    (λ e. picked (IfUnsent u) l.aggregatedout _ _
    (λ e. picked (IfUnsent u) (ltb l.alarm (alarms_for role n)) _ _ (λ e. tt) (λ e. picked (IfUnsent u) u _ _ (λ e. e) (λ e. tt)))
    (λ e. tt))

in_unsent : (f : Phase) (l : Link) (up : Due) (u : Bool) → IfUnsent u up → IfUnsent u (due_in f l up)
in_unsent Down l up u h = tt
in_unsent Greeting l up u h = picked (IfUnsent u) l.versionout _ _ (λ e. tt) (λ e. tt)
in_unsent Beating l up u h = picked (IfUnsent u) l.watchdogout _ _ (λ e. tt) (λ e. tt)
in_unsent Up l up u h = h

due_unsent : (l : Link) (time period : ℕ) (role : Role) (n : ℕ) (u : Bool) → IfUnsent u (due_of l time period role n u)
unfolding due_of
due_unsent l time period role n u = in_unsent (phase_of l) l _ u (up_unsent l time period role n u)

held_found : (x : Sought) → is_held x ≡ true → (y : Place) × (x ≡ Found y)
held_found (Found y) e = (y, refl)
held_found NoEntry e = let z : ◌≡◌ {A = ℕ} 0 1 = cc in absurd (omega arith)

pub found : (s : Site) (l time : ℕ) → due_at s l time ≡ Entry → (x : Place) × (oldest_unsent s.pool (owner_of s l) ≡ Found x)
found s l time e =
    held_found (oldest_unsent s.pool (owner_of s l))
    (subst (IfUnsent (is_held (oldest_unsent s.pool (owner_of s l)))) e
    (due_unsent (link_at s l) time s.period (role_of s l) s.table.alarmcount (is_held (oldest_unsent s.pool (owner_of s l)))))

module _ (s : Site) (l time : ℕ) (id : Identity) where
  -- what is due is one message
  pub one_for : (d : Due) → (d ≡ Nothing → ⊥) → (d ≡ Entry → (x : Place) × (oldest_unsent s.pool (owner_of s l) ≡ Found x)) → (m : Message) × ((plan_for d s l time id).messages ≡ m ∷ [])
  one_for Nothing n f = absurd (n refl)
  one_for Version n f = (_, refl)
  one_for Watchdog n f = (_, refl)
  one_for Aggregated n f = (_, refl)
  one_for (Alarm k) n f = (_, refl)
  one_for Entry n f = (_, ap (λ (o : Sought). (entry_plan o s l time id).messages) (f refl).1)

  most_entry : (x : Sought) → length (entry_plan x s l time id).messages ≤ 1
  most_entry NoEntry = omega arith
  most_entry (Found x) = omega arith

  pub most_for : (d : Due) → length (plan_for d s l time id).messages ≤ 1
  most_for Nothing = omega arith
  most_for Version = omega arith
  most_for Watchdog = omega arith
  most_for Aggregated = omega arith
  most_for (Alarm k) = omega arith
  most_for Entry = most_entry (oldest_unsent s.pool (owner_of s l))

  -- nothing is closed, and there is no hint
  quiet_entry : (x : Sought) → ((entry_plan x s l time id).closed ≡ 0) × ((entry_plan x s l time id).hint ≡ none) × ((entry_plan x s l time id).commands ≡ [])
  quiet_entry NoEntry = (refl, refl, refl)
  quiet_entry (Found x) = (refl, refl, refl)

  pub quiet_for : (d : Due) → ((plan_for d s l time id).closed ≡ 0) × ((plan_for d s l time id).hint ≡ none) × ((plan_for d s l time id).commands ≡ [])
  quiet_for Nothing = (refl, refl, refl)
  quiet_for Version = (refl, refl, refl)
  quiet_for Watchdog = (refl, refl, refl)
  quiet_for Aggregated = (refl, refl, refl)
  quiet_for (Alarm k) = (refl, refl, refl)
  quiet_for Entry = quiet_entry (oldest_unsent s.pool (owner_of s l))

  -- the pool's records stay
  marked_held : (c : Carried) (q : ℕ → ℕ) (m k : ℕ) → Reached 8 s.pool q → HeldIn s.pool m k → HeldIn (marked s.pool (owner_of s l) c) m k
  marked_held (Held j) q m k r h = (kept 8 (omega arith)).marking s.pool q r (owner_of s l) j m k h
  marked_held NoRecord q m k r h = h

  entry_held : (x : Sought) (q : ℕ → ℕ) (m k : ℕ) → Reached 8 s.pool q → HeldIn s.pool m k → HeldIn (entry_plan x s l time id).site.pool m k
  entry_held NoEntry q m k r h = h
  entry_held (Found x) q m k r h = marked_held (Held x.entry.sequence) q m k r h

  pub held_for : (d : Due) (q : ℕ → ℕ) (m k : ℕ) → Reached 8 s.pool q → HeldIn s.pool m k → HeldIn (plan_for d s l time id).site.pool m k
  held_for Nothing q m k r h = h
  held_for Version q m k r h = h
  held_for Watchdog q m k r h = h
  held_for Aggregated q m k r h = h
  held_for (Alarm j) q m k r h = marked_held (carried_at s l j) q m k r h
  held_for Entry q m k r h = entry_held (oldest_unsent s.pool (owner_of s l)) q m k r h

  marked_reached : (c : Carried) (q : ℕ → ℕ) → Reached 8 s.pool q → Reached 8 (marked s.pool (owner_of s l) c) q
  marked_reached (Held j) q r = after (Mark (owner_of s l) j) r tt
  marked_reached NoRecord q r = r

  entry_reached : (x : Sought) (q : ℕ → ℕ) → Reached 8 s.pool q → Reached 8 (entry_plan x s l time id).site.pool q
  entry_reached NoEntry q r = r
  entry_reached (Found x) q r = marked_reached (Held x.entry.sequence) q r

  pub reached_for : (d : Due) (q : ℕ → ℕ) → Reached 8 s.pool q → Reached 8 (plan_for d s l time id).site.pool q
  reached_for Nothing q r = r
  reached_for Version q r = r
  reached_for Watchdog q r = r
  reached_for Aggregated q r = r
  reached_for (Alarm j) q r = marked_reached (carried_at s l j) q r
  reached_for Entry q r = entry_reached (oldest_unsent s.pool (owner_of s l)) q r

-- what the message of alarm k carries
module _ (s : Site) (l k : ℕ) (x : Place) (f : newest_alarm s.pool (owner_of s l) k ≡ Found x) where
  same : Bool
  same = same_event x.entry (issued_of (alarm_at s k) (owner_of s l) k)

  newest : carried_at s l k ≡ pick same (Held x.entry.sequence) NoRecord
  unfolding same
  newest = ap (carried_of (issued_of (alarm_at s k) (owner_of s l) k)) f

  pub carries : SameEvent s k x → carried_at s l k ≡ Held x.entry.sequence
  unfolding same
  carries h = newest ∙ rw (eq-eqb _ _ h.time, eq-eqb _ _ h.states) refl

  pub carries_none : (SameEvent s k x → ⊥) → carried_at s l k ≡ NoRecord
  unfolding same
  carries_none n =
      newest ∙ bool_cases same
      (λ e. let b = both_true _ _ e in absurd (n (record { time = eqb-true _ _ b.0; states = eqb-true _ _ b.1 })))
      (λ e. rw e refl)
