-- What is asked of a link, and of a life: the answers are the same.
-- Assumes nothing.
use Rattle.std.specs.Prelude.{ℕ, ◌≡◌, leb, length}
use Rattle.std.proofs.Math.Option.{Option, some, none}
use Rattle.basis.specs.Lists.{same_bytes}
use Rattle.identity.specs.declared.Identity.{Identity}
use Rattle.identity.specs.Read.{Says}
use Rattle.awaited.specs.Awaited.{find_of, is_awaited as is_found, late_of}
use Rattle.link.specs.declared.Link.{Link}
use Rattle.link.specs.declared.Phase.{Phase}
use Rattle.link.specs.declared.Phase.TheVariants.{Down, Greeting, Beating, Up}
use Rattle.link.specs.declared.Role.{Role}
use Rattle.link.specs.declared.Role.TheVariants.{Primary, Secondary}
use Rattle.link.specs.declared.Due.{Due as DueKind}
use Rattle.link.specs.declared.Due.TheVariants.{Nothing, Version, Watchdog, Aggregated, Alarm, Entry}
use Rattle.link.specs.Phase.{phase_of, is_up as up_in, is_beating as beating_in, takes_in}
use Rattle.link.specs.Steps.{crowded_of, full_of}
use Rattle.link.specs.Due.{due_of}
use Rattle.machine.specs.Words.{Bytes, if'◌then◌else◌, ◌or◌, is_some, first_that}
use Rattle.machine.specs.State.{Held, Life, Machine, life_at}
use Rattle.machine.specs.Life.{is_down, is_greeting, is_beating, is_up, is_primary, is_awaited, awaited_by, is_late, Due, oldest_unsent, due}
use Rattle.machine.specs.Life.Due.{the_version, the_watchdog, the_aggregated, the_alarm, the_held}
use Rattle.refine_parts.specs.Waits.{found_for}
use Rattle.refine_parts.specs.Life.{SameLife}

abbrev pub phase_in : Life → Phase
phase_in x = if' is_down x then Down else if' is_greeting x then Greeting else if' is_beating x then Beating else Up

module _ (k : Link) (x : Life) where
  pub record SamePhase : Type 0 where
    pub phase : phase_of k ≡ phase_in x
    pub up : up_in (phase_of k) ≡ is_up x
    pub beating : beating_in (phase_of k) ≡ is_beating x
    -- Watchdogs come in while Beating and in Up
    pub takes : takes_in (phase_of k) ≡ (is_beating x or is_up x)

  pub record SameWaits : Type 0 where
    pub found : (id : Identity) → find_of k.awaited id ≡ found_for (first_that (λ w. same_bytes w.identity id.bytes) x.awaited)
    pub is_awaited_lem : (id : Identity) → is_found (find_of k.awaited id) ≡ is_awaited x id.bytes
    -- by the text of an identity
    pub found_by : (s : Bytes) (id : Identity) → Says s id.bytes → find_of k.awaited id ≡ found_for (awaited_by x s)
    pub no_identity : (s : Bytes) → ((bs : Bytes) → Says s bs → ⊥) → awaited_by x s ≡ none
    -- "8 or more identities awaited", "16 are awaited"
    pub crowded : crowded_of k ≡ leb 8 (length x.awaited)
    pub full : full_of k ≡ leb 16 (length x.awaited)
    pub late : (t : ℕ) → late_of k.awaited t ≡ is_late t x

abbrev pub role_in : Machine → ℕ → Role
role_in m l = if' is_primary m l then Primary else Secondary

abbrev pub kind_of : Option Due → DueKind
kind_of none = Nothing
kind_of (some the_version) = Version
kind_of (some the_watchdog) = Watchdog
kind_of (some the_aggregated) = Aggregated
kind_of (some (the_alarm i)) = Alarm i
kind_of (some (the_held h)) = Entry

abbrev pub SameDue : Link → Machine → ℕ → Type 0
SameDue k m l =
    (t : ℕ) → due_of k t m.setup.period (role_in m l) (length m.alarms) (is_some (oldest_unsent m l)) ≡ kind_of (due m l t)

pub record Questions : Type 0 where
  pub phases : (k : Link) (x : Life) → SameLife k x → SamePhase k x
  pub waits : (k : Link) (x : Life) → SameLife k x → SameWaits k x
  pub dues : (k : Link) (m : Machine) (l : ℕ) → SameLife k (life_at m l) → SameDue k m l
  -- the record that is due is the oldest one not sent
  pub held_due : (m : Machine) (l t : ℕ) (h : Held) → due m l t ≡ some (the_held h) → oldest_unsent m l ≡ some h
