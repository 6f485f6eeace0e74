-- The order of what is due in Up.
-- Assumes nothing.
use Rattle.std.specs.Prelude.{ℕ, ◌+◌, ◌*◌, ◌≤◌, ◌<◌, ◌≡◌, Bool, true, false}
use Rattle.link.specs.declared.Link.{Link}
use Rattle.link.specs.declared.Role.{Role}
use Rattle.link.specs.declared.Role.TheVariants.{Primary}
use Rattle.link.specs.declared.Due.TheVariants.{Nothing, Version, Watchdog, Aggregated, Alarm, Entry}
use Rattle.link.specs.declared.Phase.TheVariants.{Down, Greeting, Beating, Up}
use Rattle.link.specs.Phase.{phase_of}
use Rattle.link.specs.Due.{due_of}

-- what is due in Up, in this order: p is the period in seconds, n the number of alarms
module _ (l : Link) (t p n : ℕ) (role : Role) (unsent : Bool) where
  pub record Order : Type 0 where
    pub down : phase_of l ≡ Down → due_of l t p role n unsent ≡ Nothing
    pub greeting : phase_of l ≡ Greeting → l.versionout ≡ false → due_of l t p role n unsent ≡ Version
    pub greeting_no_second : phase_of l ≡ Greeting → l.versionout ≡ true → due_of l t p role n unsent ≡ Nothing
    pub beating : phase_of l ≡ Beating → l.watchdogout ≡ false → due_of l t p role n unsent ≡ Watchdog
    pub beating_no_second : phase_of l ≡ Beating → l.watchdogout ≡ true → due_of l t p role n unsent ≡ Nothing
    pub watchdog : phase_of l ≡ Up → l.beat + p * 1000 ≤ t → due_of l t p role n unsent ≡ Watchdog
    pub aggregated : phase_of l ≡ Up → t < l.beat + p * 1000 → l.aggregatedout ≡ false → due_of l t p role n unsent ≡ Aggregated
    pub alarm : phase_of l ≡ Up → t < l.beat + p * 1000 → l.aggregatedout ≡ true
        → role ≡ Primary → l.alarm < n → due_of l t p role n unsent ≡ Alarm l.alarm
    pub entry : phase_of l ≡ Up → t < l.beat + p * 1000 → l.aggregatedout ≡ true
        → (role ≡ Primary → n ≤ l.alarm) → unsent ≡ true → due_of l t p role n unsent ≡ Entry
    pub nothing : phase_of l ≡ Up → t < l.beat + p * 1000 → l.aggregatedout ≡ true
        → (role ≡ Primary → n ≤ l.alarm) → unsent ≡ false → due_of l t p role n unsent ≡ Nothing
