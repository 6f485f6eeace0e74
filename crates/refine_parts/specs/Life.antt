-- When a link of the code is a life of the machine: a proof's device, nothing here need be believed.
-- Assumes nothing.
use Rattle.std.specs.Prelude.{ℕ, suc, ◌≡◌, Bool, true, false, List, [], ◌∷◌}
use Rattle.basis.specs.Pick.{pick}
use Rattle.basis.specs.Lists.{Among}
use Rattle.link.specs.declared.Link.{Link}
use Rattle.machine.specs.State.{Sent, Awaited, Exchange, Life}
use Rattle.machine.specs.State.Sent.{own_version, own_watchdog, no_record, the_record}
use Rattle.refine_parts.specs.Waits.{SameAwaited}

-- none chosen reads as three zeros
abbrev pub shown : List ℕ → List ℕ
shown [] = 0 ∷ 0 ∷ 0 ∷ []
shown (x ∷ xs) = x ∷ xs

-- how many messages of the first pass went out
abbrev pub pass_of : Link → ℕ
pass_of k = pick k.aggregatedout (suc k.alarm) 0

pub record SameExchange (sent acknowledged taken : Bool) (x : Exchange) : Type 0 where
  pub is_sent : sent ≡ x.sent
  pub is_acknowledged : acknowledged ≡ x.acknowledged
  pub is_taken : taken ≡ x.taken
  -- what is acknowledged went out
  pub first_sent : x.acknowledged ≡ true → x.sent ≡ true

-- an awaited Version or Watchdog of ours went out in this life
abbrev pub went_out : Life → Sent → Bool
went_out x own_version = x.versions.sent
went_out x own_watchdog = x.watchdogs.sent
went_out x no_record = true
went_out x (the_record n) = true

pub record SameLife (k : Link) (x : Life) : Type 0 where
  pub connected : k.connected ≡ x.connected
  pub versions : SameExchange k.versionout k.versionacked k.versiontaken x.versions
  pub watchdogs : SameExchange k.watchdogout k.watchdogacked k.watchdogtaken x.watchdogs
  pub version : k.major ∷ k.minor ∷ k.patch ∷ [] ≡ shown x.version
  pub beat : k.beat ≡ x.beat
  pub pass : pass_of k ≡ x.pass
  -- the alarms of the first pass come behind its AggregatedStatus
  pub no_alarm_lem : k.aggregatedout ≡ false → k.alarm ≡ 0
  pub awaited : SameAwaited k.awaited x.awaited
  pub went_out_lem : (w : Awaited) → Among w x.awaited → went_out x w.message ≡ true
