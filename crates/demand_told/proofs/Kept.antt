-- What a link's life in the machine tells of the history: each flag of the two exchanges, and each awaited Version and Watchdog, stands for
-- calls of this life.
-- Assumes nothing.
use Rattle.basis.proofs.Std.{ℕ, ◌≡◌, refl, true, false, List, [], ◌∷◌, arith, not_both}
use Rattle.machine.specs.Words.{Bytes}
use Rattle.machine.specs.State.{Sent, Awaited, Life, fresh, Machine}
use Rattle.machine.specs.State.Sent.{own_version, own_watchdog, no_record, the_record}
use Rattle.machine.specs.Run.{Past}
use Rattle.demand_held.proofs.Lists.{Each}
use Rattle.demand_held.proofs.Lists.Each.{no_more, one_more}
use Rattle.demand_told.specs.Life.{going_on}
use Rattle.demand_told.specs.Greeted.{Within, IsVersion, IsWatchdog, Wrote, Acknowledged, Answered, IsGoodVersion, IsTheirWatchdog}
use Rattle.demand_told.specs.Greeted.Within.{latest, earlier}

abbrev pub Backed : ℕ → List Past → Bytes → Sent → Type 0
Backed l life id own_version = Within (Wrote l (IsVersion id)) life
Backed l life id own_watchdog = Within (Wrote l (IsWatchdog id)) life
Backed l life id no_record = Unit {0}
Backed l life id (the_record n) = Unit {0}

abbrev pub BackedBy : ℕ → List Past → Awaited → Type 0
BackedBy l life a = Backed l life a.identity a.message

-- the checks of their Version are by the table of machine u
pub record Kept (u : Machine) (l : ℕ) (k : Life) (life : List Past) : Type 0 where
  pub there : k.connected ≡ true → life ≡ [] → ⊥
  pub our_version : k.versions.acknowledged ≡ true → Within (Acknowledged l IsVersion) life
  pub their_version : k.versions.taken ≡ true → Within (Answered l (IsGoodVersion u k.version)) life
  pub our_watchdog : k.watchdogs.acknowledged ≡ true → Within (Acknowledged l IsWatchdog) life
  pub their_watchdog : k.watchdogs.taken ≡ true → Within (Answered l IsTheirWatchdog) life
  pub awaited : Each (BackedBy l life) k.awaited

pub kept_down : (u : Machine) (l : ℕ) (life : List Past) → Kept u l (fresh false) life
kept_down u l life =
    record {
      there = λ e. not_both e refl;
      our_version = λ e. not_both e refl;
      their_version = λ e. not_both e refl;
      our_watchdog = λ e. not_both e refl;
      their_watchdog = λ e. not_both e refl;
      awaited = no_more;
    }

pub some_there : {p : Past} {life : List Past} → p ∷ life ≡ [] → ⊥
some_there e = let z : ◌≡◌ {A = ℕ} 0 1 = cc in omega arith

pub kept_opened : (u : Machine) (l : ℕ) (p : Past) → Kept u l (fresh true) (p ∷ [])
kept_opened u l p =
    record {
      there = λ e. some_there;
      our_version = λ e. not_both e refl;
      their_version = λ e. not_both e refl;
      our_watchdog = λ e. not_both e refl;
      their_watchdog = λ e. not_both e refl;
      awaited = no_more;
    }

-- ---- one more call
pub still : {Is : Past → List Past → Type 0} (p : Past) {life : List Past} → Within Is life → Within Is (going_on p life)
still p (latest a) = earlier (latest a)
still p (earlier a) = earlier (earlier a)

pub now : {Is : Past → List Past → Type 0} (p : Past) (life : List Past) → (life ≡ [] → ⊥) → Is p life → Within Is (going_on p life)
now p [] n a = absurd (n refl)
now p (q ∷ life) n a = latest a

pub on : (p : Past) (life : List Past) → (life ≡ [] → ⊥) → going_on p life ≡ [] → ⊥
on p [] n e = n e
on p (q ∷ life) n e = some_there e

pub still_backed : (l : ℕ) (p : Past) (life : List Past) (id : Bytes) (message : Sent) → Backed l life id message → Backed l (going_on p life) id message
still_backed l p life id own_version b = still p b
still_backed l p life id own_watchdog b = still p b
still_backed l p life id no_record b = b
still_backed l p life id (the_record n) b = b

pub still_awaited : (l : ℕ) (p : Past) (life : List Past) {ids : List Awaited} → Each (BackedBy l life) ids → Each (BackedBy l (going_on p life)) ids
still_awaited l p life no_more = no_more
still_awaited l p life (one_more {x} b r) = one_more (still_backed l p life x.identity x.message b) (still_awaited l p life r)

pub goes_on_lem : {u : Machine} {l : ℕ} {k : Life} {life : List Past} (p : Past) → Kept u l k life → Kept u l k (going_on p life)
goes_on_lem {u} {l} {k} {life} p a =
    record {
      there = λ e. on p life (a.there e);
      our_version = λ e. still p (a.our_version e);
      their_version = λ e. still p (a.their_version e);
      our_watchdog = λ e. still p (a.our_watchdog e);
      their_watchdog = λ e. still p (a.their_watchdog e);
      awaited = still_awaited l p life a.awaited;
    }
