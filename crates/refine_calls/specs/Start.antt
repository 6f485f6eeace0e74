-- Start and the machine's: number 11 where no machine begins, else a site that is the machine that begins, with what the other site has in the pool beside it.
-- Assumes nothing.
use Rattle.std.specs.Prelude.{ℕ, ◌≡◌, List, eqb}
use Rattle.std.proofs.Math.Option.{Option, some, none}
use Rattle.basis.specs.Pick.{pick}
use Rattle.answer.specs.declared.Answer.{Answer}
use Rattle.answer.specs.declared.Refusal.TheVariants.{NotAccepted}
use Rattle.answer.specs.declared.Answer.TheVariants.{Done, Refused}
use Rattle.pool.specs.declared.Pool.{Pool}
use Rattle.site.specs.declared.Step.{Step}
use Rattle.site.specs.Call.{nothing_of}
use Rattle.call_start.specs.Fresh.{alone}
use Rattle.call_start.specs.Starts.{Starts}
use Rattle.machine.specs.State.{Share, with_beside, Start, Machine}
use Rattle.machine.specs.Table.{Begins}
use Rattle.machine.specs.Box.{with_pool}
use Rattle.refine_parts.specs.Same.{Beside, nobody}
use Rattle.refine_parts.specs.Claims.{Rest}
use Rattle.refine_calls.specs.Abstracts.{Abstracts}

-- 4294967295 is none
abbrev pub primary_for : ℕ → Option ℕ
primary_for primary = pick (eqb primary 4294967295) none (some primary)

abbrev pub start_for : ℕ → List ℕ → ℕ → ℕ → ℕ → ℕ → ℕ → Start
start_for site table links primary period first time =
    record { site = site; table = table; links = links; primary = primary_for primary; period = period; first = first; time = time }

abbrev pub answer_for : Option Machine → Answer
answer_for none = Refused NotAccepted
answer_for (some m) = Done nothing_of

-- either one machine begins and no other, or none does; and the step is so
pub record SameBeginning (start : Start) (x : Step) : Type 0 where
  pub machine : Option Machine
  pub begins : Begins start machine
  pub only : (m : Option Machine) → Begins start m → m ≡ machine
  pub answer : x.answer ≡ answer_for machine

-- a start of site 0, of site 1, or of another number, p being the pool before it
pub record Starting : Type 0 where
  pub begins : (table : List ℕ) (p : Pool) (site links primary period first time : ℕ) (x : Step) → Starts table p site links primary period first time x → (site ≡ alone → ⊥)
      → SameBeginning (start_for site table links primary period first time) x
  pub stands : (table : List ℕ) (p : Pool) (site links primary period first time : ℕ) (x : Step) → Starts table p site links primary period first time x → (site ≡ alone → ⊥)
      → (m : Machine) → Begins (start_for site table links primary period first time) (some m) → {beside : Beside} {share : Share} → Rest site beside p share
      → Abstracts beside x.site (with_pool (with_beside share m.pool) m)
  -- and of an only site, which is site 0
  pub begins_alone : (table : List ℕ) (p : Pool) (links primary period first time : ℕ) (x : Step) → Starts table p alone links primary period first time x
      → SameBeginning (start_for 0 table links primary period first time) x
  pub stands_alone : (table : List ℕ) (p : Pool) (links primary period first time : ℕ) (x : Step) → Starts table p alone links primary period first time x
      → (m : Machine) → Begins (start_for 0 table links primary period first time) (some m) → Abstracts nobody x.site m
