-- Demand 3: "A record issued for a link stays held until its supervisor answers a message that carried it".
-- Assumes nothing.
use Rattle.std.specs.Prelude.{ℕ, ◌≡◌, List, ◌⊎◌}
use Rattle.std.proofs.Math.Option.{some}
use Rattle.basis.specs.Lists.{Among}
use Rattle.machine.specs.State.{Issued, Awaited, Start, Machine, life_at, Act, Call}
use Rattle.machine.specs.Effects.{carried}
use Rattle.machine.specs.Run.{Past, Run}
use Rattle.demand_held.specs.Held.{IsHeld, IsDone, Answered, Kept}
use Rattle.demand_told.specs.Typed.{EachTyped}
use Rattle.demand_carried.specs.Carried.{Carried, AnswersCarried}

-- of every run whose identities are made of sixteen random bytes
module _ (s : Start) (h : List Past) (m : Machine) where
  pub record Carrying : Type 0 where
    -- whatever identity a link awaits for a record
    pub awaited : (l n : ℕ) (a : Awaited) → Among a (life_at m l).awaited → carried a.message ≡ some n → Carried s h l n a.identity
    -- so whatever packet answers a record (demand_held)
    pub answered : (l n : ℕ) (act : Act) → Answered m l n act → AnswersCarried s h l n act
    -- and a held record stays, or 16 newer ones of its link are held, or its supervisor answers a message carrying it
    pub until : (c : Call) (r : Issued) (n : ℕ) → IsHeld r n m.pool.held → Kept m c r n ⊎ (IsDone m c × AnswersCarried s h r.link n c.act)

pub record DemandCarried : Type 0 where
  pub of_every_run : (s : Start) (h : List Past) (m : Machine) → Run s h m → EachTyped h → Carrying s h m
