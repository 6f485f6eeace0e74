-- Demand 1: "A refused call gives the number that document 01 fixes, and the site's state .. stay exactly as before."
-- Assumes nothing.
use Rattle.std.specs.Prelude.{ℕ, ◌≡◌, Bool, true, false, List, [], ◌∷◌, ◌++◌}
use Rattle.std.proofs.Math.Option.{Option, some, none}
use Rattle.basis.specs.Lists.{Among}
use Rattle.machine.specs.Words.{Case}
use Rattle.machine.specs.State.{Start, Machine, Call}
use Rattle.machine.specs.State.Outcome.{refused}
use Rattle.machine.specs.Table.{Begins}
use Rattle.machine.specs.Effects.{effect_of}
use Rattle.machine.specs.Step.{conditions, after, outcome, step, outcomes, leaves}

-- none of these conditions holds
pub data NoneApplies : List (Case ℕ) → Type 0 where
  none_applies : NoneApplies []
  nor : {k : Case ℕ} {ks : List (Case ℕ)} → k.applies ≡ false → NoneApplies ks → NoneApplies (k ∷ ks)

-- the condition of number n holds and none before it does
pub data FirstIs (n : ℕ) : List (Case ℕ) → Type 0 where
  first_is : {k : Case ℕ} {ks : List (Case ℕ)} → k.gives ≡ n → k.applies ≡ true → FirstIs n (k ∷ ks)
  behind : {k : Case ℕ} {ks : List (Case ℕ)} → k.applies ≡ false → FirstIs n ks → FirstIs n (k ∷ ks)

-- document 01's numbers of a call after start, without the one that nothing meets
abbrev pub numbers : List ℕ
numbers = 1 ∷ 2 ∷ 3 ∷ 4 ∷ 5 ∷ 6 ∷ 7 ∷ 8 ∷ 9 ∷ 10 ∷ 12 ∷ []

module _ (m : Machine) (c : Call) where
  pub record Refusing : Type 0 where
    -- the number is given exactly when its condition is the first, in the order of document 01, that holds
    pub gives : (n : ℕ) → FirstIs n (conditions m c.time c.act) → step m c ≡ (refused n, m)
    pub given : (n : ℕ) → (step m c).0 ≡ refused n → FirstIs n (conditions m c.time c.act)
    -- and done exactly when none does
    pub does : NoneApplies (conditions m c.time c.act) → step m c ≡ (outcome (effect_of m c.time c.act), after c.time (effect_of m c.time c.act))
    -- "All but 0 change nothing"
    pub stays : (n : ℕ) → (step m c).0 ≡ refused n → (step m c).1 ≡ m
    pub as_if_not : (n : ℕ) (cs : List Call) → (step m c).0 ≡ refused n → (outcomes m (c ∷ cs) ≡ refused n ∷ outcomes m cs) × (leaves m (c ∷ cs) ≡ leaves m cs)
    -- no other number
    pub known : (n : ℕ) → (step m c).0 ≡ refused n → Among n numbers

pub record Demand1 : Type 0 where
  pub of_every_call : (m : Machine) (c : Call) → Refusing m c
  -- a start gives one thing
  pub one_start : (s : Start) (p q : Option Machine) → Begins s p → Begins s q → p ≡ q
