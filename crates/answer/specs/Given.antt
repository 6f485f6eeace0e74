-- What an answer says besides its number: how many output bytes were written, the links closed, a clock hint, and how many commands are handed over.
-- Assumes nothing.
use Rattle.std.specs.Prelude.{List, [], ◌∷◌, ◌++◌, ℕ, zero, suc, ◌/◌, ◌%◌, ◌^◌, eqb}
use Rattle.basis.specs.Pick.{pick}
use Rattle.answer.specs.declared.Report.{Report}
use Rattle.answer.specs.declared.Answer.{Answer}
use Rattle.answer.specs.declared.Answer.TheVariants.{Done, Refused}
use Rattle.answer.specs.Number.{number_of}

-- a time in milliseconds since 1970 UTC, or none
pub data Hint : Type 0 where
  none : Hint
  clock : ℕ → Hint

pub record Given : Type 0 where
  pub number : ℕ
  pub written : ℕ
  pub closed : List ℕ
  pub hint : Hint
  pub commands : ℕ

-- the links below n whose bits are set, upwards
abbrev pub links_in : ℕ → ℕ → List ℕ
links_in zero mask = []
links_in (suc n) mask = links_in n mask ++ pick (eqb (mask / 2 ^ n % 2) 1) (n ∷ []) []

abbrev pub hint_in : Report → Hint
hint_in r = pick (eqb r.hinted 0) none (clock r.hint)

-- a refused call writes nothing, closes nothing, gives no hint and hands nothing over
abbrev pub given_by : Answer → Given
given_by (Done r) = record { number = 0; written = r.written; closed = links_in 16 r.closed; hint = hint_in r; commands = r.commands }
given_by (Refused r) = record { number = number_of (Refused r); written = 0; closed = []; hint = none; commands = 0 }
