-- Turns of two sites, computed: with room neither sees the other, and without it one does.
-- Assumes nothing.
use Rattle.std.specs.Prelude.{ℕ, ◌≡◌, List, [], ◌∷◌, map}
use Rattle.std.proofs.Math.Option.{Option, some}
use Rattle.machine.specs.Words.{maybe}
use Rattle.machine.specs.State.{shared_pool, no_share, Machine, Outcome}
use Rattle.machine.specs.State.Act.{aggregated_value, connect}
use Rattle.machine.specs.State.Outcome.{refused}
use Rattle.machine.specs.Table.{first}
use Rattle.machine.specs.Pool.{issue_all}
use Rattle.machine.specs.Box.{Box, empty_box, site_of, with_pool, Turn, turned_all, given, only, Roomy}
use Rattle.machine.specs.Box.Turn.{starts, calls}
use Rattle.machine.specs.Example.{table, noon, at_noon, records, quiet}

abbrev pub site : ℕ → Machine
site k = first table (record { site = k; table = []; links = 2; primary = some 0; period = 60; first = 0; time = noon })

-- .. that holds so many records of its link 0
abbrev pub holding : ℕ → ℕ → Machine
holding n k = with_pool (issue_all (records n 0) (shared_pool k 0 [] (0 ∷ 0 ∷ []) no_share)) (site k)

abbrev pub value : ℕ → ℕ → Turn
value k v = calls k (at_noon (aggregated_value v))

abbrev pub talk : List Turn
talk = starts 0 (some (site 0)) ∷ starts 1 (some (site 1)) ∷ value 0 1 ∷ value 1 1 ∷ calls 0 (at_noon (connect 2)) ∷ []

abbrev pub crowd : List Turn
crowd = starts 0 (some (holding 64 0)) ∷ starts 1 (some (holding 64 1)) ∷ value 1 1 ∷ []

-- what site k has lost
abbrev pub lost_of : ℕ → Box → List ℕ
lost_of k b = maybe [] (λ m. m.pool.lost) (site_of k b)

pub record ApartExample : Type 0 where
  -- the demand speaks of such turns: four records are issued, and one call is refused
  pub roomy : Roomy talk empty_box
  pub told : given 0 talk empty_box ≡ quiet ∷ refused 2 ∷ []
  -- where the pool is full, a call of the south boom loses a record of the north one, which its own calls alone would not
  pub loses : lost_of 0 (turned_all crowd empty_box) ≡ 1 ∷ 0 ∷ []
  pub alone : lost_of 0 (turned_all (only 0 crowd) empty_box) ≡ 0 ∷ 0 ∷ []
