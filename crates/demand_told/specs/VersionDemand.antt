-- Request 07: "Demand 2 reads each link's messages by its version; prove the selection once over any offered list."
-- Assumes nothing.
use Rattle.std.specs.Prelude.{ℕ, ◌≡◌, true, List, [], ◌∷◌, map, reverse}
use Rattle.std.proofs.Math.Option.{some, none}
use Rattle.basis.specs.Lists.{Among}
use Rattle.json_value.specs.Grammar.{Json}
use Rattle.write_message.specs.Listing.{offered}
use Rattle.machine.specs.Json.{version_in}
use Rattle.machine.specs.Life.{ours, chosen_of}
use Rattle.demand_told.specs.Greeted.{Theirs, not_later}

-- a list from the latest down
pub data Falls : List (List ℕ) → Type 0 where
  ends : Falls []
  falls : {v : List ℕ} {vs : List (List ℕ)} → ((w : List ℕ) → Among w vs → not_later w v ≡ true) → Falls vs → Falls (v ∷ vs)

pub record DemandVersion : Type 0 where
  -- the choice is in both lists and none in both is later; where there is none, none is in both
  pub chosen : (mine : List (List ℕ)) → Falls mine → (j : Json) (v : List ℕ) → chosen_of mine j ≡ some v
      → Among v mine × Theirs j v × ((w : List ℕ) → Among w mine → Theirs j w → not_later w v ≡ true)
  pub no_choice : (mine : List (List ℕ)) (j : Json) → chosen_of mine j ≡ none → (w : List ℕ) → Among w mine → Theirs j w → ⊥
  -- ours is such a list, and what our Version writes
  pub ours_fall : Falls ours
  pub ours_offered : reverse (map version_in offered) ≡ map some ours
