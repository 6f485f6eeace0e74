-- The version is chosen so, of any list that falls.
-- Assumes nothing.
use Rattle.basis.proofs.Std.{ℕ, ◌≡◌, refl, ap, List, map, some, none, Among, not_both}
use mathlib.Core.List.{reverse}
use Rattle.number.specs.Decimal.{digits, digits_below}
use Rattle.json_value.specs.Grammar.{Json}
use Rattle.write_message.specs.Listing.{offered}
use Rattle.machine.specs.Words.{is_some}
use Rattle.machine.specs.Json.{version_in}
use Rattle.machine.specs.Life.{ours, offers, chosen_of}
use Rattle.demand_told.specs.Greeted.{Theirs}
use Rattle.demand_told.specs.VersionDemand.{DemandVersion}
use Rattle.demand_told.proofs.Checks.{first_latest, first_of_lem, there_is, ours_fall, theirs_of, offers_of}

no_choice : (mine : List (List ℕ)) (j : Json) → chosen_of mine j ≡ none → (w : List ℕ) → Among w mine → Theirs j w → ⊥
no_choice mine j e w a b = not_both (there_is (offers j) a (offers_of j w b)) (ap (is_some {A = List ℕ}) e)

ours_offered : reverse (map version_in offered) ≡ map some ours
unfolding version_in digits digits_below
ours_offered = refl

pub demand_version : DemandVersion
demand_version =
    record {
      chosen = λ mine f j v e.
          let p = first_of_lem (offers j) mine v e in
          (p.0, theirs_of j v p.1, λ w a b. first_latest (offers j) mine v f e w a (offers_of j w b));
      no_choice = no_choice;
      ours_fall = ours_fall;
      ours_offered = ours_offered;
    }
