-- The turns of specs/Example, computed.
-- Assumes nothing.
use Rattle.basis.proofs.Std.{◌≡◌, refl, subst, some}
use Rattle.machine.specs.State.{Machine}
use Rattle.machine.specs.State.Act.{connect, aggregated_value}
use Rattle.machine.specs.Items.{aggregates}
use Rattle.machine.specs.Pool.{lose, lose_of, make_room, issue}
use Rattle.machine.specs.Effects.{connects, effect_of}
use Rattle.machine.specs.Step.{conditions, step}
use Rattle.machine.specs.Box.{empty_box, turned, RoomyCall, Roomy}
use Rattle.machine.specs.Example.{at_noon}
use Rattle.demand_apart.specs.Example.{talk, ApartExample}

same : {x m : Machine} → some x ≡ some m → x ≡ m
same e = cc

example_roomy : Roomy talk empty_box
unfolding aggregates connects lose lose_of make_room issue effect_of conditions step turned
example_roomy = (
  tt,
  (
    tt,
    (
      λ m e. subst (λ (y : Machine). RoomyCall y (at_noon (aggregated_value 1))) (same e) (λ n. (refl, (refl, tt))),
      (
        λ m e. subst (λ (y : Machine). RoomyCall y (at_noon (aggregated_value 1))) (same e) (λ n. (refl, (refl, tt))),
        (λ m e. subst (λ (y : Machine). RoomyCall y (at_noon (connect 2))) (same e) (λ n. tt), tt),
      ),
    ),
  ),
)

pub apart_example : ApartExample
unfolding aggregates connects lose lose_of make_room issue effect_of conditions step turned
apart_example = record { roomy = example_roomy; told = refl; loses = refl; alone = refl }
