-- The claims of specs/CasesBox, computed.
-- Assumes nothing.
use Rattle.basis.proofs.Std.{refl}
use Rattle.machine.specs.Items.{aggregates}
use Rattle.machine.specs.Pool.{lose, lose_of, make_room, issue}
use Rattle.machine.specs.Effects.{effect_of}
use Rattle.machine.specs.Step.{conditions, step}
use Rattle.machine.specs.Box.{turned}
use Rattle.machine_cases.specs.CasesBox.{Owners, Turns}

pub owners_hold : Owners
unfolding lose lose_of make_room issue
owners_hold =
    record {
      none_yet = refl;
      other_loses = refl;
      its_oldest = refl;
      sixteenth = refl;
      seventeenth = refl;
      own_loses = refl;
      exactly_sixteen = refl;
      lower_first = refl;
      higher_next = refl;
      its_own = refl;
      last_of_eight = refl;
      last_place = refl;
    }

pub turns_hold : Turns
unfolding aggregates lose lose_of make_room issue effect_of conditions step turned
turns_hold =
    record {
      sites = refl;
      own_numbers = refl;
      own_shares = refl;
      other_order = refl;
      lost_there = refl;
      lost_numbers = refl;
      south_anew = refl;
      north_anew = refl;
      refused_starts = refl;
      not_begun = refl;
      no_third = refl;
      given_north = refl;
      given_south = refl;
      only_south = refl;
    }
