-- Demand 3 holds of every run, and of every box.
-- Assumes nothing.
use Rattle.demand_held.specs.Demand.{Demand3}
use Rattle.demand_held.proofs.Rising.{rising_once}
use Rattle.demand_held.proofs.Issue.{held_below}
pub use Rattle.demand_held.proofs.Runs.{Sound, run_sound, other_leaves}
use Rattle.demand_held.proofs.Runs.{held, beside, apart, issued, uncrowded, issued_in, lost_count}
use Rattle.demand_held.proofs.Turns.{of_every_box, held_on}

pub demand3 : Demand3
demand3 =
    record {
      of_every_run = λ s h m r. record {
        held = λ c. held m (run_sound r) c;
        beside = λ c. beside m (run_sound r) c;
        apart = λ c. apart m (run_sound r) c;
        issued = λ c. issued m (run_sound r) c;
        most = (run_sound r).good.own.most;
        all = (run_sound r).good.all;
        given = held_below m.pool (run_sound r).good;
        once = λ n. rising_once n m.pool.held (run_sound r).good.own.rising;
        never_crowded = λ c. uncrowded m (run_sound r) c;
      };
      of_every_box = of_every_box;
      held_on = held_on;
      issued_by_a_call = λ s h m r. issued_in r;
      lost_count = λ s h m r. lost_count r;
    }
