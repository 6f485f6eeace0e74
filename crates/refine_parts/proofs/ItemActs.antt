-- What is done to the items of a site is done to those of its machine.
-- Assumes nothing.
use Rattle.refine_parts.specs.ItemActs.{ItemActs}
use Rattle.refine_parts.proofs.Alarms.{same_alarm_lem, same_orders}
use Rattle.refine_parts.proofs.Aggregated.{same_aggregated}
use Rattle.refine_parts.proofs.Statuses.{same_status}
use Rattle.refine_parts.proofs.Subscriptions.{same_subscribing}
use Rattle.refine_parts.proofs.Tick.{same_tick}

pub item_acts : ItemActs
item_acts =
    record {
      acts = λ s m h. record {
        inputs = record {
          alarm = λ i active t b. same_alarm_lem s m h i b active t;
          status = λ i v t b r up. same_status s m h i b v r t up;
          aggregated = λ v t b. same_aggregated s m h v t b;
        };
        orders = λ i q b. same_orders s m h i b q;
        subscribing = λ l i a b. same_subscribing s m h l i a b;
        tick = λ t left up. same_tick s m h t left up;
      };
    }
