-- When what a packet comes to in the code is what it comes to in the machine, an answer or not: a proof's device, nothing here need be believed.
-- Assumes nothing.
use Rattle.std.specs.Prelude.{ℕ, ◌≡◌, true, false}
use Rattle.std.proofs.Math.Option.{Option}
use Rattle.identity.specs.declared.Identity.{Identity}
use Rattle.json_value.specs.Grammar.{Json}
use Rattle.site.specs.declared.Site.{Site}
use Rattle.packet_answer.specs.Taken.{Taken}
use Rattle.machine.specs.Words.{maybe}
use Rattle.machine.specs.State.{Machine, life_at, only}
use Rattle.machine.specs.Life.{is_awaited}
use Rattle.machine.specs.Effects.{receives}
use Rattle.machine.specs.Step.{is_replied}
use Rattle.refine_parts.specs.Same.{Beside}
use Rattle.refine_calls.specs.Calls.{SamePlan}

-- on link l, at time t, the reply under the identity id; o is the packet's value
pub record SameHeard (beside : Beside) (s : Site) (m : Machine) (l t : ℕ) (id : Identity) (x : Taken) (o : Option Json) : Type 0 where
  pub replies : x.replies ≡ maybe false (is_replied m l) o
  -- records are numbered from the same number, and are the same site's
  pub next : x.plan.site.next ≡ s.next
  pub site : x.plan.site.site ≡ s.site
  -- number 9 refuses every other identity
  pub plan : (x.replies ≡ true → is_awaited (life_at m l) id.bytes ≡ false) → SamePlan beside x.plan (maybe (only m) (receives l t id.bytes m) o)
