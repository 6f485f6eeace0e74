-- Plans that issue nothing and give no hint: what is left is the same, or the link is closed.
-- Assumes nothing.
use Rattle.basis.proofs.Std.{ℕ, ◌<◌, refl, List, [], none, arith}
use Rattle.answer.specs.Given.Hint.{none as no_hint}
use Rattle.write_message.specs.Message.{Message}
use Rattle.site.specs.declared.Site.{Site}
use Rattle.site.specs.Site.{close_at, mask_of}
use Rattle.machine.specs.State.{Machine, effect}
use Rattle.machine.specs.Effects.{closes}
use Rattle.demand_held.proofs.Lists.Each.{no_more}
use Rattle.refine_parts.specs.Same.{Beside}
use Rattle.refine_calls.specs.Abstracts.{Abstracts}
use Rattle.refine_calls.specs.Calls.{SamePlan}
use Rattle.refine_calls.specs.Calls.SameCommands.{no_command}
use Rattle.refine_calls.proofs.Parts.{closed}

pub left : {beside : Beside} (s : Site) (m : Machine) → Abstracts beside s m → (messages : List Message)
    → SamePlan beside (record { site = s; issued = []; messages = messages; closed = 0; hint = no_hint; commands = [] }) (effect m [] messages [] none)
left s m h messages =
    record { leaves = h; issued = record { issued = refl; told = no_more }; for_links = no_more; messages = refl; closed = refl; hint = refl; commands = no_command }

pub shut : {beside : Beside} (s : Site) (m : Machine) → Abstracts beside s m → (l : ℕ) → l < m.setup.links → (messages : List Message)
    → SamePlan beside (record { site = close_at s l; issued = []; messages = messages; closed = mask_of l; hint = no_hint; commands = [] }) (closes l messages m)
unfolding closes
shut s m h l b messages =
    record {
      leaves = closed s m h l b;
      issued = record { issued = refl; told = no_more };
      for_links = no_more;
      messages = refl;
      closed = omega arith;
      hint = refl;
      commands = no_command;
    }
