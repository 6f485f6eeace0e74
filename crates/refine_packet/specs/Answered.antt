-- An answer to an awaited message of ours does to the site what it does to the machine. proofs/Answered.antt proves it.
-- Assumes nothing.
use Rattle.std.specs.Prelude.{ℕ, ◌<◌, ◌≡◌}
use Rattle.std.proofs.Math.Option.{some}
use Rattle.identity.specs.declared.Identity.{Identity}
use Rattle.identity.specs.Read.{Says}
use Rattle.json_value.specs.Grammar.{Json}
use Rattle.site.specs.declared.Site.{Site}
use Rattle.packet_greet.specs.Answered.{answered_plan}
use Rattle.machine.specs.State.{Awaited, Machine, life_at}
use Rattle.machine.specs.Json.{string_of, is_type}
use Rattle.machine.specs.Life.{awaited_by}
use Rattle.machine.specs.Effects.{answered}
use Rattle.refine_parts.specs.Same.{Beside}
use Rattle.refine_calls.specs.Abstracts.{Abstracts}
use Rattle.refine_calls.specs.Calls.{SamePlan}

-- on a configured link; id is what the oMId says
abbrev pub SameAnswered : Type 0
SameAnswered =
    (beside : Beside) (s : Site) (m : Machine) → Abstracts beside s m → (l : ℕ) → l < m.setup.links → (j : Json) (id : Identity) (w : Awaited) → Says (string_of "oMId" j) id.bytes
    → awaited_by (life_at m l) (string_of "oMId" j) ≡ some w → SamePlan beside (answered_plan s l id (is_type "MessageAck" j)) (answered l j m)
