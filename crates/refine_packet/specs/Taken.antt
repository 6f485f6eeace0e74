-- When what a packet comes to in the code is what it comes to in the machine: a proof's device, nothing here need be believed.
-- Assumes nothing.
use Rattle.std.specs.Prelude.{ℕ, ◌<◌, ◌≡◌, Bool, true, false, not}
use Prim.Native.String.{String}
use Rattle.std.proofs.Math.Option.{Option, some}
use Rattle.basis.specs.Text.{text}
use Rattle.identity.specs.declared.Identity.{Identity}
use Rattle.identity.specs.Read.{SixteenBytes}
use Rattle.json_value.specs.Grammar.{Json}
use Rattle.site.specs.declared.Site.{Site}
use Rattle.packet_answer.specs.declared.Question.{Question}
use Rattle.packet_answer.specs.Taken.{Taken}
use Rattle.machine.specs.Words.{Bytes, ◌and◌, maybe, is_some}
use Rattle.machine.specs.State.{Life, Machine, life_at, Effect}
use Rattle.machine.specs.Json.{read_packet, string_at, string_of}
use Rattle.machine.specs.Life.{is_older, is_awaited}
use Rattle.machine.specs.Answers.{wants_reply, replies_at_once}
use Rattle.machine.specs.Effects.{refuses, carried_out, replying}
use Rattle.refine_parts.specs.Same.{Beside}
use Rattle.refine_read.specs.Verdicts.{verdict_in}
use Rattle.refine_read.specs.Head.{type_name}
use Rattle.refine_read.specs.Reasons.{by_verdict, further_reason}
use Rattle.refine_calls.specs.Abstracts.{Abstracts}
use Rattle.refine_calls.specs.Calls.{SamePlan}

-- on link l, at time t, the reply under the identity id: refused with a reason, or carried out and acknowledged
abbrev pub effect_by : Machine → ℕ → ℕ → Bytes → Json → Option String → Effect
effect_by m l t id j reason = maybe (replying l t id j (carried_out l t j m)) (refuses l j m) reason

pub record SameTaken (beside : Beside) (s : Site) (m : Machine) (l t : ℕ) (id : Identity) (j : Json) (x : Taken) (reason : Option String) : Type 0 where
  pub replies : x.replies ≡ (not (is_some reason) and wants_reply m l j)
  -- records are numbered from the same number, and are the same site's
  pub next : x.plan.site.next ≡ s.next
  pub site : x.plan.site.site ≡ s.site
  -- number 9 refuses every other identity
  pub plan : (x.replies ≡ true → is_awaited (life_at m l) id.bytes ≡ false) → SamePlan beside x.plan (effect_by m l t id.bytes j reason)

-- what the call of such a packet is asked
abbrev pub question_on : ℕ → ℕ → Identity → Json → Question
question_on l t id j = record { link = l; time = t; identity = id; received = record { bytes = string_of "mId" j }; included = replies_at_once j }

-- of a type that is taken on such a link: the code takes what it reads of the bytes p to its answer
abbrev pub SameTyped : Bytes → (Life → Type 0) → (Site → Question → Bytes → Taken) → Type 0
SameTyped type Ready takes =
    (beside : Beside) (s : Site) (m : Machine) → Abstracts beside s m → (l : ℕ) → l < m.setup.links → Ready (life_at m l) → (t : ℕ) (id : Identity) → SixteenBytes id.bytes
    → (p : Bytes) (j : Json) → read_packet p ≡ some j → string_at "type" j ≡ some type
    → SameTaken beside s m l t id j (takes s (question_on l t id j) p) (by_verdict (verdict_in (is_older (life_at m l)) j) (further_reason m l j))

abbrev pub SameAsked : String → (Life → Type 0) → (Site → Question → Bytes → Taken) → Type 0
SameAsked name = SameTyped (text name)

-- of a request by either type
abbrev pub SameRequested : String → (Life → Type 0) → (Site → Question → Bytes → Taken) → Type 0
SameRequested name Ready takes = (included : Bool) → SameTyped (type_name name included) Ready takes
