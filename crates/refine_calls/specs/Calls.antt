-- What each call of the code must have in common with the machine's, and what follows of it for every call alike.
-- Assumes nothing.
use Rattle.std.specs.Prelude.{ℕ, ◌+◌, ◌^◌, ◌<◌, ◌≡◌, Bool, List, [], ◌∷◌, ℤ, length}
use Rattle.std.proofs.Math.Option.{Option, some, none}
use Rattle.basis.specs.Pick.{pick}
use Rattle.answer.specs.declared.Refusal.{Refusal}
use Rattle.answer.specs.declared.Answer.{Answer}
use Rattle.answer.specs.declared.Answer.TheVariants.{Done, Refused}
use Rattle.answer.specs.Number.{refusal_number}
use Rattle.answer.specs.Given.{Hint}
use Rattle.answer.specs.Given.Hint.{none as no_hint, clock}
use Rattle.answer.specs.Order.{in_order}
use Rattle.number.specs.Signed.{Signed32}
use Rattle.site.specs.declared.Site.{Site}
use Rattle.site.specs.Site.{mask_of}
use Rattle.site.specs.Call.{Command, Plan, batch_of, issuing, report_of}
use Rattle.call_laws.specs.Calls.{Call, refuses, plan_of, end_of, step_by}
use Rattle.call_laws.specs.Calls.Call.{connect, disconnect, packet, alarm, status, aggregated, tick, pump}
use Rattle.call_laws.specs.Typed.{Typed}
use Rattle.machine.specs.Words.{maybe}
use Rattle.machine.specs.State.{Command as MachineCommand, command_of, Machine, Call as MachineCall, Outcome, Effect}
use Rattle.machine.specs.State.Act.{connect as connects, disconnect as disconnects, packet as receives, alarm_input, status_value, aggregated_value, tick as ticks, pump as pumps}
use Rattle.machine.specs.State.Outcome.{refused, done}
use Rattle.machine.specs.Effects.{effect_of}
use Rattle.machine.specs.Step.{number_of, step}
use Rattle.demand_held.proofs.Lists.{Each}
use Rattle.demand_held.proofs.Issue.{For}
use Rattle.refine_parts.specs.Same.{Beside}
use Rattle.refine_parts.specs.Items.{SameIssued}
use Rattle.refine_calls.specs.Abstracts.{Abstracts}

-- the machine's call
abbrev pub call_for : Call → MachineCall
call_for (connect l t) = record { time = t; act = connects l }
call_for (disconnect l t) = record { time = t; act = disconnects l }
call_for (packet l t random received out) = record { time = t; act = receives l random.bytes received (length out) }
call_for (alarm i active t) = record { time = t; act = alarm_input i active }
call_for (status i v t) = record { time = t; act = status_value i v }
call_for (aggregated v t) = record { time = t; act = aggregated_value v }
call_for (tick t) = record { time = t; act = ticks }
call_for (pump l t random out) = record { time = t; act = pumps l random.bytes (length out) }

-- the number of the first refusal of a list that applies
abbrev pub first_refused : (Refusal → Bool) → List Refusal → Option ℕ
first_refused applies [] = none
first_refused applies (r ∷ rs) = pick (applies r) (some (refusal_number r)) (first_refused applies rs)

-- the links closed, as a report has them
abbrev pub mask_for : List ℕ → ℕ
mask_for [] = 0
mask_for (l ∷ ls) = mask_of l + mask_for ls

abbrev pub hint_for : Option ℕ → Hint
hint_for t = maybe no_hint clock t

-- the same commands are handed over, each a number and a value of 32 bits
pub data SameCommands : List Command → List MachineCommand → Type 0 where
  no_command : SameCommands [] []
  one_command : {number : ℕ} {value : ℤ} {cs : List Command} {ds : List MachineCommand} → number < 2 ^ 32 → Signed32 value → SameCommands cs ds
      → SameCommands (record { number = number; value = value } ∷ cs) (command_of number value ∷ ds)

-- what a call lays down, but for its records and its time
pub record SamePlan (beside : Beside) (p : Plan) (e : Effect) : Type 0 where
  pub leaves : Abstracts beside p.site e.leaves
  pub issued : SameIssued p e.issues
  pub for_links : Each (For e.leaves.setup.links) e.issues
  pub messages : p.messages ≡ e.messages
  pub closed : p.closed ≡ mask_for e.closed
  pub hint : p.hint ≡ hint_for e.hint
  pub commands : SameCommands p.commands e.commands

pub record SameCall (beside : Beside) (s : Site) (m : Machine) (c : Call) : Type 0 where
  pub number : first_refused (issuing (batch_of (plan_of s c)) (refuses s c)) in_order ≡ number_of m (call_for c)
  pub plan : number_of m (call_for c) ≡ none → SamePlan beside (plan_of s c) (effect_of m (call_for c).time (call_for c).act)

-- of each call a crate of its own proves this
abbrev pub SameFor : (Call → Type 0) → Type 0
SameFor P = (beside : Beside) (s : Site) (m : Machine) → Abstracts beside s m → (c : Call) → P c → Typed c → SameCall beside s m c

-- what the host is told: the number, or the messages, the links closed, the hint and the commands
pub data SameOutcome (s : Site) (c : Call) : Answer → Outcome → Type 0 where
  refuses_both : (r : Refusal) → SameOutcome s c (Refused r) (refused (refusal_number r))
  does_both : (closed : List ℕ) (hint : Option ℕ) (commands : List MachineCommand) → (plan_of s c).closed ≡ mask_for closed → (plan_of s c).hint ≡ hint_for hint
      → SameCommands (plan_of s c).commands commands
      → SameOutcome s c (Done (report_of (plan_of s c) (end_of s c))) (done (plan_of s c).messages closed hint commands)

-- then the next site is the next machine
pub record SameStep (beside : Beside) (s : Site) (m : Machine) (c : Call) : Type 0 where
  pub outcome : SameOutcome s c (step_by s c).answer (step m (call_for c)).0
  pub leaves : Abstracts beside (step_by s c).site (step m (call_for c)).1

abbrev pub Steps : Type 0
Steps = (beside : Beside) (s : Site) (m : Machine) → Abstracts beside s m → (c : Call) → SameCall beside s m c → SameStep beside s m c
