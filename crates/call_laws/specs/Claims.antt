-- Each call's own step is the one of all calls, and the numbers of every call. Statements only: their proof is `kept`.
-- Assumes nothing.
use Rattle.std.specs.Prelude.{ℕ, ◌≡◌, Bool, List, ℤ, length}
use Rattle.answer.specs.declared.Refusal.{Refusal}
use Rattle.answer.specs.declared.Report.{Report}
use Rattle.answer.specs.declared.Answer.TheVariants.{Done, Refused}
use Rattle.answer.specs.Order.{in_order, First, None}
use Rattle.identity.specs.declared.Identity.{Identity}
use Rattle.identity.specs.Version.{identity_of}
use Rattle.site.specs.declared.Site.{Site}
use Rattle.site.specs.declared.Step.{Step}
use Rattle.site.specs.Site.{with_issued}
use Rattle.site.specs.Call.{batch_of, report_of, Gives}
use Rattle.call_link.specs.Connect.{connect_step, disconnect_step}
use Rattle.call_input.specs.Inputs.{alarm_step, status_step, aggregated_step}
use Rattle.call_tick.specs.Tick.{tick_step}
use Rattle.call_pump.specs.Pump.{pump_refuses, pump_plan}
use Rattle.call_packet.specs.Packet.{packet_refuses, packet_taken}
use Rattle.call_laws.specs.Numbers.{conditions, Numbers}
use Rattle.call_laws.specs.Steps.{Written}
use Rattle.call_laws.specs.Calls.{Call, time_of, output_of, refuses, plan_of, end_of, step_by, out_by}
use Rattle.call_laws.specs.Calls.Call.{connect, disconnect, packet, alarm, status, aggregated, tick, pump}

-- what the contract of each call says is what it does among all of them
pub record Own (s : Site) : Type 0 where
  pub connects : (l t : ℕ) → step_by s (connect l t) ≡ connect_step s l t
  pub disconnects : (l t : ℕ) → step_by s (disconnect l t) ≡ disconnect_step s l t
  pub alarms : (k : ℕ) (active : Bool) (t : ℕ) → step_by s (alarm k active t) ≡ alarm_step s k active t
  pub statuses : (k : ℕ) (value : ℤ) (t : ℕ) → step_by s (status k value t) ≡ status_step s k value t
  pub aggregates : (value t : ℕ) → step_by s (aggregated value t) ≡ aggregated_step s value t
  pub ticks : (t : ℕ) → step_by s (tick t) ≡ tick_step s t
  -- those with a lent output xs, which is ys afterwards
  pub pumps : (l t : ℕ) (random : Identity) (xs ys : List ℕ) (r : Step)
      → Gives s t (pump_refuses s l t (identity_of random) (length xs)) (pump_plan s l t (identity_of random)) xs ys r
      → (r ≡ step_by s (pump l t random xs)) × (ys ≡ out_by s (pump l t random xs))
  pub packets : (l t : ℕ) (random : Identity) (p xs ys : List ℕ) (r : Step)
      → Gives s t (packet_refuses s l t (identity_of random) (length xs) p) (packet_taken s l t (identity_of random) p).plan xs ys r
      → (r ≡ step_by s (packet l t random p xs)) × (ys ≡ out_by s (packet l t random p xs))

-- the conditions of the call, number 10 with them
abbrev pub conditions_of : Site → Call → Refusal → Bool
conditions_of s c = conditions (refuses s c) (plan_of s c)

pub record Numbered (s : Site) (c : Call) : Type 0 where
  -- a number is given exactly when its condition applies and none before it in the order does
  pub given : (r : Refusal) → First (conditions_of s c) r in_order → (step_by s c).answer ≡ Refused r
  pub only_so : (r : Refusal) → (step_by s c).answer ≡ Refused r → First (conditions_of s c) r in_order
  -- 0 is given exactly when none applies, with the report of the plan
  pub done : None (conditions_of s c) in_order → (step_by s c).answer ≡ Done (report_of (plan_of s c) (end_of s c))
  pub done_only_so : (d : Report) → (step_by s c).answer ≡ Done d → None (conditions_of s c) in_order × (d ≡ report_of (plan_of s c) (end_of s c))
  -- "All but 0 change nothing": the site, its last time with it, and the lent bytes
  pub same_site : (r : Refusal) → (step_by s c).answer ≡ Refused r → (step_by s c).site ≡ s
  pub same_bytes_lem : (r : Refusal) → (step_by s c).answer ≡ Refused r → out_by s c ≡ output_of c
  -- a done call: the planned site with the records issued, and its time the last
  pub next_site : (d : Report) → (step_by s c).answer ≡ Done d → (step_by s c).site ≡ with_issued (plan_of s c).site (batch_of (plan_of s c)) (time_of c)
  -- what numbers 10 and 11 mean
  pub numbers : Numbers (refuses s c) (plan_of s c) (end_of s c)
  -- "A done call writes only the counted first bytes of the output"
  pub written : Written (output_of c) (plan_of s c).messages
  pub same_length : length (out_by s c) ≡ length (output_of c)

pub record Claims : Type 0 where
  pub own : (s : Site) → Own s
  pub numbered : (s : Site) (c : Call) → Numbered s c
