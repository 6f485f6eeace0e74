-- A step is refused or done; a packet call that is done is on a configured link.
-- Assumes nothing.
use Rattle.basis.proofs.Std.{ℕ, ◌<◌, ◌≡◌, refl, ap, Option, some, none, arith, leb-false, bool_cases}
use Rattle.machine.specs.Words.{first_of}
use Rattle.machine.specs.State.{Machine, Act, Call, Outcome, Effect}
use Rattle.machine.specs.State.Act.{connect, disconnect, packet, alarm_input, status_value, aggregated_value, tick, pump}
use Rattle.machine.specs.State.Outcome.{refused}
use Rattle.machine.specs.Effects.{effect_of}
use Rattle.machine.specs.Step.{no_such_link, conditions, number_of, after, outcome, step}
use Rattle.demand_held.specs.Held.{IsDone, packet_link}
use Rattle.demand_held.specs.Held.IsDone.{is_done}

module _ (m : Machine) (c : Call) where
  abbrev pub laid : Effect
  laid = effect_of m c.time c.act

  pub step_done : number_of m c ≡ none → step m c ≡ (outcome laid, after c.time laid)
  unfolding step
  step_done e = rw e

  pub step_refused : (n : ℕ) → number_of m c ≡ some n → step m c ≡ (refused n, m)
  unfolding step
  step_refused n e = rw e

  pub done_number : IsDone m c → number_of m c ≡ none
  done_number (is_done {messages} {closed} {hint} d) = go (number_of m c) refl
    where
      go : (o : Option ℕ) → number_of m c ≡ o → number_of m c ≡ none
      go none e = e
      go (some n) e =
          let r : (step m c).0 ≡ refused n = ap (λ (r : Outcome × Machine). r.0) (step_refused n e) in
          absurd (let z : ◌≡◌ {A = ℕ} 0 1 = cc in omega arith)

  pub number_done : number_of m c ≡ none → IsDone m c
  number_done e = is_done (ap (λ (r : Outcome × Machine). r.0) (step_done e))

-- a packet's link is configured where number 2 is not given
pub there : (m : Machine) (t : ℕ) (act : Act) → (first_of (conditions m t act) ≡ some 2 → ⊥) → (l : ℕ) → packet_link act ≡ some l → l < m.setup.links
unfolding conditions
there m t (connect k) h l e = absurd (let z : ◌≡◌ {A = ℕ} 0 1 = cc in omega arith)
there m t (disconnect k) h l e = absurd (let z : ◌≡◌ {A = ℕ} 0 1 = cc in omega arith)
there m t (packet k random bytes room) h l e =
    bool_cases (no_such_link m k)
    (λ f. absurd (h (rw f)))
    (λ f. let same : k ≡ l = cc in omega (arith, leb-false m.setup.links k f))
there m t (alarm_input i active) h l e = absurd (let z : ◌≡◌ {A = ℕ} 0 1 = cc in omega arith)
there m t (status_value i v) h l e = absurd (let z : ◌≡◌ {A = ℕ} 0 1 = cc in omega arith)
there m t (aggregated_value v) h l e = absurd (let z : ◌≡◌ {A = ℕ} 0 1 = cc in omega arith)
there m t tick h l e = absurd (let z : ◌≡◌ {A = ℕ} 0 1 = cc in omega arith)
there m t (pump k random room) h l e = absurd (let z : ◌≡◌ {A = ℕ} 0 1 = cc in omega arith)
