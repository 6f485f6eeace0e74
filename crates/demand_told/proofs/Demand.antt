-- Demand 2 holds of every call, on whatever machine.
-- Assumes nothing.
use Rattle.basis.proofs.Std.{ℕ, ◌≡◌, refl, sym, ◌∙◌, ap, subst, true, false, List, [], Option, some, none, eqb, arith, bit, count, Among, picked}
use Rattle.basis.specs.Lists.Among.{first, later}
use Rattle.json_value.specs.Grammar.{Json}
use Rattle.write_message.specs.Message.{Message}
use Rattle.machine.specs.Words.{Bytes, first_of}
use Rattle.machine.specs.State.{Alarm, Start, Command, Machine, Act, Call, Outcome, Effect, life_at, value_at, only}
use Rattle.machine.specs.State.Act.{connect, disconnect, packet, alarm_input, status_value, aggregated_value, tick, pump}
use Rattle.machine.specs.State.Outcome.{refused, done}
use Rattle.machine.specs.Json.{read_packet}
use Rattle.machine.specs.Life.{is_up, is_primary, Due, due}
use Rattle.machine.specs.Answers.{is_answer}
use Rattle.machine.specs.Items.{happens, is_new, becomes, aggregates}
use Rattle.machine.specs.Effects.{connects, closes, ticks, sends, own_identity, effect_of}
use Rattle.machine.specs.Step.{conditions, number_of, step}
use Rattle.machine.specs.Run.{Past, Run}
use Rattle.demand_held.proofs.Lists.{maybe_cases, Each}
use Rattle.demand_held.proofs.Good.{Fits}
use Rattle.demand_held.proofs.Demand.{run_sound}
use Rattle.demand_held.proofs.Steps.{laid, step_done, step_refused}
use Rattle.demand_told.specs.Demand.{messages_of, link_of, is_told, is_alarm, is_an_answer, OneAnswer, Telling, Demand2}
use Rattle.demand_told.proofs.Written.{due_no_answer, due_up_lem, once_received, quiet_received}
use Rattle.demand_told.proofs.Primary.{is_number_lem, due_primary, alarm_received}
use Rattle.demand_told.proofs.Replies.{nobody, none_at, Replied, tells_received, replied_up}

-- ---- the calls that write nothing
abbrev Quiet : Effect → Type 0
Quiet e = e.messages ≡ []

quiet_happens : (m : Machine) (i : ℕ) (o : Option Alarm) → Quiet (happens m i o)
unfolding happens
quiet_happens m i none = refl
quiet_happens m i (some a) = refl

quiet : (m : Machine) (t : ℕ) (act : Act) → link_of act ≡ none → Quiet (effect_of m t act)
unfolding effect_of becomes aggregates ticks
quiet m t (connect l) e = absurd (let z : ◌≡◌ {A = ℕ} 0 1 = cc in omega arith)
quiet m t (disconnect l) e = absurd (let z : ◌≡◌ {A = ℕ} 0 1 = cc in omega arith)
quiet m t (packet l random bytes room) e = absurd (let z : ◌≡◌ {A = ℕ} 0 1 = cc in omega arith)
quiet m t (alarm_input i active) e = quiet_happens m i _
quiet m t (status_value i v) e = picked Quiet (is_new v (value_at m i)) _ _ (λ f. refl) (λ f. refl)
quiet m t (aggregated_value v) e = picked Quiet (eqb v m.aggregated) _ _ (λ f. refl) (λ f. refl)
quiet m t tick e = refl
quiet m t (pump l random room) e = absurd (let z : ◌≡◌ {A = ℕ} 0 1 = cc in omega arith)

-- ---- what is told is told in Up
abbrev UpFirst : Machine → ℕ → Message → Effect → Type 0
UpFirst m l w e = Among w e.messages → is_told w ≡ true → is_up (life_at m l) ≡ true

pumped_up : (m : Machine) (l t : ℕ) (id : Bytes) (d : Due) → due m l t ≡ some d → (w : Message) → UpFirst m l w (sends l t id m d)
unfolding sends
pumped_up m l t id d e w (later x4) u = elim x4 [ ]
pumped_up m l t id d e w first u = due_up_lem m l t id d e u

told_up : (m : Machine) (t : ℕ) (act : Act) (l : ℕ) → link_of act ≡ some l → first_of (conditions m t act) ≡ none → (w : Message) → UpFirst m l w (effect_of m t act)
unfolding effect_of conditions connects closes
told_up m t (connect k) l e f w = λ a u. absurd (nobody a)
told_up m t (disconnect k) l e f w = λ a u. absurd (nobody a)
told_up m t (packet k random bytes room) l e f w =
    maybe_cases (UpFirst m l w) (only m) _ (read_packet bytes) (λ n a u. absurd (nobody a)) (λ j r a u. there j r (tells_received k t (own_identity random) m j w a u))
  where
    there : (j : Json) → read_packet bytes ≡ some j → Replied m k j → is_up (life_at m l) ≡ true
    there j r p =
        let same : k ≡ l = cc in
        rw (← same) (replied_up m k j p
        (none_at (conditions m t (packet k random bytes room)) f (later (later (later (later first)))))
        (rw r at (none_at (conditions m t (packet k random bytes room)) f (later (later (later (later (later first))))))))
told_up m t (alarm_input i active) l e f w = λ a u. absurd (let z : ◌≡◌ {A = ℕ} 0 1 = cc in omega arith)
told_up m t (status_value i v) l e f w = λ a u. absurd (let z : ◌≡◌ {A = ℕ} 0 1 = cc in omega arith)
told_up m t (aggregated_value v) l e f w = λ a u. absurd (let z : ◌≡◌ {A = ℕ} 0 1 = cc in omega arith)
told_up m t tick l e f w = λ a u. absurd (let z : ◌≡◌ {A = ℕ} 0 1 = cc in omega arith)
told_up m t (pump k random room) l e f w =
    let same : k ≡ l = cc in
    rw (← same) (maybe_cases (UpFirst m k w) (only m) _ (due m k t) (λ n a u. absurd (nobody a)) (λ d r. pumped_up m k t (own_identity random) d r w))

-- ---- answers
answered : (m : Machine) (t l room : ℕ) (random bytes : Bytes) (j : Json) → read_packet bytes ≡ some j → is_answer j ≡ false
    → OneAnswer j (effect_of m t (packet l random bytes room)).messages
unfolding effect_of
answered m t l room random bytes j r other = rw r (once_received l t (own_identity random) m j other)

unanswered : (m : Machine) (t l room : ℕ) (random bytes : Bytes) (j : Json) → read_packet bytes ≡ some j → is_answer j ≡ true
    → (effect_of m t (packet l random bytes room)).messages ≡ []
unfolding effect_of
unanswered m t l room random bytes j r is = rw r (quiet_received l t (own_identity random) m j is)

abbrev NoAnswer : Effect → Type 0
NoAnswer e = count is_an_answer e.messages ≡ 0

unasked : (m : Machine) (t : ℕ) (act : Act) → ((l room : ℕ) (random bytes : Bytes) → act ≡ packet l random bytes room → ⊥) → NoAnswer (effect_of m t act)
unfolding effect_of connects closes becomes aggregates ticks sends
unasked m t (connect l) e = refl
unasked m t (disconnect l) e = refl
unasked m t (packet l random bytes room) e = absurd (e l room random bytes refl)
unasked m t (alarm_input i active) e = rw (quiet_happens m i _)
unasked m t (status_value i v) e = picked NoAnswer (is_new v (value_at m i)) _ _ (λ f. refl) (λ f. refl)
unasked m t (aggregated_value v) e = picked NoAnswer (eqb v m.aggregated) _ _ (λ f. refl) (λ f. refl)
unasked m t tick e = refl
unasked m t (pump l random room) e =
    maybe_cases NoAnswer (only m) _ (due m l t) (λ f. refl) (λ d f. omega (arith, ap bit (due_no_answer m t (own_identity random) d)))

-- ---- refused or done
module _ (m : Machine) (c : Call) where
  by_number : (P : List Message → Type 0) → P [] → (number_of m c ≡ none → P (laid m c).messages) → P (messages_of (step m c).0)
  by_number P nothing something = go (number_of m c) refl
    where
      go : (o : Option ℕ) → number_of m c ≡ o → P (messages_of (step m c).0)
      go none e = rw (step_done m c e) (something e)
      go (some n) e = rw (step_refused m c n e) nothing

  done_messages : {ms : List Message} {closed : List ℕ} {hint : Option ℕ} {commands : List Command} → (step m c).0 ≡ done ms closed hint commands → (laid m c).messages ≡ ms
  done_messages {ms} {closed} {hint} {commands} d = go (number_of m c) refl
    where
      go : (o : Option ℕ) → number_of m c ≡ o → (laid m c).messages ≡ ms
      go none e = ap messages_of (sym (ap (λ (r : Outcome × Machine). r.0) (step_done m c e)) ∙ d)
      go (some n) e =
          let r : (step m c).0 ≡ refused n = ap (λ (r : Outcome × Machine). r.0) (step_refused m c n e) in
          absurd (let z : ◌≡◌ {A = ℕ} 0 1 = cc in omega arith)

  pub telling : Telling m c
  telling =
      record {
        up_first = λ w a u l e. by_number (λ (ms : List Message). Among w ms → is_up (life_at m l) ≡ true) (λ b. absurd (nobody b)) (λ n b. told_up m c.time c.act l e n w b u) a;
        no_link = λ e. by_number (λ (ms : List Message). ms ≡ []) refl (λ n. quiet m c.time c.act e);
        answered = λ l room random bytes j ms closed hint commands e r d other.
            rw (← done_messages d) (subst (λ (x : Act). OneAnswer j (effect_of m c.time x).messages) (sym e) (answered m c.time l room random bytes j r other));
        unanswered = λ l room random bytes j e r is.
            by_number (λ (ms : List Message). ms ≡ []) refl
            (λ n. subst (λ (x : Act). (effect_of m c.time x).messages ≡ []) (sym e) (unanswered m c.time l room random bytes j r is));
        unasked = λ e. by_number (λ (ms : List Message). count is_an_answer ms ≡ 0) refl (λ n. unasked m c.time c.act e);
      }

-- ---- an Alarm goes to the primary
abbrev ToPrimary : Machine → ℕ → Message → Effect → Type 0
ToPrimary m l w e = Among w e.messages → is_alarm w ≡ true → is_primary m l ≡ true

pumped_primary : (m : Machine) → Each (Fits m.setup) m.pool.held → (l t : ℕ) (id : Bytes) (d : Due) → due m l t ≡ some d → (w : Message) → ToPrimary m l w (sends l t id m d)
unfolding sends
pumped_primary m s l t id d e w (later x4) u = elim x4 [ ]
pumped_primary m s l t id d e w first u = due_primary m s l t id d e u

primary_of : (m : Machine) → Each (Fits m.setup) m.pool.held → (t : ℕ) (act : Act) (l : ℕ) → link_of act ≡ some l → (w : Message) → ToPrimary m l w (effect_of m t act)
unfolding effect_of connects closes
primary_of m s t (connect k) l e w = λ a u. absurd (nobody a)
primary_of m s t (disconnect k) l e w = λ a u. absurd (nobody a)
primary_of m s t (packet k random bytes room) l e w =
    let same : k ≡ l = cc in
    rw (← same) (maybe_cases (ToPrimary m k w) (only m) _ (read_packet bytes) (λ n a u. absurd (nobody a)) (λ j r. alarm_received k t (own_identity random) m j w))
primary_of m s t (alarm_input i active) l e w = λ a u. absurd (let z : ◌≡◌ {A = ℕ} 0 1 = cc in omega arith)
primary_of m s t (status_value i v) l e w = λ a u. absurd (let z : ◌≡◌ {A = ℕ} 0 1 = cc in omega arith)
primary_of m s t (aggregated_value v) l e w = λ a u. absurd (let z : ◌≡◌ {A = ℕ} 0 1 = cc in omega arith)
primary_of m s t tick l e w = λ a u. absurd (let z : ◌≡◌ {A = ℕ} 0 1 = cc in omega arith)
primary_of m s t (pump k random room) l e w =
    let same : k ≡ l = cc in
    rw (← same) (maybe_cases (ToPrimary m k w) (only m) _ (due m k t) (λ n a u. absurd (nobody a)) (λ d r. pumped_primary m s k t (own_identity random) d r w))

primary_only : {s : Start} {h : List Past} {m : Machine} → Run s h m → (c : Call) (w : Message) → Among w (messages_of (step m c).0) → is_alarm w ≡ true
    → (l : ℕ) → link_of c.act ≡ some l → m.setup.primary ≡ some l
primary_only {m = m} r c w a u l e =
    is_number_lem l m.setup.primary
    (by_number m c (λ (ms : List Message). Among w ms → is_primary m l ≡ true) (λ b. absurd (nobody b))
    (λ n b. primary_of m (run_sound r).alarms c.time c.act l e w b u) a)

pub demand2 : Demand2
demand2 = record { of_every_call = telling; primary_only = λ s h m r. primary_only r }
