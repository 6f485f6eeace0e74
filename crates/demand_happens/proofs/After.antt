-- The life of a link after a done call of it, and after a call in between.
-- Assumes nothing.
use Rattle.basis.proofs.Std.{ℕ, zero, suc, ◌≤◌, ◌<◌, String, ◌≡◌, refl, ◌∙◌, ap, subst, Bool, true, false, List, [], ◌∷◌, some, none, eqb, length, get_or, arith, eqb-true, pick, count, bool_cases, picked, not_both}
use Rattle.json_value.specs.Grammar.{Json}
use Rattle.write_message.specs.Message.{Message}
use Rattle.write_message.specs.Message.Message.{ack, not_ack}
use Rattle.machine.specs.Words.{Bytes, keep, any, changed, up_to}
use Rattle.machine.specs.State.{Awaited, Life, fresh, Machine, life_at, with_life, Act, Call, Outcome, Effect, handing, only}
use Rattle.machine.specs.State.Act.{connect, disconnect, packet, alarm_input, status_value, aggregated_value, tick, pump}
use Rattle.machine.specs.State.Outcome.{refused, done}
use Rattle.machine.specs.Json.{read_packet, string_of, is_type, is_included}
use Rattle.machine.specs.Table.{last_sequence}
use Rattle.machine.specs.Life.{answered_to, is_late}
use Rattle.machine.specs.Answers.{is_answer, is_ignored, wants_reply, replies_at_once, reason_of, fails_check}
use Rattle.machine.specs.Messages.{included_message}
use Rattle.machine.specs.Effects.{closes, own_identity, answer_closes, acknowledges, settle, answered, refuses, carried_out, replying, receives, effect_of}
use Rattle.machine.specs.Step.{number_of, after, outcome, step}
use Rattle.demand_held.proofs.Lists.{maybe_cases}
use Rattle.demand_held.proofs.Steps.{step_done, step_refused}
use Rattle.demand_told.specs.Demand.{messages_of, is_an_answer}
use Rattle.demand_told.specs.Life.{closed_by}
use Rattle.demand_told.proofs.Written.{quiet_answered}
use Rattle.demand_told.proofs.Demand.{telling}
use Rattle.demand_told.proofs.Apart.{apart}
use Rattle.demand_told.proofs.GreetedDemand.{by_number}
use Rattle.demand_happens.specs.Pumped.{at}
use Rattle.demand_happens.specs.Greeting.{Arrives, Answers, Meanwhile}
use Rattle.demand_happens.specs.Greeting.Meanwhile.{not_done, elsewhere, not_acknowledged}
use Rattle.demand_happens.proofs.Packets.{packet_effect, packet_unrefused, answer_heard, answer_unreplied, answer_effect, Plain, plain_unreplied, plain_effect}

-- what is set stands there
pub set_at : {A : Type 0} (l : ℕ) (x d : A) (xs : List A) → l < length xs → get_or (changed l (λ y. x) xs) l d ≡ x
set_at l x d [] h = absurd (omega arith)
set_at zero x d (y ∷ xs) h = refl
set_at (suc l) x d (y ∷ xs) h = set_at l x d xs (omega arith)

-- a connected link is one of the list
pub is_there : (l : ℕ) (ks : List Life) → (get_or ks l (fresh false)).connected ≡ true → l < length ks
is_there l [] e = not_both e refl
is_there zero (k ∷ ks) e = omega arith
is_there (suc l) (k ∷ ks) e = omega (arith, is_there l ks e)

pub life_after : (m : Machine) (t : ℕ) (act : Act) (e : Effect) (l : ℕ) → number_of m (at t act) ≡ none → effect_of m t act ≡ e → life_at (step m (at t act)).1 l ≡ life_at e.leaves l
life_after m t act e l n f = rw (step_done m (at t act) n, f)

-- ---- in between
pub unkept : (f : ℕ → Bool) (l : ℕ) (xs : List ℕ) → f l ≡ false → any (eqb l) (keep f xs) ≡ false
unkept f l [] e = refl
unkept f l (x ∷ xs) e = go (f x) refl (unkept f l xs e)
  where
    other : f x ≡ true → eqb l x ≡ false
    other g = bool_cases (eqb l x) (λ s. not_both g (rw (← eqb-true l x s) e)) (λ s. s)

    go : (b : Bool) → f x ≡ b → any (eqb l) (keep f xs) ≡ false → any (eqb l) (pick b (x ∷ keep f xs) (keep f xs)) ≡ false
    go true g r = rw (other g) r
    go false g r = r

-- a call that answers with MessageNotAck and closes nothing leaves the machine as it is
module _ (m : Machine) (t : ℕ) (m_id because : Bytes) where
  abbrev Same : Effect → Type 0
  Same e = e.messages ≡ not_ack m_id because ∷ [] → e.closed ≡ [] → after t e ≡ after t (only m)

  quiet_same : (e : Effect) → e.messages ≡ [] → Same e
  quiet_same e q f g = absurd (let z : ◌≡◌ {A = ℕ} 0 1 = cc in omega arith)

  refuses_same : (k : ℕ) (j : Json) (reason : String) → Same (refuses k j m reason)
  unfolding refuses closes
  refuses_same k j reason = picked Same (fails_check reason) _ _ (λ e f g. absurd (let z : ◌≡◌ {A = ℕ} 0 1 = cc in omega arith)) (λ e f g. refl)

  replying_same : (k : ℕ) (id : Bytes) (j : Json) (x : Effect) → Same (replying k t id j x)
  unfolding replying
  replying_same k id j x =
      picked Same (replies_at_once j) _ _ (λ o. response x.leaves)
      (λ o. picked Same (wants_reply x.leaves k j) _ _
      (λ e f g. absurd (let z : ◌≡◌ {A = ℕ} 0 1 = cc in omega arith)) (λ e f g. absurd (let z : ◌≡◌ {A = ℕ} 0 1 = cc in omega arith)))
    where
      Responds : Message → Type 0
      Responds w = Same (handing x.commands x.leaves x.issues (w ∷ []) x.closed x.hint)

      response : (n : Machine) → Responds (included_message n t j)
      response n =
          picked Responds (is_included "CommandRequest" j) _ _
          (λ e f g. absurd (let z : ◌≡◌ {A = ℕ} 0 1 = cc in omega arith)) (λ e f g. absurd (let z : ◌≡◌ {A = ℕ} 0 1 = cc in omega arith))

  received_same : (k : ℕ) (id : Bytes) (j : Json) → Same (receives k t id m j)
  unfolding receives
  received_same k id j =
      picked Same (is_answer j) _ _ (λ e. quiet_same (answered k j m) (quiet_answered k j m))
      (λ e. maybe_cases Same _ _ (reason_of m k j) (λ f. replying_same k id j (carried_out k t j m)) (λ reason f. refuses_same k j reason))

  packet_same : (k room : ℕ) (random bytes : Bytes) → Same (effect_of m t (packet k random bytes room))
  unfolding effect_of
  packet_same k room random bytes = maybe_cases Same (only m) _ (read_packet bytes) (λ e. quiet_same (only m) refl) (λ j e. received_same k (own_identity random) j)

  no_answer : (c : Call) → ((k room : ℕ) (random bytes : Bytes) → c.act ≡ packet k random bytes room → ⊥) → (step m c).0 ≡ done (not_ack m_id because ∷ []) [] none [] → ⊥
  no_answer c other d =
      let counted : count is_an_answer (messages_of (step m c).0) ≡ 0 = (telling m c).unasked other in
      let one : count is_an_answer (messages_of (step m c).0) ≡ 1 = ap (λ (o : Outcome). count is_an_answer (messages_of o)) d in
      omega arith

  pub refused_step : (act : Act) → (step m (at t act)).0 ≡ done (not_ack m_id because ∷ []) [] none [] → (step m (at t act)).1 ≡ after t (only m)
  refused_step (packet k random bytes room) d =
      by_number m (at t (packet k random bytes room))
      (λ e. rw (step_done m (at t (packet k random bytes room)) e)
      (packet_same k room random bytes
      (ap messages_of (rw (step_done m (at t (packet k random bytes room)) e) at d)) (ap closed_by (rw (step_done m (at t (packet k random bytes room)) e) at d))))
      (λ n e. absurd (let g : refused n ≡ done (not_ack m_id because ∷ []) [] none [] = rw (step_refused m (at t (packet k random bytes room)) n e) at d in let z : ◌≡◌ {A = ℕ} 0 1 = cc in omega arith))
  refused_step (connect k) d = absurd (no_answer (at t (connect k)) (λ a b c e f. let z : ◌≡◌ {A = ℕ} 0 1 = cc in omega arith) d)
  refused_step (disconnect k) d = absurd (no_answer (at t (disconnect k)) (λ a b c e f. let z : ◌≡◌ {A = ℕ} 0 1 = cc in omega arith) d)
  refused_step (alarm_input i active) d = absurd (no_answer (at t (alarm_input i active)) (λ a b c e f. let z : ◌≡◌ {A = ℕ} 0 1 = cc in omega arith) d)
  refused_step (status_value i v) d = absurd (no_answer (at t (status_value i v)) (λ a b c e f. let z : ◌≡◌ {A = ℕ} 0 1 = cc in omega arith) d)
  refused_step (aggregated_value v) d = absurd (no_answer (at t (aggregated_value v)) (λ a b c e f. let z : ◌≡◌ {A = ℕ} 0 1 = cc in omega arith) d)
  refused_step tick d = absurd (no_answer (at t tick) (λ a b c e f. let z : ◌≡◌ {A = ℕ} 0 1 = cc in omega arith) d)
  refused_step (pump k random room) d = absurd (no_answer (at t (pump k random room)) (λ a b c e f. let z : ◌≡◌ {A = ℕ} 0 1 = cc in omega arith) d)

pub meanwhile_life : (l : ℕ) (m : Machine) (c : Call) → Meanwhile l m c → life_at (step m c).1 l ≡ life_at m l
meanwhile_life l m c (not_done {n} r) =
    by_number m c
    (λ e. let d : (step m c).0 ≡ outcome (effect_of m c.time c.act) = ap (λ (r : Outcome × Machine). r.0) (step_done m c e) in absurd (let z : ◌≡◌ {A = ℕ} 0 1 = cc in omega arith))
    (λ k e. rw (step_refused m c k e))
meanwhile_life l m c (elsewhere o short) =
    by_number m c
    (λ e. rw (step_done m c e) (apart m c.time c.act l o (λ i. unkept (λ k. is_late c.time (life_at m k)) l (up_to m.setup.links) (short i))).life)
    (λ n e. rw (step_refused m c n e))
meanwhile_life l m c (not_acknowledged {m_id} {reason} d) = rw (refused_step m c.time m_id reason c.act d)

-- ---- a packet that is taken
module _ (m : Machine) (l t room : ℕ) (random bytes : Bytes) (j : Json) (arrives : Arrives m t bytes room j) (configured : l < m.setup.links) (connected : (life_at m l).connected ≡ true) (limit : m.pool.next ≤ suc last_sequence) where
  module _ (a : Awaited) (alone : (life_at m l).awaited ≡ a ∷ []) (is : is_answer j ≡ true) (says : Answers a.identity j)
      (lasts : answer_closes (life_at m l) (is_type "MessageAck" j) a.message ≡ false) where
    abbrev pub answered_life : Life
    answered_life = answered_to (string_of "oMId" j) (acknowledges (is_type "MessageAck" j) a.message (life_at m l))

    abbrev pub answer_laid : Effect
    answer_laid = only (with_life l answered_life (settle l a.message m))

    pub answer_lays : effect_of m t (packet l random bytes room) ≡ answer_laid
    answer_lays = packet_effect m l t room random bytes j arrives ∙ answer_effect m l t (own_identity random) j a alone is says lasts

    pub answer_number : number_of m (at t (packet l random bytes room)) ≡ none
    answer_number =
        packet_unrefused m l t room random bytes j arrives configured connected limit (answer_heard m l t (own_identity random) j a alone is says)
        (answer_unreplied m l t (own_identity random) j a alone is says)
        (ap (λ (e : Effect). e.issues) (answer_effect m l t (own_identity random) j a alone is says lasts))

    pub answer_life : life_at (step m (at t (packet l random bytes room))).1 l ≡ life_at answer_laid.leaves l
    answer_life = life_after m t (packet l random bytes room) answer_laid l answer_number answer_lays

  module _ (plain : Plain j) (reason : reason_of m l j ≡ none) (heard : is_ignored (life_at m l) (some j) ≡ false) (laid : Effect) (carried : carried_out l t j m ≡ laid) (silent : laid.issues ≡ []) where
    plain_lays : receives l t (own_identity random) m j ≡ handing laid.commands laid.leaves laid.issues (ack (string_of "mId" j) ∷ []) laid.closed laid.hint
    plain_lays = subst (λ (e : Effect). receives l t (own_identity random) m j ≡ handing e.commands e.leaves e.issues (ack (string_of "mId" j) ∷ []) e.closed e.hint) carried (plain_effect j plain m l t (own_identity random) reason)

    pub plain_life : life_at (step m (at t (packet l random bytes room))).1 l ≡ life_at laid.leaves l
    plain_life =
        life_after m t (packet l random bytes room) _ l
        (packet_unrefused m l t room random bytes j arrives configured connected limit heard (plain_unreplied j plain m l t (own_identity random) reason)
        (ap (λ (e : Effect). e.issues) plain_lays ∙ silent))
        (packet_effect m l t room random bytes j arrives ∙ plain_lays)
