-- What is taken is taken of a greeted link, and what is to be heard is heard.
-- Assumes nothing.
use Rattle.basis.proofs.Std.{ℕ, ◌≡◌, refl, ◌∙◌, ap, subst, Bool, true, false, not, List, [], ◌∷◌, some, ◌⊎◌, inl, inr, arith, pick, both, Among, not_both}
use Rattle.identity.specs.Read.{Says}
use Rattle.json_value.specs.Grammar.{Json}
use Rattle.write_message.specs.Message.{Message}
use Rattle.write_message.specs.Message.Message.{ack}
use Rattle.machine.specs.Words.{Bytes, Case, first_of}
use Rattle.machine.specs.State.{Command, Life, Start, Machine, Call, Outcome, life_at}
use Rattle.machine.specs.State.Act.{packet}
use Rattle.machine.specs.State.Outcome.{refused}
use Rattle.machine.specs.Json.{read_packet, string_of, is_type}
use Rattle.machine.specs.Life.{is_greeting}
use Rattle.machine.specs.Answers.{is_ignored}
use Rattle.machine.specs.Effects.{effect_of}
use Rattle.machine.specs.Step.{conditions, outcome, step}
use Rattle.machine.specs.Run.{Past, Run}
use Rattle.machine.specs.Run.Run.{next, other_starts, other_calls}
use Rattle.demand_held.proofs.Lists.{Each}
use Rattle.demand_held.proofs.Lists.Each.{no_more, one_more}
use Rattle.demand_held.proofs.Steps.{step_done, step_refused}
use Rattle.demand_told.specs.Demand.{messages_of, link_of}
use Rattle.demand_told.specs.Life.{this_life}
use Rattle.demand_told.specs.Greeted.{Came, Greeted}
use Rattle.demand_told.specs.Greeted.Came.{came}
use Rattle.demand_told.proofs.Replies.{asks_only}
use Rattle.demand_told.proofs.GreetedDemand.{by_number, same_setup, run_kept, greeted}
use Rattle.demand_happens.specs.Pumped.{at}
use Rattle.demand_taken.specs.Commands.{commands_of, Cause}
use Rattle.demand_taken.specs.Taken.{DemandTaken}
use Rattle.demand_taken.proofs.Identities.{readable}
use Rattle.demand_taken.proofs.Acked.{is_ack, acked_heard, heard_up}
use Rattle.demand_taken.proofs.Handed.{acks_so, nothing_else}

module _ {s : Start} {h : List Past} {m : Machine} (r : Run s h m) (c : Call) where
  -- u is the machine that the call leaves, or that again when the other site has had its turns
  module _ (u : Machine) (same : u.setup ≡ (step m c).1.setup) where
    acked_greeted : (l room : ℕ) (random bytes : Bytes) (j : Json) → c.act ≡ packet l random bytes room → read_packet bytes ≡ some j → is_type "Version" j ≡ false → is_type "Watchdog" j ≡ false
        → (x : Message) → is_ack x ≡ true → Among x (messages_of (step m c).0) → Greeted u l (this_life l h)
    acked_greeted l room random bytes j is read v w x acks a =
        greeted u l (life_at m l) (this_life l h) (run_kept r u (same ∙ same_setup r c) l)
        (heard_up m c.time l room random bytes j read (acked_heard m c.time l room random bytes j read c refl is x acks a) v w)

    cause_greeted : (q : Cause m c) → Greeted u q.link (this_life q.link h)
    cause_greeted q =
        acked_greeted q.link q.room q.random q.bytes q.json q.is_packet q.is_read
        (asks_only "CommandRequest" "Version" refl refl q.json q.asked.typed) (asks_only "CommandRequest" "Watchdog" refl refl q.json q.asked.typed)
        q.answer (acks_so q.acknowledged) q.told

    handed_greeted : (x : Command) → Among x (commands_of (step m c).0) → (l : ℕ) → link_of c.act ≡ some l → Greeted u l (this_life l h)
    handed_greeted x a l e =
        let q = nothing_else m c x a in
        let same : q.link ≡ l = cc (e, q.is_packet) in
        subst (λ (k : ℕ). Greeted u k (this_life k h)) same (cause_greeted q)

taken : {s : Start} {p : Past} {h : List Past} {m : Machine} → Run s (p ∷ h) m → (u : Machine) → u.setup ≡ m.setup
    → (l : ℕ) (j : Json) → Came l j p → is_type "Version" j ≡ false → is_type "Watchdog" j ≡ false
    → (id : Bytes) → Among (ack id) (messages_of p.gave) → Greeted u l (this_life l h)
taken (next c r) u same l j (came {random} {bytes} {room} is read gave) v w id a = acked_greeted r c u same l room random bytes j is read v w (ack id) refl a
taken (other_starts r b two) u same l j k v w id a = taken r u same l j k v w id a
taken (other_calls r q n c) u same l j k v w id a = taken r u same l j k v w id a

handed : {s : Start} {p : Past} {h : List Past} {m : Machine} → Run s (p ∷ h) m → (u : Machine) → u.setup ≡ m.setup
    → (x : Command) → Among x (commands_of p.gave) → (l : ℕ) → link_of p.call.act ≡ some l → Greeted u l (this_life l h)
handed (next c r) u same x a l e = handed_greeted r c u same x a l e
handed (other_starts r b two) u same x a l e = handed r u same x a l e
handed (other_calls r q n c) u same x a l e = handed r u same x a l e

-- ---- number 1
heard_by : (k : Life) (j : Json) → is_type "MessageAck" j ≡ false → is_type "MessageNotAck" j ≡ false → (id : Bytes) → Says (string_of "mId" j) id
    → (is_greeting k ≡ true → is_type "Version" j ≡ true) → is_ignored k (some j) ≡ false
unfolding is_ignored
heard_by k j a n id says greets = rw (a, n, readable j id says) (go (is_greeting k) (is_type "Version" j) greets)
  where
    go : (g v : Bool) → (g ≡ true → v ≡ true) → both g (not v) ≡ false
    go false v e = refl
    go true v e = rw (e refl)

-- a case that gives another number, or does not apply
abbrev Passed : ℕ → Case ℕ → Type 0
Passed n k = (k.gives ≡ n → ⊥) ⊎ (k.applies ≡ false)

not_first : (n : ℕ) (ks : List (Case ℕ)) → Each (Passed n) ks → first_of ks ≡ some n → ⊥
not_first n [] no_more e = let z : ◌≡◌ {A = ℕ} 0 1 = cc in omega arith
not_first n (k ∷ ks) (one_more p r) e = go k.applies refl p e (not_first n ks r)
  where
    go : (b : Bool) → k.applies ≡ b → Passed n k → pick b (some k.gives) (first_of ks) ≡ some n → (first_of ks ≡ some n → ⊥) → ⊥
    go true f (inl other) g behind = other cc
    go true f (inr not_so) g behind = not_both f not_so
    go false f q g behind = behind g

module _ (m : Machine) (t l room : ℕ) (random bytes : Bytes) (j : Json) (read : read_packet bytes ≡ some j) (not_ignored : is_ignored (life_at m l) (some j) ≡ false) where
  not_one : first_of (conditions m t (packet l random bytes room)) ≡ some 1 → ⊥
  unfolding conditions
  not_one =
      not_first 1 (conditions m t (packet l random bytes room))
      (one_more (inl (λ e. omega (arith, e))) (one_more (inl (λ e. omega (arith, e))) (one_more (inl (λ e. omega (arith, e))) (one_more (inl (λ e. omega (arith, e)))
      (one_more (inl (λ e. omega (arith, e))) (one_more (inr (rw read not_ignored)) (one_more (inl (λ e. omega (arith, e))) (one_more (inl (λ e. omega (arith, e))) no_more))))))))

  abbrev this : Call
  this = at t (packet l random bytes room)

  unrefused : (step m this).0 ≡ refused 1 → ⊥
  unrefused gave =
      by_number m this
      (λ e. let d : (step m this).0 ≡ outcome (effect_of m t this.act) = ap (λ (r : Outcome × Machine). r.0) (step_done m this e) in let z : ◌≡◌ {A = ℕ} 0 1 = cc in omega arith)
      (λ n e.
      let d : (step m this).0 ≡ refused n = ap (λ (r : Outcome × Machine). r.0) (step_refused m this n e) in
      let same : n ≡ 1 = cc in
      not_one (rw same at e))

pub demand_taken : DemandTaken
demand_taken =
    record {
      taken = λ s p h m r. taken r m refl;
      handed = λ s p h m r. handed r m refl;
      heard = λ m t l room random bytes j read a n id says greets. unrefused m t l room random bytes j read (heard_by (life_at m l) j a n id says greets);
    }
