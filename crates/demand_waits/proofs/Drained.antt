-- Where a pump of an Up link gives number 7, nothing held for the link is unsent.
-- Assumes nothing.
use Rattle.basis.proofs.Std.{ℕ, ◌<◌, ◌≤◌, ◌≡◌, refl, ◌∙◌, ap, Bool, true, false, not, List, [], ◌∷◌, Option, some, none, ◌⊎◌, inl, inr, eqb, ltb, arith, eq-eqb, pick, both, count, bool_cases, both_false, untrue, lt_or_ge}
use Rattle.machine.specs.Words.{Bytes, is_some, any, first_that, Case, first_of}
use Rattle.machine.specs.State.{Held, Machine, life_at, Outcome}
use Rattle.machine.specs.State.Act.{pump}
use Rattle.machine.specs.State.Outcome.{refused}
use Rattle.machine.specs.Life.{is_up, pass_length, oldest_unsent, Due, due}
use Rattle.machine.specs.Pool.{is_for}
use Rattle.machine.specs.Step.{conditions, number_of, outcome, step}
use Rattle.demand_held.proofs.Lists.{bit_false}
use Rattle.demand_held.proofs.Steps.{laid, step_done, step_refused}
use Rattle.demand_told.proofs.GreetedDemand.{by_number}
use Rattle.demand_happens.specs.Pumped.{at}
use Rattle.demand_happens.specs.Records.{next_beat}
use Rattle.demand_happens.proofs.Records.{due_beat, due_aggregated, due_alarm, due_record}

-- the number that is given is that of a condition that holds
given : (ks : List (Case ℕ)) (n : ℕ) → first_of ks ≡ some n → any (λ (k : Case ℕ). both (eqb k.gives n) k.applies) ks ≡ true
given [] n e = absurd (let z : ◌≡◌ {A = ℕ} 0 1 = cc in omega arith)
given (k ∷ ks) n e = go k.applies refl e (given ks n)
  where
    go : (b : Bool) → k.applies ≡ b → pick b (some k.gives) (first_of ks) ≡ some n → (first_of ks ≡ some n → any (λ (k : Case ℕ). both (eqb k.gives n) k.applies) ks ≡ true)
        → any (λ (k : Case ℕ). both (eqb k.gives n) k.applies) (k ∷ ks) ≡ true
    go true f g r = let same : k.gives ≡ n = cc in rw (eq-eqb k.gives n same, f)
    go false f g r = rw (f, both_false (eqb k.gives n)) (r g)

none_counted : {A : Type 0} (f : A → Bool) (xs : List A) → first_that f xs ≡ none → count f xs ≡ 0
none_counted f [] e = refl
none_counted f (x ∷ xs) e = go (f x) refl e (none_counted f xs)
  where
    go : (b : Bool) → f x ≡ b → pick b (some x) (first_that f xs) ≡ none → (first_that f xs ≡ none → count f xs ≡ 0) → count f (x ∷ xs) ≡ 0
    go true g q r = absurd (let z : ◌≡◌ {A = ℕ} 0 1 = cc in omega arith)
    go false g q r = omega (arith, bit_false (f x) g, r q)

module _ (m : Machine) (l t room : ℕ) (random : Bytes) (up : is_up (life_at m l) ≡ true) where
  nothing_due : number_of m (at t (pump l random room)) ≡ some 7 → due m l t ≡ none
  unfolding conditions
  nothing_due e = go (due m l t) refl (given (conditions m t (pump l random room)) 7 e)
    where
      go : (o : Option Due) → due m l t ≡ o → pick (not (is_some o)) true false ≡ true → due m l t ≡ none
      go none f g = f
      go (some d) f g = untrue g

  drops : {d : Due} {P : Type 0} → due m l t ≡ none → due m l t ≡ some d → P
  drops e f = absurd (let z : ◌≡◌ {A = ℕ} 0 1 = cc in omega arith)

  none_unsent : due m l t ≡ none → count (λ (h : Held). both (is_for l h) (not h.sent)) m.pool.held ≡ 0
  none_unsent e = none_counted (λ (h : Held). both (eqb h.link l) (not h.sent)) m.pool.held (by_time (lt_or_ge t (next_beat m l)))
    where
      by_oldest : t < next_beat m l → eqb (life_at m l).pass 0 ≡ false → ltb (life_at m l).pass (pass_length m l) ≡ false → (o : Option Held) → oldest_unsent m l ≡ o → oldest_unsent m l ≡ none
      by_oldest early f g none q = q
      by_oldest early f g (some h) q = drops e (due_record m l t up early f g h q)

      by_time : (t < next_beat m l) ⊎ (next_beat m l ≤ t) → oldest_unsent m l ≡ none
      by_time (inr late) = drops e (due_beat m l t up late)
      by_time (inl early) =
          bool_cases (eqb (life_at m l).pass 0) (λ f. drops e (due_aggregated m l t up early f))
          (λ f. bool_cases (ltb (life_at m l).pass (pass_length m l)) (λ g. drops e (due_alarm m l t up early f g)) (λ g. by_oldest early f g (oldest_unsent m l) refl))

  pub drained : (step m (at t (pump l random room))).0 ≡ refused 7 → count (λ (h : Held). both (is_for l h) (not h.sent)) m.pool.held ≡ 0
  drained gave =
      by_number m (at t (pump l random room))
      (λ e. absurd (let d : (step m (at t (pump l random room))).0 ≡ outcome (laid m (at t (pump l random room))) = ap (λ (q : Outcome × Machine). q.0) (step_done m (at t (pump l random room)) e) in let z : ◌≡◌ {A = ℕ} 0 1 = cc in omega arith))
      (λ n e. let d : (step m (at t (pump l random room))).0 ≡ refused n = ap (λ (q : Outcome × Machine). q.0) (step_refused m (at t (pump l random room)) n e) in
      let seven : n ≡ 7 = cc in none_unsent (nothing_due (e ∙ ap some seven)))
