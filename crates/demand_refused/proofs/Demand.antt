-- Demand 1 holds of every call, on whatever machine.
-- Assumes nothing.
use Rattle.basis.proofs.Std.{ℕ, ◌≡◌, refl, sym, ◌∙◌, ap, Bool, true, false, List, [], ◌∷◌, Option, some, none, arith, pick, Among}
use Rattle.basis.specs.Lists.Among.{first as here, later}
use Rattle.table_whole.proofs.Whole.{same_table}
use Rattle.machine.specs.Words.{Case, first_of}
use Rattle.machine.specs.State.{Start, Machine, Act, Call, Outcome}
use Rattle.machine.specs.State.Act.{connect, disconnect, packet, alarm_input, status_value, aggregated_value, tick, pump}
use Rattle.machine.specs.State.Outcome.{refused}
use Rattle.machine.specs.Table.{Begins}
use Rattle.machine.specs.Table.Begins.{begins, not_good, no_table}
use Rattle.machine.specs.Effects.{effect_of}
use Rattle.machine.specs.Step.{conditions, number_of, after, outcome, step}
use Rattle.demand_refused.specs.Demand.{NoneApplies, FirstIs, numbers, Refusing, Demand1}
use Rattle.demand_refused.specs.Demand.NoneApplies.{none_applies, nor}
use Rattle.demand_refused.specs.Demand.FirstIs.{first_is, behind}

first_of_lem : (n : ℕ) (ks : List (Case ℕ)) → FirstIs n ks → first_of ks ≡ some n
first_of_lem n [] x' = elim x' [ ]
first_of_lem n (k ∷ ks) (first_is e a) = rw (a, e)
first_of_lem n (k ∷ ks) (behind a r) = rw a (first_of_lem n ks r)

of_first : (n : ℕ) (ks : List (Case ℕ)) → first_of ks ≡ some n → FirstIs n ks
of_first n [] e = absurd (let z : ◌≡◌ {A = ℕ} 0 1 = cc in omega arith)
of_first n (k ∷ ks) e = go k.applies refl e (of_first n ks)
  where
    go : (b : Bool) → k.applies ≡ b → pick b (some k.gives) (first_of ks) ≡ some n → (first_of ks ≡ some n → FirstIs n ks) → FirstIs n (k ∷ ks)
    go true a q r = first_is {k = k} (cc) a
    go false a q r = behind a (r q)

none_of : (ks : List (Case ℕ)) → NoneApplies ks → first_of ks ≡ none
none_of [] none_applies = refl
none_of (k ∷ ks) (nor a r) = rw a (none_of ks r)

module _ (m : Machine) (c : Call) where
  gives : (n : ℕ) → number_of m c ≡ some n → step m c ≡ (refused n, m)
  unfolding step
  gives n e = rw e

  does : number_of m c ≡ none → step m c ≡ (outcome (effect_of m c.time c.act), after c.time (effect_of m c.time c.act))
  unfolding step
  does e = rw e

  number : (n : ℕ) → (step m c).0 ≡ refused n → number_of m c ≡ some n
  number n r = go (number_of m c) refl
    where
      go : (o : Option ℕ) → number_of m c ≡ o → number_of m c ≡ some n
      go none e =
          let d : (step m c).0 ≡ outcome (effect_of m c.time c.act) = ap (λ (r : Outcome × Machine). r.0) (does e) in
          absurd (let z : ◌≡◌ {A = ℕ} 0 1 = cc in omega arith)
      go (some k) e =
          let d : (step m c).0 ≡ refused k = ap (λ (r : Outcome × Machine). r.0) (gives k e) in
          e ∙ ap some cc

  stays : (n : ℕ) → (step m c).0 ≡ refused n → (step m c).1 ≡ m
  stays n r = ap (λ (r : Outcome × Machine). r.1) (gives n (number n r))

-- the numbers that a list of conditions can give
pub data Known : List (Case ℕ) → Type 0 where
  no_more : Known []
  one_more : {k : Case ℕ} {ks : List (Case ℕ)} → Among k.gives numbers → Known ks → Known (k ∷ ks)

known_first : (n : ℕ) (ks : List (Case ℕ)) → Known ks → FirstIs n ks → Among n numbers
known_first n [] _ x3 = elim x3 [ ]
known_first n (k ∷ ks) (one_more a r) (first_is e b) = rw (← e) a
known_first n (k ∷ ks) (one_more a r) (behind b f) = known_first n ks r f

is_1 : Among 1 numbers
is_1 = here

is_2 : Among 2 numbers
is_2 = (later here)

is_3 : Among 3 numbers
is_3 = (later (later here))

is_4 : Among 4 numbers
is_4 = (later (later (later here)))

is_5 : Among 5 numbers
is_5 = (later (later (later (later here))))

is_6 : Among 6 numbers
is_6 = (later (later (later (later (later here)))))

is_7 : Among 7 numbers
is_7 = (later (later (later (later (later (later here))))))

is_8 : Among 8 numbers
is_8 = (later (later (later (later (later (later (later here)))))))

is_9 : Among 9 numbers
is_9 = (later (later (later (later (later (later (later (later here))))))))

is_10 : Among 10 numbers
is_10 = (later (later (later (later (later (later (later (later (later here)))))))))

is_12 : Among 12 numbers
is_12 = (later (later (later (later (later (later (later (later (later (later here))))))))))

all_known : (m : Machine) (t : ℕ) (act : Act) → Known (conditions m t act)
unfolding conditions
all_known m t (connect l) = one_more is_2 (one_more is_5 (one_more is_6 no_more))
all_known m t (disconnect l) = one_more is_2 (one_more is_5 (one_more is_6 no_more))
all_known m t (packet l random bytes room) = one_more is_2 (one_more is_4 (one_more is_12 (one_more is_5 (one_more is_6 (one_more is_1 (one_more is_9 (one_more is_10 no_more)))))))
all_known m t (alarm_input i active) = one_more is_3 (one_more is_5 (one_more is_10 no_more))
all_known m t (status_value i v) = one_more is_3 (one_more is_5 (one_more is_10 no_more))
all_known m t (aggregated_value v) = one_more is_5 (one_more is_10 no_more)
all_known m t tick = one_more is_5 (one_more is_10 no_more)
all_known m t (pump l random room) = one_more is_2 (one_more is_4 (one_more is_5 (one_more is_6 (one_more is_7 (one_more is_8 (one_more is_9 no_more))))))

pub refusing : (m : Machine) (c : Call) → Refusing m c
refusing m c =
    record {
      gives = λ n f. gives m c n (first_of_lem n (conditions m c.time c.act) f);
      given = λ n r. of_first n (conditions m c.time c.act) (number m c n r);
      does = λ f. does m c (none_of (conditions m c.time c.act) f);
      stays = stays m c;
      as_if_not = λ n cs r. (rw (r, stays m c n r), rw (stays m c n r));
      known = λ n r. known_first n (conditions m c.time c.act) (all_known m c.time c.act) (of_first n (conditions m c.time c.act) (number m c n r));
    }

one_start : (s : Start) (p q : Option Machine) → Begins s p → Begins s q → p ≡ q
one_start s p q (begins {edition = d} {t} a e g) (begins {edition = k} {t = u} b f h) = rw (same_table t u a b (e ∙ sym f))
one_start s p q (begins {edition = d} {t} a e g) (not_good h) = absurd (let z : ◌≡◌ {A = ℕ} 0 1 = cc in omega arith)
one_start s p q (begins {edition = d} {t} a e g) (no_table h) = absurd (h d t a e)
one_start s p q (not_good g) (begins {edition = k} {t} b f h) = absurd (let z : ◌≡◌ {A = ℕ} 0 1 = cc in omega arith)
one_start s p q (not_good g) (not_good h) = refl
one_start s p q (not_good g) (no_table h) = refl
one_start s p q (no_table g) (begins {edition = k} {t} b f h) = absurd (g k t b f)
one_start s p q (no_table g) (not_good h) = refl
one_start s p q (no_table g) (no_table h) = refl

pub demand1 : Demand1
demand1 = record { of_every_call = refusing; one_start = one_start }
