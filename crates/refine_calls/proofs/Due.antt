-- What is due says of its link what it needs to be sent.
-- Assumes nothing.
use Rattle.basis.proofs.Std.{ℕ, zero, suc, ◌+◌, ◌-◌, ◌*◌, ◌≤◌, ◌<◌, ◌≡◌, refl, sym, subst, Bool, true, false, not, Option, some, none, arith, eqb, ltb, leb, length, ltb-true, eqb-true, eqb-false, pick, picked, both_first, both_second}
use Rattle.machine.specs.Words.{◌and◌, ◌or◌, maybe}
use Rattle.machine.specs.State.{Held, Machine, life_at}
use Rattle.machine.specs.Life.{is_greeting, is_beating, is_up, is_primary, pass_length, oldest_unsent, Due, due_up, due}
use Rattle.machine.specs.Life.Due.{the_version, the_watchdog, the_aggregated, the_alarm, the_held}

not-true : (b : Bool) → not b ≡ true → b ≡ false
not-true true e = sym e
not-true false e = refl

or_left : (x y : Bool) → x ≡ true → (x or y) ≡ true
or_left true y e = refl
or_left false y e = absurd (let z : ◌≡◌ {A = ℕ} 0 1 = cc in omega arith)

or_right : (x y : Bool) → y ≡ true → (x or y) ≡ true
or_right true y e = refl
or_right false y e = e

-- an alarm of the first pass is one of the table's
pub record Alarms (m : Machine) (l i : ℕ) : Type 0 where
  pub up : is_up (life_at m l) ≡ true
  pub behind : 1 ≤ (life_at m l).pass
  pub number : i ≡ (life_at m l).pass - 1
  pub few : (life_at m l).pass ≤ length m.alarms

module _ (m : Machine) (l t : ℕ) where
  abbrev pub Why : Due → Type 0
  Why the_version = (is_greeting (life_at m l) ≡ true) × ((life_at m l).versions.sent ≡ false)
  Why the_watchdog = ((is_beating (life_at m l) and not (life_at m l).watchdogs.sent) or is_up (life_at m l)) ≡ true
  Why the_aggregated = (is_up (life_at m l) ≡ true) × ((life_at m l).pass ≡ 0)
  Why (the_alarm i) = Alarms m l i
  Why (the_held h) = (is_up (life_at m l) ≡ true) × (oldest_unsent m l ≡ some h)

  abbrev WhyIf : Option Due → Type 0
  WhyIf none = Unit {0}
  WhyIf (some d) = Why d

  pass_most : (p : Bool) (n k : ℕ) → 1 ≤ k → k < pick p (suc n) 1 → k ≤ n
  pass_most true n k b h = omega arith
  pass_most false n k b h = absurd (omega arith)

  held_if : is_up (life_at m l) ≡ true → (o : Option Held) → oldest_unsent m l ≡ o → WhyIf (maybe none (λ h. some (the_held h)) o)
  held_if up none e = tt
  held_if up (some h) e = (up, e)

  why_up : is_up (life_at m l) ≡ true → WhyIf (due_up m l t (life_at m l))
  unfolding due_up
  why_up up =
      picked WhyIf (leb ((life_at m l).beat + 1000 * m.setup.period) t) _ _
      (λ e. or_right (is_beating (life_at m l) and not (life_at m l).watchdogs.sent) (is_up (life_at m l)) up)
      (λ e. picked WhyIf (eqb (life_at m l).pass 0) _ _
      (λ z. (up, eqb-true (life_at m l).pass 0 z))
      (λ n. let b : 1 ≤ (life_at m l).pass = behind (life_at m l).pass (eqb-false (life_at m l).pass 0 n) in
      picked WhyIf (ltb (life_at m l).pass (pass_length m l)) _ _
      (λ p. record {
        up = up;
        behind = b;
        number = refl;
        few = pass_most (is_primary m l) (length m.alarms) (life_at m l).pass b (ltb-true (life_at m l).pass (pass_length m l) p);
      })
      (λ q. held_if up (oldest_unsent m l) refl)))
    where
      behind : (k : ℕ) → (k ≡ 0 → ⊥) → 1 ≤ k
      behind zero n = absurd (n refl)
      behind (suc k) n = omega arith

  why_if : WhyIf (due m l t)
  unfolding due
  why_if =
      picked WhyIf (is_greeting (life_at m l) and not (life_at m l).versions.sent) _ _
      (λ e. (both_first (is_greeting (life_at m l)) _ e, not-true (life_at m l).versions.sent (both_second (is_greeting (life_at m l)) _ e)))
      (λ e. picked WhyIf (is_beating (life_at m l) and not (life_at m l).watchdogs.sent) _ _
      (λ b. or_left (is_beating (life_at m l) and not (life_at m l).watchdogs.sent) (is_up (life_at m l)) b)
      (λ b. picked WhyIf (is_up (life_at m l)) _ _ why_up (λ u. tt)))

  pub why : (d : Due) → due m l t ≡ some d → Why d
  why d e = subst WhyIf e why_if
