-- The answers of a link are those of its life.
-- Assumes nothing.
use Rattle.basis.proofs.Std.{ℕ, suc, ◌+◌, ◌-◌, ◌*◌, ◌≡◌, refl, sym, ap, ◌∙◌, Bool, true, false, not, Option, some, none, arith, eqb, ltb, leb, length, ltb-true, ltb-false, lt-ltb, le-ltb, ne_eqb, pick, both, bool_cases, untrue}
use Rattle.awaited.specs.Awaited.{is_awaited as is_found}
use Rattle.link.specs.declared.Link.{Link}
use Rattle.link.specs.declared.Phase.{Phase}
use Rattle.link.specs.declared.Phase.TheVariants.{Down, Greeting, Beating, Up}
use Rattle.link.specs.declared.Role.TheVariants.{Primary, Secondary}
use Rattle.link.specs.declared.Due.TheVariants.{Nothing, Watchdog, Aggregated, Alarm, Entry}
use Rattle.link.specs.Phase.{greeted, beaten, phase_of, is_up as up_in, is_beating as beating_in, takes_in}
use Rattle.link.specs.Steps.{crowded_of, full_of}
use Rattle.link.specs.Due.{alarms_for, due_up as due_up_of, due_in, due_of}
use Rattle.machine.specs.Words.{maybe, is_some, first_that}
use Rattle.machine.specs.State.{Held, Awaited, Exchange, Life, Machine, life_at}
use Rattle.machine.specs.Life.{is_over, is_greeting, is_beating, is_up, is_primary, Due, pass_length, oldest_unsent, due_up, due}
use Rattle.machine.specs.Life.Due.{the_version, the_watchdog, the_aggregated, the_alarm, the_held}
use Rattle.refine_parts.specs.Waits.{says, found_for}
use Rattle.refine_parts.specs.Life.{SameExchange, SameLife}
use Rattle.refine_parts.specs.Questions.{SamePhase, SameWaits, role_in, kind_of, Questions}
use Rattle.refine_parts.proofs.LifeLists.{any_first}
use Rattle.refine_parts.proofs.Waits.{is_of, found, how_many, late}
use Rattle.refine_parts.proofs.Text.{first_by, none_by}

-- an exchange is over once ours is acknowledged and theirs taken: ours went out before
over : {a b c : Bool} {x : Exchange} → SameExchange a b c x → both a (both b c) ≡ is_over x
over {x} h = rw (h.is_sent, h.is_acknowledged, h.is_taken) (by x.sent x.acknowledged x.taken h.first_sent)
  where
    by : (a b c : Bool) → (b ≡ true → a ≡ true) → both a (both b c) ≡ both b c
    by true b c f = refl
    by false true c f = untrue (f refl)
    by false false c f = refl

abbrev phase_by : Bool → Bool → Bool → Phase
phase_by c v w = pick c (pick v (pick w Up Beating) Greeting) Down

module _ (k : Link) (x : Life) (h : SameLife k x) where
  phase_by_lem : phase_of k ≡ phase_by x.connected (is_over x.versions) (is_over x.watchdogs)
  unfolding phase_of greeted beaten
  phase_by_lem = rw (h.connected, over h.versions, over h.watchdogs)

  pub same_phase : SamePhase k x
  same_phase =
      record {
        phase = phase_by_lem ∙ is x.connected (is_over x.versions) (is_over x.watchdogs);
        up = ap up_in phase_by_lem ∙ up x.connected (is_over x.versions) (is_over x.watchdogs);
        beating = ap beating_in phase_by_lem ∙ beats x.connected (is_over x.versions) (is_over x.watchdogs);
        takes = ap takes_in phase_by_lem ∙ takes x.connected (is_over x.versions) (is_over x.watchdogs);
      }
    where
      is : (c v w : Bool) → phase_by c v w ≡ pick (not c) Down (pick (both c (not v)) Greeting (pick (both c (both v (not w))) Beating Up))
      is true true true = refl
      is true true false = refl
      is true false w = refl
      is false v w = refl

      up : (c v w : Bool) → up_in (phase_by c v w) ≡ both c (both v w)
      up true true true = refl
      up true true false = refl
      up true false w = refl
      up false v w = refl

      beats : (c v w : Bool) → beating_in (phase_by c v w) ≡ both c (both v (not w))
      beats true true true = refl
      beats true true false = refl
      beats true false w = refl
      beats false v w = refl

      takes : (c v w : Bool) → takes_in (phase_by c v w) ≡ pick (both c (both v (not w))) true (both c (both v w))
      takes true true true = refl
      takes true true false = refl
      takes true false w = refl
      takes false v w = refl

  pub same_waits : SameWaits k x
  unfolding crowded_of full_of says
  same_waits =
      record {
        found = found k.awaited x.awaited h.awaited;
        is_awaited_lem = λ id. ap is_found (found k.awaited x.awaited h.awaited id) ∙ is_some_lem (first_that (is_of id) x.awaited) ∙ sym (any_first (is_of id) x.awaited);
        found_by = λ s id q. found k.awaited x.awaited h.awaited id ∙ sym (ap found_for (first_by x.awaited h.awaited.bytes s id q));
        no_identity = λ s n. none_by x.awaited h.awaited.bytes s n;
        crowded = ap (leb 8) (how_many k.awaited x.awaited h.awaited);
        full = ap (leb 16) (how_many k.awaited x.awaited h.awaited);
        late = late k.awaited x.awaited h.awaited;
      }
    where
      is_some_lem : (o : Option Awaited) → is_found (found_for o) ≡ is_some o
      is_some_lem none = refl
      is_some_lem (some w) = refl

-- ---- what is due
due_in_lem : (k : Link) (c v w : Bool) (up : Option Due) → due_in (phase_by c v w) k (kind_of up)
    ≡ kind_of (pick (both (both c (not v)) (not k.versionout)) (some the_version)
    (pick (both (both c (both v (not w))) (not k.watchdogout)) (some the_watchdog) (pick (both c (both v w)) up none)))
due_in_lem k true true true up = refl
due_in_lem k true true false up = bool_cases k.watchdogout (λ t. rw t) (λ t. rw t)
due_in_lem k true false w up = bool_cases k.versionout (λ t. rw t) (λ t. rw t)
due_in_lem k false v w up = refl

ltb_suc : (a n : ℕ) → ltb (suc a) (suc n) ≡ ltb a n
ltb_suc a n =
    bool_cases (ltb a n)
    (λ t. lt-ltb (suc a) (suc n) (omega (arith, ltb-true a n t)) ∙ sym t)
    (λ t. le-ltb (suc a) (suc n) (omega (arith, ltb-false a n t)) ∙ sym t)

due_up_lem : (w v p out : Bool) (i pass n : ℕ) (o : Option Held) → w ≡ v → pick out (suc i) 0 ≡ pass
    → pick w Watchdog (pick out (pick (ltb i (alarms_for (pick p Primary Secondary) n)) (Alarm i) (pick (is_some o) Entry Nothing)) Aggregated)
    ≡ kind_of (pick v (some the_watchdog) (pick (eqb pass 0) (some the_aggregated)
    (pick (ltb pass (pick p (suc n) 1)) (some (the_alarm (pass - 1))) (maybe none (λ h. some (the_held h)) o))))
due_up_lem w true p out i pass n o f e = rw f
due_up_lem w false p false i pass n o f e = rw (f, ← e)
due_up_lem w false p true i pass n o f e = rw (f, ← e, ne_eqb (suc i) 0 (λ z. absurd (omega arith))) (by p (ltb i n) refl o)
  where
    back : suc i - 1 ≡ i
    back = omega arith

    by : (p b : Bool) → ltb i n ≡ b → (o : Option Held)
        → pick (ltb i (alarms_for (pick p Primary Secondary) n)) (Alarm i) (pick (is_some o) Entry Nothing)
        ≡ kind_of (pick (ltb (suc i) (pick p (suc n) 1)) (some (the_alarm (suc i - 1))) (maybe none (λ h. some (the_held h)) o))
    by true true g o = rw (g, ltb_suc i n, g, back)
    by true false g none = rw (g, ltb_suc i n, g)
    by true false g (some x) = rw (g, ltb_suc i n, g)
    by false b g none = rw (le-ltb i 0 (omega arith), le-ltb (suc i) 1 (omega arith))
    by false b g (some x) = rw (le-ltb i 0 (omega arith), le-ltb (suc i) 1 (omega arith))

module _ (k : Link) (m : Machine) (l : ℕ) (h : SameLife k (life_at m l)) (t : ℕ) where
  up_due : due_up_of k t m.setup.period (role_in m l) (length m.alarms) (is_some (oldest_unsent m l)) ≡ kind_of (due_up m l t (life_at m l))
  unfolding due_up_of due_up
  up_due =
      due_up_lem (leb (k.beat + m.setup.period * 1000) t) (leb ((life_at m l).beat + 1000 * m.setup.period) t) (is_primary m l) k.aggregatedout k.alarm
      (life_at m l).pass (length m.alarms) (oldest_unsent m l)
      (ap (λ (n : ℕ). leb n t) (omega (arith, h.beat))) h.pass

  pub same_due : due_of k t m.setup.period (role_in m l) (length m.alarms) (is_some (oldest_unsent m l)) ≡ kind_of (due m l t)
  unfolding due_of due
  same_due =
      rw (phase_by_lem k (life_at m l) h, up_due)
      (due_in_lem k (life_at m l).connected (is_over (life_at m l).versions) (is_over (life_at m l).watchdogs) (due_up m l t (life_at m l))
      ∙ rw (h.versions.is_sent, h.watchdogs.is_sent))

-- the record that is due is the oldest one not sent
held_only : (a b d e f g : Bool) (i : ℕ) (o : Option Held) (h : Held)
    → pick a (some the_version) (pick b (some the_watchdog) (pick d (pick e (some the_watchdog) (pick f (some the_aggregated)
    (pick g (some (the_alarm i)) (maybe none (λ x. some (the_held x)) o)))) none)) ≡ some (the_held h) → o ≡ some h
held_only true b d e f g i o h q = absurd (let z : ◌≡◌ {A = ℕ} 0 1 = cc in omega arith)
held_only false true d e f g i o h q = absurd (let z : ◌≡◌ {A = ℕ} 0 1 = cc in omega arith)
held_only false false false e f g i o h q = absurd (let z : ◌≡◌ {A = ℕ} 0 1 = cc in omega arith)
held_only false false true true f g i o h q = absurd (let z : ◌≡◌ {A = ℕ} 0 1 = cc in omega arith)
held_only false false true false true g i o h q = absurd (let z : ◌≡◌ {A = ℕ} 0 1 = cc in omega arith)
held_only false false true false false true i o h q = absurd (let z : ◌≡◌ {A = ℕ} 0 1 = cc in omega arith)
held_only false false true false false false i none h q = absurd (let z : ◌≡◌ {A = ℕ} 0 1 = cc in omega arith)
held_only false false true false false false i (some x) h q = ap some cc

held : (m : Machine) (l t : ℕ) (h : Held) → due m l t ≡ some (the_held h) → oldest_unsent m l ≡ some h
unfolding due due_up
held m l t h e =
    let k : Life = life_at m l in
    held_only (both (is_greeting k) (not k.versions.sent)) (both (is_beating k) (not k.watchdogs.sent)) (is_up k)
    (leb (k.beat + 1000 * m.setup.period) t) (eqb k.pass 0) (ltb k.pass (pass_length m l)) (k.pass - 1) (oldest_unsent m l) h e

pub questions : Questions
questions = record { phases = same_phase; waits = same_waits; dues = same_due; held_due = held }
