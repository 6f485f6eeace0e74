-- What is told is told to a link that was greeted in this life, over every run.
-- Assumes nothing.
use Rattle.basis.proofs.Std.{ℕ, ◌≡◌, refl, ◌∙◌, true, false, List, [], ◌∷◌, Option, some, none, arith, Among, both_true}
use Rattle.write_message.specs.Message.{Message}
use Rattle.machine.specs.State.{Life, fresh, Start, Machine, life_at, Call}
use Rattle.machine.specs.State.Outcome.{refused}
use Rattle.machine.specs.Life.{is_over, is_up}
use Rattle.machine.specs.Table.Begins.{begins}
use Rattle.machine.specs.Step.{number_of, step}
use Rattle.machine.specs.Run.{Past, Run}
use Rattle.machine.specs.Run.Run.{begun, begun_beside, next, other_starts, other_calls}
use Rattle.demand_held.proofs.Lays.{lays}
use Rattle.demand_held.proofs.Steps.{step_done, step_refused, there}
use Rattle.demand_held.proofs.Demand.{run_sound}
use Rattle.demand_told.specs.Demand.{messages_of, link_of, is_told}
use Rattle.demand_told.proofs.Demand.{telling}
use Rattle.demand_told.specs.Life.{this_life, lived}
use Rattle.demand_told.specs.Greeted.{Greeted}
use Rattle.demand_told.specs.GreetedDemand.{DemandGreeted}
use Rattle.demand_told.proofs.Lives.{all_same}
use Rattle.demand_told.proofs.Kept.{Kept, kept_down, goes_on_lem}
use Rattle.demand_told.proofs.Goes.{goes}

module _ (m : Machine) (c : Call) where
  pub by_number : {P : Type 0} → (number_of m c ≡ none → P) → ((n : ℕ) → number_of m c ≡ some n → P) → P
  by_number {P} f g = go (number_of m c) refl
    where
      go : (o : Option ℕ) → number_of m c ≡ o → P
      go none e = f e
      go (some n) e = g n e

-- the setup stays
pub same_setup : {s : Start} {h : List Past} {m : Machine} → Run s h m → (c : Call) → (step m c).1.setup ≡ m.setup
same_setup {m = m} r c =
    by_number m c
    (λ e. rw (step_done m c e) (lays m (run_sound r).primary c.time c.act (there m c.time c.act (λ q. let z : ◌≡◌ {A = ℕ} 0 1 = cc in omega arith))).frame.setup)
    (λ n e. rw (step_refused m c n e))

-- ---- a life stays true to the history
step_kept : (u m : Machine) (c : Call) (l : ℕ) (life : List Past) → u.setup ≡ m.setup → Kept u l (life_at m l) life
    → Kept u l (life_at (step m c).1 l) (lived l (record { call = c; gave = (step m c).0 }) life)
step_kept u m c l life same kept =
    by_number m c
    (λ e. rw (step_done m c e) (goes u m same c.time l life kept c.act e))
    (λ n e. rw (step_refused m c n e) (goes_on_lem (record { call = c; gave = refused n }) kept))

pub run_kept : {s : Start} {h : List Past} {m : Machine} → Run s h m → (u : Machine) → u.setup ≡ m.setup → (l : ℕ) → Kept u l (life_at m l) (this_life l h)
run_kept {s} (begun (begins {t} a e g)) u same l = all_same (fresh false) (λ k. Kept u l k []) s.links l (kept_down u l [])
run_kept {s} (begun_beside (begins {t} a e g) o two) u same l = all_same (fresh false) (λ k. Kept u l k []) s.links l (kept_down u l [])
run_kept (other_starts r b two) u same l = run_kept r u same l
run_kept (other_calls r q n c) u same l = run_kept r u same l
run_kept (next {h} {m} c r) u same l = step_kept u m c l (this_life l h) (same ∙ same_setup r c) (run_kept r u (same ∙ same_setup r c) l)

-- ---- Up
pub greeted : (u : Machine) (l : ℕ) (k : Life) (life : List Past) → Kept u l k life → is_up k ≡ true → Greeted u l life
greeted u l k life kept up =
    record {
      version = k.version;
      our_version = kept.our_version versions.0;
      their_version = kept.their_version versions.1;
      our_watchdog = kept.our_watchdog watchdogs.0;
      their_watchdog = kept.their_watchdog watchdogs.1;
    }
  where
    over : (is_over k.versions ≡ true) × (is_over k.watchdogs ≡ true)
    over = both_true (is_over k.versions) _ (both_true k.connected _ up).1

    versions : (k.versions.acknowledged ≡ true) × (k.versions.taken ≡ true)
    versions = both_true k.versions.acknowledged _ over.0

    watchdogs : (k.watchdogs.acknowledged ≡ true) × (k.watchdogs.taken ≡ true)
    watchdogs = both_true k.watchdogs.acknowledged _ over.1

of_every_run : {s : Start} {p : Past} {h : List Past} {m : Machine} → Run s (p ∷ h) m → (u : Machine) → u.setup ≡ m.setup
    → (l : ℕ) → link_of p.call.act ≡ some l → (w : Message) → Among w (messages_of p.gave) → is_told w ≡ true → Greeted u l (this_life l h)
of_every_run (next {h} {m} c r) u same l e w a t =
    greeted u l (life_at m l) (this_life l h) (run_kept r u (same ∙ same_setup r c) l) ((telling m c).up_first w a t l e)
of_every_run (other_starts r b two) u same l e w a t = of_every_run r u same l e w a t
of_every_run (other_calls r q n c) u same l e w a t = of_every_run r u same l e w a t

pub demand_greeted : DemandGreeted
demand_greeted = record { of_every_run = λ s p h m r. of_every_run r m refl }
