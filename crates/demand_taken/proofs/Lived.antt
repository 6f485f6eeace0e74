-- What holds of every life of a link in a run: of none, of one just opened, and after each call if before it.
-- Assumes nothing.
use Rattle.basis.proofs.Std.{ℕ, ◌≡◌, refl, sym, true, false, List, [], ◌∷◌, some, none, ◌⊎◌, inl, inr, eqb, arith, eq-eqb, ne_eqb, leb-false, both, bool_cases, eq_or_ne}
use Rattle.basis.specs.Lists.Among.{first, later}
use Rattle.machine.specs.Words.{Bytes, is_number, any, first_of}
use Rattle.machine.specs.State.{Life, fresh, Start, Machine, life_at, Act, Effect}
use Rattle.machine.specs.State.Act.{connect, disconnect, packet, alarm_input, status_value, aggregated_value, tick, pump}
use Rattle.machine.specs.State.Outcome.{refused}
use Rattle.machine.specs.Table.Begins.{begins}
use Rattle.machine.specs.Effects.{connects, closes, late, ticks, effect_of}
use Rattle.machine.specs.Items.{intervals}
use Rattle.machine.specs.Step.{conditions, outcome}
use Rattle.machine.specs.Run.{Past, Run}
use Rattle.machine.specs.Run.Run.{begun, begun_beside, next, other_starts, other_calls}
use Rattle.demand_held.proofs.Steps.{step_done, step_refused}
use Rattle.demand_told.specs.Demand.{messages_of, link_of}
use Rattle.demand_told.specs.Life.{is_done, connected_by, going_on, lived, this_life}
use Rattle.demand_told.proofs.Tests.{no_not}
use Rattle.demand_told.proofs.Replies.{none_at}
use Rattle.demand_told.proofs.Lives.{closed_there, all_there, all_same}
use Rattle.demand_told.proofs.Apart.{Apart, apart, apart_tick}
use Rattle.demand_told.proofs.GreetedDemand.{by_number, run_kept}
use Rattle.demand_happens.specs.Pumped.{at}
use Rattle.demand_happens.proofs.After.{set_at}
use Rattle.demand_happens.proofs.Sized.{run_sized}
use Rattle.demand_taken.proofs.Moves.{Turned, Moved, moved_packet, moved_pump}

-- no done call of link l
abbrev pub Elsewhere : ℕ → Past → Type 0
Elsewhere l p = both (is_done p.gave) (is_number l (link_of p.call.act)) ≡ false

-- a done call of link l on the machine of a run that goes on with its life
pub record Goes (s : Start) (l : ℕ) (h : List Past) (m : Machine) (p : Past) (x : Life) : Type 0 where
  pub run : Run s h m
  pub connected : (life_at m l).connected ≡ true
  pub lives : this_life l h ≡ [] → ⊥
  pub turned : Turned m p.call.time l p.call.act (messages_of p.gave) x

module _ (s : Start) (l : ℕ) (Inv : Life → List Past → Type 0) (down : Inv (fresh false) [])
    (opened : (p : Past) → p.call.act ≡ connect l → messages_of p.gave ≡ [] → Inv (fresh true) (p ∷ []))
    (elsewhere : (k : Life) (life : List Past) (p : Past) → Elsewhere l p → Inv k life → Inv k (going_on p life))
    (goes : (h : List Past) (m : Machine) (p : Past) (x : Life) → Goes s l h m p x → Inv (life_at m l) (this_life l h) → Inv x (going_on p (this_life l h))) where
  module _ (h : List Past) (m : Machine) (r : Run s h m) (holds : Inv (life_at m l) (this_life l h)) (t : ℕ) where
    abbrev past_of : Act → Effect → Past
    past_of act e = record { call = at t act; gave = outcome e }

    abbrev Holds : Act → Effect → Type 0
    Holds act e = Inv (life_at e.leaves l) (lived l (past_of act e) (this_life l h))

    abbrev After : Act → Type 0
    After act = first_of (conditions m t act) ≡ none → Holds act (effect_of m t act)

    falls : (act : Act) (e : Effect) → is_number l (connected_by act) ≡ false → any (eqb l) e.closed ≡ true → life_at e.leaves l ≡ fresh false → Holds act e
    falls act e n c f = rw (n, c, f) down

    stays : (act : Act) (e : Effect) → is_number l (connected_by act) ≡ false → is_number l (link_of act) ≡ false → Apart m l e → Holds act e
    stays act e n o a = rw (n, a.unnamed, a.life) (elsewhere (life_at m l) (this_life l h) (past_of act e) o holds)

    apart_from_it : (act : Act) → is_number l (connected_by act) ≡ false → is_number l (link_of act) ≡ false → (act ≡ tick → ⊥) → After act
    apart_from_it act n o no_tick f = stays act (effect_of m t act) n o (apart m t act l o (λ e. absurd (no_tick e)))

    moves : (act : Act) (connected : (life_at m l).connected ≡ true) → is_number l (connected_by act) ≡ false → Moved m t l connected act (effect_of m t act) → Holds act (effect_of m t act)
    moves act connected n (inl f) = falls act (effect_of m t act) n f.0 f.1
    moves act connected n (inr w) =
        rw (n, w.0)
        (goes h m (past_of act (effect_of m t act)) (life_at (effect_of m t act).leaves l)
        (record { run = r; connected = connected; lives = (run_kept r m refl l).there connected; turned = w.1 }) holds)

    by_link : (P : ℕ → Type 0) (k : ℕ) → P l → ((k ≡ l → ⊥) → P k) → P k
    by_link P k own other = go (eq_or_ne k l)
      where
        go : (k ≡ l) ⊎ (k ≡ l → ⊥) → P k
        go (inl e) = rw e own
        go (inr n) = other n

    other_than : (k : ℕ) → (k ≡ l → ⊥) → is_number l (some k) ≡ false
    other_than k n = ne_eqb l k (λ e. n (sym e))

    connects_it : After (connect l)
    unfolding effect_of connects conditions
    connects_it f =
        rw (eq-eqb l l refl, set_at l (fresh true) (fresh false) m.lives (omega (arith, leb-false m.setup.links l (none_at (conditions m t (connect l)) f first), run_sized r)))
        (opened (past_of (connect l) (effect_of m t (connect l))) refl refl)

    disconnects_it : After (disconnect l)
    unfolding effect_of closes
    disconnects_it f =
        falls (disconnect l) (effect_of m t (disconnect l)) refl (rw (eq-eqb l l refl)) (closed_there (λ (k : Life). k ≡ fresh false) l m refl)

    receives_it : (random bytes : Bytes) (room : ℕ) → After (packet l random bytes room)
    unfolding conditions
    receives_it random bytes room f =
        let connected = no_not _ (none_at (conditions m t (packet l random bytes room)) f (later (later (later (later first))))) in
        moves (packet l random bytes room) connected refl (moved_packet m t l connected random bytes room f)

    pumps_it : (random : Bytes) (room : ℕ) → After (pump l random room)
    unfolding conditions
    pumps_it random room f =
        let connected = no_not _ (none_at (conditions m t (pump l random room)) f (later (later (later first)))) in
        moves (pump l random room) connected refl (moved_pump m t l connected random room f)

    ticks_it : After tick
    unfolding effect_of ticks intervals
    ticks_it f =
        bool_cases (any (eqb l) (late t m))
        (λ e. falls tick (effect_of m t tick) refl e (all_there (λ (k : Life). k ≡ fresh false) l (late t m) m e refl))
        (λ e. stays tick (effect_of m t tick) refl refl (apart_tick m l t e))

    after : (act : Act) → After act
    after (connect k) = by_link (λ k. After (connect k)) k connects_it (λ n. apart_from_it (connect k) (other_than k n) (other_than k n) (λ e. let z : ◌≡◌ {A = ℕ} 0 1 = cc in omega arith))
    after (disconnect k) = by_link (λ k. After (disconnect k)) k disconnects_it (λ n. apart_from_it (disconnect k) refl (other_than k n) (λ e. let z : ◌≡◌ {A = ℕ} 0 1 = cc in omega arith))
    after (packet k random bytes room) =
        by_link (λ k. After (packet k random bytes room)) k (receives_it random bytes room)
        (λ n. apart_from_it (packet k random bytes room) refl (other_than k n) (λ e. let z : ◌≡◌ {A = ℕ} 0 1 = cc in omega arith))
    after (alarm_input i active) = apart_from_it (alarm_input i active) refl refl (λ e. let z : ◌≡◌ {A = ℕ} 0 1 = cc in omega arith)
    after (status_value i v) = apart_from_it (status_value i v) refl refl (λ e. let z : ◌≡◌ {A = ℕ} 0 1 = cc in omega arith)
    after (aggregated_value v) = apart_from_it (aggregated_value v) refl refl (λ e. let z : ◌≡◌ {A = ℕ} 0 1 = cc in omega arith)
    after tick = ticks_it
    after (pump k random room) =
        by_link (λ k. After (pump k random room)) k (pumps_it random room)
        (λ n. apart_from_it (pump k random room) refl (other_than k n) (λ e. let z : ◌≡◌ {A = ℕ} 0 1 = cc in omega arith))

  pub by_life : {h : List Past} {m : Machine} → Run s h m → Inv (life_at m l) (this_life l h)
  by_life (begun (begins {t} a e g)) = all_same (fresh false) (λ k. Inv k []) s.links l down
  by_life (begun_beside (begins {t} a e g) o two) = all_same (fresh false) (λ k. Inv k []) s.links l down
  by_life (other_starts r b two) = by_life r
  by_life (other_calls r q n c) = by_life r
  by_life (next {h} {m} c r) =
      by_number m c
      (λ e. rw (step_done m c e) (after h m r (by_life r) c.time c.act e))
      (λ n e. rw (step_refused m c n e) (elsewhere (life_at m l) (this_life l h) (record { call = c; gave = refused n }) refl (by_life r)))
