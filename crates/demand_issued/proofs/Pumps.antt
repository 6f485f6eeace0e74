-- What a pump tells is what the history and the reading tell.
-- Assumes nothing.
use Rattle.basis.proofs.Std.{ℕ, zero, suc, ◌+◌, ◌-◌, ◌*◌, ◌<◌, ◌≡◌, refl, sym, subst, Bool, true, false, not, List, Option, some, none, eqb, ltb, leb, length, arith, eqb-false, ltb-true, pick, both, Among, both_true, picked}
use Rattle.basis.proofs.Among.{among_none, among_one}
use Rattle.entry.specs.Reading.Reads.{reads}
use Rattle.write_message.specs.Message.{Message}
use Rattle.machine.specs.Words.{Bytes}
use Rattle.machine.specs.State.{Held, Start, Machine, life_at, Act, Call, Effect, only}
use Rattle.machine.specs.State.Act.{pump}
use Rattle.machine.specs.Life.{is_greeting, is_beating, is_up, is_primary, pass_length, oldest_unsent, Due, due_up, due}
use Rattle.machine.specs.Life.Due.{the_version, the_watchdog, the_aggregated, the_alarm, the_held}
use Rattle.machine.specs.Pool.{is_for}
use Rattle.machine.specs.Messages.{record_message}
use Rattle.machine.specs.Readings.{record_bytes, reading}
use Rattle.machine.specs.Effects.{own_identity, due_message, sends, effect_of}
use Rattle.machine.specs.Step.{step}
use Rattle.machine.specs.Run.{Past, Run}
use Rattle.demand_held.proofs.Lists.{maybe_cases, among_map, among_keep}
use Rattle.demand_held.proofs.Steps.{step_done, step_refused}
use Rattle.demand_told.specs.Demand.{messages_of}
use Rattle.demand_told.specs.Typed.{EachTyped}
use Rattle.demand_told.proofs.GreetedDemand.{by_number}
use Rattle.demand_carried.proofs.Lists.{found_among}
use Rattle.demand_issued.specs.Pumps.{Pumped, DemandPumps}
use Rattle.demand_issued.specs.Pumps.Pumped.{our_version, our_watchdog, the_aggregated as told_aggregated, an_alarm, a_record}
use Rattle.demand_issued.proofs.Tells.{held_entry}
use Rattle.demand_issued.proofs.Goes.{run_kept}

-- ---- what is due is an alarm that there is, or a held record of the link
abbrev There : Machine → ℕ → Due → Type 0
There m l the_version = Unit {0}
There m l the_watchdog = Unit {0}
There m l the_aggregated = Unit {0}
There m l (the_alarm i) = i < length m.alarms
There m l (the_held h) = Among h m.pool.held × (is_for l h ≡ true)

abbrev ThereIf : Machine → ℕ → Option Due → Type 0
ThereIf m l none = Unit {0}
ThereIf m l (some d) = There m l d

module _ (m : Machine) (l t : ℕ) where
  pass_there : eqb (life_at m l).pass 0 ≡ false → ltb (life_at m l).pass (pass_length m l) ≡ true → (life_at m l).pass - 1 < length m.alarms
  pass_there e f = go (is_primary m l) (life_at m l).pass (eqb-false (life_at m l).pass 0 e) (ltb-true (life_at m l).pass (pass_length m l) f)
    where
      go : (b : Bool) (n : ℕ) → (n ≡ 0 → ⊥) → n < pick b (suc (length m.alarms)) 1 → n - 1 < length m.alarms
      go true zero z h = absurd (z refl)
      go true (suc n) z h = omega arith
      go false n z h = absurd (z (omega arith))

  unsent_there : (h : Held) → oldest_unsent m l ≡ some h → Among h m.pool.held × (is_for l h ≡ true)
  unsent_there h e =
      let f = found_among (λ (h : Held). both (eqb h.link l) (not h.sent)) m.pool.held h e in
      (f.0, (both_true (eqb h.link l) (not h.sent) f.1).0)

  due_there : ThereIf m l (due m l t)
  unfolding due due_up
  due_there =
      let k = life_at m l in
      picked (ThereIf m l) (both (is_greeting k) (not k.versions.sent)) (some the_version) _ (λ e. tt)
      (λ e. picked (ThereIf m l) (both (is_beating k) (not k.watchdogs.sent)) (some the_watchdog) _ (λ e. tt)
      (λ e. picked (ThereIf m l) (is_up k) _ none
      (λ up. picked (ThereIf m l) (leb (k.beat + 1000 * m.setup.period) t) (some the_watchdog) _ (λ e. tt)
      (λ e. picked (ThereIf m l) (eqb k.pass 0) (some the_aggregated) _ (λ e. tt)
      (λ e. picked (ThereIf m l) (ltb k.pass (pass_length m l)) (some (the_alarm (k.pass - 1))) _ (λ f. pass_there e f)
      (λ f. maybe_cases (ThereIf m l) none (λ (h : Held). some (the_held h)) (oldest_unsent m l) (λ g. tt) unsent_there))))
      (λ n. tt)))

module _ {s : Start} {h : List Past} {m : Machine} (run : Run s h m) (typed : EachTyped h) (l t : ℕ) (id : Bytes) where
  abbrev Tells : Message → Type 0
  Tells w = Pumped m s.time h t l id w

  record_shown : (x : Held) → Among x m.pool.held → is_for l x ≡ true → Tells (record_message m.setup.table id x.content)
  unfolding reading
  record_shown x a own =
      subst Tells (held_entry run typed id x a).1
      (a_record (among_map (record_bytes m.pool.site) (among_keep (is_for l) own a)) (reads (held_entry run typed id x a).0 refl))

  due_told : (d : Due) → There m l d → Tells (due_message m t id d)
  due_told the_version there = our_version
  due_told the_watchdog there = our_watchdog
  due_told the_aggregated there = subst Tells (rw ((run_kept run).aggregate, (run_kept run).change)) told_aggregated
  due_told (the_alarm i) there = subst Tells (rw ((run_kept run).alarms i there)) (an_alarm {i = i} (omega (arith, there, (run_kept run).alarm_count)))
  due_told (the_held x) there = record_shown x there.0 there.1

  abbrev EachTold : Effect → Type 0
  EachTold e = (w : Message) → Among w e.messages → Tells w

  sent_told : (d : Due) → due m l t ≡ some d → EachTold (sends l t id m d)
  unfolding sends
  sent_told d e w a = among_one Tells w (due_message m t id d) (due_told d (subst (ThereIf m l) e (due_there m l t))) a

  pump_told : (random : Bytes) (room : ℕ) → id ≡ own_identity random → EachTold (effect_of m t (pump l random room))
  unfolding effect_of
  pump_told random room e = rw (← e) (maybe_cases EachTold (only m) _ (due m l t) (λ f w a. among_none a) sent_told)

module _ {s : Start} {h : List Past} {m : Machine} (run : Run s h m) (typed : EachTyped h) (t l room : ℕ) (random : Bytes) where
  abbrev call : Act → Call
  call act = record { time = t; act = act }

  abbrev PumpsAt : Act → Type 0
  PumpsAt act = (w : Message) → Among w (messages_of (step m (call act)).0) → Pumped m s.time h t l (own_identity random) w

  pumps_at : PumpsAt (pump l random room)
  pumps_at w a =
      by_number m (call (pump l random room))
      (λ e. pump_told run typed l t (own_identity random) random room refl w (rw (step_done m (call (pump l random room)) e) at a))
      (λ n e. among_none (rw (step_refused m (call (pump l random room)) n e) at a))

  pub pumps_by : (act : Act) → act ≡ pump l random room → PumpsAt act
  pumps_by act is = subst PumpsAt (sym is) pumps_at

pub demand_pumps : DemandPumps
demand_pumps = record { pumps = λ s h m r typed c l room random is. pumps_by r typed c.time l room random c.act is }
