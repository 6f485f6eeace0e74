-- A message that is awaited for a record is that record's, and it is held.
-- Assumes nothing.
use Rattle.basis.proofs.Std.{ℕ, ◌+◌, ◌-◌, ◌*◌, ◌≡◌, refl, subst, true, false, not, Option, some, none, ◌⊎◌, inl, inr, eqb, ltb, leb, arith, eqb-true, both, Among, picked, both_true}
use Rattle.write_message.specs.Message.{Message}
use Rattle.machine.specs.Words.{Bytes, maybe}
use Rattle.machine.specs.State.{Content, issued_for, Held, Sent, Machine, life_at, alarm_at}
use Rattle.machine.specs.State.Sent.{no_record, the_record}
use Rattle.machine.specs.Life.{is_greeting, is_beating, is_up, same_alarm, alarm_in, newest, carries, carried_by, pass_length, oldest_unsent, Due, due_up, due}
use Rattle.machine.specs.Life.Due.{the_version, the_watchdog, the_aggregated, the_alarm, the_held}
use Rattle.machine.specs.Messages.{alarm_message, record_message}
use Rattle.machine.specs.Effects.{due_message, sent_as, carried}
use Rattle.demand_held.specs.Held.{IsHeld}
use Rattle.demand_held.specs.Held.IsHeld.{held}
use Rattle.demand_held.proofs.Lists.{maybe_cases}
use Rattle.demand_happens.proofs.Counts.{Newest, newest_of}
use Rattle.demand_happens.proofs.Records.{own_message}
use Rattle.demand_carried.proofs.Lists.{found_among}

-- the message w is that of a record of link l held under number n
pub record Tells (m : Machine) (l n : ℕ) (id : Bytes) (w : Message) : Type 0 where
  pub content : Content
  pub held : IsHeld (issued_for l content) n m.pool.held
  pub told : w ≡ record_message m.setup.table id content

abbrev TellsIf : Machine → ℕ → Bytes → Message → Sent → Type 0
TellsIf m l id w x = (n : ℕ) → carried x ≡ some n → Tells m l n id w

-- ---- what is due of the held records is the link's own
abbrev Own : Machine → ℕ → Due → Type 0
Own m l the_version = Unit {0}
Own m l the_watchdog = Unit {0}
Own m l the_aggregated = Unit {0}
Own m l (the_alarm i) = Unit {0}
Own m l (the_held h) = Among h m.pool.held × (h.link ≡ l)

abbrev OwnIf : Machine → ℕ → Option Due → Type 0
OwnIf m l none = Unit {0}
OwnIf m l (some d) = Own m l d

module _ (m : Machine) (l t : ℕ) where
  unsent_own : (h : Held) → oldest_unsent m l ≡ some h → Among h m.pool.held × (h.link ≡ l)
  unsent_own h e =
      let f = found_among (λ (h : Held). both (eqb h.link l) (not h.sent)) m.pool.held h e in
      (f.0, eqb-true h.link l (both_true (eqb h.link l) (not h.sent) f.1).0)

  due_own : OwnIf m l (due m l t)
  unfolding due due_up
  due_own =
      let k = life_at m l in
      picked (OwnIf m l) (both (is_greeting k) (not k.versions.sent)) (some the_version) _ (λ e. tt)
      (λ e. picked (OwnIf m l) (both (is_beating k) (not k.watchdogs.sent)) (some the_watchdog) _ (λ e. tt)
      (λ e. picked (OwnIf m l) (is_up k) _ none
      (λ up. picked (OwnIf m l) (leb (k.beat + 1000 * m.setup.period) t) (some the_watchdog) _ (λ e. tt)
      (λ e. picked (OwnIf m l) (eqb k.pass 0) (some the_aggregated) _ (λ e. tt)
      (λ e. picked (OwnIf m l) (ltb k.pass (pass_length m l)) (some (the_alarm (k.pass - 1))) _ (λ f. tt)
      (λ f. maybe_cases (OwnIf m l) none (λ (h : Held). some (the_held h)) (oldest_unsent m l) (λ g. tt) unsent_own))))
      (λ n. tt)))

  module _ (id : Bytes) where
    nothing : {P : Type 0} {n : ℕ} → none ≡ some n → P
    nothing e = absurd (let z : ◌≡◌ {A = ℕ} 0 1 = cc in omega arith)

    own_tells : (h : Held) (w : Message) → Among h m.pool.held → h.link ≡ l → w ≡ record_message m.setup.table id h.content → TellsIf m l id w (the_record h.sequence)
    own_tells h w a e f n c = let same : h.sequence ≡ n = cc in record { content = h.content; held = held a e refl same; told = f }

    -- "the message of this pass carries that record"
    pass_tells : (i : ℕ) → TellsIf m l id (alarm_message m.setup.table id i (alarm_at m i)) (carried_by m l i)
    unfolding carried_by
    pass_tells i =
        maybe_cases (TellsIf m l id this) no_record (carries (alarm_at m i) i) (newest l i none m.pool.held) (λ e n c. nothing c)
        (λ h e. picked (TellsIf m l id this) (maybe false (same_alarm (alarm_at m i)) (alarm_in i h.content)) (the_record h.sequence) no_record
        (λ f. from h (newest_of l i h none m.pool.held e) f) (λ f n c. nothing c))
      where
        this : Message
        this = alarm_message m.setup.table id i (alarm_at m i)

        from : (h : Held) → (none ≡ some h) ⊎ Newest l i h m.pool.held → maybe false (same_alarm (alarm_at m i)) (alarm_in i h.content) ≡ true
            → TellsIf m l id this (the_record h.sequence)
        from h (inl e) f = absurd (let z : ◌≡◌ {A = ℕ} 0 1 = cc in omega arith)
        from h (inr w) f = own_tells h this w.among w.own (own_message m.setup.table id i (alarm_at m i) h.content f)

    pub due_tells : (d : Due) → due m l t ≡ some d → TellsIf m l id (due_message m t id d) (sent_as m l d)
    due_tells d e = go d (subst (OwnIf m l) e due_own)
      where
        go : (d : Due) → Own m l d → TellsIf m l id (due_message m t id d) (sent_as m l d)
        go the_version o n c = nothing c
        go the_watchdog o n c = nothing c
        go the_aggregated o n c = nothing c
        go (the_alarm i) o n c = pass_tells i n c
        go (the_held h) o n c = own_tells h _ o.0 o.1 refl n c
