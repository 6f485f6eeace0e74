-- What pump writes on a machine that can be told is well-formed.
-- Assumes nothing.
use Rattle.basis.proofs.Std.{ℕ, zero, suc, ◌+◌, ◌-◌, ◌*◌, ◌%◌, ◌≤◌, ◌<◌, ◌≡◌, refl, ◌∙◌, subst, Bool, true, false, not, List, [], ◌∷◌, Option, some, none, eqb, ltb, leb, length, get_or, set, length-set, arith, eqb-false, ltb-true, pick, both, picked}
use Rattle.answer.specs.Times.{last_time}
use Rattle.identity.specs.Read.{SixteenBytes}
use Rattle.identity.specs.Version.{version4_of}
use Rattle.table_whole.specs.Table.{no_row, Table}
use Rattle.table_whole.specs.Allowed.{Every, IsAlarm, IsStatus, Allowed}
use Rattle.table_whole.specs.Allowed.Every.{none as end_of_lem, more as and_more}
use Rattle.write_laws.specs.Formed.{Label, Formed}
use Rattle.write_laws.specs.Formed.FormedStatuses.{none as no_status, more as one_status}
use Rattle.write_laws.specs.Formed.Formed.{formed_version, formed_watchdog, formed_alarm, formed_aggregated, formed_statuses}
use Rattle.machine.specs.Words.{Bytes}
use Rattle.machine.specs.State.{Event, event_number, Alarm, Content, Held, Machine, life_at, alarm_at}
use Rattle.machine.specs.State.Event.{Issue, Acknowledge, Suspend}
use Rattle.machine.specs.State.Content.{of_alarm, of_status, of_aggregated}
use Rattle.machine.specs.Table.{component_text, alarm_row, status_row}
use Rattle.machine.specs.Life.{is_greeting, is_beating, is_up, is_primary, pass_length, oldest_unsent, Due, due_up, due}
use Rattle.machine.specs.Life.Due.{the_version, the_watchdog, the_aggregated, the_alarm, the_held}
use Rattle.machine.specs.Messages.{alarm_message, aggregated_message, record_message}
use Rattle.machine.specs.Effects.{due_message}
use Rattle.demand_held.proofs.Lists.{maybe_cases}
use Rattle.demand_told.proofs.Tests.{found}
use Rattle.demand_told.proofs.Sane.{Tellable, HeldOf, Sane, alarm_time}

-- ---- identities
each_set : {A : Type 0} (P : A → Type 0) (d : A) (xs : List A) (i : ℕ) (x : A) → P x → ((k : ℕ) → P (get_or xs k d)) → (k : ℕ) → P (get_or (set xs i x) k d)
each_set P d [] i x p h k = h k
each_set P d (y ∷ xs) zero x p h zero = p
each_set P d (y ∷ xs) zero x p h (suc k) = h (suc k)
each_set P d (y ∷ xs) (suc i) x p h zero = h zero
each_set P d (y ∷ xs) (suc i) x p h (suc k) = each_set P d xs i x p (λ n. h (suc n)) k

pub sixteen_still : (bs : List ℕ) → SixteenBytes bs → SixteenBytes (version4_of bs)
sixteen_still bs h =
    let first = set bs 6 (0x40 + get_or bs 6 0 % 16) in
    record {
      sixteen = length-set first 8 (0x80 + get_or bs 8 0 % 64) ∙ length-set bs 6 (0x40 + get_or bs 6 0 % 16) ∙ h.sixteen;
      bytes =
          each_set (λ (b : ℕ). b < 256) 0 first 8 (0x80 + get_or bs 8 0 % 64) (omega arith)
          (each_set (λ (b : ℕ). b < 256) 0 bs 6 (0x40 + get_or bs 6 0 % 16) (omega arith) h.bytes);
    }

-- ---- what the table has
every_at : {A : Type 0} {P : A → Type 0} (d : A) (i : ℕ) {xs : List A} → Every P xs → i < length xs → P (get_or xs i d)
every_at d i end_of_lem h = absurd (omega arith)
every_at d zero (and_more p r) h = p
every_at d (suc i) (and_more p r) h = every_at d i r (omega arith)

event_small : (e : Event) → event_number e ≤ 2
event_small Issue = omega arith
event_small Acknowledge = omega arith
event_small Suspend = omega arith

module _ {edition : ℕ} (t : Table) (a : Allowed edition t) (id : Bytes) (sixteen : SixteenBytes id) where
  component_label : (c : ℕ) → c < length t.components → Label (component_text t c)
  component_label c h = record { label = every_at [] c a.components h }

  pub alarm_formed : (i : ℕ) (x : Alarm) → i < length t.alarms → x.time ≤ last_time → Formed (alarm_message t id i x)
  alarm_formed i x h timely =
      let row : IsAlarm (length t.components) (alarm_row t i) = every_at no_row i a.alarms h in
      formed_alarm sixteen (component_label (alarm_row t i).component row.component) (record { label = row.code })
      (record { time = timely; event = event_small x.event; category = row.category; lowest = row.lowest; highest = row.highest })

  pub aggregated_formed : (v time : ℕ) → v < 256 → time ≤ last_time → Formed (aggregated_message t id v time)
  aggregated_formed v time h timely = formed_aggregated sixteen (component_label 0 a.fewest_components) timely h

  record_formed : (c : Content) → Tellable t c → Formed (record_message t id c)
  record_formed (of_alarm i x) h = alarm_formed i x h.0 h.1
  record_formed (of_status i v old time) h =
      let row : IsStatus (length t.components) (status_row t i) = every_at no_row i a.statuses h.0 in
      formed_statuses sixteen (component_label (status_row t i).component row.component) h.1.1
      (one_status (record { code = record { label = row.code }; name = record { label = row.name }; value = h.1.0 old }) no_status)
  record_formed (of_aggregated v time) h = aggregated_formed v time h.0 h.1

-- ---- what is due is in the table
abbrev Known : Machine → Due → Type 0
Known m the_version = Unit {0}
Known m the_watchdog = Unit {0}
Known m the_aggregated = Unit {0}
Known m (the_alarm i) = i < length m.alarms
Known m (the_held h) = HeldOf m.setup.table h

abbrev KnownIf : Machine → Option Due → Type 0
KnownIf m none = Unit {0}
KnownIf m (some d) = Known m d

module _ (m : Machine) (s : Sane m) (l t : ℕ) where
  pass_known : eqb (life_at m l).pass 0 ≡ false → ltb (life_at m l).pass (pass_length m l) ≡ true → (life_at m l).pass - 1 < length m.alarms
  pass_known e f = go (is_primary m l) (ltb-true (life_at m l).pass (pass_length m l) f)
    where
      some_passed : (life_at m l).pass ≡ 0 → ⊥
      some_passed = eqb-false (life_at m l).pass 0 e

      go : (b : Bool) → (life_at m l).pass < pick b (suc (length m.alarms)) 1 → (life_at m l).pass - 1 < length m.alarms
      go true h = at_least (life_at m l).pass some_passed h
        where
          at_least : (n : ℕ) → (n ≡ 0 → ⊥) → n < suc (length m.alarms) → n - 1 < length m.alarms
          at_least zero z h = absurd (z refl)
          at_least (suc n) z h = omega arith
      go false h = absurd (some_passed (omega arith))

  record_known : (h : Held) → oldest_unsent m l ≡ some h → HeldOf m.setup.table h
  record_known h e = (found (λ (h : Held). both (eqb h.link l) (not h.sent)) m.pool.held h s.held e).0

  due_known : KnownIf m (due m l t)
  unfolding due due_up
  due_known =
      let k = life_at m l in
      picked (KnownIf m) (both (is_greeting k) (not k.versions.sent)) (some the_version) _ (λ e. tt)
      (λ e. picked (KnownIf m) (both (is_beating k) (not k.watchdogs.sent)) (some the_watchdog) _ (λ e. tt)
      (λ e. picked (KnownIf m) (is_up k) _ none
      (λ up. picked (KnownIf m) (leb (k.beat + 1000 * m.setup.period) t) (some the_watchdog) _ (λ e. tt)
      (λ e. picked (KnownIf m) (eqb k.pass 0) (some the_aggregated) _ (λ e. tt)
      (λ e. picked (KnownIf m) (ltb k.pass (pass_length m l)) (some (the_alarm (k.pass - 1))) _ (λ f. pass_known e f)
      (λ f. maybe_cases (KnownIf m) none (λ (h : Held). some (the_held h)) (oldest_unsent m l) (λ g. tt) record_known))))
      (λ n. tt)))

  pub due_formed : (id : Bytes) → SixteenBytes id → t ≤ last_time → (d : Due) → due m l t ≡ some d → Formed (due_message m t id d)
  due_formed id sixteen timely d e = go d (subst (KnownIf m) e due_known)
    where
      go : (d : Due) → Known m d → Formed (due_message m t id d)
      go the_version k = formed_version sixteen (record { label = s.table.site }) (record { label = s.table.sxl })
      go the_watchdog k = formed_watchdog sixteen timely
      go the_aggregated k = aggregated_formed m.setup.table s.table id sixteen m.aggregated m.aggregated_time s.aggregated s.aggregated_time_lem
      go (the_alarm i) k = alarm_formed m.setup.table s.table id sixteen i (alarm_at m i) (omega (arith, k, s.alarm_count)) (alarm_time s i)
      go (the_held h) k = record_formed m.setup.table s.table id sixteen h.content k
