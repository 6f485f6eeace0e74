-- Which calls write a Version or a Watchdog of ours, and which bring a packet.
-- Assumes nothing.
use Rattle.basis.proofs.Std.{ℕ, ◌≡◌, refl, subst, Bool, true, false, List, [], ◌∷◌, some, ◌⊎◌, inl, inr, arith, eq-eqb, both, Among, picked, not_both}
use Rattle.basis.specs.Lists.Among.{first, later}
use Rattle.json_value.specs.Grammar.{Json}
use Rattle.table_whole.specs.Table.{Table}
use Rattle.write_message.specs.Message.{Message}
use Rattle.write_message.specs.Message.Message.{version, watchdog, ack, not_ack, alarm, aggregated, statuses, included}
use Rattle.machine.specs.Words.{Bytes, is_number}
use Rattle.machine.specs.State.{Content, Machine, Act, Outcome}
use Rattle.machine.specs.State.Content.{of_alarm, of_status, of_aggregated}
use Rattle.machine.specs.State.Act.{packet, pump}
use Rattle.machine.specs.State.Outcome.{refused, done}
use Rattle.machine.specs.Json.{read_packet, is_type, is_included}
use Rattle.machine.specs.Messages.{record_message, included_message}
use Rattle.machine.specs.Effects.{reply_message}
use Rattle.machine.specs.Run.{Past}
use Rattle.demand_told.specs.Demand.{messages_of, link_of}
use Rattle.demand_told.specs.Life.{is_done, going_on}
use Rattle.demand_told.specs.Greeted.{Within, IsVersion, IsWatchdog, Wrote, Came}
use Rattle.demand_told.specs.Greeted.Within.{latest, earlier}
use Rattle.demand_told.specs.Greeted.IsVersion.{is_version}
use Rattle.demand_told.specs.Greeted.IsWatchdog.{is_watchdog}
use Rattle.demand_told.specs.Greeted.Wrote.{wrote}
use Rattle.demand_told.specs.Greeted.Came.{came}
use Rattle.demand_told.proofs.Replies.{nobody}
use Rattle.demand_taken.proofs.Lived.{Elsewhere}

-- 1 Version, 2 Watchdog, 0 any other
abbrev pub kind : Message → ℕ
kind (version id site sxl) = 1
kind (watchdog id t) = 2
kind (ack id) = 0
kind (not_ack id reason) = 0
kind (alarm id component code state) = 0
kind (aggregated id component t v) = 0
kind (statuses told id component t entries) = 0
kind (included told received component t entries) = 0

pub version_kind : {id : Bytes} {w : Message} → IsVersion id w → kind w ≡ 1
version_kind is_version = refl

pub watchdog_kind : {id : Bytes} {w : Message} → IsWatchdog id w → kind w ≡ 2
watchdog_kind is_watchdog = refl

pub record_kind : (t : Table) (id : Bytes) (x : Content) → kind (record_message t id x) ≡ 0
record_kind t id (of_alarm i a) = refl
record_kind t id (of_status i v old time) = refl
record_kind t id (of_aggregated v time) = refl

pub reply_kind : (n : Machine) (t : ℕ) (id : Bytes) (j : Json) → kind (reply_message n t id j) ≡ 0
reply_kind n t id j =
    picked (λ (w : Message). kind w ≡ 0) (is_type "Alarm" j) _ _ (λ e. refl)
    (λ e. picked (λ (w : Message). kind w ≡ 0) (is_type "AggregatedStatusRequest" j) _ _ (λ f. refl)
    (λ f. picked (λ (w : Message). kind w ≡ 0) (is_type "CommandRequest" j) _ _ (λ g. refl) (λ g. refl)))

pub response_kind : (n : Machine) (t : ℕ) (j : Json) → kind (included_message n t j) ≡ 0
response_kind n t j = picked (λ (w : Message). kind w ≡ 0) (is_included "CommandRequest" j) _ _ (λ e. refl) (λ e. refl)

-- messages none of which is either
abbrev pub Silent : List Message → Type 0
Silent ms = (w : Message) → Among w ms → kind w ≡ 0

pub silent_none : Silent []
silent_none w a = absurd (nobody a)

pub silent_one : (x : Message) → kind x ≡ 0 → Silent (x ∷ [])
silent_one x e w (later x4) = elim x4 [ ]
silent_one x e w first = e

pub silent_two : (x y : Message) → kind x ≡ 0 → kind y ≡ 0 → Silent (x ∷ y ∷ [])
silent_two x y e f w (later (later x7)) = elim x7 [ ]
silent_two x y e f w first = e
silent_two x y e f w (later first) = f

pub one_kind : {n : ℕ} {w : Message} (x : Message) → kind x ≡ n → Among w (x ∷ []) → kind w ≡ n
one_kind {n = n} {w = w} x e (later x4) = elim x4 [ ]
one_kind x e first = e

module _ {l : ℕ} {p : Past} {before : List Past} {ms : List Message} (gave : messages_of p.gave ≡ ms) (silent : Silent ms) where
  pub no_version_in : {id : Bytes} → Wrote l (IsVersion id) p before → ⊥
  no_version_in (wrote {w} on a is) = omega (arith, version_kind is, silent w (subst (Among w) gave a))

  pub no_watchdog_in : {id : Bytes} → Wrote l (IsWatchdog id) p before → ⊥
  no_watchdog_in (wrote {w} on a is) = omega (arith, watchdog_kind is, silent w (subst (Among w) gave a))

-- ---- a call of another link, or one that is not done
not_done : (o : Outcome) {w : Message} → is_done o ≡ false → Among w (messages_of o) → ⊥
not_done (refused n) e a = nobody a
not_done (done messages closed hint commands) e a = not_both refl e

own_link : (l : ℕ) (act : Act) → link_of act ≡ some l → is_number l (link_of act) ≡ true
own_link l act e = rw e (eq-eqb l l refl)

elsewhere_done : (a b : Bool) → both a b ≡ false → b ≡ true → a ≡ false
elsewhere_done true b e f = not_both f e
elsewhere_done false b e f = refl

pub wrote_elsewhere : {l : ℕ} {p : Past} {before : List Past} {Is : Message → Type 0} → Elsewhere l p → Wrote l Is p before → ⊥
wrote_elsewhere {l} {p} e (wrote {w} on a is) = not_done p.gave (elsewhere_done (is_done p.gave) _ e (own_link l p.call.act on)) a

pub came_elsewhere : {l : ℕ} {p : Past} {j : Json} → Elsewhere l p → Came l j p → ⊥
came_elsewhere {l} {p} e (came is read gave) =
    not_both (rw gave) (elsewhere_done (is_done p.gave) _ e (own_link l p.call.act (rw is)))

-- ---- a packet call brings one value, a pump none
pub its_value : {l room : ℕ} {random bytes : Bytes} {p : Past} {i j : Json} → p.call.act ≡ packet l random bytes room → read_packet bytes ≡ some j → Came l i p → i ≡ j
its_value {bytes = bytes} this read (came {bytes = b} f r g) = let same : b ≡ bytes = cc in cc

pub no_packet : {l room : ℕ} {random : Bytes} {p : Past} {i : Json} → p.call.act ≡ pump l random room → Came l i p → ⊥
no_packet this (came f r g) = let z : ◌≡◌ {A = ℕ} 0 1 = cc in omega arith

-- ---- a life that goes on
pub nothing_within : {Is : Past → List Past → Type 0} {life : List Past} → Within Is life → life ≡ [] → ⊥
nothing_within (latest a) e = let z : ◌≡◌ {A = ℕ} 0 1 = cc in omega arith
nothing_within (earlier a) e = let z : ◌≡◌ {A = ℕ} 0 1 = cc in omega arith

pub within_cases : {Is : Past → List Past → Type 0} (p : Past) (life : List Past) → Within Is (going_on p life) → Is p life ⊎ Within Is life
within_cases p [] w = absurd (nothing_within w refl)
within_cases p (q ∷ life) (latest a) = inl a
within_cases p (q ∷ life) (earlier a) = inr a

pub first_within : {Is : Past → List Past → Type 0} (p : Past) → Within Is (p ∷ []) → Is p []
first_within p (latest a) = a
first_within p (earlier a) = absurd (nothing_within a refl)
