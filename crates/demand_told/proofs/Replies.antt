-- A reply is written in Up alone: in Greeting its packet is ignored, in Beating it is "Not ready".
-- Assumes nothing.
use Rattle.basis.proofs.Std.{ℕ, ◌≤◌, String, ◌≡◌, refl, Bool, true, false, not, List, [], ◌∷◌, ◌++◌, Option, some, none, length, arith, pick, both, same_bytes, Among, text, picked, same_true, not_both}
use Rattle.basis.specs.Lists.Among.{first, later}
use Rattle.json_value.specs.Grammar.{Json}
use Rattle.write_message.specs.Message.{Message}
use Rattle.write_message.specs.Message.Message.{ack, not_ack}
use Rattle.machine.specs.Words.{Bytes, maybe, Case, first_of}
use Rattle.machine.specs.State.{Life, Machine, life_at, Effect}
use Rattle.machine.specs.Json.{string_at, is_type, is_included, asks_for}
use Rattle.machine.specs.Life.{is_over, is_down, is_greeting, is_beating, is_up}
use Rattle.machine.specs.Answers.{is_answer, is_readable, is_ignored, wants_reply, replies_at_once, reasons, reason_of, fails_check}
use Rattle.machine.specs.Effects.{closes, refuses, carried_out, replying, receives}
use Rattle.demand_held.proofs.Lists.{maybe_cases}
use Rattle.demand_told.specs.Demand.{is_told}
use Rattle.demand_told.proofs.Written.{quiet_answered}

pub nobody : {A : Type 0} {x : A} → Among x [] → ⊥
nobody a = let some_there : 1 ≤ 0 = counted a in omega arith
  where
    counted : {A : Type 0} {x : A} {xs : List A} → Among x xs → 1 ≤ length xs
    counted first = omega arith
    counted (later a) = omega (arith, counted a)

first_no : {A : Type 0} (b : Bool) (x : A) (rest : Option A) → pick b (some x) rest ≡ none → (b ≡ false) × (rest ≡ none)
first_no true x rest e = absurd (let z : ◌≡◌ {A = ℕ} 0 1 = cc in omega arith)
first_no false x rest e = (refl, e)

-- where none applies, each does not
pub none_at : {A : Type 0} {k : Case A} (ks : List (Case A)) → first_of ks ≡ none → Among k ks → k.applies ≡ false
none_at {A = A} {k = k} [] e x'' = elim x'' [ ]
none_at (k ∷ ks) e first = (first_no k.applies k.gives (first_of ks) e).0
none_at (x ∷ ks) e (later a) = none_at ks (first_no x.applies x.gives (first_of ks) e).1 a

-- ---- a packet has one type
abbrev type_is : Bytes → Json → Bool
type_is s j = maybe false (λ (x : Bytes). same_bytes x s) (string_at "type" j)

no_other : (s u : Bytes) → same_bytes s u ≡ false → (j : Json) → type_is s j ≡ true → type_is u j ≡ false
no_other s u other j e = go (string_at "type" j) e
  where
    go : (o : Option Bytes) → maybe false (λ (x : Bytes). same_bytes x s) o ≡ true → maybe false (λ (x : Bytes). same_bytes x u) o ≡ false
    go none f = refl
    go (some x) f = rw (same_true x s f) other

pub one_type : (a b : String) → same_bytes (text a) (text b) ≡ false → (j : Json) → is_type a j ≡ true → is_type b j ≡ false
one_type a b other j e = no_other (text a) (text b) other j e

abbrev pub with_ack : String → Bytes
with_ack a = text a ++ text "AckIncluded"

pub not_included : (a b : String) → same_bytes (text a) (with_ack b) ≡ false → (j : Json) → is_type a j ≡ true → is_included b j ≡ false
not_included a b other j e = no_other (text a) (with_ack b) other j e

pub included_only : (a b : String) → same_bytes (with_ack a) (text b) ≡ false → (j : Json) → is_included a j ≡ true → is_type b j ≡ false
included_only a b other j e = no_other (with_ack a) (text b) other j e

-- .. and so has one that is of either form
pub asks_old : (a : String) (j : Json) → is_type a j ≡ true → asks_for a j ≡ true
asks_old a j e = rw e

pub asks_new : (a : String) (j : Json) → is_included a j ≡ true → asks_for a j ≡ true
asks_new a j e = picked (λ (b : Bool). b ≡ true) (is_type a j) true (is_included a j) (λ f. refl) (λ f. e)

either : {P : Type 0} (a b : Bool) → pick a true b ≡ true → (a ≡ true → P) → (b ≡ true → P) → P
either true b e f g = f refl
either false b e f g = g e

pub either_form : {P : Type 0} (a : String) (j : Json) → asks_for a j ≡ true → (is_type a j ≡ true → P) → (is_included a j ≡ true → P) → P
either_form a j e f g = either (is_type a j) (is_included a j) e f g

pub asks_only : (a b : String) → same_bytes (text a) (text b) ≡ false → same_bytes (with_ack a) (text b) ≡ false → (j : Json) → asks_for a j ≡ true → is_type b j ≡ false
asks_only a b x y j e = either_form a j e (one_type a b x j) (included_only a b y j)

pub asks_nothing_else : (a b : String) → same_bytes (text a) (with_ack b) ≡ false → same_bytes (with_ack a) (with_ack b) ≡ false → (j : Json) → asks_for a j ≡ true → is_included b j ≡ false
asks_nothing_else a b x y j e = either_form a j e (not_included a b x j) (no_other (with_ack a) (with_ack b) y j)

-- one whose response is its answer is of no other type
pub at_once : {P : Type 0} (j : Json) → replies_at_once j ≡ true → (is_included "StatusRequest" j ≡ true → P) → (is_included "CommandRequest" j ≡ true → P) → P
at_once j e f g = either (is_included "StatusRequest" j) (is_included "CommandRequest" j) e f g

pub at_once_only : (b : String) → same_bytes (with_ack "StatusRequest") (text b) ≡ false → same_bytes (with_ack "CommandRequest") (text b) ≡ false → (j : Json) → replies_at_once j ≡ true → is_type b j ≡ false
at_once_only b x y j e = at_once j e (included_only "StatusRequest" b x j) (included_only "CommandRequest" b y j)

pub not_at_once : (a : String) → same_bytes (text a) (with_ack "StatusRequest") ≡ false → same_bytes (text a) (with_ack "CommandRequest") ≡ false → (j : Json) → is_type a j ≡ true → replies_at_once j ≡ false
not_at_once a x y j e = rw (not_included a "StatusRequest" x j e, not_included a "CommandRequest" y j e)

abbrev pub NoGreeting : Json → Type 0
NoGreeting j = (is_type "Version" j ≡ false) × (is_type "Watchdog" j ≡ false)

pub no_greeting : (a : String) → same_bytes (text a) (text "Version") ≡ false → same_bytes (text a) (text "Watchdog") ≡ false → (j : Json) → is_type a j ≡ true → NoGreeting j
no_greeting a v w j e = (one_type a "Version" v j e, one_type a "Watchdog" w j e)

pub asks : (m : Machine) (l : ℕ) (j : Json) → wants_reply m l j ≡ true → NoGreeting j
asks m l j e = go (is_type "Alarm" j) _ (is_type "AggregatedStatusRequest" j) (is_type "StatusRequest" j) (is_type "CommandRequest" j) refl refl refl refl e
  where
    go : (a b c d f : Bool) → is_type "Alarm" j ≡ a → is_type "AggregatedStatusRequest" j ≡ c → is_type "StatusRequest" j ≡ d → is_type "CommandRequest" j ≡ f
        → pick (both a b) true (pick c true (pick d true f)) ≡ true → NoGreeting j
    go true b c d f x y z w e = no_greeting "Alarm" refl refl j x
    go false b true d f x y z w e = no_greeting "AggregatedStatusRequest" refl refl j y
    go false b false true f x y z w e = no_greeting "StatusRequest" refl refl j z
    go false b false false true x y z w e = no_greeting "CommandRequest" refl refl j w
    go false b false false false x y z w e = not_both e refl

-- ---- what is told is a reply
only_ack : (w : Message) (a : Bytes) → Among w (ack a ∷ []) → is_told w ≡ true → ⊥
only_ack w a (later x4) u = elim x4 [ ]
only_ack w a first u = not_both u refl

only_not_ack : (w : Message) (a r : Bytes) → Among w (not_ack a r ∷ []) → is_told w ≡ true → ⊥
only_not_ack w a r (later x4) u = elim x4 [ ]
only_not_ack w a r first u = not_both u refl

abbrev Telling : Message → Effect → Type 0 → Type 0
Telling w e P = Among w e.messages → is_told w ≡ true → P

tells_replying : (l t : ℕ) (id : Bytes) (j : Json) (e : Effect) (w : Message) → Telling w (replying l t id j e) (NoGreeting j)
unfolding replying
tells_replying l t id j e w =
    picked (λ (x : Effect). Telling w x (NoGreeting j)) (replies_at_once j) _ _
    (λ h a u. (at_once_only "Version" refl refl j h, at_once_only "Watchdog" refl refl j h))
    (λ o. picked (λ (x : Effect). Telling w x (NoGreeting j)) (wants_reply e.leaves l j) _ _
    (λ h a u. asks e.leaves l j h)
    (λ h a u. absurd (only_ack w _ a u)))

tells_refuses : (l : ℕ) (j : Json) (m : Machine) (reason : String) (w : Message) → Telling w (refuses l j m reason) ⊥
unfolding refuses closes
tells_refuses l j m reason w =
    picked (λ (x : Effect). Telling w x ⊥) (fails_check reason) _ _
    (λ h a u. only_not_ack w _ _ a u)
    (λ h a u. only_not_ack w _ _ a u)

pub record Replied (m : Machine) (l : ℕ) (j : Json) : Type 0 where
  pub other : is_answer j ≡ false
  pub reason : reason_of m l j ≡ none
  pub asked : NoGreeting j

pub tells_received : (l t : ℕ) (id : Bytes) (m : Machine) (j : Json) (w : Message) → Telling w (receives l t id m j) (Replied m l j)
unfolding receives
tells_received l t id m j w =
    picked (λ (x : Effect). Telling w x (Replied m l j)) (is_answer j) _ _
    (λ e a u. absurd (nobody (rw (quiet_answered l j m) at a)))
    (λ e. maybe_cases (λ (x : Effect). Telling w x (Replied m l j)) _ _ (reason_of m l j)
    (λ f a u. record { other = e; reason = f; asked = tells_replying l t id j (carried_out l t j m) w a u })
    (λ reason f a u. absurd (tells_refuses l j m reason w a u)))

-- ---- the phase
pub not_greeting : (k : Life) (j : Json) → is_answer j ≡ false → is_type "Version" j ≡ false → is_ignored k (some j) ≡ false → is_greeting k ≡ false
unfolding is_ignored
not_greeting k j other version e = go (is_answer j) _ (is_readable j) (is_greeting k) (is_type "Version" j) e other version
  where
    go : (a x r g v : Bool) → pick a x (pick (not r) true (both g (not v))) ≡ false → a ≡ false → v ≡ false → g ≡ false
    go true x r g v e p q = not_both refl p
    go false x true true true e p q = not_both refl q
    go false x true true false e p q = not_both refl e
    go false x true false v e p q = refl
    go false x false g v e p q = not_both refl e

pub up_when : (k : Life) (w : Bool) → is_down k ≡ false → is_greeting k ≡ false → both (is_beating k) (not w) ≡ false → w ≡ false → is_up k ≡ true
up_when k w down greeting beating watchdog = go k.connected (is_over k.versions) (is_over k.watchdogs) w down greeting beating watchdog
  where
    go : (c v x w : Bool) → not c ≡ false → both c (not v) ≡ false → both (both c (both v (not x))) (not w) ≡ false → w ≡ false → both c (both v x) ≡ true
    go false v x w d g b q = not_both refl d
    go true false x w d g b q = not_both refl g
    go true true true w d g b q = refl
    go true true false true d g b q = not_both refl q
    go true true false false d g b q = not_both refl b

-- a packet that is not ignored and that no reason refuses, on a link that is not Down
pub replied_up : (m : Machine) (l : ℕ) (j : Json) → Replied m l j → is_down (life_at m l) ≡ false → is_ignored (life_at m l) (some j) ≡ false → is_up (life_at m l) ≡ true
unfolding reasons
replied_up m l j r down ignored =
    up_when (life_at m l) (is_type "Watchdog" j) down
    (not_greeting (life_at m l) j r.other r.asked.0 ignored)
    (none_at (reasons m l j) r.reason (later (later (later first))))
    r.asked.1
