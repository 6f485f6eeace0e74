-- Before a link is Up, our Version and then our Watchdog are alone in being awaited, under the identities that they were written with.
-- Assumes nothing.
use Rattle.basis.proofs.Std.{ℕ, ◌+◌, ◌*◌, ◌≡◌, refl, sym, ◌∙◌, ap, subst, Bool, true, false, not, List, [], ◌∷◌, ◌++◌, Option, some, none, ◌⊎◌, inl, inr, eqb, ltb, leb, arith, pick, both, Among, bool_cases, picked, not_both, both_true, both_of}
use Rattle.basis.specs.Lists.Among.{first}
use Rattle.write_message.specs.Message.{Message}
use Rattle.machine.specs.Words.{Bytes, but_first}
use Rattle.machine.specs.State.{Sent, Awaited, Life, fresh, Start, Machine, life_at, Act}
use Rattle.machine.specs.State.Sent.{own_version, own_watchdog, no_record, the_record}
use Rattle.machine.specs.State.Act.{connect, pump}
use Rattle.machine.specs.Json.{string_of, is_type, is_identity_of}
use Rattle.machine.specs.Life.{is_over, is_greeting, is_beating, is_up, awaited_by, awaiting, answered_to, oldest_unsent, pass_length, Due, due_up, due}
use Rattle.machine.specs.Life.Due.{the_version, the_watchdog, the_aggregated, the_alarm, the_held}
use Rattle.machine.specs.Effects.{own_identity, due_message, sent_as, after_sending, answer_closes, acknowledges}
use Rattle.machine.specs.Run.{Past, Run}
use Rattle.demand_held.proofs.Lists.{maybe_cases}
use Rattle.demand_told.specs.Demand.{messages_of}
use Rattle.demand_told.specs.Life.{going_on, this_life}
use Rattle.demand_told.specs.Greeted.{Within, IsVersion, IsWatchdog, Wrote}
use Rattle.demand_told.specs.Greeted.IsVersion.{is_version}
use Rattle.demand_told.specs.Greeted.IsWatchdog.{is_watchdog}
use Rattle.demand_told.specs.Greeted.Wrote.{wrote}
use Rattle.demand_told.proofs.Tests.{found}
use Rattle.demand_told.proofs.Kept.{Backed, still, now}
use Rattle.demand_told.proofs.GreetedDemand.{run_kept}
use Rattle.demand_taken.proofs.Moves.{Turned}
use Rattle.demand_taken.proofs.Moves.Turned.{sent, answered_by, turned_down, accepted, beaten, taken, replied, responded}
use Rattle.demand_taken.proofs.Lived.{Elsewhere, Goes, by_life}
use Rattle.demand_taken.proofs.Said.{watchdog_kind, one_kind, response_kind, Silent, silent_none, silent_one, no_version_in, no_watchdog_in, wrote_elsewhere, nothing_within, within_cases, first_within}

pub record Alone (id : Bytes) (message : Sent) (ids : List Awaited) : Type 0 where
  pub time : ℕ
  pub is : ids ≡ record { identity = id; time = time; message = message } ∷ []

one_only : {A : Type 0} {w : A} (x : A) → Among w (x ∷ []) → w ≡ x
one_only {A = A} {w = w} x (Rattle.basis.specs.Lists.later x4) = elim x4 [ ]
one_only x first = refl

-- ---- what is due, and when
abbrev When : Life → Due → Type 0
When k the_version = (is_greeting k ≡ true) × (k.versions.sent ≡ false)
When k the_watchdog = ((is_beating k ≡ true) × (k.watchdogs.sent ≡ false)) ⊎ (is_up k ≡ true)
When k the_aggregated = is_up k ≡ true
When k (the_alarm i) = is_up k ≡ true
When k (the_held h) = is_up k ≡ true

-- of what is due in Up
up_when : (k : Life) (d : Due) → is_up k ≡ true → (d ≡ the_version → ⊥) → When k d
up_when k the_version up n = absurd (n refl)
up_when k the_watchdog up n = inr up
up_when k the_aggregated up n = up
up_when k (the_alarm i) up n = up
up_when k (the_held h) up n = up

abbrev NoVersion : Option Due → Type 0
NoVersion o = o ≡ some the_version → ⊥

up_no_version : (m : Machine) (l t : ℕ) (k : Life) → NoVersion (due_up m l t k)
unfolding due_up
up_no_version m l t k =
    picked NoVersion (leb (k.beat + 1000 * m.setup.period) t) _ _ (λ e f. let z : ◌≡◌ {A = ℕ} 0 1 = cc in omega arith)
    (λ e. picked NoVersion (eqb k.pass 0) _ _ (λ e f. let z : ◌≡◌ {A = ℕ} 0 1 = cc in omega arith)
    (λ e. picked NoVersion (ltb k.pass (pass_length m l)) _ _ (λ e f. let z : ◌≡◌ {A = ℕ} 0 1 = cc in omega arith)
    (λ e. maybe_cases NoVersion none _ (oldest_unsent m l) (λ e f. let z : ◌≡◌ {A = ℕ} 0 1 = cc in omega arith) (λ x e f. let z : ◌≡◌ {A = ℕ} 0 1 = cc in omega arith))))

same_due : (c d : Due) → some c ≡ some d → c ≡ d
same_due c d e = cc

abbrev DueWhen : Life → Option Due → Type 0
DueWhen k o = (d : Due) → o ≡ some d → When k d

due_when : (m : Machine) (l t : ℕ) → DueWhen (life_at m l) (due m l t)
unfolding due
due_when m l t =
    let k = life_at m l in
    picked (DueWhen k) (both (is_greeting k) (not k.versions.sent)) (some the_version) _
    (λ e d f. let p = both_true (is_greeting k) _ e in subst (When k) (same_due the_version d f) (p.0, not_so k.versions.sent p.1))
    (λ e. picked (DueWhen k) (both (is_beating k) (not k.watchdogs.sent)) (some the_watchdog) _
    (λ e d f. let p = both_true (is_beating k) _ e in subst (When k) (same_due the_watchdog d f) (inl (p.0, not_so k.watchdogs.sent p.1)))
    (λ e. picked (DueWhen k) (is_up k) (due_up m l t k) none
    (λ up d f. up_when k d up (λ q. up_no_version m l t k (f ∙ ap some q)))
    (λ e d f. absurd (let z : ◌≡◌ {A = ℕ} 0 1 = cc in omega arith))))
  where
    not_so : (b : Bool) → not b ≡ true → b ≡ false
    not_so true e = not_both refl (sym e)
    not_so false e = refl

-- ---- an answer that closes nothing
record Acked (k x : Life) (message : Sent) : Type 0 where
  connected : x.connected ≡ k.connected
  awaited : x.awaited ≡ k.awaited
  version_sent : x.versions.sent ≡ k.versions.sent
  version_taken : x.versions.taken ≡ k.versions.taken
  watchdog_sent : x.watchdogs.sent ≡ k.watchdogs.sent
  version_before : x.versions.acknowledged ≡ true → (k.versions.acknowledged ≡ true) ⊎ (message ≡ own_version)
  version_still : k.versions.acknowledged ≡ true → x.versions.acknowledged ≡ true
  version_now : message ≡ own_version → x.versions.acknowledged ≡ true
  watchdog_before : x.watchdogs.acknowledged ≡ true → (k.watchdogs.acknowledged ≡ true) ⊎ (message ≡ own_watchdog)
  watchdog_still : k.watchdogs.acknowledged ≡ true → x.watchdogs.acknowledged ≡ true
  watchdog_now : message ≡ own_watchdog → (x.watchdogs.acknowledged ≡ true) ⊎ (is_beating k ≡ false)

unmoved : (message : Sent) (k : Life) → (message ≡ own_version → ⊥) → (message ≡ own_watchdog → is_beating k ≡ false) → Acked k k message
unmoved message k no_version no_beat =
    record {
      connected = refl;
      awaited = refl;
      version_sent = refl;
      version_taken = refl;
      watchdog_sent = refl;
      version_before = λ f. inl f;
      version_still = λ f. f;
      version_now = λ f. absurd (no_version f);
      watchdog_before = λ f. inl f;
      watchdog_still = λ f. f;
      watchdog_now = λ f. inr (no_beat f);
    }

acked : (is_ack : Bool) (message : Sent) (k : Life) → answer_closes k is_ack message ≡ false → Acked k (acknowledges is_ack message k) message
acked true own_version k e =
    record {
      connected = refl;
      awaited = refl;
      version_sent = refl;
      version_taken = refl;
      watchdog_sent = refl;
      version_before = λ f. inr refl;
      version_still = λ f. refl;
      version_now = λ f. refl;
      watchdog_before = λ f. inl f;
      watchdog_still = λ f. f;
      watchdog_now = λ f. absurd (let z : ◌≡◌ {A = ℕ} 0 1 = cc in omega arith);
    }
acked false own_version k e = not_both refl e
acked true own_watchdog k e =
    record {
      connected = refl;
      awaited = refl;
      version_sent = refl;
      version_taken = refl;
      watchdog_sent = refl;
      version_before = λ f. inl f;
      version_still = λ f. f;
      version_now = λ f. absurd (let z : ◌≡◌ {A = ℕ} 0 1 = cc in omega arith);
      watchdog_before = λ f. inr refl;
      watchdog_still = λ f. refl;
      watchdog_now = λ f. inl refl;
    }
acked false own_watchdog k e = unmoved own_watchdog k (λ f. let z : ◌≡◌ {A = ℕ} 0 1 = cc in omega arith) (λ f. e)
acked is_ack no_record k e = unmoved no_record k (λ f. let z : ◌≡◌ {A = ℕ} 0 1 = cc in omega arith) (λ f. absurd (let z : ◌≡◌ {A = ℕ} 0 1 = cc in omega arith))
acked is_ack (the_record n) k e = unmoved (the_record n) k (λ f. let z : ◌≡◌ {A = ℕ} 0 1 = cc in omega arith) (λ f. absurd (let z : ◌≡◌ {A = ℕ} 0 1 = cc in omega arith))

-- ---- the invariant
module _ (l : ℕ) where
  pub record Went (life : List Past) : Type 0 where
    pub id : Bytes
    pub within : Within (Wrote l (IsVersion id)) life

  pub record Greets (k : Life) (life : List Past) : Type 0 where
    pub went : k.versions.sent ≡ true → Went life
    pub there : k.connected ≡ false → life ≡ []
    pub version_out : k.versions.acknowledged ≡ true → k.versions.sent ≡ true
    pub watchdog_out : k.watchdogs.acknowledged ≡ true → k.watchdogs.sent ≡ true
    pub unsent : k.versions.sent ≡ false → k.awaited ≡ []
    pub unbeaten : k.versions.acknowledged ≡ true → k.watchdogs.sent ≡ false → k.awaited ≡ []
    pub version : (id : Bytes) → Within (Wrote l (IsVersion id)) life → (k.versions.sent ≡ true) × (k.versions.acknowledged ≡ false → Alone id own_version k.awaited)
    pub watchdog : (id : Bytes) → Within (Wrote l (IsWatchdog id)) life
        → (is_over k.versions ≡ true) × ((k.watchdogs.sent ≡ true) × (k.watchdogs.acknowledged ≡ false → Alone id own_watchdog k.awaited))

  down : Greets (fresh false) []
  down =
      record {
        went = λ e. not_both e refl;
        there = λ e. refl;
        version_out = λ e. not_both e refl;
        watchdog_out = λ e. not_both e refl;
        unsent = λ e. refl;
        unbeaten = λ e. not_both e refl;
        version = λ id w. absurd (nothing_within w refl);
        watchdog = λ id w. absurd (nothing_within w refl);
      }

  opened : (p : Past) → p.call.act ≡ connect l → messages_of p.gave ≡ [] → Greets (fresh true) (p ∷ [])
  opened p is gave =
      record {
        went = λ e. not_both e refl;
        there = λ e. not_both refl e;
        version_out = λ e. not_both e refl;
        watchdog_out = λ e. not_both e refl;
        unsent = λ e. refl;
        unbeaten = λ e. not_both e refl;
        version = λ id w. absurd (no_version_in gave silent_none (first_within p w));
        watchdog = λ id w. absurd (no_watchdog_in gave silent_none (first_within p w));
      }

  -- nothing of it was written in this call
  back : {Is : Past → List Past → Type 0} (p : Past) (life : List Past) → (Is p life → ⊥) → Within Is (going_on p life) → Within Is life
  back {Is} p life n w = go (within_cases p life w)
    where
      go : Is p life ⊎ Within Is life → Within Is life
      go (inl a) = absurd (n a)
      go (inr a) = a

  still_went : (p : Past) {life : List Past} → Went life → Went (going_on p life)
  still_went p w = record { id = w.id; within = still p w.within }

  none_on : (p : Past) (life : List Past) → life ≡ [] → going_on p life ≡ []
  none_on p [] e = refl
  none_on p (q ∷ life) e = absurd (let z : ◌≡◌ {A = ℕ} 0 1 = cc in omega arith)

  elsewhere : (k : Life) (life : List Past) (p : Past) → Elsewhere l p → Greets k life → Greets k (going_on p life)
  elsewhere k life p e g =
      record {
        went = λ f. still_went p (g.went f);
        there = λ f. none_on p life (g.there f);
        version_out = g.version_out;
        watchdog_out = g.watchdog_out;
        unsent = g.unsent;
        unbeaten = g.unbeaten;
        version = λ id w. g.version id (back p life (wrote_elsewhere e) w);
        watchdog = λ id w. g.watchdog id (back p life (wrote_elsewhere e) w);
      }

  module _ (m : Machine) (p : Past) (life : List Past) (g : Greets (life_at m l) life) (connected : (life_at m l).connected ≡ true) (lives : life ≡ [] → ⊥) where
    abbrev k : Life
    k = life_at m l

    abbrev Goal : Life → Type 0
    Goal x = Greets x (going_on p life)

    -- ---- a life of the same flags and the same awaited, that wrote neither
    record Alike (x : Life) : Type 0 where
      connected_same : x.connected ≡ k.connected
      version_sent : x.versions.sent ≡ k.versions.sent
      version_acked : x.versions.acknowledged ≡ k.versions.acknowledged
      over : is_over k.versions ≡ true → is_over x.versions ≡ true
      watchdog_sent : x.watchdogs.sent ≡ k.watchdogs.sent
      watchdog_acked : x.watchdogs.acknowledged ≡ k.watchdogs.acknowledged
      awaited : x.awaited ≡ k.awaited

    alike : {ms : List Message} → messages_of p.gave ≡ ms → Silent ms → (x : Life) → Alike x → Goal x
    alike gave silent x a =
        record {
          went = λ f. still_went p (g.went (sym a.version_sent ∙ f));
          there = λ f. none_on p life (g.there (sym a.connected_same ∙ f));
          version_out = λ f. a.version_sent ∙ g.version_out (sym a.version_acked ∙ f);
          watchdog_out = λ f. a.watchdog_sent ∙ g.watchdog_out (sym a.watchdog_acked ∙ f);
          unsent = λ f. a.awaited ∙ g.unsent (sym a.version_sent ∙ f);
          unbeaten = λ f q. a.awaited ∙ g.unbeaten (sym a.version_acked ∙ f) (sym a.watchdog_sent ∙ q);
          version = λ id w.
              let v = g.version id (back p life (no_version_in gave silent) w) in
              (a.version_sent ∙ v.0, λ f. subst (Alone id own_version) (sym a.awaited) (v.1 (sym a.version_acked ∙ f)));
          watchdog = λ id w.
              let v = g.watchdog id (back p life (no_watchdog_in gave silent) w) in
              (a.over v.0, (a.watchdog_sent ∙ v.1.0, λ f. subst (Alone id own_watchdog) (sym a.awaited) (v.1.1 (sym a.watchdog_acked ∙ f))));
        }

    same : Alike k
    same = record { connected_same = refl; version_sent = refl; version_acked = refl; over = λ e. e; watchdog_sent = refl; watchdog_acked = refl; awaited = refl }

    -- ---- on an Up link both are acknowledged, so that whatever is awaited may be
    record Flags : Type 0 where
      version_acked : k.versions.acknowledged ≡ true
      version_taken : k.versions.taken ≡ true
      watchdog_acked : k.watchdogs.acknowledged ≡ true

    flags : is_up k ≡ true → Flags
    flags up =
        let a = both_true k.connected _ up in
        let b = both_true (is_over k.versions) _ a.1 in
        let v = both_true k.versions.acknowledged _ b.0 in
        let w = both_true k.watchdogs.acknowledged _ b.1 in
        record { version_acked = v.0; version_taken = v.1; watchdog_acked = w.0 }

    ups : is_up k ≡ true → (x : Life) → x.connected ≡ k.connected → x.versions ≡ k.versions → x.watchdogs.sent ≡ true → x.watchdogs.acknowledged ≡ true → Goal x
    ups up x c v s w =
        let f = flags up in
        record {
          went = λ e. still_went p (g.went (g.version_out f.version_acked));
          there = λ e. absurd (not_both connected (sym c ∙ e));
          version_out = λ e. rw v (g.version_out f.version_acked);
          watchdog_out = λ e. s;
          unsent = λ e. not_both (g.version_out f.version_acked) (rw v at e);
          unbeaten = λ e q. not_both s q;
          version = λ id q. (rw v (g.version_out f.version_acked), λ e. not_both f.version_acked (rw v at e));
          watchdog = λ id q. (rw (v, f.version_acked) f.version_taken, (s, λ e. not_both w e));
        }

    -- ---- ours goes out
    abbrev new : Bytes → Sent → Awaited
    new id message = record { identity = id; time = p.call.time; message = message }

    only_new : (ids : List Awaited) (a : Awaited) → ids ≡ [] → ids ++ (a ∷ []) ≡ a ∷ []
    only_new ids a e = rw e

    not_over : is_greeting k ≡ true → is_over k.versions ≡ false
    not_over e = bool_cases (is_over k.versions) (λ f. not_both e (rw (f, connected))) (λ f. f)

    module _ (random : Bytes) (room : ℕ) (is : p.call.act ≡ pump l random room) where
      abbrev sent_life : Due → Life
      sent_life d = awaiting (own_identity random) p.call.time (sent_as m l d) (after_sending p.call.time d k)

      version_sent_now : is_greeting k ≡ true → k.versions.sent ≡ false → messages_of p.gave ≡ due_message m p.call.time (own_identity random) the_version ∷ [] → Goal (sent_life the_version)
      version_sent_now greeting unsent gave =
          record {
            went = λ e. record {
              id = own_identity random;
              within = now p life lives (wrote {w = due_message m p.call.time (own_identity random) the_version} (rw is) (rw gave first) is_version);
            };
            there = λ e. absurd (not_both connected e);
            version_out = λ e. refl;
            watchdog_out = g.watchdog_out;
            unsent = λ e. not_both refl e;
            unbeaten = λ e q. not_both (g.version_out e) unsent;
            version = λ id w. by_version id (within_cases p life w);
            watchdog = λ id w. not_both (g.watchdog id (back p life no_beat w)).0 (not_over greeting);
          }
        where
          alone : (id : Bytes) → id ≡ own_identity random → Alone id own_version (k.awaited ++ (new (own_identity random) own_version ∷ []))
          alone id e = record { time = p.call.time; is = rw e (only_new k.awaited (new (own_identity random) own_version) (g.unsent unsent)) }

          its_own : {id : Bytes} {w : Message} → IsVersion id w → Among w (due_message m p.call.time (own_identity random) the_version ∷ []) → id ≡ own_identity random
          its_own is_version a = cc (one_only _ a)

          by_version : (id : Bytes) → Wrote l (IsVersion id) p life ⊎ Within (Wrote l (IsVersion id)) life
              → (true ≡ true) × (k.versions.acknowledged ≡ false → Alone id own_version (k.awaited ++ (new (own_identity random) own_version ∷ [])))
          by_version id (inl (wrote {w} on a is)) = (refl, λ f. alone id (its_own is (subst (Among w) gave a)))
          by_version id (inr r) = not_both (g.version id r).0 unsent

          no_beat : {id : Bytes} → Wrote l (IsWatchdog id) p life → ⊥
          no_beat (wrote {w} on a is) = omega (arith, watchdog_kind is, one_kind (due_message m p.call.time (own_identity random) the_version) refl (subst (Among w) gave a))

      watchdog_sent_now : is_beating k ≡ true → k.watchdogs.sent ≡ false → messages_of p.gave ≡ due_message m p.call.time (own_identity random) the_watchdog ∷ [] → Goal (sent_life the_watchdog)
      watchdog_sent_now beating unsent gave =
          record {
            went = λ e. still_went p (g.went e);
            there = λ e. absurd (not_both connected e);
            version_out = g.version_out;
            watchdog_out = λ e. refl;
            unsent = λ e. not_both (g.version_out version_acked) e;
            unbeaten = λ e q. not_both refl q;
            version = λ id w. (g.version_out version_acked, λ e. not_both version_acked e);
            watchdog = λ id w. (over, (refl, λ e. by_watchdog id (within_cases p life w)));
          }
        where
          over : is_over k.versions ≡ true
          over = (both_true (is_over k.versions) _ (both_true k.connected _ beating).1).0

          version_acked : k.versions.acknowledged ≡ true
          version_acked = (both_true k.versions.acknowledged _ over).0

          its_own : {id : Bytes} {w : Message} → IsWatchdog id w → Among w (due_message m p.call.time (own_identity random) the_watchdog ∷ []) → id ≡ own_identity random
          its_own is_watchdog a = cc (one_only _ a)

          by_watchdog : (id : Bytes) → Wrote l (IsWatchdog id) p life ⊎ Within (Wrote l (IsWatchdog id)) life → Alone id own_watchdog (k.awaited ++ (new (own_identity random) own_watchdog ∷ []))
          by_watchdog id (inl (wrote {w} on a is)) =
              record { time = p.call.time; is = rw (its_own is (subst (Among w) gave a)) (only_new k.awaited (new (own_identity random) own_watchdog) (g.unbeaten version_acked unsent)) }
          by_watchdog id (inr r) = not_both (g.watchdog id r).1.0 unsent

      sends : (d : Due) → When k d → messages_of p.gave ≡ due_message m p.call.time (own_identity random) d ∷ [] → Goal (sent_life d)
      sends the_version w gave = version_sent_now w.0 w.1 gave
      sends the_watchdog (inl w) gave = watchdog_sent_now w.0 w.1 gave
      sends the_watchdog (inr up) gave = ups up (sent_life the_watchdog) refl refl refl (flags up).watchdog_acked
      sends the_aggregated up gave = ups up (sent_life the_aggregated) refl refl (g.watchdog_out (flags up).watchdog_acked) (flags up).watchdog_acked
      sends (the_alarm i) up gave = ups up (sent_life (the_alarm i)) refl refl (g.watchdog_out (flags up).watchdog_acked) (flags up).watchdog_acked
      sends (the_held h) up gave = ups up (sent_life (the_held h)) refl refl (g.watchdog_out (flags up).watchdog_acked) (flags up).watchdog_acked

    -- ---- an answer
    module _ (text : Bytes) (a : Awaited) (its : awaited_by k text ≡ some a) (backed : Backed l life a.identity a.message) (x : Life) (moves : Acked k x a.message) (gave : messages_of p.gave ≡ []) where
      some_awaited : k.awaited ≡ [] → ⊥
      some_awaited e = let n : awaited_by k text ≡ none = rw e in let z : ◌≡◌ {A = ℕ} 0 1 = cc in omega arith

      version_out : k.versions.sent ≡ true
      version_out = bool_cases k.versions.sent (λ e. e) (λ e. absurd (some_awaited (g.unsent e)))

      -- what is alone is what is answered
      its_message : {id : Bytes} {message : Sent} → Alone id message k.awaited → a.message ≡ message
      its_message {id} {message} alone = go (is_identity_of id text) refl
        where
          only_one : awaited_by k text ≡ pick (is_identity_of id text) (some (record { identity = id; time = alone.time; message = message })) none
          only_one = rw alone.is

          go : (b : Bool) → is_identity_of id text ≡ b → a.message ≡ message
          go true e =
              let q : awaited_by k text ≡ some (record { identity = id; time = alone.time; message = message }) = only_one ∙ rw e in
              let same : a ≡ record { identity = id; time = alone.time; message = message } = cc in
              ap (λ (y : Awaited). y.message) same
          go false e =
              let q : awaited_by k text ≡ none = only_one ∙ rw e in
              absurd (let z : ◌≡◌ {A = ℕ} 0 1 = cc in omega arith)

      emptied : {id : Bytes} {message : Sent} → Alone id message k.awaited → but_first (λ (y : Awaited). is_identity_of y.identity text) k.awaited ≡ []
      emptied {id} {message} alone = go (is_identity_of id text) refl
        where
          only_one : awaited_by k text ≡ pick (is_identity_of id text) (some (record { identity = id; time = alone.time; message = message })) none
          only_one = rw alone.is

          go : (b : Bool) → is_identity_of id text ≡ b → but_first (λ (y : Awaited). is_identity_of y.identity text) k.awaited ≡ []
          go true e = rw (alone.is, e)
          go false e =
              let q : awaited_by k text ≡ none = only_one ∙ rw e in
              absurd (let z : ◌≡◌ {A = ℕ} 0 1 = cc in omega arith)

      abbrev answered_life : Life
      answered_life = answered_to text x

      its_version : a.message ≡ own_version → Within (Wrote l (IsVersion a.identity)) life
      its_version e = subst (Backed l life a.identity) e backed

      its_watchdog : a.message ≡ own_watchdog → Within (Wrote l (IsWatchdog a.identity)) life
      its_watchdog e = subst (Backed l life a.identity) e backed

      unbeaten : x.versions.acknowledged ≡ true → x.watchdogs.sent ≡ false → answered_life.awaited ≡ []
      unbeaten e q = rw moves.awaited (go k.versions.acknowledged refl (moves.version_before e))
        where
          go : (b : Bool) → k.versions.acknowledged ≡ b → (k.versions.acknowledged ≡ true) ⊎ (a.message ≡ own_version) → but_first (λ (y : Awaited). is_identity_of y.identity text) k.awaited ≡ []
          go true f r = absurd (some_awaited (g.unbeaten f (sym moves.watchdog_sent ∙ q)))
          go false f (inl r) = not_both r f
          go false f (inr r) = emptied ((g.version a.identity (its_version r)).1 f)

      still_unacked : k.watchdogs.acknowledged ≡ true → x.watchdogs.acknowledged ≡ false → ⊥
      still_unacked e f = not_both (moves.watchdog_still e) f

      answered_watchdog : (id : Bytes) → Within (Wrote l (IsWatchdog id)) life
          → (is_over x.versions ≡ true) × ((x.watchdogs.sent ≡ true) × (x.watchdogs.acknowledged ≡ false → Alone id own_watchdog answered_life.awaited))
      answered_watchdog id w =
          let old = g.watchdog id w in
          let over = both_true k.versions.acknowledged _ old.0 in
          (rw (moves.version_still over.0, moves.version_taken) over.1, (moves.watchdog_sent ∙ old.1.0, λ e. absurd (by_flag k.watchdogs.acknowledged refl e old.0 old.1.1)))
        where
          beating : is_over k.versions ≡ true → k.watchdogs.acknowledged ≡ false → is_beating k ≡ true
          beating over unacked = rw (connected, over, unacked)

          by_flag : (b : Bool) → k.watchdogs.acknowledged ≡ b → x.watchdogs.acknowledged ≡ false → is_over k.versions ≡ true
              → (k.watchdogs.acknowledged ≡ false → Alone id own_watchdog k.awaited) → ⊥
          by_flag true f e over alone = still_unacked f e
          by_flag false f e over alone = at_last (moves.watchdog_now (its_message (alone f)))
            where
              at_last : (x.watchdogs.acknowledged ≡ true) ⊎ (is_beating k ≡ false) → ⊥
              at_last (inl q) = not_both q e
              at_last (inr q) = not_both (beating over f) q

      answered_version : (id : Bytes) → Within (Wrote l (IsVersion id)) life → x.versions.acknowledged ≡ false → ⊥
      answered_version id w e =
          bool_cases k.versions.acknowledged
          (λ f. not_both (moves.version_still f) e)
          (λ f. not_both (moves.version_now (its_message ((g.version id w).1 f))) e)

      answers : Goal answered_life
      answers =
          record {
            went = λ e. still_went p (g.went version_out);
            there = λ e. absurd (not_both connected (sym moves.connected ∙ e));
            version_out = λ e. moves.version_sent ∙ version_out;
            watchdog_out = λ e. moves.watchdog_sent ∙ beat_out (moves.watchdog_before e);
            unsent = λ e. not_both version_out (sym moves.version_sent ∙ e);
            unbeaten = unbeaten;
            version = λ id w. (moves.version_sent ∙ version_out, λ e. absurd (answered_version id (back p life (no_version_in gave silent_none) w) e));
            watchdog = λ id w. answered_watchdog id (back p life (no_watchdog_in gave silent_none) w);
          }
        where
          beat_out : (k.watchdogs.acknowledged ≡ true) ⊎ (a.message ≡ own_watchdog) → k.watchdogs.sent ≡ true
          beat_out (inl e) = g.watchdog_out e
          beat_out (inr e) = (g.watchdog a.identity (its_watchdog e)).1.0

    -- ---- every call of the link
    module _ (backed : (text : Bytes) (a : Awaited) → awaited_by k text ≡ some a → Backed l life a.identity a.message) where
      turns : (act : Act) (ms : List Message) (x : Life) → Turned m p.call.time l act ms x → p.call.act ≡ act → messages_of p.gave ≡ ms → Goal x
      turns act ms x (sent {random} {room} {d} e) is gave = sends random room is d (due_when m l p.call.time d e) gave
      turns act ms x (answered_by {j = j} {a = a} read e f) is gave =
          answers (string_of "oMId" j) a e (backed (string_of "oMId" j) a e) (acknowledges (is_type "MessageAck" j) a.message k) (acked (is_type "MessageAck" j) a.message k f) gave
      turns act ms x (turned_down reason read) is gave = alike gave (silent_one _ refl) x same
      turns act ms x (accepted read e f) is gave =
          alike gave (silent_one _ refl) x
          (record { connected_same = refl; version_sent = refl; version_acked = refl; over = λ q. both_of (both_true k.versions.acknowledged _ q).0 refl; watchdog_sent = refl; watchdog_acked = refl; awaited = refl })
      turns act ms x (beaten read e) is gave =
          alike gave (silent_one _ refl) x
          (record { connected_same = refl; version_sent = refl; version_acked = refl; over = λ q. q; watchdog_sent = refl; watchdog_acked = refl; awaited = refl })
      turns act ms x (taken read e) is gave = alike gave (silent_one _ refl) x same
      turns act ms x (replied n read e up) is gave = ups up x refl refl (g.watchdog_out (flags up).watchdog_acked) (flags up).watchdog_acked
      turns act ms x (responded {j = j} n read e) is gave = alike gave (silent_one _ (response_kind n p.call.time j)) x same

  goes : (s : Start) (h : List Past) (m : Machine) (p : Past) (x : Life) → Goes s l h m p x → Greets (life_at m l) (this_life l h) → Greets x (going_on p (this_life l h))
  goes s h m p x g holds =
      turns m p (this_life l h) holds g.connected g.lives
      (λ text a e. (found (λ (y : Awaited). is_identity_of y.identity text) (life_at m l).awaited a (run_kept g.run m refl l).awaited e).0)
      p.call.act (messages_of p.gave) x g.turned refl refl

  pub run_greets : {s : Start} {h : List Past} {m : Machine} → Run s h m → Greets (life_at m l) (this_life l h)
  run_greets {s} r = by_life s l Greets down opened elsewhere (goes s) r
