-- A place of the pool, a subscription, an alarm, a status: read from its words, stored in them, and as it was where they are.
-- Assumes nothing.
use Rattle.basis.proofs.Std.{◌≡◌, ◌∙◌, ℕ, ◌+◌, ◌<◌, ◌≤◌, arith, List, [], ◌∷◌, lit≤, length, set}
use Rattle.bits.specs.Fields.{field_of}
use Rattle.pool.specs.declared.Place.{Place}
use Rattle.subscription.specs.declared.Subscription.{Subscription}
use Rattle.alarm.specs.declared.Alarm.{Alarm}
use Rattle.status.specs.declared.Status.{Status}
use Rattle.store_words.specs.Words.{word, stores, Put}
use Rattle.store_words.specs.Narrow.{upper, lower, pair, quad}
use Rattle.store_words.proofs.Stores.{stored, first, next, Same}
use Rattle.store_words.proofs.Joined.{upper_pair, lower_pair, quad_0, quad_1, quad_2, quad_3}
use Rattle.store_site.specs.Rows.{place_from, place_in, subscription_from, subscription_in, alarm_from, alarm_in, status_from, status_in}

-- one element of a part, where its words are as they were
pub place_same : (ws vs : List ℕ) (i : ℕ) → Same ws vs i 4 → place_in vs i ≡ place_in ws i
place_same ws vs i h = rw (h i (omega arith) (omega arith), h (i + 1) (omega arith) (omega arith), h (i + 2) (omega arith) (omega arith), h (i + 3) (omega arith) (omega arith))

pub subscription_same : (ws vs : List ℕ) (i : ℕ) → Same ws vs i 2 → subscription_in vs i ≡ subscription_in ws i
subscription_same ws vs i h = rw (h i (omega arith) (omega arith), h (i + 1) (omega arith) (omega arith))

pub alarm_same : (ws vs : List ℕ) (i : ℕ) → Same ws vs i 2 → alarm_in vs i ≡ alarm_in ws i
alarm_same ws vs i h = rw (h i (omega arith) (omega arith), h (i + 1) (omega arith) (omega arith))

pub status_same : (ws vs : List ℕ) (i : ℕ) → Same ws vs i 1 → status_in vs i ≡ status_in ws i
status_same ws vs i h = rw (h i (omega arith) (omega arith))

-- the words of each part
pub subscription_put : (ws : List ℕ) (i : ℕ) (x : Subscription) {n : ℕ} → i + 2 ≤ length ws → x.seconds < 4294967296 → x.state < 4294967296
    → n ≡ pair x.seconds x.state → Put subscription_in 2 ws (stores (set ws i x.since) i 1 (n ∷ [])) i x
unfolding subscription_from
subscription_put ws i x {n} h p q e =
    let one = next ws i x.since (n ∷ []) h 1 (lit≤ tt) (lit≤ tt) ∙ e in
    record {
      there = rw (first ws i x.since (n ∷ []) h, one, upper_pair x.seconds x.state p q, lower_pair x.seconds x.state p q);
      kept = stored ws i x.since (n ∷ []) h;
    }

pub alarm_put : (ws : List ℕ) (i : ℕ) (x : Alarm) {n : ℕ} → i + 2 ≤ length ws → x.event < 65536 → x.acknowledged < 65536 → x.active < 65536 → x.suspended < 65536
    → n ≡ quad x.event x.acknowledged x.active x.suspended → Put alarm_in 2 ws (stores (set ws i x.time) i 1 (n ∷ [])) i x
unfolding alarm_from
alarm_put ws i x {n} h p q r s e =
    let one = next ws i x.time (n ∷ []) h 1 (lit≤ tt) (lit≤ tt) ∙ e in
    record {
      there =
          rw (
            first ws i x.time (n ∷ []) h,
            one,
            quad_0 x.event x.acknowledged x.active x.suspended p q r s,
            quad_1 x.event x.acknowledged x.active x.suspended p q r s,
            quad_2 x.event x.acknowledged x.active x.suspended p q r s,
            quad_3 x.event x.acknowledged x.active x.suspended p q r s,
          );
      kept = stored ws i x.time (n ∷ []) h;
    }

pub status_put : (ws : List ℕ) (i : ℕ) (x : Status) {n : ℕ} → i + 1 ≤ length ws → x.value < 4294967296 → x.known < 4294967296
    → n ≡ pair x.value x.known → Put status_in 1 ws (set ws i n) i x
unfolding status_from
status_put ws i x {n} h p q e =
    record {
      there = rw (first ws i n [] h ∙ e, upper_pair x.value x.known p q, lower_pair x.value x.known p q);
      kept = stored ws i n [] h;
    }

pub place_put : (ws : List ℕ) (i : ℕ) (x : Place) {m n : ℕ} → i + 4 ≤ length ws → x.entry.value < 4294967296 → x.entry.sequence < 4294967296
    → x.entry.link < 65536 → x.entry.kind < 65536 → x.entry.item < 65536 → x.entry.flags < 65536
    → m ≡ pair x.entry.value x.entry.sequence → n ≡ quad x.entry.link x.entry.kind x.entry.item x.entry.flags
    → Put place_in 4 ws (stores (set ws i x.entry.time) i 1 (m ∷ n ∷ x.mark ∷ [])) i x
unfolding place_from
place_put ws i x {m} {n} h p q r s u v e f =
    let vs = m ∷ n ∷ x.mark ∷ [] in
    let y = x.entry in
    let one = next ws i y.time vs h 1 (lit≤ tt) (lit≤ tt) ∙ e in
    let two = next ws i y.time vs h 2 (lit≤ tt) (lit≤ tt) ∙ f in
    record {
      there =
          rw (
            first ws i y.time vs h,
            one,
            two,
            next ws i y.time vs h 3 (lit≤ tt) (lit≤ tt),
            upper_pair y.value y.sequence p q,
            lower_pair y.value y.sequence p q,
            quad_0 y.link y.kind y.item y.flags r s u v,
            quad_1 y.link y.kind y.item y.flags r s u v,
            quad_2 y.link y.kind y.item y.flags r s u v,
            quad_3 y.link y.kind y.item y.flags r s u v,
          );
      kept = stored ws i y.time vs h;
    }

pub subscription_get : (ws : List ℕ) (i : ℕ) {a b : ℕ} → a ≡ upper (word ws (i + 1)) → b ≡ lower (word ws (i + 1))
    → ◌≡◌ {A = Subscription} (record { since = word ws i; seconds = a; state = b }) (subscription_in ws i)
unfolding subscription_from
subscription_get ws i e f = rw (e, f)

pub alarm_get : (ws : List ℕ) (i : ℕ) {a b c d : ℕ} → a ≡ field_of (word ws (i + 1)) 48 16 → b ≡ field_of (word ws (i + 1)) 32 16
    → c ≡ field_of (word ws (i + 1)) 16 16 → d ≡ field_of (word ws (i + 1)) 0 16
    → ◌≡◌ {A = Alarm} (record { time = word ws i; event = a; acknowledged = b; active = c; suspended = d }) (alarm_in ws i)
unfolding alarm_from
alarm_get ws i e f g h = rw (e, f, g, h)

pub status_get : (ws : List ℕ) (i : ℕ) {a b : ℕ} → a ≡ upper (word ws i) → b ≡ lower (word ws i) → ◌≡◌ {A = Status} (record { value = a; known = b }) (status_in ws i)
unfolding status_from
status_get ws i e f = rw (e, f)

pub place_get : (ws : List ℕ) (i : ℕ) {a b c d e f : ℕ} → a ≡ upper (word ws (i + 1)) → b ≡ lower (word ws (i + 1))
    → c ≡ field_of (word ws (i + 2)) 48 16 → d ≡ field_of (word ws (i + 2)) 32 16 → e ≡ field_of (word ws (i + 2)) 16 16 → f ≡ field_of (word ws (i + 2)) 0 16
    → ◌≡◌ {A = Place} (record {
      entry = record { time = word ws i; value = a; sequence = b; link = c; kind = d; item = e; flags = f };
      mark = word ws (i + 3);
    }) (place_in ws i)
unfolding place_from
place_get ws i p q r s u v = rw (p, q, r, s, u, v)
