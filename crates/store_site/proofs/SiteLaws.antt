-- A store in one part of the site leaves the others, and one element of a part is replaced.
-- Assumes nothing.
use Rattle.basis.proofs.Std.{◌≡◌, refl, sym, ap, ◌∙◌, ◌⊎◌, inl, inr, eq_or_ne, lt_or_ge, ℕ, ◌+◌, ◌*◌, ◌<◌, ◌≤◌, arith, List, [], ◌∷◌, lit≤, length, get_or, set}
use Rattle.link.specs.declared.Link.{Link}
use Rattle.link.specs.Fields.{closed_link}
use Rattle.pool.specs.declared.Place.{Place}
use Rattle.pool.specs.declared.Pool.{Pool}
use Rattle.pool.specs.Places.{no_place}
use Rattle.subscription.specs.declared.Subscription.{Subscription}
use Rattle.subscription.specs.Subscription.{none}
use Rattle.alarm.specs.declared.Alarm.{Alarm}
use Rattle.alarm.specs.Alarm.{beginning}
use Rattle.status.specs.declared.Status.{Status}
use Rattle.status.specs.Status.{unknown}
use Rattle.aggregated.specs.declared.Aggregated.{Aggregated}
use Rattle.table_whole.specs.declared.SiteTable.{SiteTable}
use Rattle.site.specs.declared.Site.{Site}
use Rattle.site.specs.Site.{with_pool, with_links, with_subscriptions, with_alarms, with_statuses, with_aggregated, link_at, with_link}
use Rattle.site.specs.Parts.{subscription_at, with_subscription, alarm_at, with_alarm, status_at, with_status}
use Rattle.store_words.specs.Words.{word, Stored, Put}
use Rattle.store_words.proofs.Elements.{list_at, list_length, list_same, list_put}
use Rattle.store_words.proofs.Stores.{stored, first, next, Same, below, above}
use Rattle.store_link.specs.Rows.{link_in, PlainAt, PutLink}
use Rattle.store_link.proofs.RowLaws.{link_same}
use Rattle.store_site.specs.Rows.{place_in, subscription_in, alarm_in, status_in}
use Rattle.store_site.specs.Layout.{lost_in, places_in, pool_in, links_in, subscriptions_in, alarms_in, statuses_in, site_of, with_next, with_last, site_words}
use Rattle.store_site.specs.Turns.{Plain, Turns, Moves}
use Rattle.store_site.proofs.RowLaws.{place_same, subscription_same, alarm_same, status_same}

-- what has happened on each link stays 0 or 1
module _ {ws vs : List ℕ} {i n : ℕ} (s : Stored ws vs i n) where
  pub plain_before : i + n ≤ 5 → Plain ws → Plain vs
  plain_before h p l g k f = rw (s.behind (5 + 75 * l + (3 + k)) (omega arith)) (p l g k f)

  pub plain_behind : 305 ≤ i → Plain ws → Plain vs
  plain_behind h p l g k f = rw (s.before (5 + 75 * l + (3 + k)) (omega arith)) (p l g k f)

pub plain_link : {ws vs : List ℕ} (l : ℕ) → l < 4 → Stored ws vs (5 + 75 * l) 75 → PlainAt vs (5 + 75 * l) → Plain ws → Plain vs
plain_link {ws} {vs} l h s p q m g k f = by (eq_or_ne m l) (lt_or_ge m l)
  where
    by : (m ≡ l) ⊎ (m ≡ l → ⊥) → (m < l) ⊎ (l ≤ m) → word vs (5 + 75 * m + (3 + k)) < 2
    by (inl e) o = rw e (p k f)
    by (inr e) (inl o) = rw (s.before (5 + 75 * m + (3 + k)) (omega arith)) (q m g k f)
    by (inr e) (inr o) = rw (s.behind (5 + 75 * m + (3 + k)) (omega (arith, e))) (q m g k f)

-- each part, where its words are as they were
pub lost_same : (ps qs : List ℕ) → Same ps qs 0 8 → lost_in qs ≡ lost_in ps
unfolding lost_in
lost_same ps qs h = list_same (λ (l : ℕ). word ps l) (λ (l : ℕ). word qs l) 8 (λ l g. h l (omega arith) (omega arith))

pub places_same : (ws vs : List ℕ) → Same ws vs 8 512 → places_in vs ≡ places_in ws
unfolding places_in
places_same ws vs h =
    list_same (λ (k : ℕ). place_in ws (8 + 4 * k)) (λ (k : ℕ). place_in vs (8 + 4 * k)) 128
    (λ k g. place_same ws vs (8 + 4 * k) (λ j e f. h j (omega arith) (omega arith)))

pub links_same : (ws vs : List ℕ) → Same ws vs 5 300 → links_in vs ≡ links_in ws
unfolding links_in
links_same ws vs h =
    list_same (λ (k : ℕ). link_in ws (5 + 75 * k)) (λ (k : ℕ). link_in vs (5 + 75 * k)) 4
    (λ k g. link_same ws vs (5 + 75 * k) (λ j e f. h j (omega arith) (omega arith)))

pub subscriptions_same : (ws vs : List ℕ) → Same ws vs 305 256 → subscriptions_in vs ≡ subscriptions_in ws
unfolding subscriptions_in
subscriptions_same ws vs h =
    list_same (λ (k : ℕ). subscription_in ws (305 + 2 * k)) (λ (k : ℕ). subscription_in vs (305 + 2 * k)) 128
    (λ k g. subscription_same ws vs (305 + 2 * k) (λ j e f. h j (omega arith) (omega arith)))

pub alarms_same : (ws vs : List ℕ) → Same ws vs 561 64 → alarms_in vs ≡ alarms_in ws
unfolding alarms_in
alarms_same ws vs h =
    list_same (λ (k : ℕ). alarm_in ws (561 + 2 * k)) (λ (k : ℕ). alarm_in vs (561 + 2 * k)) 32
    (λ k g. alarm_same ws vs (561 + 2 * k) (λ j e f. h j (omega arith) (omega arith)))

pub statuses_same : (ws vs : List ℕ) → Same ws vs 625 32 → statuses_in vs ≡ statuses_in ws
unfolding statuses_in
statuses_same ws vs h =
    list_same (λ (k : ℕ). status_in ws (625 + k)) (λ (k : ℕ). status_in vs (625 + k)) 32
    (λ k g. status_same ws vs (625 + k) (λ j e f. h j (omega arith) (omega arith)))

-- one element, read and replaced
pub place_at : (ws : List ℕ) (k : ℕ) → k < 128 → place_in ws (8 + 4 * k) ≡ get_or (places_in ws) k no_place
unfolding places_in
place_at ws k h = sym (list_at (λ (k : ℕ). place_in ws (8 + 4 * k)) 128 k no_place h)

pub places_put : (ws vs : List ℕ) (k : ℕ) (x : Place) → k < 128 → Put place_in 4 ws vs (8 + 4 * k) x → places_in vs ≡ set (places_in ws) k x
unfolding places_in
places_put ws vs k x h p =
    list_put (λ (k : ℕ). place_in ws (8 + 4 * k)) (λ (k : ℕ). place_in vs (8 + 4 * k)) 128 k x h
    (λ m g ne. place_same ws vs (8 + 4 * m) (λ j e f. by j m (lt_or_ge m k) ne e f)) p.there
  where
    by : (j : ℕ) (m : ℕ) → (m < k) ⊎ (k ≤ m) → (m ≡ k → ⊥) → 8 + 4 * m ≤ j → j < 8 + 4 * m + 4 → word vs j ≡ word ws j
    by j m (inl z) ne e f = p.kept.before j (omega arith)
    by j m (inr z) ne e f = p.kept.behind j (omega (arith, ne))

pub link_at_lem : (ws : List ℕ) (k : ℕ) → k < 4 → link_in ws (5 + 75 * k) ≡ get_or (links_in ws) k closed_link
unfolding links_in
link_at_lem ws k h = sym (list_at (λ (k : ℕ). link_in ws (5 + 75 * k)) 4 k closed_link h)

pub links_put : (ws vs : List ℕ) (k : ℕ) (x : Link) → k < 4 → Put link_in 75 ws vs (5 + 75 * k) x → links_in vs ≡ set (links_in ws) k x
unfolding links_in
links_put ws vs k x h p =
    list_put (λ (k : ℕ). link_in ws (5 + 75 * k)) (λ (k : ℕ). link_in vs (5 + 75 * k)) 4 k x h
    (λ m g ne. link_same ws vs (5 + 75 * m) (λ j e f. by j m (lt_or_ge m k) ne e f)) p.there
  where
    by : (j : ℕ) (m : ℕ) → (m < k) ⊎ (k ≤ m) → (m ≡ k → ⊥) → 5 + 75 * m ≤ j → j < 5 + 75 * m + 75 → word vs j ≡ word ws j
    by j m (inl z) ne e f = p.kept.before j (omega arith)
    by j m (inr z) ne e f = p.kept.behind j (omega (arith, ne))

pub subscription_at_lem : (ws : List ℕ) (k : ℕ) → k < 128 → subscription_in ws (305 + 2 * k) ≡ get_or (subscriptions_in ws) k none
unfolding subscriptions_in
subscription_at_lem ws k h = sym (list_at (λ (k : ℕ). subscription_in ws (305 + 2 * k)) 128 k none h)

pub subscriptions_put : (ws vs : List ℕ) (k : ℕ) (x : Subscription) → k < 128 → Put subscription_in 2 ws vs (305 + 2 * k) x → subscriptions_in vs ≡ set (subscriptions_in ws) k x
unfolding subscriptions_in
subscriptions_put ws vs k x h p =
    list_put (λ (k : ℕ). subscription_in ws (305 + 2 * k)) (λ (k : ℕ). subscription_in vs (305 + 2 * k)) 128 k x h
    (λ m g ne. subscription_same ws vs (305 + 2 * m) (λ j e f. by j m (lt_or_ge m k) ne e f)) p.there
  where
    by : (j : ℕ) (m : ℕ) → (m < k) ⊎ (k ≤ m) → (m ≡ k → ⊥) → 305 + 2 * m ≤ j → j < 305 + 2 * m + 2 → word vs j ≡ word ws j
    by j m (inl z) ne e f = p.kept.before j (omega arith)
    by j m (inr z) ne e f = p.kept.behind j (omega (arith, ne))

pub alarm_at_lem : (ws : List ℕ) (k : ℕ) → k < 32 → alarm_in ws (561 + 2 * k) ≡ get_or (alarms_in ws) k (beginning 0)
unfolding alarms_in
alarm_at_lem ws k h = sym (list_at (λ (k : ℕ). alarm_in ws (561 + 2 * k)) 32 k (beginning 0) h)

pub alarms_put : (ws vs : List ℕ) (k : ℕ) (x : Alarm) → k < 32 → Put alarm_in 2 ws vs (561 + 2 * k) x → alarms_in vs ≡ set (alarms_in ws) k x
unfolding alarms_in
alarms_put ws vs k x h p =
    list_put (λ (k : ℕ). alarm_in ws (561 + 2 * k)) (λ (k : ℕ). alarm_in vs (561 + 2 * k)) 32 k x h
    (λ m g ne. alarm_same ws vs (561 + 2 * m) (λ j e f. by j m (lt_or_ge m k) ne e f)) p.there
  where
    by : (j : ℕ) (m : ℕ) → (m < k) ⊎ (k ≤ m) → (m ≡ k → ⊥) → 561 + 2 * m ≤ j → j < 561 + 2 * m + 2 → word vs j ≡ word ws j
    by j m (inl z) ne e f = p.kept.before j (omega arith)
    by j m (inr z) ne e f = p.kept.behind j (omega (arith, ne))

pub status_at_lem : (ws : List ℕ) (k : ℕ) → k < 32 → status_in ws (625 + k) ≡ get_or (statuses_in ws) k unknown
unfolding statuses_in
status_at_lem ws k h = sym (list_at (λ (k : ℕ). status_in ws (625 + k)) 32 k unknown h)

pub statuses_put : (ws vs : List ℕ) (k : ℕ) (x : Status) → k < 32 → Put status_in 1 ws vs (625 + k) x → statuses_in vs ≡ set (statuses_in ws) k x
unfolding statuses_in
statuses_put ws vs k x h p =
    list_put (λ (k : ℕ). status_in ws (625 + k)) (λ (k : ℕ). status_in vs (625 + k)) 32 k x h
    (λ m g ne. status_same ws vs (625 + m) (λ j e f. by j m (lt_or_ge m k) ne e f)) p.there
  where
    by : (j : ℕ) (m : ℕ) → (m < k) ⊎ (k ≤ m) → (m ≡ k → ⊥) → 625 + m ≤ j → j < 625 + m + 1 → word vs j ≡ word ws j
    by j m (inl z) ne e f = p.kept.before j (omega arith)
    by j m (inr z) ne e f = p.kept.behind j (omega (arith, ne))

-- a store in one part leaves the others
module _ (ps ws vs : List ℕ) (t : SiteTable) {i n : ℕ} (s : Stored ws vs i n) where
  pub only_links : 5 ≤ i → i + n ≤ 305 → site_of ps vs t ≡ with_links (site_of ps ws t) (links_in vs)
  unfolding site_of
  only_links f g = rw (s.before 0 (omega arith), s.before 1 (omega arith), s.before 2 (omega arith), s.before 3 (omega arith), s.before 4 (omega arith), subscriptions_same ws vs (above 305 256 s (omega arith)), alarms_same ws vs (above 561 64 s (omega arith)), statuses_same ws vs (above 625 32 s (omega arith)))

  pub only_subscriptions : 305 ≤ i → i + n ≤ 561 → site_of ps vs t ≡ with_subscriptions (site_of ps ws t) (subscriptions_in vs)
  unfolding site_of
  only_subscriptions f g = rw (s.before 0 (omega arith), s.before 1 (omega arith), s.before 2 (omega arith), s.before 3 (omega arith), s.before 4 (omega arith), links_same ws vs (below 5 300 s (omega arith)), alarms_same ws vs (above 561 64 s (omega arith)), statuses_same ws vs (above 625 32 s (omega arith)))

  pub only_alarms : 561 ≤ i → i + n ≤ 625 → site_of ps vs t ≡ with_alarms (site_of ps ws t) (alarms_in vs)
  unfolding site_of
  only_alarms f g = rw (s.before 0 (omega arith), s.before 1 (omega arith), s.before 2 (omega arith), s.before 3 (omega arith), s.before 4 (omega arith), links_same ws vs (below 5 300 s (omega arith)), subscriptions_same ws vs (below 305 256 s (omega arith)), statuses_same ws vs (above 625 32 s (omega arith)))

  pub only_statuses : 625 ≤ i → i + n ≤ site_words → site_of ps vs t ≡ with_statuses (site_of ps ws t) (statuses_in vs)
  unfolding site_of
  only_statuses f g = rw (s.before 0 (omega arith), s.before 1 (omega arith), s.before 2 (omega arith), s.before 3 (omega arith), s.before 4 (omega arith), links_same ws vs (below 5 300 s (omega arith)), subscriptions_same ws vs (below 305 256 s (omega arith)), alarms_same ws vs (below 561 64 s (omega arith)))

pub link_read : (ps ws : List ℕ) (t : SiteTable) (k : ℕ) → k < 4 → link_in ws (5 + 75 * k) ≡ link_at (site_of ps ws t) k
unfolding site_of
link_read ps ws t k h = link_at_lem ws k h

pub link_turns : (ws vs : List ℕ) (k : ℕ) (x : Link) → k < 4 → PutLink ws vs (5 + 75 * k) x → Turns (λ (s : Site). with_link s k x) ws vs
unfolding site_of
link_turns ws vs k x h p =
    record {
      site = λ ps t. only_links ps ws vs t p.put.kept (omega arith) (omega arith) ∙ ap (with_links (site_of ps ws t)) (links_put ws vs k x h p.put);
      plain = plain_link k h p.put.kept p.plain;
    }

pub subscription_read : (ps ws : List ℕ) (t : SiteTable) (k : ℕ) → k < 128 → subscription_in ws (305 + 2 * k) ≡ subscription_at (site_of ps ws t) k
unfolding site_of
subscription_read ps ws t k h = subscription_at_lem ws k h

pub subscription_turns : (ws vs : List ℕ) (k : ℕ) (x : Subscription) → k < 128 → Put subscription_in 2 ws vs (305 + 2 * k) x → Turns (λ (s : Site). with_subscription s k x) ws vs
unfolding site_of
subscription_turns ws vs k x h p =
    record {
      site = λ ps t. only_subscriptions ps ws vs t p.kept (omega arith) (omega arith) ∙ ap (with_subscriptions (site_of ps ws t)) (subscriptions_put ws vs k x h p);
      plain = plain_behind p.kept (omega arith);
    }

pub alarm_read : (ps ws : List ℕ) (t : SiteTable) (k : ℕ) → k < 32 → alarm_in ws (561 + 2 * k) ≡ alarm_at (site_of ps ws t) k
unfolding site_of
alarm_read ps ws t k h = alarm_at_lem ws k h

pub alarm_turns : (ws vs : List ℕ) (k : ℕ) (x : Alarm) → k < 32 → Put alarm_in 2 ws vs (561 + 2 * k) x → Turns (λ (s : Site). with_alarm s k x) ws vs
unfolding site_of
alarm_turns ws vs k x h p =
    record {
      site = λ ps t. only_alarms ps ws vs t p.kept (omega arith) (omega arith) ∙ ap (with_alarms (site_of ps ws t)) (alarms_put ws vs k x h p);
      plain = plain_behind p.kept (omega arith);
    }

pub status_read : (ps ws : List ℕ) (t : SiteTable) (k : ℕ) → k < 32 → status_in ws (625 + k) ≡ status_at (site_of ps ws t) k
unfolding site_of
status_read ps ws t k h = status_at_lem ws k h

pub status_turns : (ws vs : List ℕ) (k : ℕ) (x : Status) → k < 32 → Put status_in 1 ws vs (625 + k) x → Turns (λ (s : Site). with_status s k x) ws vs
unfolding site_of
status_turns ws vs k x h p =
    record {
      site = λ ps t. only_statuses ps ws vs t p.kept (omega arith) (omega arith) ∙ ap (with_statuses (site_of ps ws t)) (statuses_put ws vs k x h p);
      plain = plain_behind p.kept (omega arith);
    }

pub next_turns : (ws : List ℕ) (n : ℕ) → length ws ≡ site_words → Turns (λ (s : Site). with_next s n) ws (set ws 0 n)
unfolding site_of
next_turns ws n h =
    record {
      site = λ ps t.
          let vs = set ws 0 n in
          let s = stored ws 0 n [] (omega arith) in
          rw (
            first ws 0 n [] (omega arith),
            s.behind 1 (omega arith),
            s.behind 2 (omega arith),
            s.behind 3 (omega arith),
            s.behind 4 (omega arith),
            links_same ws vs (above 5 300 s (omega arith)),
            subscriptions_same ws vs (above 305 256 s (omega arith)),
            alarms_same ws vs (above 561 64 s (omega arith)),
            statuses_same ws vs (above 625 32 s (omega arith)),
          );
      plain = plain_before (stored ws 0 n [] (omega arith)) (omega arith);
    }

pub last_turns : (ws : List ℕ) (n : ℕ) → length ws ≡ site_words → Turns (λ (s : Site). with_last s n) ws (set ws 1 n)
unfolding site_of
last_turns ws n h =
    record {
      site = λ ps t.
          let vs = set ws 1 n in
          let s = stored ws 1 n [] (omega arith) in
          rw (
            first ws 1 n [] (omega arith),
            s.before 0 (omega arith),
            s.behind 2 (omega arith),
            s.behind 3 (omega arith),
            s.behind 4 (omega arith),
            links_same ws vs (above 5 300 s (omega arith)),
            subscriptions_same ws vs (above 305 256 s (omega arith)),
            alarms_same ws vs (above 561 64 s (omega arith)),
            statuses_same ws vs (above 625 32 s (omega arith)),
          );
      plain = plain_before (stored ws 1 n [] (omega arith)) (omega arith);
    }

-- the table is the one given, and the pool the one in its words
pub table_of_lem : (ps ws : List ℕ) (t : SiteTable) → (site_of ps ws t).table ≡ t
unfolding site_of
table_of_lem ps ws t = refl

pub pool_of : (ps ws : List ℕ) (t : SiteTable) → (site_of ps ws t).pool ≡ pool_in ps
unfolding site_of
pool_of ps ws t = refl

-- another pool, the site's words as they were
pub pool_moves : (f : Pool → Pool) (ps qs ws : List ℕ) → pool_in qs ≡ f (pool_in ps) → Moves (λ (s : Site). with_pool s (f s.pool)) ps qs ws ws
unfolding site_of
pool_moves f ps qs ws e = record { site = λ t. ap (with_pool (site_of ps ws t)) e; plain = λ p. p }

pub places_length : (ws : List ℕ) → length (places_in ws) ≡ 128
unfolding places_in
places_length ws = list_length (λ (k : ℕ). place_in ws (8 + 4 * k)) 128

pub aggregated_turns : (ws : List ℕ) (x : Aggregated) → length ws ≡ site_words → Turns (λ (s : Site). with_aggregated s x) ws (set (set ws 3 x.time) 4 x.value)
unfolding site_of
aggregated_turns ws x h =
    let vs = set (set ws 3 x.time) 4 x.value in
    let s = stored ws 3 x.time (x.value ∷ []) (omega arith) in
    record {
      site = λ ps t.
          rw (
            first ws 3 x.time (x.value ∷ []) (omega arith),
            next ws 3 x.time (x.value ∷ []) (omega arith) 1 (lit≤ tt) (lit≤ tt),
            s.before 0 (omega arith),
            s.before 1 (omega arith),
            s.before 2 (omega arith),
            links_same ws vs (above 5 300 s (omega arith)),
            subscriptions_same ws vs (above 305 256 s (omega arith)),
            alarms_same ws vs (above 561 64 s (omega arith)),
            statuses_same ws vs (above 625 32 s (omega arith)),
          );
      plain = plain_before s (omega arith);
    }
