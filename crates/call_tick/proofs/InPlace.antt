-- A tick in place: links closed, then records issued, then subscriptions renewed.
-- Assumes nothing.
use Rattle.basis.proofs.Std.{ℕ, ◌+◌, ◌/◌, ◌%◌, ◌<◌, ◌≡◌, refl, sym, ap, ◌∙◌, true, false, List, [], ◌∷◌, map, arith, length, get_or, set, bit}
use Rattle.entry.specs.declared.Entry.{Entry}
use Rattle.link.specs.declared.Link.{Link}
use Rattle.link.specs.Fields.{closed_link}
use Rattle.pool.proofs.Part.{part, part_next, part_none, part_all}
use Rattle.pool_laws.specs.Batch.{issued_all}
use Rattle.status.specs.declared.Status.{Status}
use Rattle.status.specs.Status.{unknown}
use Rattle.subscription.specs.declared.Subscription.{Subscription}
use Rattle.subscription.specs.Subscription.{none, tick_of}
use Rattle.pool_laws.specs.Upwards.{entries_to}
use Rattle.site.specs.declared.Site.{Site}
use Rattle.site.specs.Site.{owner, owner_of, link_at, with_subscriptions, with_issued, close_at, mask_of}
use Rattle.site.specs.Parts.{status_at, subscription_at, with_subscription}
use Rattle.site.specs.Records.{status_record}
use Rattle.site.specs.Call.{batch_of}
use Rattle.store_site.specs.Layout.{site_of, with_last}
use Rattle.store_site.specs.Turns.{Turns, Moves}
use Rattle.store_site.proofs.TurnsLaws.{turns_none, turns_then, turns_as, moves_as}
use Rattle.store_site.proofs.PastLaws.{subscriptions_length}
use Rattle.store_pool.proofs.PoolLaws.{part_rest}
use Rattle.store_call.specs.Issued.{batch_in, issued_in}
use Rattle.store_call.proofs.IssuedLaws.{issued_none, spent_any, places_none, places_next, count_if, count_one}
use Rattle.call_tick.specs.Closing.{late_at, close_late, closed_to, late_mask, mask_to}
use Rattle.call_tick.specs.Intervals.{renewed, record_at, records_of}
use Rattle.call_tick.specs.Tick.{site_after, issued_at, tick_plan}
use Rattle.call_tick.proofs.Records.{all_places}
use Rattle.call_tick.proofs.Closed.{stays, late_before}

-- one link
module _ (s : Site) (l time : ℕ) where
  pub late_closed : late_at s l time ≡ true → close_at s l ≡ close_late s l time
  unfolding close_late
  late_closed h = rw h refl

  pub not_late : late_at s l time ≡ false → s ≡ close_late s l time
  unfolding close_late
  not_late h = rw h refl

  pub late_bit : late_at s l time ≡ true → mask_of l ≡ late_mask s l time
  unfolding late_mask
  late_bit h = rw h refl

  pub no_bit : late_at s l time ≡ false → 0 ≡ late_mask s l time
  unfolding late_mask
  no_bit h = rw h refl

mask_before : (s : Site) (time n : ℕ) → late_mask (closed_to s time n) n time ≡ late_mask s n time
unfolding late_mask
mask_before s time n = rw (late_before s time n) refl

pub bits_closed : (s : Site) (time : ℕ) {a b c d : ℕ} → a ≡ late_mask s 0 time → b ≡ late_mask (closed_to s time 1) 1 time → c ≡ late_mask (closed_to s time 2) 2 time
    → d ≡ late_mask (closed_to s time 3) 3 time → a + b + c + d ≡ mask_to s time 4
bits_closed s time e f g h = omega (arith, mask_before s time 1, mask_before s time 2, mask_before s time 3)

-- the record of one place, or none
abbrev pub record_in : ℕ → Site → ℕ → List Entry
record_in time s i = record_at s.site s.subscriptions s.statuses s.links time i

module _ (s : Site) (time i : ℕ) where
  pub place_issues : (tick_of (subscription_at s i) time).issues ≡ true
      → issued_in s (status_record (link_at s (i / 32)) (status_at s (i % 32)) (owner_of s (i / 32)) (i % 32) time ∷ []) ≡ issued_in s (record_in time s i)
  place_issues h = rw h refl

  pub place_silent : (tick_of (subscription_at s i) time).issues ≡ false → s ≡ issued_in s (record_in time s i)
  place_silent h = rw h (sym (issued_none s))

  steady : (es : List Entry) → record_in time (issued_in s es) i ≡ record_in time s i
  unfolding issued_in
  steady es = refl

-- the places below i
pub record Issued (time i : ℕ) (ps qs ws vs : List ℕ) : Type 0 where
  pub moves : Moves (λ (s : Site). issued_in s (entries_to (record_in time s) i)) ps qs ws vs

pub issued_0 : (time : ℕ) (ps ws : List ℕ) → Issued time 0 ps ps ws ws
issued_0 time ps ws = record { moves = places_none (record_in time) (λ s es i. steady s time i es) ps ws }

pub issued_next : (time i : ℕ) {ps os qs ws us vs : List ℕ} → Issued time i ps os ws us → Moves (λ (s : Site). issued_in s (record_in time s i)) os qs us vs
    → Issued time (i + 1) ps qs ws vs
issued_next time i a b = record { moves = places_next (record_in time) (λ s es i. steady s time i es) i a.moves b }

pub issued_all_lem : (time i : ℕ) {ps qs ws vs : List ℕ} → i ≡ 128 → Issued time i ps qs ws vs
    → Moves (λ (s : Site). issued_in s (records_of s.site s.subscriptions s.statuses s.links time)) ps qs ws vs
issued_all_lem time i {ps} {ws = ws} e a = moves_as a.moves (λ t. let s = site_of ps ws t in ap (issued_in s) (all_places s.site s.subscriptions s.statuses s.links time i e))

-- how many the places below i issue
pub count_place : (site : ℕ) (xs : List Subscription) (ks : List Status) (ns : List Link) (time i : ℕ) {n m : ℕ} → n ≡ length (entries_to (record_at site xs ks ns time) i)
    → m ≡ n + bit (tick_of (get_or xs i none) time).issues → m ≡ length (entries_to (record_at site xs ks ns time) (i + 1))
count_place site xs ks ns time i p q =
    let b = (tick_of (get_or xs i none) time).issues in
    count_one (record_at site xs ks ns time) i b p (count_if b (status_record (get_or ns (i / 32) closed_link) (get_or ks (i % 32) unknown) (owner site (i / 32)) (i % 32) time)) q

-- the first i subscriptions renewed
pub record Renewed (time i : ℕ) (ws vs : List ℕ) : Type 0 where
  pub turns : Turns (λ (s : Site). with_subscriptions s (part (renewed time) i s.subscriptions)) ws vs

pub renewed_0 : (time : ℕ) (ws : List ℕ) → Renewed time 0 ws ws
renewed_0 time ws = record { turns = turns_none ws (λ ps t. ap (with_subscriptions (site_of ps ws t)) (sym (part_none (renewed time) (site_of ps ws t).subscriptions))) }

next_renewed : (time i : ℕ) (xs : List Subscription) → i < length xs
    → set (part (renewed time) i xs) i (renewed time (get_or (part (renewed time) i xs) i none)) ≡ part (renewed time) (i + 1) xs
next_renewed time i xs h = rw (part_rest (renewed time) i i xs none (omega arith)) (part_next (renewed time) i xs none h)

pub renewed_next : (time i : ℕ) {ws us vs : List ℕ} → i < 128 → Renewed time i ws us → Turns (λ (s : Site). with_subscription s i (renewed time (subscription_at s i))) us vs
    → Renewed time (i + 1) ws vs
renewed_next time i {ws} h a b =
    record {
      turns = turns_as (turns_then a.turns b)
          (λ ps t. ap (with_subscriptions (site_of ps ws t)) (next_renewed time i (site_of ps ws t).subscriptions (omega (arith, subscriptions_length ps ws t))));
    }

pub renewed_all : (time i : ℕ) {ws vs : List ℕ} → i ≡ 128 → Renewed time i ws vs → Turns (λ (s : Site). with_subscriptions s (map (renewed time) s.subscriptions)) ws vs
renewed_all time i {ws} e a =
    turns_as a.turns (λ ps t. ap (with_subscriptions (site_of ps ws t)) (part_all (renewed time) i (site_of ps ws t).subscriptions (omega (arith, subscriptions_length ps ws t))))

-- all of it, from the site u with the links closed
ended : (s u : Site) (time : ℕ) → u.site ≡ s.site → u.subscriptions ≡ s.subscriptions → u.statuses ≡ s.statuses
    → with_last (with_subscriptions (issued_in u (records_of u.site u.subscriptions u.statuses u.links time)) (map (renewed time) u.subscriptions)) time
    ≡ with_issued (with_subscriptions u (map (renewed time) s.subscriptions)) (issued_all 8 u.pool u.next (records_of s.site s.subscriptions s.statuses u.links time)) time
unfolding issued_in
ended s u time d e f = rw (d, e, f) refl

module _ (s : Site) (time : ℕ) where
  pub passed : with_last
      (with_subscriptions
      (issued_in (closed_to s time 4) (records_of (closed_to s time 4).site (closed_to s time 4).subscriptions (closed_to s time 4).statuses (closed_to s time 4).links time))
      (map (renewed time) (issued_in (closed_to s time 4) (records_of (closed_to s time 4).site (closed_to s time 4).subscriptions (closed_to s time 4).statuses (closed_to s time 4).links time)).subscriptions))
      time
      ≡ with_issued (site_after s time) (batch_of (tick_plan s time)) time
  unfolding issued_in site_after
  passed = ended s (closed_to s time 4) time (stays (λ (t : Site). t.site) (λ t l. refl) s time 4) (stays (λ (t : Site). t.subscriptions) (λ t l. refl) s time 4) (stays (λ (t : Site). t.statuses) (λ t l. refl) s time 4)

  next_kept : (site_after s time).next ≡ s.next
  unfolding site_after
  next_kept = stays (λ (t : Site). t.next) (λ t l. refl) s time 4

  -- number 10 is judged before the links are closed
  pub spent_before : (batch_in s (issued_at s time)).spent ≡ (batch_of (tick_plan s time)).spent
  spent_before =
      ap (λ (q : ℕ). (issued_all 8 s.pool q (issued_at s time)).spent) (sym next_kept)
      ∙ spent_any s.pool (site_after s time).pool (site_after s time).next (issued_at s time)
