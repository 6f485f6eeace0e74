-- The start values that the machine takes are those that the code takes.
-- Assumes nothing.
use Rattle.basis.proofs.Std.{ℕ, ◌≤◌, ◌<◌, ◌≡◌, refl, ap, Bool, true, false, List, some, none, ◌⊎◌, inl, inr, arith, eqb, ltb, leb, lt-ltb, ltb-true, le-leb, leb-true, ne_eqb, eqb-true, pick, both_true, both_of, bool_cases}
use Rattle.answer.specs.Times.{last_time}
use Rattle.call_start.specs.Fresh.{alone, primary_of}
use Rattle.call_start.specs.Starts.{Within}
use Rattle.machine.specs.Words.{maybe, or_else}
use Rattle.machine.specs.Table.{good_start}
use Rattle.refine_calls.specs.Start.{primary_for, start_for}

-- the primary is one of the links, or there is none
primary_within : (links primary : ℕ) → maybe true (λ p. ltb p links) (primary_for primary) ≡ true → (primary < links) ⊎ (primary ≡ 4294967295)
primary_within links primary e = bool_cases (eqb primary 4294967295) (λ n. inr (eqb-true primary 4294967295 n)) (λ n. inl (ltb-true primary links (rw n at e)))

within_primary : (links primary : ℕ) → (primary < links) ⊎ (primary ≡ 4294967295) → maybe true (λ p. ltb p links) (primary_for primary) ≡ true
within_primary links primary (inl b) = bool_cases (eqb primary 4294967295) (λ n. rw n) (λ n. rw n (lt-ltb primary links b))
within_primary links primary (inr e) = rw e

-- k is the machine's site
module _ (k : ℕ) (table : List ℕ) (links primary period first time : ℕ) where
  others_good : good_start (start_for k table links primary period first time) ≡ true → (site : ℕ) → (k ≤ 1 → (site < 2) ⊎ (site ≡ alone)) → Within site links primary period first time
  others_good g site f =
      let p = both_true (leb 1 links) _ g in
      let q = both_true (leb links 4) _ p.1 in
      let r = both_true (maybe true (λ p. ltb p links) (primary_for primary)) _ q.1 in
      let s = both_true (leb 1 period) _ r.1 in
      let t = both_true (leb period 3600) _ s.1 in
      let u = both_true (leb first 2147483647) _ t.1 in
      let v = both_true (leb time last_time) _ u.1 in
      record {
        a_site_or_alone_lem = f (leb-true k 1 v.1);
        fewest_links = leb-true 1 links p.0;
        most_links = leb-true links 4 q.0;
        a_link_or_none_lem = primary_within links primary r.0;
        shortest_period = leb-true 1 period s.0;
        longest_period = leb-true period 3600 t.0;
        highest_first = leb-true first 2147483647 u.0;
        latest = leb-true time last_time v.0;
      }

  pub good : {site : ℕ} → Within site links primary period first time → k ≤ 1 → good_start (start_for k table links primary period first time) ≡ true
  good w b =
      both_of (le-leb 1 links w.fewest_links)
      (both_of (le-leb links 4 w.most_links)
      (both_of (within_primary links primary w.a_link_or_none_lem)
      (both_of (le-leb 1 period w.shortest_period)
      (both_of (le-leb period 3600 w.longest_period)
      (both_of (le-leb first 2147483647 w.highest_first)
      (both_of (le-leb time last_time w.latest) (le-leb k 1 b)))))))

  -- a start of site k, and of an only site
  pub within : good_start (start_for k table links primary period first time) ≡ true → Within k links primary period first time
  within g = others_good g k (λ b. inl (omega (arith, b)))

  pub within_alone : good_start (start_for k table links primary period first time) ≡ true → Within alone links primary period first time
  within_alone g = others_good g alone (λ b. inr refl)

-- the primary, as the site keeps it
module _ (links primary : ℕ) where
  pub primary_kept : (primary < links) ⊎ (primary ≡ 4294967295) → links ≤ 4
      → primary_of primary ≡ or_else 65535 (primary_for primary)
  primary_kept (inl b) few = rw (lt-ltb primary 4 (omega arith), ne_eqb primary 4294967295 (λ e. omega arith))
  primary_kept (inr e) few = rw e

  pub its_link : (primary < links) ⊎ (primary ≡ 4294967295) → (p : ℕ) → primary_for primary ≡ some p → p < links
  its_link (inl b) p q = by (eqb primary 4294967295) q
    where
      by : (e : Bool) → pick e none (some primary) ≡ some p → p < links
      by true q = absurd (let z : ◌≡◌ {A = ℕ} 0 1 = ap (maybe 0 (λ (n : ℕ). 1)) q in omega arith)
      by false q = let e : primary ≡ p = ap (or_else 0) q in omega arith
  its_link (inr e) p q = absurd (let z : ◌≡◌ {A = ℕ} 0 1 = ap (maybe 0 (λ (n : ℕ). 1)) (rw e at q) in omega arith)
