-- The values that start takes are those within their limits.
-- Assumes nothing.
use Rattle.basis.proofs.Std.{ℕ, ◌≤◌, ◌<◌, ◌≡◌, refl, true, ◌⊎◌, inl, inr, arith, leb, ltb, ltb-true, leb-true, eqb-true, lt-ltb, le-ltb, le-leb, eq-eqb, ne_eqb, bool_cases, both_true, both_of, pick}
use Rattle.answer.specs.Times.{last_time}
use Rattle.call_start.specs.Fresh.{alone, site_for}
use Rattle.call_start.specs.Starts.{Within}
use Rattle.call_start.specs.Making.{a_site_or_alone, a_link_or_none, values_within, is_within}

pub site_within : (site : ℕ) → a_site_or_alone site ≡ true → (site < 2) ⊎ (site ≡ alone)
site_within site e = bool_cases (ltb site 2)
    (λ l. inl (ltb-true site 2 l))
    (λ g. inr (eqb-true site alone (rw g at e)))

within_site : (site : ℕ) → (site < 2) ⊎ (site ≡ alone) → a_site_or_alone site ≡ true
within_site site (inl l) = rw (lt-ltb site 2 l)
within_site site (inr n) = bool_cases (ltb site 2) (λ l. rw l) (λ g. rw g (eq-eqb site alone n))

pub is_alone : (site : ℕ) → a_site_or_alone site ≡ true → 2 ≤ site → site ≡ alone
is_alone site e g = eqb-true site alone (rw (le-ltb site 2 g) at e)

-- the site's number as it is kept
pub site_small : (site : ℕ) → pick (ltb site 2) site 0 < 2
site_small site = bool_cases (ltb site 2)
    (λ e. rw e (ltb-true site 2 e))
    (λ e. rw e (omega arith))

pub site_kept : (site : ℕ) → a_site_or_alone site ≡ true → pick (ltb site 2) site 0 ≡ site_for site
site_kept site e = by (site_within site e)
  where
    by : (site < 2) ⊎ (site ≡ alone) → pick (ltb site 2) site 0 ≡ site_for site
    by (inl l) = rw (lt-ltb site 2 l, ne_eqb site alone (λ h. omega (arith, h)))
    by (inr n) = rw (le-ltb site 2 (omega (arith, n)), eq-eqb site alone n) refl

primary_within : (links primary : ℕ) → a_link_or_none links primary ≡ true → (primary < links) ⊎ (primary ≡ 4294967295)
primary_within links primary e = bool_cases (ltb primary links)
    (λ l. inl (ltb-true primary links l))
    (λ g. inr (eqb-true primary 4294967295 (rw g at e)))

within_primary : (links primary : ℕ) → (primary < links) ⊎ (primary ≡ 4294967295) → a_link_or_none links primary ≡ true
within_primary links primary (inl l) = rw (lt-ltb primary links l)
within_primary links primary (inr n) = bool_cases (ltb primary links) (λ l. rw l) (λ g. rw g (eq-eqb primary 4294967295 n))

module _ (site links primary period first time : ℕ) where
  pub within_all : is_within site links primary period first time ≡ true → Within site links primary period first time
  unfolding is_within values_within
  within_all e =
      let o = both_true (a_site_or_alone site) _ e in
      let p = both_true (leb 1 links) _ o.1 in
      let q = both_true (leb links 4) _ p.1 in
      let r = both_true (a_link_or_none links primary) _ q.1 in
      let s = both_true (leb 1 period) _ r.1 in
      let t = both_true (leb period 3600) _ s.1 in
      let u = both_true (leb first 2147483647) _ t.1 in
      record {
        a_site_or_alone_lem = site_within site o.0;
        fewest_links = leb-true 1 links p.0;
        most_links = leb-true links 4 q.0;
        a_link_or_none_lem = primary_within links primary r.0;
        shortest_period = leb-true 1 period s.0;
        longest_period = leb-true period 3600 t.0;
        highest_first = leb-true first 2147483647 u.0;
        latest = leb-true time last_time u.1;
      }

  pub all_within_lem : Within site links primary period first time → is_within site links primary period first time ≡ true
  unfolding is_within values_within
  all_within_lem w =
      both_of (within_site site w.a_site_or_alone_lem)
      (both_of (le-leb 1 links w.fewest_links)
      (both_of (le-leb links 4 w.most_links)
      (both_of (within_primary links primary w.a_link_or_none_lem)
      (both_of (le-leb 1 period w.shortest_period)
      (both_of (le-leb period 3600 w.longest_period)
      (both_of (le-leb first 2147483647 w.highest_first) (le-leb time last_time w.latest)))))))

  pub within_site_so : is_within site links primary period first time ≡ true → a_site_or_alone site ≡ true
  unfolding is_within
  within_site_so e = (both_true (a_site_or_alone site) _ e).0
