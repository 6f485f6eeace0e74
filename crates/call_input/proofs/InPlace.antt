-- The records of a value in place, link by link: how many there are, and the site with them.
-- Assumes nothing.
use Rattle.basis.proofs.Std.{ℕ, zero, suc, ◌+◌, ◌*◌, ◌≡◌, refl, sym, ap, true, false, List, [], ◌∷◌, arith, length, length-append, bit}
use Rattle.entry.specs.declared.Entry.{Entry}
use Rattle.status.specs.declared.Set.{Set as StatusSet}
use Rattle.subscription.specs.Subscription.{issues_on}
use Rattle.aggregated.specs.declared.Set.{Set as AggregatedSet}
use Rattle.aggregated.specs.Issued.{issued_of as aggregated_record}
use Rattle.pool_laws.specs.Upwards.{entries_to}
use Rattle.pool_laws.proofs.Entries.{none_to}
use Rattle.table_whole.specs.declared.SiteTable.{SiteTable}
use Rattle.site.specs.declared.Site.{Site}
use Rattle.site.specs.Site.{link_at, owner_of}
use Rattle.site.specs.Parts.{subscription_at}
use Rattle.site.specs.Records.{status_record}
use Rattle.store_site.specs.Layout.{site_of}
use Rattle.store_site.specs.Turns.{Moves}
use Rattle.store_site.proofs.TurnsLaws.{moves_as}
use Rattle.store_call.specs.Issued.{issued_in}
use Rattle.store_call.proofs.IssuedLaws.{issued_none, places_none, places_next, count_if, count_one}
use Rattle.call_input.specs.Inputs.{status_entry, aggregated_entry}

-- of the links below l
pub record Issued (f : Site → ℕ → List Entry) (l : ℕ) (ps qs ws vs : List ℕ) : Type 0 where
  pub moves : Moves (λ (s : Site). issued_in s (entries_to (f s) l)) ps qs ws vs

-- of all that are configured
pub issued_all_lem : {f : Site → ℕ → List Entry} {l : ℕ} {ps qs ws vs : List ℕ} → ((t : SiteTable) → l ≡ (site_of ps ws t).linkcount) → Issued f l ps qs ws vs
    → Moves (λ (s : Site). issued_in s (entries_to (f s) s.linkcount)) ps qs ws vs
issued_all_lem {f} {l} {ps} {ws = ws} e a = moves_as a.moves (λ t. ap (λ (n : ℕ). issued_in (site_of ps ws t) (entries_to (f (site_of ps ws t)) n)) (e t))

module _ (k : ℕ) (x : StatusSet) (time : ℕ) where
  -- link l's record, or none
  abbrev pub entry_of : Site → ℕ → List Entry
  entry_of s l = status_entry s k x time l

  module _ (s : Site) (l : ℕ) where
    pub status_issues : issues_on (subscription_at s (l * 32 + k)) x.changed ≡ true → issued_in s (status_record (link_at s l) x.status (owner_of s l) k time ∷ []) ≡ issued_in s (entry_of s l)
    status_issues h = rw h refl

    pub status_silent : issues_on (subscription_at s (l * 32 + k)) x.changed ≡ false → s ≡ issued_in s (entry_of s l)
    status_silent h = rw h (sym (issued_none s))

    pub count_status : {n m : ℕ} → n ≡ length (entries_to (entry_of s) l) → m ≡ n + bit (issues_on (subscription_at s (l * 32 + k)) x.changed)
        → m ≡ length (entries_to (entry_of s) (l + 1))
    count_status p q =
        let b = issues_on (subscription_at s (l * 32 + k)) x.changed in
        count_one (entry_of s) l b p (count_if b (status_record (link_at s l) x.status (owner_of s l) k time)) q

  steady : (s : Site) (es : List Entry) (l : ℕ) → entry_of (issued_in s es) l ≡ entry_of s l
  unfolding issued_in
  steady s es l = refl

  pub statuses_none : (ps ws : List ℕ) → Issued entry_of 0 ps ps ws ws
  statuses_none ps ws = record { moves = places_none entry_of steady ps ws }

  pub statuses_next : (l : ℕ) {ps os qs ws us vs : List ℕ} → Issued entry_of l ps os ws us → Moves (λ (s : Site). issued_in s (entry_of s l)) os qs us vs → Issued entry_of (l + 1) ps qs ws vs
  statuses_next l a b = record { moves = places_next entry_of steady l a.moves b }

module _ (x : AggregatedSet) where
  abbrev pub each : Site → ℕ → List Entry
  each s l = aggregated_entry s x l

  module _ (s : Site) (l : ℕ) where
    pub aggregated_issues : x.changed ≡ true → issued_in s (aggregated_record x.aggregated (owner_of s l) ∷ []) ≡ issued_in s (each s l)
    aggregated_issues h = rw h refl

    pub aggregated_silent : x.changed ≡ false → s ≡ issued_in s (each s l)
    aggregated_silent h = rw h (sym (issued_none s))

  same : (s : Site) (es : List Entry) (l : ℕ) → each (issued_in s es) l ≡ each s l
  unfolding issued_in
  same s es l = refl

  pub aggregated_none : (ps ws : List ℕ) → Issued each 0 ps ps ws ws
  aggregated_none ps ws = record { moves = places_none each same ps ws }

  pub aggregated_next : (l : ℕ) {ps os qs ws us vs : List ℕ} → Issued each l ps os ws us → Moves (λ (s : Site). issued_in s (each s l)) os qs us vs → Issued each (l + 1) ps qs ws vs
  aggregated_next l a b = record { moves = places_next each same l a.moves b }

  module _ (s : Site) where
    pub one_each : x.changed ≡ true → (n : ℕ) → n ≡ length (entries_to (each s) n)
    one_each h zero = refl
    one_each h (suc n) =
        let one : length (each s n) ≡ 1 = rw h refl in
        omega (arith, one_each h n, one, length-append (entries_to (each s) n) (each s n))

    pub none_at_all : x.changed ≡ false → (n : ℕ) → 0 ≡ length (entries_to (each s) n)
    none_at_all h n = sym (ap length (none_to (each s) n (λ i g. rw h refl)))
