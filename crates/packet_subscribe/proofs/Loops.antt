-- One entry more, in each of the two loops.
-- Assumes nothing.
use Rattle.basis.proofs.Std.{ℕ, ◌+◌, ◌*◌, ◌≡◌, refl, sym, ap, ap₂, subst, ◌∙◌, Bool, List, [], ◌∷◌, add-one}
use Rattle.table_whole.specs.declared.SiteTable.{SiteTable}
use Rattle.entry.specs.declared.Entry.{Entry}
use Rattle.read_lists.specs.declared.StatusEntry.{StatusEntry}
use Rattle.packet_lookup.specs.declared.Sought.{Sought}
use Rattle.packet_lookup.specs.declared.Sought.TheVariants.{Is, Nothing}
use Rattle.packet_lookup.specs.Sought.{status_sought, entry_at}
use Rattle.subscription.specs.declared.Subscription.{Subscription}
use Rattle.status.specs.declared.Status.{Status}
use Rattle.site.specs.declared.Site.{Site}
use Rattle.site.specs.Site.{link_at, owner_of}
use Rattle.site.specs.Parts.{status_at, with_subscription}
use Rattle.site.specs.Records.{status_record}
use Rattle.store_site.specs.Layout.{site_of}
use Rattle.store_site.specs.Turns.{Turns, Moves}
use Rattle.store_site.proofs.TurnsLaws.{turns_none, turns_as, moves_none, moves_as}
use Rattle.store_call.specs.Issued.{issued_in}
use Rattle.store_call.proofs.IssuedLaws.{issued_none, issued_more}
use Rattle.packet_subscribe.specs.Subscribing.{wanted, replaced_at, replaced, record_of, records}
use Rattle.packet_subscribe.specs.InPlace.{MovesIn}

pub table_is : (ps ws : List ℕ) (t : SiteTable) → (site_of ps ws t).table ≡ t
unfolding site_of
table_is ps ws t = refl

-- one entry, by what it names
module _ (ws : List ℕ) (l : ℕ) where
  pub replaced_like : {p q : Sought} {vs : List ℕ} (x : Subscription) → p ≡ q → Turns (λ (s : Site). replaced_at s l x p) ws vs → Turns (λ (s : Site). replaced_at s l x q) ws vs
  replaced_like {vs = vs} x e h = subst (λ (z : Sought). Turns (λ (s : Site). replaced_at s l x z) ws vs) e h

  pub replaced_one : {k i : ℕ} {q : Sought} {x y : Subscription} {vs : List ℕ} → Is k ≡ q → i ≡ l * 32 + k → x ≡ y
      → Turns (λ (s : Site). with_subscription s i x) ws vs → Turns (λ (s : Site). replaced_at s l y q) ws vs
  replaced_one {y = y} {vs} g e f h =
      replaced_like y g (turns_as h (λ ps t. ap₂ (λ (i : ℕ) (x : Subscription). with_subscription (site_of ps ws t) i x) e f))

  pub not_replaced : (x : Subscription) → Turns (λ (s : Site). replaced_at s l x Nothing) ws ws
  not_replaced x = turns_none ws (λ ps t. refl)

module _ (ps ws : List ℕ) (l time : ℕ) where
  pub record_like : {p q : Sought} {qs vs : List ℕ} → p ≡ q → Moves (λ (s : Site). issued_in s (record_of s l time p)) ps qs ws vs
      → Moves (λ (s : Site). issued_in s (record_of s l time q)) ps qs ws vs
  record_like {qs = qs} {vs} e h = subst (λ (z : Sought). Moves (λ (s : Site). issued_in s (record_of s l time z)) ps qs ws vs) e h

  pub record_one : (k : ℕ) {v : Status} {e : Entry} {qs vs : List ℕ}
      → ((os : List ℕ) (t : SiteTable) → v ≡ status_at (site_of os ws t) k)
      → ((os : List ℕ) (t : SiteTable) → e ≡ status_record (link_at (site_of os ws t) l) v (owner_of (site_of os ws t) l) k time)
      → Moves (λ (s : Site). issued_in s (e ∷ [])) ps qs ws vs
      → Moves (λ (s : Site). issued_in s (record_of s l time (Is k))) ps qs ws vs
  record_one k f g h =
      moves_as h
      (λ t. ap (λ (x : Entry). issued_in (site_of ps ws t) (x ∷ [])) (g ps t ∙ ap (λ (x : Status). status_record (link_at (site_of ps ws t) l) x (owner_of (site_of ps ws t) l) k time) (f ps t)))

  pub not_issued : Moves (λ (s : Site). issued_in s (record_of s l time Nothing)) ps ps ws ws
  not_issued = moves_none ps ws (λ t. sym (issued_none (site_of ps ws t)))

module _ (t : SiteTable) {ps ws : List ℕ} where
  -- before the first entry
  pub none_replaced : (subscribing : Bool) (l time c : ℕ) (es : List StatusEntry) → MovesIn t (λ (s : Site). replaced subscribing s l time c es 0) ps ps ws ws
  none_replaced subscribing l time c es = record { site = refl; plain = λ p. p }

  pub no_record : (l time c : ℕ) (es : List StatusEntry) → MovesIn t (λ (s : Site). issued_in s (records s l time c es 0)) ps ps ws ws
  no_record l time c es = record { site = sym (issued_none (site_of ps ws t)); plain = λ p. p }

  pub one_more_replaced : (subscribing : Bool) (l time c : ℕ) (es : List StatusEntry) (i : ℕ) {us vs : List ℕ} {e : StatusEntry}
      → MovesIn t (λ (s : Site). replaced subscribing s l time c es i) ps ps ws us
      → e ≡ entry_at es i
      → Turns (λ (s : Site). replaced_at s l (wanted subscribing e time) (status_sought t c e)) us vs
      → MovesIn t (λ (s : Site). replaced subscribing s l time c es (i + 1)) ps ps ws vs
  one_more_replaced subscribing l time c es i f g h =
      record {
        site =
            rw (add-one i)
            (h.site ps t
            ∙ ap₂ (λ (x : Site) (y : StatusEntry). replaced_at x l (wanted subscribing y time) (status_sought t c y)) f.site g
            ∙ ap (λ (u : SiteTable). replaced_at (replaced subscribing (site_of ps ws t) l time c es i) l (wanted subscribing (entry_at es i) time) (status_sought u c (entry_at es i))) (sym (table_is ps ws t)));
        plain = λ p. h.plain (f.plain p);
      }

-- records issued change neither the link's phase nor a status' value
record_issued : (s : Site) (xs : List Entry) (l time : ℕ) (q : Sought) → record_of (issued_in s xs) l time q ≡ record_of s l time q
unfolding issued_in
record_issued s xs l time (Is k) = refl
record_issued s xs l time Nothing = refl

module _ (t : SiteTable) {ps ws : List ℕ} where
  pub one_more_record : (l time c : ℕ) (es : List StatusEntry) (i : ℕ) {os qs us vs : List ℕ} {e : StatusEntry}
      → MovesIn t (λ (s : Site). issued_in s (records s l time c es i)) ps os ws us
      → e ≡ entry_at es i
      → Moves (λ (s : Site). issued_in s (record_of s l time (status_sought t c e))) os qs us vs
      → MovesIn t (λ (s : Site). issued_in s (records s l time c es (i + 1))) ps qs ws vs
  one_more_record l time c es i f g h =
      let s = site_of ps ws t in
      let xs = records s l time c es i in
      let q = status_sought s.table c (entry_at es i) in
      record {
        site =
            rw (add-one i)
            (h.site t
            ∙ ap₂ (λ (x : Site) (y : StatusEntry). issued_in x (record_of x l time (status_sought t c y))) f.site g
            ∙ ap (λ (u : SiteTable). issued_in (issued_in s xs) (record_of (issued_in s xs) l time (status_sought u c (entry_at es i)))) (sym (table_is ps ws t))
            ∙ ap (λ (ys : List Entry). issued_in (issued_in s xs) ys) (record_issued s xs l time q)
            ∙ issued_more s xs (record_of s l time q));
        plain = λ p. h.plain (f.plain p);
      }
