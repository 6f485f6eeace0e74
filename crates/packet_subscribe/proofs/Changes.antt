-- From the parts of a change to what the call gives, the site's table being t.
-- Assumes nothing.
use Rattle.basis.proofs.Std.{ℕ, zero, suc, ◌≡◌, refl, sym, ap, ap₂, subst, ◌∙◌, Bool, true, false, List, [], ◌++◌, length, pick}
use Rattle.answer.specs.declared.Refusal.TheVariants.{SequenceSpent}
use Rattle.answer.specs.declared.Answer.{Answer}
use Rattle.answer.specs.declared.Answer.TheVariants.{Done, Refused}
use Rattle.answer.specs.Given.Hint.{none}
use Rattle.entry.specs.declared.Entry.{Entry}
use Rattle.output.specs.Put.{Wrote}
use Rattle.write_message.specs.Message.Message.{ack}
use Rattle.write_message.specs.Pieces.{pieces}
use Rattle.table_whole.specs.declared.SiteTable.{SiteTable}
use Rattle.read_head.specs.declared.Verdict.{Verdict}
use Rattle.read_head.specs.declared.Verdict.TheVariants.{Good}
use Rattle.read_lists.specs.declared.StatusEntry.{StatusEntry}
use Rattle.read_lists.specs.declared.StatusFields.{StatusFields}
use Rattle.packet_lookup.specs.declared.Sought.{Sought}
use Rattle.packet_lookup.specs.declared.Sought.TheVariants.{Is, Nothing}
use Rattle.packet_lookup.specs.Sought.{component_sought, status_sought, entry_at, all_statuses}
use Rattle.subscription.specs.declared.Subscription.{Subscription}
use Rattle.site.specs.declared.Site.{Site}
use Rattle.site.specs.Site.{with_subscriptions}
use Rattle.site.specs.Call.{never}
use Rattle.store_site.specs.Layout.{site_of, with_last}
use Rattle.store_site.specs.Turns.{Turns}
use Rattle.store_call.specs.Called.{GivesIn}
use Rattle.store_call.specs.Issued.{batch_in, issued_in}
use Rattle.store_call.proofs.IssuedLaws.{issued_none, issued_end}
use Rattle.packet_answer.specs.declared.Question.{Question}
use Rattle.packet_answer.specs.Taken.{Taken, not_acked, by_verdict, unknown_status}
use Rattle.packet_answer.specs.Ending.{report}
use Rattle.packet_answer.proofs.Ends.{acks, refuses_spent}
use Rattle.packet_subscribe.specs.Subscribing.{wanted, replaced_at, replaced, record_of, records, changed, judged, asked, subscribing_taken}
use Rattle.packet_subscribe.specs.InPlace.{MovesIn}
use Rattle.packet_subscribe.proofs.Kept.{kept}
use Rattle.packet_subscribe.proofs.Loops.{table_is}

-- replacing changes subscriptions alone
only_at : (s : Site) (l : ℕ) (x : Subscription) (q : Sought) → replaced_at s l x q ≡ with_subscriptions s (replaced_at s l x q).subscriptions
only_at s l x (Is k) = refl
only_at s l x Nothing = refl

pub only_subscriptions : (subscribing : Bool) (s : Site) (l time c : ℕ) (es : List StatusEntry) (n : ℕ)
    → replaced subscribing s l time c es n ≡ with_subscriptions s (replaced subscribing s l time c es n).subscriptions
only_subscriptions subscribing s l time c es zero = refl
only_subscriptions subscribing s l time c es (suc n) =
    let x = wanted subscribing (entry_at es n) time in
    let q = status_sought s.table c (entry_at es n) in
    let r = replaced subscribing s l time c es n in
    only_at r l x q ∙ ap (λ (u : Site). with_subscriptions u (replaced_at r l x q).subscriptions) (only_subscriptions subscribing s l time c es n)

record_same : (s : Site) (x : List Subscription) (l time : ℕ) (q : Sought) → record_of (with_subscriptions s x) l time q ≡ record_of s l time q
record_same s x l time (Is k) = refl
record_same s x l time Nothing = refl

records_same : (s : Site) (x : List Subscription) (l time c : ℕ) (es : List StatusEntry) (n : ℕ)
    → records (with_subscriptions s x) l time c es n ≡ records s l time c es n
records_same s x l time c es zero = refl
records_same s x l time c es (suc n) =
    ap₂ (λ (a b : List Entry). a ++ b) (records_same s x l time c es n) (record_same s x l time (status_sought s.table c (entry_at es n)))

module _ (subscribing : Bool) (s : Site) (l time c : ℕ) (es : List StatusEntry) (n : ℕ) where
  -- so the records are the same after it, and the pool and the next number are
  pub records_after : records (replaced subscribing s l time c es n) l time c es n ≡ records s l time c es n
  records_after =
      ap (λ (u : Site). records u l time c es n) (only_subscriptions subscribing s l time c es n)
      ∙ records_same s (replaced subscribing s l time c es n).subscriptions l time c es n

  pub spent_after : (xs : List Entry) → (batch_in (replaced subscribing s l time c es n) xs).spent ≡ (batch_in s xs).spent
  spent_after xs = ap (λ (u : Site). (batch_in u xs).spent) (only_subscriptions subscribing s l time c es n)

-- both loops
module _ (t : SiteTable) (l time c : ℕ) (es : List StatusEntry) (n : ℕ) {ps qs ws us vs : List ℕ} where
  pub turned_on : (subscribing : Bool) → subscribing ≡ true
      → MovesIn t (λ (s : Site). replaced subscribing s l time c es n) ps ps ws us
      → MovesIn t (λ (s : Site). issued_in s (records s l time c es n)) ps qs us vs
      → MovesIn t (λ (s : Site). issued_in (replaced subscribing s l time c es n) (pick subscribing (records s l time c es n) [])) ps qs ws vs
  turned_on subscribing e a b =
      record {
        site =
            rw e
            (b.site
            ∙ ap (λ (u : Site). issued_in u (records u l time c es n)) (rw e at a.site)
            ∙ ap (λ (xs : List Entry). issued_in (replaced true (site_of ps ws t) l time c es n) xs) (records_after true (site_of ps ws t) l time c es n));
        plain = λ p. b.plain (a.plain p);
      }

module _ (t : SiteTable) (l time c : ℕ) (es : List StatusEntry) (n : ℕ) {ps ws vs : List ℕ} where
  pub turned_off : (subscribing : Bool) → subscribing ≡ false
      → MovesIn t (λ (s : Site). replaced subscribing s l time c es n) ps ps ws vs
      → MovesIn t (λ (s : Site). issued_in (replaced subscribing s l time c es n) (pick subscribing (records s l time c es n) [])) ps ps ws vs
  turned_off subscribing e a =
      record { site = rw e (rw e at a.site ∙ sym (issued_none (replaced false (site_of ps ws t) l time c es n))); plain = a.plain }

module _ (subscribing : Bool) (s : Site) (q : Question) (f : StatusFields) (c : ℕ) where
  judged_all : all_statuses s.table c f.entries f.count ≡ true → judged subscribing s q f c ≡ changed subscribing s q f c
  unfolding judged
  judged_all e = rw e refl

  judged_not : all_statuses s.table c f.entries f.count ≡ false → judged subscribing s q f c ≡ not_acked s q unknown_status
  unfolding judged
  judged_not e = rw e refl

module _ (subscribing : Bool) (t : SiteTable) (q : Question) (f : StatusFields) (c : ℕ) (ps ws : List ℕ) where
  abbrev issued : List Entry
  issued = pick subscribing (records (site_of ps ws t) q.link q.time c f.entries f.count) []

  -- where every entry is a status there is a record for each
  numbers : (b : Bool) → all_statuses t c f.entries f.count ≡ true
      → length (pick b (records (site_of ps ws t) q.link q.time c f.entries f.count) []) ≡ pick b f.count 0
  numbers true a = kept.one_each (site_of ps ws t) q.link q.time c f.entries f.count (rw (table_is ps ws t) a)
  numbers false a = refl

  -- number 10 is judged by how many records there are
  module _ {n : ℕ} {b : Bool} (a : all_statuses t c f.entries f.count ≡ true) (e : n ≡ pick subscribing f.count 0)
      (h : (os : List ℕ) (u : SiteTable) (es : List Entry) → length es ≡ n → b ≡ (batch_in (site_of os ws u) es).spent) where
    spent_is : {d : Bool} → b ≡ d → (batch_in (replaced subscribing (site_of ps ws t) q.link q.time c f.entries f.count) issued).spent ≡ d
    spent_is g = spent_after subscribing (site_of ps ws t) q.link q.time c f.entries f.count issued ∙ sym (h ps t issued (numbers subscribing a ∙ sym e)) ∙ g

    pub change_refused : {xs : List ℕ} → b ≡ true
        → GivesIn t q.time never (changed subscribing (site_of ps ws t) q f c).plan ps ps ws ws xs xs (Refused SequenceSpent)
    unfolding changed
    change_refused g = refuses_spent t q (replaced subscribing (site_of ps ws t) q.link q.time c f.entries f.count) issued none (spent_is g) refl

    pub change_done : {qs us vs xs ys : List ℕ} {end : ℕ} {r : Answer}
        → b ≡ false
        → Wrote xs 0 (pieces (ack q.received.bytes)) ys end
        → MovesIn t (λ (s : Site). issued_in (replaced subscribing s q.link q.time c f.entries f.count) (pick subscribing (records s q.link q.time c f.entries f.count) [])) ps qs ws us
        → r ≡ Done (report 0 0 end 0)
        → Turns (λ (s : Site). with_last s q.time) us vs
        → GivesIn t q.time never (changed subscribing (site_of ps ws t) q f c).plan ps qs ws vs xs ys r
    unfolding changed
    change_done {qs} g w p y m =
        let after = replaced subscribing (site_of ps ws t) q.link q.time c f.entries f.count in
        acks t q after issued none (spent_is g) w y
        (m.site qs t ∙ ap (λ (s : Site). with_last s q.time) p.site ∙ issued_end after issued q.time) (λ x. m.plain (p.plain x))

  pub passes : {qs vs xs ys : List ℕ} {r : Answer}
      → all_statuses t c f.entries f.count ≡ true
      → GivesIn t q.time never (changed subscribing (site_of ps ws t) q f c).plan ps qs ws vs xs ys r
      → GivesIn t q.time never (judged subscribing (site_of ps ws t) q f c).plan ps qs ws vs xs ys r
  passes {qs} {vs} {xs} {ys} {r} e g =
      subst (λ (x : Taken). GivesIn t q.time never x.plan ps qs ws vs xs ys r)
      (sym (judged_all subscribing (site_of ps ws t) q f c (rw (table_is ps ws t) e))) g

  pub fails : {qs vs xs ys : List ℕ} {r : Answer}
      → all_statuses t c f.entries f.count ≡ false
      → GivesIn t q.time never (not_acked (site_of ps ws t) q unknown_status).plan ps qs ws vs xs ys r
      → GivesIn t q.time never (judged subscribing (site_of ps ws t) q f c).plan ps qs ws vs xs ys r
  fails {qs} {vs} {xs} {ys} {r} e g =
      subst (λ (x : Taken). GivesIn t q.time never x.plan ps qs ws vs xs ys r)
      (sym (judged_not subscribing (site_of ps ws t) q f c (rw (table_is ps ws t) e))) g

module _ (subscribing : Bool) (t : SiteTable) (q : Question) (f : StatusFields) (ps ws : List ℕ) where
  pub asks : {b d : Sought} {qs vs xs ys : List ℕ} {r : Answer}
      → b ≡ d
      → GivesIn t q.time never (asked subscribing (site_of ps ws t) q f b).plan ps qs ws vs xs ys r
      → GivesIn t q.time never (asked subscribing (site_of ps ws t) q f d).plan ps qs ws vs xs ys r
  asks e g = rw (← e) g

  good : {v : Verdict} (x : Taken) {qs vs xs ys : List ℕ} {r : Answer}
      → v ≡ Good
      → GivesIn t q.time never x.plan ps qs ws vs xs ys r
      → GivesIn t q.time never (by_verdict v (site_of ps ws t) q x).plan ps qs ws vs xs ys r
  good x e g = rw e g

  pub takes : {qs vs xs ys : List ℕ} {r : Answer}
      → f.verdict ≡ Good
      → GivesIn t q.time never (asked subscribing (site_of ps ws t) q f (component_sought t f.component)).plan ps qs ws vs xs ys r
      → GivesIn t q.time never (subscribing_taken subscribing (site_of ps ws t) q f).plan ps qs ws vs xs ys r
  unfolding subscribing_taken
  takes e g =
      good (asked subscribing (site_of ps ws t) q f (component_sought (site_of ps ws t).table f.component)) e
      (asks (ap (λ (u : SiteTable). component_sought u f.component) (sym (table_is ps ws t))) g)
