-- What start left is read again: the site that it made, of the table that it was given.
-- Assumes nothing.
use Rattle.basis.proofs.Std.{ℕ, zero, suc, ◌<◌, ◌≡◌, refl, sym, ap, ap₂, subst, ◌∙◌, true, true≢false, ◌⊎◌, inl, inr, List, arith, ltb, get_or, replicate, get_or-replicate, ltb-true, eq-eqb, ne_eqb, bool_cases}
use Rattle.answer.specs.declared.Answer.{Answer}
use Rattle.answer.specs.Number.{is_done}
use Rattle.awaited.specs.Awaited.{nothing_awaited}
use Rattle.awaited.specs.Slot.{free_slot}
use Rattle.pool.specs.declared.Pool.{Pool}
use Rattle.link.specs.Fields.{closed_link}
use Rattle.subscription.specs.Subscription.{none}
use Rattle.alarm.specs.Alarm.{beginning}
use Rattle.status.specs.Status.{unknown}
use Rattle.table_whole.specs.declared.SiteTable.{SiteTable}
use Rattle.table_whole.specs.Memory.{memory_of}
use Rattle.site.specs.declared.Step.{Step}
use Rattle.store_site.specs.Layout.{pool_in, site_of}
use Rattle.store_site.specs.Turns.{Plain}
use Rattle.store_table.specs.Layout.{table_of, layout_of}
use Rattle.store_table.proofs.Kept.{kept_table}
use Rattle.store_whole.specs.Range.{SlotFits, LinkFits, SubscriptionFits, AlarmFits, StatusFits, InRange}
use Rattle.store_whole.proofs.Forth.{site_forth, plain_forth}
use Rattle.call_start.specs.Fresh.{alone, site_for, pool_for, fresh, primary_of}
use Rattle.call_start.specs.Starts.{Starts}
use Rattle.call_start.specs.Starts.Starts.{starts, refuses}
use Rattle.call_start.specs.Begun.{Begun, StartsIn}
use Rattle.call_start.proofs.BegunLaws.{fresh_table}

-- every element of a list that is filled with one
filled : {A : Type 0} (P : A → Type 0) (n : ℕ) (x d : A) → P x → (k : ℕ) → k < n → P (get_or (replicate n x) k d)
filled P n x d p k h = subst P (sym (get_or-replicate n k x d h)) p

zeros : (n i : ℕ) → ◌≡◌ {A = ℕ} (get_or (replicate n 0) i 0) 0
zeros zero i = refl
zeros (suc n) zero = refl
zeros (suc n) (suc i) = zeros n i

slot_fits : SlotFits free_slot
slot_fits = record { sequence = omega arith; purpose = omega arith; sixteen = refl; byte = λ i. rw (zeros 16 i) (omega arith) }

link_fits : LinkFits closed_link
unfolding nothing_awaited
link_fits =
    record {
      alarm = omega arith;
      major = omega arith;
      minor = omega arith;
      patch = omega arith;
      sixteen = refl;
      slot = filled SlotFits 16 free_slot free_slot slot_fits;
    }

subscription_fits : SubscriptionFits none
subscription_fits = record { seconds = omega arith; state = omega arith }

alarm_fits : (time : ℕ) → AlarmFits (beginning time)
alarm_fits time = record { event = omega arith; acknowledged = omega arith; active = omega arith; suspended = omega arith }

status_fits : StatusFits unknown
status_fits = record { value = omega arith; known = omega arith }

pub fresh_range : (p : Pool) (site : ℕ) (t : SiteTable) (links primary period first time : ℕ) → site < 2 → links < 65536 → primary < 65536 → period < 2147483648
    → InRange (fresh p site t links primary period first time)
unfolding fresh
fresh_range p site t links primary period first time o l m q =
    record {
      site = o;
      period = q;
      linkcount = l;
      primary = m;
      links = refl;
      subscriptions = refl;
      alarms = refl;
      statuses = refl;
      link = filled LinkFits 4 closed_link closed_link link_fits;
      subscription = filled SubscriptionFits 128 none none subscription_fits;
      alarm = filled AlarmFits 32 (beginning time) (beginning 0) (alarm_fits time);
      status = filled StatusFits 32 unknown unknown status_fits;
    }

primary_small : (primary : ℕ) → primary_of primary < 65536
primary_small primary =
    bool_cases (ltb primary 4)
    (λ e. rw e (let h = ltb-true primary 4 e in omega arith))
    (λ e. rw e (omega arith))

site_small : (site : ℕ) → (site < 2) ⊎ (site ≡ alone) → site_for site < 2
site_small site (inl l) = rw (ne_eqb site alone (λ h. omega (arith, h))) l
site_small site (inr n) = rw (eq-eqb site alone n) (omega arith)

module _ {b : List ℕ} {site links primary period first time : ℕ} {ps qs ws vs xs ys : List ℕ} {r : Answer} where
  read : (x : Step) → Starts b (pool_in ps) site links primary period first time x → Begun x ps qs ws vs xs ys r → is_done r ≡ true → (site_of qs vs (table_of ys) ≡ x.site) × Plain vs
  read x (starts {t = t} a e w) g d =
      let p = pool_for site (pool_in ps) in
      let s = fresh p (site_for site) (memory_of t) links (primary_of primary) period first time in
      let own = fresh_table p (site_for site) (memory_of t) links (primary_of primary) period first time in
      let range = fresh_range p (site_for site) (memory_of t) links (primary_of primary) period first time (site_small site w.a_site_or_alone_lem)
      (let h = w.most_links in omega arith) (primary_small primary) (let h = w.longest_period in omega arith) in
      let table : table_of ys ≡ s.table = ap table_of (g.bytes d ∙ ap layout_of own) ∙ kept_table t a ∙ sym own in
      (ap₂ (site_of qs) (g.words d) table ∙ site_forth s range qs (g.pool d), subst Plain (sym (g.words d)) (plain_forth s range))
  read x (refuses n) g d = absurd (true≢false (sym d ∙ ap is_done g.answer))

  -- where start is done, the words and the bytes are the site that it made, and what has happened on its links is 0 or 1
  module _ (s : StartsIn b site links primary period first time ps qs ws vs xs ys r) (d : is_done r ≡ true) where
    pub site_again : site_of qs vs (table_of ys) ≡ s.step.site
    site_again = (read s.step s.starts s.begun d).0
