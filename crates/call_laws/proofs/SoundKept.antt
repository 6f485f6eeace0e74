-- Every call whose plan is sound leaves a sound site.
-- Assumes nothing.
use Rattle.basis.proofs.Std.{ℕ, ◌+◌, ◌≤◌, ◌≡◌, refl, sym, ◌∙◌, subst, Bool, true, false, true≢false, List, [], ◌∷◌, arith, ltb, length, ltb-false, lt-ltb, pick, both}
use Rattle.answer.specs.declared.Refusal.{Refusal}
use Rattle.answer.specs.declared.Refusal.TheVariants.{NoSuchLink, NoSuchItem, BadTime, SequenceSpent}
use Rattle.answer.specs.declared.Answer.{Answer}
use Rattle.answer.specs.declared.Answer.TheVariants.{Done, Refused}
use Rattle.answer.specs.Order.{in_order, None}
use Rattle.answer.specs.Order.None.{more}
use Rattle.answer.specs.Times.{last_time}
use Rattle.entry.specs.declared.Entry.{Entry}
use Rattle.pool.specs.declared.Pool.{Pool}
use Rattle.pool_laws.specs.Batch.{beginning, issued_all}
use Rattle.pool_laws.specs.BatchLaws.{Lasting}
use Rattle.pool_laws.proofs.BatchKept.{kept as batched}
use Rattle.site.specs.declared.Site.{Site}
use Rattle.site.specs.Site.{bad_time_at, with_issued}
use Rattle.site.specs.Call.{Plan, batch_of, answer_of, step_of}
use Rattle.call_laws.specs.Numbers.{conditions}
use Rattle.call_laws.proofs.Given.{numbers}
use Rattle.call_laws.proofs.Stepped.{steps}
use Rattle.call_laws.specs.Sound.{EntryOf, HeldOf, SoundAt, Sound}
use Rattle.call_laws.specs.SoundPlans.{SoundPlan, Keeps}
use Rattle.call_laws.proofs.Held.{held_added}
use Rattle.call_laws.proofs.SoundEntries.{renumbered_too, each_so}
use Rattle.call_laws.proofs.Parts.{later}

-- where no condition of a call applies, each does not
module _ {c : Refusal → Bool} where
  pub a_link : None c in_order → c NoSuchLink ≡ false
  a_link (more h n) = h

  pub an_item : None c in_order → c NoSuchItem ≡ false
  an_item (more a (more h n)) = h

  pub in_time : None c in_order → c BadTime ≡ false
  in_time (more a (more b (more d (more e (more h n))))) = h

  pub not_spent : None c in_order → c SequenceSpent ≡ false
  not_spent (more a (more b (more d (more e (more f (more g (more i (more j (more k (more l (more h n))))))))))) = h

-- neither before the last time of a call done, nor above the last of all
pub not_before : (s : Site) (time : ℕ) → bad_time_at s time ≡ false → s.last ≤ time
not_before s time h = by (ltb time s.last) refl h
  where
    by : (t : Bool) → ltb time s.last ≡ t → pick t true (ltb last_time time) ≡ false → s.last ≤ time
    by true e g = absurd (true≢false g)
    by false e g = ltb-false time s.last e

pub not_above_lem : (s : Site) (time : ℕ) → bad_time_at s time ≡ false → time ≤ last_time
not_above_lem s time h = by (ltb time s.last) h
  where
    by : (t : Bool) → pick t true (ltb last_time time) ≡ false → time ≤ last_time
    by true g = absurd (true≢false g)
    by false g = ltb-false last_time time g

-- a sound site is sound at the time of a call that is in time
pub at_time : (s : Site) (time : ℕ) → Sound s → bad_time_at s time ≡ false → SoundAt time s
at_time s time h e = later s.last s h time (not_before s time e) (not_above_lem s time e)

-- the numbers of a list that is not spent
lasting : (p : Pool) (q : ℕ) (es : List Entry) → q ≤ 2147483648 → (issued_all 8 p q es).spent ≡ false → Lasting q es
lasting p q es h e = by es (sym ((batched 8 (omega arith)).spent p q es) ∙ e)
  where
    by : (xs : List Entry) → both (ltb 0 (length xs)) (ltb 2147483648 (q + length xs)) ≡ false → Lasting q xs
    by [] g = omega (arith, h)
    by (x ∷ xs) g = ltb-false 2147483648 (q + length (x ∷ xs)) (sym (rw (lt-ltb 0 (length (x ∷ xs)) (omega arith)) refl) ∙ g)

pub issued_sound : (s : Site) (time : ℕ) (p : Plan) → SoundPlan s time p → (batch_of p).spent ≡ false → Sound (with_issued p.site (batch_of p) time)
issued_sound s time p h e =
    let lasts : Lasting p.site.next p.issued = lasting p.site.pool p.site.next p.issued h.site.next e in
    record {
      site = h.site.site;
      start = h.site.start;
      last = h.site.last;
      next = omega (arith, lasts, (batched 8 (omega arith)).next p.site.pool p.site.next p.issued lasts);
      links = h.site.links;
      subscriptions = h.site.subscriptions;
      alarms = h.site.alarms;
      statuses = h.site.statuses;
      aggregated = h.site.aggregated;
      held =
          held_added (HeldOf p.site time) 8 (beginning p.site.pool p.site.next) p.issued
          (each_so (EntryOf p.site time) _ (λ e g q b o. renumbered_too p.site.site p.site.linkcount p.site.primary p.site.table time e q b g) p.issued h.issued)
          h.site.held;
    }

pub kept : Keeps
kept s time refuses p end h f = by (answer_of refuses p end) refl
  where
    by : (a : Answer) → answer_of refuses p end ≡ a → Sound (step_of s time refuses p end).site
    by (Refused r) e = subst Sound (sym ((steps s time refuses p end).same_site r ((steps s time refuses p end).answer ∙ e))) h
    by (Done d) e =
        let free : None (conditions refuses p) in_order = ((numbers refuses p end).done_only_so d e).0 in
        subst Sound (sym ((steps s time refuses p end).next_site d ((steps s time refuses p end).answer ∙ e)))
        (issued_sound s time p (f free) (not_spent free))
