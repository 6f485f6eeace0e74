-- The calls and starts of one site leave the records of the other as sound as they were.
-- Assumes nothing.
use Rattle.basis.proofs.Std.{ℕ, ◌/◌, ◌≡◌, refl, sym, ◌∙◌, subst, Bool, eqb, picked}
use Rattle.answer.specs.declared.Refusal.{Refusal}
use Rattle.answer.specs.declared.Answer.{Answer}
use Rattle.answer.specs.declared.Answer.TheVariants.{Done, Refused}
use Rattle.answer.specs.Order.{in_order, None}
use Rattle.entry.specs.declared.Entry.{Entry}
use Rattle.pool.specs.declared.Pool.{Pool}
use Rattle.pool.specs.Pool.{empty_of, clear_of}
use Rattle.pool_laws.specs.Batch.{beginning, renumbered}
use Rattle.site.specs.declared.Site.{Site}
use Rattle.site.specs.Call.{Plan, answer_of, step_of}
use Rattle.call_start.specs.Fresh.{alone, cleared_for, pool_for}
use Rattle.call_laws.specs.Numbers.{conditions}
use Rattle.call_laws.specs.Sound.{EachHeld, EntryOf}
use Rattle.call_laws.specs.SoundPlans.{Reworked, SoundPlan}
use Rattle.call_laws.specs.SoundPlans.Reworked.{same, settles, marks, unmarks}
use Rattle.call_laws.proofs.Given.{numbers}
use Rattle.call_laws.proofs.Stepped.{steps}
use Rattle.call_laws.proofs.Held.{held_empty, held_settle, held_mark, held_unmark, held_clear, held_so, held_added}
use Rattle.call_laws.proofs.SoundEntries.{each_so}

module _ (P : Entry → Type 0) where
  reworked : {p r : Pool} → Reworked p r → EachHeld P p.places → EachHeld P r.places
  reworked same a = a
  reworked (settles {r = r} o k w) a = held_settle P r o k (reworked w a)
  reworked (marks {r = r} o k w) a = held_mark P r o k (reworked w a)
  reworked (unmarks {r = r} o w) a = held_unmark P r o (reworked w a)

  abbrev Holds : Site → Type 0
  Holds u = EachHeld P u.pool.places

  -- after a call of the site t: what holds of every record of t, and of every record held before
  pub held_after : (t : Site) → ((e : Entry) → e.link / 4 ≡ t.site → P e) → (time : ℕ) (refuses : Refusal → Bool) (p : Plan) (end : ℕ)
      → (None (conditions refuses p) in_order → SoundPlan t time p) → EachHeld P t.pool.places → EachHeld P (step_of t time refuses p end).site.pool.places
  held_after t its time refuses p end f a = by (answer_of refuses p end) refl
    where
      by : (r : Answer) → answer_of refuses p end ≡ r → Holds (step_of t time refuses p end).site
      by (Refused r) e = subst Holds (sym ((steps t time refuses p end).same_site r ((steps t time refuses p end).answer ∙ e))) a
      by (Done d) e =
          let h : SoundPlan t time p = f ((numbers refuses p end).done_only_so d e).0 in
          subst Holds (sym ((steps t time refuses p end).next_site d ((steps t time refuses p end).answer ∙ e)))
          (held_added P 8 (beginning p.site.pool p.site.next) p.issued
          (each_so (EntryOf p.site time) _ (λ i g q b. its (renumbered i q) (g.of_site ∙ h.number)) p.issued h.issued)
          (reworked h.pool a))

  -- after a start of either
  pub held_start : (site : ℕ) (p : Pool) → EachHeld P p.places → EachHeld P (pool_for site p).places
  unfolding pool_for
  held_start site p a =
      picked (λ (q : Pool). EachHeld P q.places) (eqb site alone) (empty_of 8) (cleared_for site p) (λ e. held_empty P 8)
      (λ e. cleared _ _ (cleared _ _ (cleared _ _ (cleared _ _ a))))
    where
      cleared : (q : Pool) (o : ℕ) → EachHeld P q.places → EachHeld P (clear_of q o).places
      cleared q o b = held_clear P q o (held_so P (λ (e : Entry). (e.link ≡ o → ⊥) → P e) (λ e g n. g) q.places b)
